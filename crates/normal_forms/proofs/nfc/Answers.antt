-- `nfc`: what `nfc_front` leaves, and the end of the call.
use native.Mathlib.Omega.{arith}
use mathlib.Core.Path.{◌∙◌}
use Rattle.text.specs.Composition.{nfc}
use Rattle.normal_forms.specs.Forms.{nfc_call}
use Rattle.normal_forms.proofs.Answer.{finished, length_is, nfc_is}
use Rattle.normal_forms.proofs.nfc.Goals as goal

pub returns : goal.returns
returns c =
    let front = c.nfc_front-found in
    finished nfc nfc_call nfc_is _ _ _ _ _ c.args.work.now front.new.work _ _ front.ensures (omega arith) _ (c.unwrap_or-n.ensures ∙ length_is front.result) _ c.finish.ensures
