-- `nfd`: what `nfd_front` leaves, and the end of the call.
use native.Mathlib.Omega.{arith}
use mathlib.Core.Path.{◌∙◌}
use Rattle.text.specs.Ordering.{nfd}
use Rattle.normal_forms.specs.Forms.{nfd_call}
use Rattle.normal_forms.proofs.Answer.{finished, length_is, nfd_is}
use Rattle.normal_forms.proofs.nfd.Goals as goal

pub returns : goal.returns
returns c =
    let front = c.nfd_front-found in
    finished nfd nfd_call nfd_is _ _ _ _ _ c.args.work.now front.new.work _ _ front.ensures (omega arith) _ (c.unwrap_or-n.ensures ∙ length_is front.result) _ c.finish.ensures
