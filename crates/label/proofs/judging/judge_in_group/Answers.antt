-- `label::judging::judge_in_group` meets its contract: 16 comes first, and 13 is asked only where the group is not whitelisted.
use mathlib.Core.Path.{◌∙◌, sym}
use mathlib.Core.Bool.{◌||◌}
use borrow.Author.Tests.{not-true, not-false}
use Rattle.table.specs.Layout.{the_table}
use Rattle.nsm.specs.Marks.{nsm_fits}
use Rattle.label.proofs.VerdictLaws.{verdict_compound, verdict_group, verdict_nsm, verdict_confusable, verdict_kind}
use Rattle.label.proofs.JudgingLaws.{fits-asked, fits_white, fits_not}
use Rattle.label.proofs.judging.judge_in_group.Goals as goal
use Rattle.label.proofs.judging.judge_in_group.Goals.{else-not-whitelisted-via-then-not-whitelisted+else-not-nsm_fits, else-not-whitelisted-via-else-not-whitelisted}

pub returns-then-not-compounds_fit : goal.returns-then-not-compounds_fit
returns-then-not-compounds_fit c =
    let a = c.args in record {
      result_value = verdict_compound (the_table a.words.now) a.place a.text.now a.group.number a.group.restricted c.compounds_fit.result a.group.whitelisted
          c.compounds_fit.ensures (not-true _ c.if-not-compounds_fit.true-raw);
      memo_2 = c.requires.memo;
    }

pub returns-then-not-nsm_fits : goal.returns-then-not-nsm_fits
returns-then-not-nsm_fits c =
    let a = c.args in
    let g = a.group in
    let t = the_table a.words.now in
    let fit = nsm_fits t a.text.now in record {
      result_value = verdict_nsm t a.place a.text.now g.number g.restricted (g.whitelisted || fit)
          (fits_not g.whitelisted fit (not-true _ c.if-not-whitelisted.true-raw) (sym c.nsm_fits.ensures ∙ not-true _ c.if-not-nsm_fits.true-raw))
          ∙ verdict_group t a.place a.text.now g.number g.restricted c.compounds_fit.result g.whitelisted
          c.compounds_fit.ensures (not-false _ c.if-not-compounds_fit.false-raw);
      memo_2 = c.requires.memo;
    }

pub returns-then-confusable : goal.returns-then-confusable
returns-then-confusable c =
    let a = c.args in
    let g = a.group in
    let t = the_table a.words.now in
    let fit = nsm_fits t a.text.now in
    let w = c.confusable.ensures in record {
      result_value = verdict_confusable t a.place a.text.now g.number g.restricted (g.whitelisted || fit)
          (elim c.else-not-whitelisted.branch [ else-not-whitelisted-via-then-not-whitelisted+else-not-nsm_fits x ↦ fits-asked g.whitelisted fit (sym x.nsm_fits.ensures ∙ not-false _ x.if-not-nsm_fits.false-raw) | else-not-whitelisted-via-else-not-whitelisted x ↦ fits_white g.whitelisted fit (not-false _ x.if-not-whitelisted.false-raw) ])
          (sym c.if-confusable.true ∙ w.value)
          ∙ verdict_group t a.place a.text.now g.number g.restricted c.compounds_fit.result g.whitelisted
          c.compounds_fit.ensures (not-false _ c.if-not-compounds_fit.false-raw);
      memo_2 = w.memo_2;
    }

pub returns : goal.returns
returns c =
    let a = c.args in
    let g = a.group in
    let t = the_table a.words.now in
    let fit = nsm_fits t a.text.now in
    let w = c.confusable.ensures in record {
      result_value = verdict_kind t a.place a.text.now g.number g.restricted (g.whitelisted || fit)
          (elim c.else-not-whitelisted.branch [ else-not-whitelisted-via-then-not-whitelisted+else-not-nsm_fits x ↦ fits-asked g.whitelisted fit (sym x.nsm_fits.ensures ∙ not-false _ x.if-not-nsm_fits.false-raw) | else-not-whitelisted-via-else-not-whitelisted x ↦ fits_white g.whitelisted fit (not-false _ x.if-not-whitelisted.false-raw) ])
          (sym c.if-confusable.false ∙ w.value)
          ∙ verdict_group t a.place a.text.now g.number g.restricted c.compounds_fit.result g.whitelisted
          c.compounds_fit.ensures (not-false _ c.if-not-compounds_fit.false-raw);
      memo_2 = w.memo_2;
    }
