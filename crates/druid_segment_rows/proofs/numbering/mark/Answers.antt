use Rattle.std.proofs.Common.{◌∙◌, ◌↔◌, ℕ, ◌+◌, ◌<◌, List, suc, take, get_or, Contains, subst, sym, rules, ap, length}
use Rattle.std.proofs.lemmas.List.{take_all, get_or_default}
use Rattle.druid_segment_rows.specs.Numbering.{AreMarked}
use Rattle.druid_segment_rows.proofs.PlaceLemmas.{marked_more, length_with_mark}
use Rattle.druid_segment_rows.proofs.numbering.mark.Goals as goal

pub loop-code-preserved : goal.loop-code-preserved
loop-code-preserved c =
    let codes = c.args.codes.now in
    let i = c.loop-code.code-index in
    let code = get_or codes i 0 in
    let lt = c.loop-code-test.true in
    let next = marked_more codes c.loop-code.ranks i code lt (get_or_default codes i 0 code lt) c.loop-code.invariant.marks in
    record {
      len = ap length c.mark_one.ensures ∙ length_with_mark c.loop-code.ranks code ∙ c.loop-code.invariant.len;
      marks = subst (λ (ranks : List ℕ). AreMarked (take (i + 1) codes) ranks) (sym c.mark_one.ensures) next;
    }

pub returns-clause-marks : goal.returns-clause-marks
returns-clause-marks c = λ number h.
    subst (λ (cs : List ℕ). 0 < get_or c.loop-code.ranks number 0 ↔ Contains cs (suc number)) (take_all c.loop-code.code-index c.args.codes.now (search rules)) (c.loop-code.invariant.marks number h)
