use Rattle.std.proofs.Common.{rules, arith, List, All, subst, sym, ap}
use Rattle.std.proofs.lemmas.Grind.{common_steps}
use Rattle.druid_segment_rows.specs.Rows.{Row, HasWords}
use Rattle.druid_segment_rows.specs.Table.{Table}
use Rattle.druid_segment_rows.proofs.segment.Segment.of_judged.Goals as goal

pub invariant_of-result : goal.invariant_of-result
invariant_of-result c =
    let rows = ap (λ (t : Table). t.rows) c.in_ok-table.ensures in
    let words = subst (λ (rs : List Row). All HasWords rs) (sym rows) c.requires.words in
    (search rules, words, grind (arith, common_steps), grind (arith, common_steps))
