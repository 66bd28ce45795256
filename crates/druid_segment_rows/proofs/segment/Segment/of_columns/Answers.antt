use Rattle.std.proofs.Common.{◌∙◌, ℤ, List, Option, All, subst, sym, ap}
use Rattle.druid_segment_rows.specs.Rows.{Row, AreWords, HasWords}
use Rattle.druid_segment_rows.specs.Segment.{IsSegment, segment_of}
use Rattle.druid_segment_rows.specs.Table.{Table}
use Rattle.druid_segment_rows.proofs.TableLemmas.{words_in}
use Rattle.druid_segment_rows.proofs.segment.Segment.of_columns.Goals as goal

pub invariant_of-result : goal.invariant_of-result
invariant_of-result c =
    let rows = ap (λ (t : Table). t.rows) c.new-table.ensures in
    let read = subst (λ (columns : List (List (Option ℤ))). All AreWords columns) c.deref.ensures.value c.read_metrics.ensures in
    let words = subst (λ (rs : List Row). All HasWords rs) (sym rows) (words_in c.args.times.items c.args.dimensions.items c.args.metrics.items read) in
    let valid = subst (λ (rs : List Row). IsSegment (segment_of c.args.descriptor c.args.schema rs)) (sym rows) c.requires.valid in
    (valid, words, ap (λ (t : Table). t.dimensions) c.new-table.ensures ∙ c.requires.dimensions, ap (λ (t : Table). t.metrics) c.new-table.ensures ∙ c.requires.metrics)
