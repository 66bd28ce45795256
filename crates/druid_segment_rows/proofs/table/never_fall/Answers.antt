use Rattle.std.proofs.lemmas.List.Sorted.{non_decreasing_from_is_sorted}
use Rattle.druid_segment_rows.proofs.TableLemmas.{rises_iff}
use Rattle.druid_segment_rows.proofs.table.never_fall.Goals as goal

pub returns : goal.returns
returns c =
    rises_iff c.args.times.now c.is_sorted.result (non_decreasing_from_is_sorted c.args.times.now c.is_sorted.result c.is_sorted.ensures.cases)
