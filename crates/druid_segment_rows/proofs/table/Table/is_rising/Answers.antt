use Rattle.std.proofs.Common.{◌↔◌, IsTrue, List, ℕ, subst}
use Rattle.std.specs.List.Sorted.{IsNonDecreasing}
use Rattle.druid_segment_rows.proofs.TableLemmas.{times_of_table}
use Rattle.druid_segment_rows.proofs.table.Table.is_rising.Goals as goal

pub returns : goal.returns
returns c =
    let a = c.self.inside in
    subst (λ (ts : List ℕ). IsTrue a.is_rising ↔ IsNonDecreasing ts) (times_of_table a.times.items a.dimensions.items a.metrics.items c.args.self.now c.self.view_is) c.self.invariant.2
