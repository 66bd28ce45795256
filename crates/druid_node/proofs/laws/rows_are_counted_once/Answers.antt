use Rattle.druid_node.proofs.RowLemmas.{rows_once}
use Rattle.druid_node.proofs.laws.rows_are_counted_once.Goals as goal

pub returns : goal.returns
returns c = rows_once
