use Rattle.druid_partial_scan.proofs.OnceLemmas.{rows_once}
use Rattle.druid_partial_scan.proofs.laws.rows_are_counted_once.Goals as goal

pub returns : goal.returns
returns c = rows_once
