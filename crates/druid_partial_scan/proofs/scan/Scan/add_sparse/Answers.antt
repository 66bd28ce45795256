use Rattle.druid_partial_scan.specs.Scans.{bucket_at}
use Rattle.druid_partial_scan.proofs.SparseLemmas.{all_entries_kept}
use Rattle.druid_partial_scan.proofs.scan.Scan.add_sparse.Goals as goal

pub add_entries-requires : goal.add_entries-requires
add_entries-requires c = all_entries_kept c.args.self.now (bucket_at c.args.self.now c.args.from) c.in_ok-cells.cells.entries c.in_ok-cells.ensures.cells
