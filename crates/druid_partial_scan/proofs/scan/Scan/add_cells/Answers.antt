use Rattle.druid_partial_scan.specs.Cells.{cells_in}
use Rattle.druid_partial_scan.specs.Scans.{bucket_at}
use Rattle.druid_partial_scan.proofs.PutLemmas.{all_cells_kept}
use Rattle.druid_partial_scan.proofs.scan.Scan.add_cells.Goals as goal

pub add_groups-requires : goal.add_groups-requires
add_groups-requires c = all_cells_kept c.args.self.now (bucket_at c.args.self.now c.args.from) (cells_in c.in_ok-cells.cells.groups) c.in_ok-cells.ensures.cells
