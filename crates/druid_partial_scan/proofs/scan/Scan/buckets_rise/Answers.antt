use Rattle.std.proofs.Common.{subst}
use Rattle.druid_partial_scan.specs.Scans.{Scan, BucketsRise}
use Rattle.druid_partial_scan.proofs.RunLemmas.{rising_buckets}
use Rattle.druid_partial_scan.proofs.scan.Scan.buckets_rise.Goals as goal

pub returns-in-Second : goal.returns-in-Second
returns-in-Second c = λ t.
    let P : Scan → Type 0 = BucketsRise in
    subst P c.self.view_is (rising_buckets c.self.inside.query.now c.self.inside.segment.now (c.is_rising.ensures.0 t))
