use Rattle.std.proofs.Common.{subst}
use Rattle.druid_segment_rows.specs.Rows.{AreWords}
use Rattle.druid_segment_rows.proofs.MetricLemmas.{words_of}
use Rattle.druid_segment_rows.proofs.numbers.Numbers.read.Goals as goal

pub returns : goal.returns
returns c =
    let it = c.self.inside in
    subst AreWords c.self.view_is (words_of it.numbers.items it.nulls.items c.self.invariant.1)
