use Rattle.druid_time.specs.Extent.{AnyHas}
use Rattle.druid_timeline.proofs.HoldingLemmas.{IsVisible-same, IsOvershadowed-same, ArePiecesIn-same}
use Rattle.druid_timeline.proofs.laws.one_holding_shows_one.Goals as goal

pub returns-clause-visible : goal.returns-clause-visible
returns-clause-visible c = IsVisible-same

pub returns-clause-overshadowed : goal.returns-clause-overshadowed
returns-clause-overshadowed c = IsOvershadowed-same

pub returns-clause-cut : goal.returns-clause-cut
returns-clause-cut c parts = ArePiecesIn-same (AnyHas parts)

pub returns-clause-whole : goal.returns-clause-whole
returns-clause-whole c = ArePiecesIn-same (λ _. Unit {0})
