use Rattle.std.proofs.Common.{◌↔◌, List, subst}
use Rattle.std.specs.Bool.{IsTrue}
use Rattle.std.specs.HashSet as set
use Rattle.std.proofs.lemmas.List.{take_all}
use Rattle.druid_segment_id.specs.Group.{same_group}
use Rattle.druid_timeline.proofs.SweepLemmas.{Run}
use Rattle.druid_timeline.proofs.UnseenLemmas.{IsShownBy, IsShownBy-more}
use Rattle.druid_timeline.proofs.overshadowed.shown_in.Goals as goal

pub loop-run-preserved : goal.loop-run-preserved
loop-run-preserved c =
    IsShownBy-more c.args.runs.now c.loop-run.run-index c.run-item.result c.in_ok-key.key (set.contains same_group c.loop-run.shown) (set.contains same_group c.insert.new.self) c.loop-run-test.true c.run-item.is
    c.in_ok-key.ensures.cases c.in_ok-insert.ensures.updates.0 c.loop-run.invariant

pub returns : goal.returns
returns c g =
    subst (λ (rs : List Run). IsTrue (set.contains same_group c.loop-run.shown g) ↔ IsShownBy rs g) (take_all c.loop-run.run-index c.args.runs.now c.loop-run-test.false) (c.loop-run.invariant g)
