use Rattle.std.proofs.lemmas.Result.{on_ok_weaker}
use Rattle.std.proofs.Common.{◌∙◌}
use Rattle.druid_inventory.specs.Timelines.{ServesWith}
use Rattle.druid_inventory.proofs.ChangeOfTimelineLemmas.{AreTimelines-same}
use Rattle.druid_inventory.proofs.timelines.change_set.Goals as goal

pub drop_others-requires-clause-over : goal.drop_others-requires-clause-over
drop_others-requires-clause-over c = (
  c.requires.over.0,
  AreTimelines-same (ServesWith c.requires.over.0 c.args.node c.args.old.now) c.args.timelines.now c.expect_others-2.new.timelines
      (λ s. c.expect_others-2.ensures s ∙ c.expect_others.ensures s) c.requires.over.1,
)

pub load_others-requires-clause-over : goal.load_others-requires-clause-over
load_others-requires-clause-over c = (
  c.requires.over.0,
  c.in_ok-drop_others.ensures c.requires.over.0
      (AreTimelines-same (ServesWith c.requires.over.0 c.args.node c.args.old.now) c.args.timelines.now c.expect_others-2.new.timelines
      (λ s. c.expect_others-2.ensures s ∙ c.expect_others.ensures s) c.requires.over.1),
)

pub returns : goal.returns
returns c =
    on_ok_weaker c.load_others.result
    (λ loaded entries over. loaded entries (c.in_ok-drop_others.ensures entries
    (AreTimelines-same (ServesWith entries c.args.node c.args.old.now) c.args.timelines.now c.expect_others-2.new.timelines
    (λ s. c.expect_others-2.ensures s ∙ c.expect_others.ensures s) over)))
    c.load_others.ensures
