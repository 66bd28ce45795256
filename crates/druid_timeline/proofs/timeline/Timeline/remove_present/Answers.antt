use Rattle.std.proofs.Common.{◌≤◌, ◌+◌, List, [], ◌∷◌, length, ap, subst}
use Rattle.std.specs.Result.{OnOk, OnErr}
use Rattle.druid_segment_id.specs.Group.{group_of}
use Rattle.druid_timeline.specs.Chunks.{held_in}
use Rattle.druid_timeline.specs.Holding.{Held, Serving, IsCompleteIn, RemovesHeld, RemovesOneHeld, SameHeld}
use Rattle.druid_timeline.specs.Pieces.{Shown, ArePieces, cut}
use Rattle.druid_timeline.proofs.timeline.Timeline.remove_present.Goals as goal

pub returns-clause-removed : goal.returns-clause-removed
returns-clause-removed c = subst (λ (hs : List Held). OnOk c.remove_segment.result (RemovesHeld hs (held_in c.remove_segment.new.chunks) c.args.node c.args.id.now)) (ap (λ (s : Serving). s.held) c.self.view_is) c.remove_segment.ensures.removed

pub returns-clause-one : goal.returns-clause-one
returns-clause-one c = subst (λ (hs : List Held). OnOk c.remove_segment.result (RemovesOneHeld hs (held_in c.remove_segment.new.chunks) c.args.node c.args.id.now)) (ap (λ (s : Serving). s.held) c.self.view_is) c.remove_segment.ensures.one

pub returns-clause-err : goal.returns-clause-err
returns-clause-err c = subst (λ (hs : List Held). OnErr c.remove_segment.result (SameHeld hs (held_in c.remove_segment.new.chunks))) (ap (λ (s : Serving). s.held) c.self.view_is) c.remove_segment.ensures.err

pub returns-clause-met : goal.returns-clause-met
returns-clause-met c =
    subst (λ (hs : List Held). (IsCompleteIn hs (group_of c.args.id.now) → ⊥) → (pieces : List Shown) → ArePieces hs pieces → c.remove_segment.new.meter ≤ c.args.meter.now + length (cut ((group_of c.args.id.now).interval ∷ []) pieces)) (ap (λ (s : Serving). s.held) c.self.view_is) c.remove_segment.ensures.met
