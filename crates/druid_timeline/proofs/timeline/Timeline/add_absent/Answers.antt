use Rattle.std.proofs.Common.{◌≤◌, ◌+◌, List, [], ◌∷◌, length, ap, subst}
use Rattle.std.specs.Result.{OnOk, OnErr}
use Rattle.druid_segment_id.specs.Group.{group_of}
use Rattle.druid_timeline.specs.Chunks.{held_in}
use Rattle.druid_timeline.specs.Holding.{Held, Serving, IsCompleteIn, held_of, AddsHeld, SameHeld}
use Rattle.druid_timeline.specs.Pieces.{Shown, ArePieces, cut}
use Rattle.druid_timeline.proofs.timeline.Timeline.add_absent.Goals as goal

pub returns-clause-added : goal.returns-clause-added
returns-clause-added c = subst (λ (hs : List Held). OnOk c.add_segment.result (AddsHeld hs (held_in c.add_segment.new.chunks) (held_of c.args.node c.args.descriptor.now))) (ap (λ (s : Serving). s.held) c.self.view_is) c.add_segment.ensures.added

pub returns-clause-err : goal.returns-clause-err
returns-clause-err c = subst (λ (hs : List Held). OnErr c.add_segment.result (SameHeld hs (held_in c.add_segment.new.chunks))) (ap (λ (s : Serving). s.held) c.self.view_is) c.add_segment.ensures.err

pub returns-clause-met : goal.returns-clause-met
returns-clause-met c =
    subst (λ (hs : List Held). (IsCompleteIn hs (group_of c.args.descriptor.now.id) → ⊥) → (pieces : List Shown) → ArePieces hs pieces → c.add_segment.new.meter ≤ c.args.meter.now + length (cut ((group_of c.args.descriptor.now.id).interval ∷ []) pieces)) (ap (λ (s : Serving). s.held) c.self.view_is) c.add_segment.ensures.met
