use Rattle.std.proofs.Common.{◌≤◌, ◌+◌, List, [], ◌∷◌, length, ap, subst}
use Rattle.std.specs.Result.{OnOk, OnErr}
use Rattle.druid_segment_id.specs.Group.{group_of}
use Rattle.druid_timeline.specs.Chunks.{held_in}
use Rattle.druid_timeline.specs.Holding.{Held, IsCompleteIn, RemovesHeld, RemovesOneHeld, SameHeld}
use Rattle.druid_timeline.specs.Pieces.{Shown, ArePieces, cut}
use Rattle.druid_timeline.specs.Transactions.{Edited}
use Rattle.druid_timeline.proofs.transaction.Transaction.remove_present.Goals as goal

pub returns-clause-removed : goal.returns-clause-removed
returns-clause-removed c = subst (λ (hs : List Held). OnOk c.remove_logged.result (RemovesHeld hs (held_in c.remove_logged.new.chunks.now) c.args.node c.args.id.now)) (ap (λ (s : Edited). s.now.held) c.self.view_is) c.remove_logged.ensures.removed

pub returns-clause-one : goal.returns-clause-one
returns-clause-one c = subst (λ (hs : List Held). OnOk c.remove_logged.result (RemovesOneHeld hs (held_in c.remove_logged.new.chunks.now) c.args.node c.args.id.now)) (ap (λ (s : Edited). s.now.held) c.self.view_is) c.remove_logged.ensures.one

pub returns-clause-err : goal.returns-clause-err
returns-clause-err c = subst (λ (hs : List Held). OnErr c.remove_logged.result (SameHeld hs (held_in c.remove_logged.new.chunks.now))) (ap (λ (s : Edited). s.now.held) c.self.view_is) c.remove_logged.ensures.err

pub returns-clause-met : goal.returns-clause-met
returns-clause-met c =
    subst (λ (hs : List Held). (IsCompleteIn hs (group_of c.args.id.now) → ⊥) → (pieces : List Shown) → ArePieces hs pieces → c.remove_logged.new.meter ≤ c.args.meter.now + length (cut ((group_of c.args.id.now).interval ∷ []) pieces)) (ap (λ (s : Edited). s.now.held) c.self.view_is) c.remove_logged.ensures.met
