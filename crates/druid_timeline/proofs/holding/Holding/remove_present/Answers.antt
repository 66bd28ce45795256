use Rattle.std.proofs.Common.{List, ap, sym, subst}
use Rattle.std.specs.Result.{OnOk, OnErr}
use Rattle.std.proofs.lemmas.Result.{on_ok_weaker, on_err_weaker}
use Rattle.druid_segment_id.specs.Group.{group_of}
use Rattle.druid_timeline.specs.Chunks.{held_in}
use Rattle.druid_timeline.specs.Holding.{Held, Serving, IsHeld, RemovesHeld, RemovesOneHeld, SameHeld}
use Rattle.druid_timeline.proofs.ChunkLemmas.{IsHeld-chunk, SameHeld-chunk, RemovesHeld-chunk, RemovesOneHeld-chunk}
use Rattle.druid_timeline.proofs.holding.Holding.remove_present.Goals as goal

pub remove-requires : goal.remove-requires
remove-requires c =
    (IsHeld-chunk c.self.inside.chunks c.as_slice.ensures.chunks c.args.node c.args.id.now).0
    (subst (λ (hs : List Held). IsHeld hs c.args.node c.args.id.now) (sym (ap (λ (s : Serving). s.held) c.self.view_is)) c.requires.1)

pub returns-clause-removed : goal.returns-clause-removed
returns-clause-removed c =
    subst (λ (hs : List Held). OnOk c.remove.result (RemovesHeld hs (held_in c.remove.new.self) c.args.node c.args.id.now)) (ap (λ (s : Serving). s.held) c.self.view_is)
    (on_ok_weaker c.remove.result (RemovesHeld-chunk c.self.inside.chunks c.remove.new.self c.args.node c.args.id.now c.remove.ensures.was c.remove.ensures.chunks c.remove.ensures.others) c.remove.ensures.removed)

pub returns-clause-one : goal.returns-clause-one
returns-clause-one c =
    subst (λ (hs : List Held). OnOk c.remove.result (RemovesOneHeld hs (held_in c.remove.new.self) c.args.node c.args.id.now)) (ap (λ (s : Serving). s.held) c.self.view_is)
    (on_ok_weaker c.remove.result (RemovesOneHeld-chunk c.self.inside.chunks c.remove.new.self c.args.node c.args.id.now c.remove.ensures.was c.remove.ensures.chunks c.remove.ensures.others) c.remove.ensures.one)

pub returns-clause-err : goal.returns-clause-err
returns-clause-err c =
    subst (λ (hs : List Held). OnErr c.remove.result (SameHeld hs (held_in c.remove.new.self))) (ap (λ (s : Serving). s.held) c.self.view_is)
    (on_err_weaker c.remove.result (SameHeld-chunk c.self.inside.chunks c.remove.new.self (group_of c.args.id.now) c.remove.ensures.was c.remove.ensures.chunks c.remove.ensures.others) c.remove.ensures.err)
