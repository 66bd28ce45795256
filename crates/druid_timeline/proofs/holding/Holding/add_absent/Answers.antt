use Rattle.std.proofs.Common.{List, ap, subst}
use Rattle.std.specs.Result.{OnOk, OnErr}
use Rattle.std.proofs.lemmas.Result.{on_ok_weaker, on_err_weaker}
use Rattle.druid_segment_id.specs.Group.{group_of}
use Rattle.druid_timeline_members.specs.Members.{member_of}
use Rattle.druid_timeline.specs.Chunks.{held_in}
use Rattle.druid_timeline.specs.Holding.{Held, Serving, held_of, IsHeld, AddsHeld, SameHeld}
use Rattle.druid_timeline.proofs.ChunkLemmas.{IsHeld-chunk, AddsHeld-chunk, SameHeld-chunk}
use Rattle.druid_timeline.proofs.holding.Holding.add_absent.Goals as goal

pub add-requires : goal.add-requires
add-requires c place =
    c.requires.absent (subst (λ (hs : List Held). IsHeld hs c.args.node c.args.descriptor.now.id) (ap (λ (s : Serving). s.held) c.self.view_is)
    ((IsHeld-chunk c.self.inside.chunks c.as_slice.ensures.chunks c.args.node c.args.descriptor.now.id).1 place))

pub returns-clause-added : goal.returns-clause-added
returns-clause-added c =
    subst (λ (hs : List Held). OnOk c.add.result (AddsHeld hs (held_in c.add.new.self) (held_of c.args.node c.args.descriptor.now))) (ap (λ (s : Serving). s.held) c.self.view_is)
    (on_ok_weaker c.add.result (AddsHeld-chunk c.self.inside.chunks c.add.new.self (group_of c.args.descriptor.now.id) (member_of c.args.node c.args.descriptor.now) c.add.ensures.was c.add.ensures.chunks c.add.ensures.others) c.add.ensures.added)

pub returns-clause-err : goal.returns-clause-err
returns-clause-err c =
    subst (λ (hs : List Held). OnErr c.add.result (SameHeld hs (held_in c.add.new.self))) (ap (λ (s : Serving). s.held) c.self.view_is)
    (on_err_weaker c.add.result (SameHeld-chunk c.self.inside.chunks c.add.new.self (group_of c.args.descriptor.now.id) c.add.ensures.was c.add.ensures.chunks c.add.ensures.others) c.add.ensures.err)
