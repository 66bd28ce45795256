use Rattle.std.proofs.Common.{◌≡◌, ◌∙◌, List, [], sym, ap, subst}
use Rattle.druid_segment_id.specs.Identifier.{Identifier}
use Rattle.druid_segment_id.specs.Group.{group_of}
use Rattle.druid_timeline_members.specs.Members.{Member, member_of, Adds}
use Rattle.druid_timeline_chunks.specs.Chunks.{members_at}
use Rattle.druid_timeline_chunks.proofs.chunks.Chunks.is_complete_with.Goals as goal

pub returns-in-Some-clause-complete : goal.returns-in-Some-clause-complete
returns-in-Some-clause-complete c new node adds =
    let at : c.members.result.now ≡ members_at c.args.self.now (group_of c.args.descriptor.now.id) = c.members.ensures ∙ c.in-Some.ensures.found ∙ ap (λ (i : Identifier). members_at c.args.self.now (group_of i)) c.id.ensures.value in
    c.is_complete_with.ensures new node (subst (λ (ms : List Member). Adds ms new (member_of node c.args.descriptor.now)) (sym at) adds)

pub returns-in-None-clause-complete : goal.returns-in-None-clause-complete
returns-in-None-clause-complete c new node adds =
    let at : members_at c.args.self.now (group_of c.args.descriptor.now.id) ≡ [] = ap (λ (i : Identifier). members_at c.args.self.now (group_of i)) (sym c.id.ensures.value) ∙ c.in-None.ensures.found in
    c.is_complete_with-in-None-2.ensures new node (subst (λ (ms : List Member). Adds ms new (member_of node c.args.descriptor.now)) (at ∙ sym c.new.ensures) adds)
