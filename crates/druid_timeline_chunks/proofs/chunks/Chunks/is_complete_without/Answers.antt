use Rattle.std.proofs.Common.{◌≡◌, ◌∙◌, ℕ, List, sym, subst}
use Rattle.std.specs.List.{Contains}
use Rattle.std.proofs.lemmas.Bool.{false≢true}
use Rattle.druid_base.proofs.MemberLemmas.{Contains-nil}
use Rattle.druid_segment_id.specs.Group.{group_of}
use Rattle.druid_timeline_members.specs.Members.{Member, RemovesPlace}
use Rattle.druid_timeline_chunks.specs.Chunks.{members_at}
use Rattle.druid_timeline_chunks.proofs.chunks.Chunks.is_complete_without.Goals as goal

pub returns-in-Some-clause-complete : goal.returns-in-Some-clause-complete
returns-in-Some-clause-complete c left removes =
    let at : c.members.result.now ≡ members_at c.args.self.now (group_of c.args.id.now) = c.members.ensures ∙ c.in-Some.ensures.found in
    c.is_complete_without.ensures left
    (subst (λ (p : List Member × ℕ). RemovesPlace p.0 left p.1 c.args.node) (λ i. (sym at i, sym c.partition.ensures.value i)) removes)

pub returns-in-None-clause-complete : goal.returns-in-None-clause-complete
returns-in-None-clause-complete c left removes = (
  λ f. absurd (false≢true f),
  λ whole.
      let was = (removes whole.some.0).0 whole.some.1 in
      absurd (Contains-nil whole.some.0 (subst (λ (ms : List Member). Contains ms whole.some.0) c.in-None.ensures.found was.0)),
)
