use Rattle.std.proofs.Common.{◌≡◌, ◌∙◌, max, List, sym, ap, subst, inl, inr}
use Rattle.druid_segment_id.specs.Identifier.{Identifier}
use Rattle.druid_timeline_members.specs.Members.{Member, member_of, Adds}
use Rattle.druid_timeline_members.proofs.CompleteLemmas.{complete_with}
use Rattle.druid_timeline_members.proofs.members.Members.is_complete_with.Goals as goal

pub returns : goal.returns
returns c new node adds =
    let a = member_of node c.args.descriptor.now in
    let own : c.partition-partition.result ≡ c.args.descriptor.now.id.partition = c.partition-partition.ensures.value ∙ ap (λ (i : Identifier). i.partition) c.id.ensures.value in
    let core = c.max-core.ensures ∙ (λ i. max (c.self.invariant.0 i) (c.core.ensures.value i)) in
    let whole = complete_with c.self.inside.slots c.len.ensures.ordered c.self.invariant.2 new a c.max-core.result core (subst (λ (ms : List Member). Adds ms new a) (sym c.self.view_is) adds) in (
      λ reported. whole.0 (λ q l. elim (c.are_all_but.ensures.0 reported q l) [
        | inl here ↦ inl (here ∙ own)
        | inr there ↦ inr there
      ]),
      λ complete. c.are_all_but.ensures.1 (λ q l. elim (whole.1 complete q l) [
        | inl here ↦ inl (here ∙ sym own)
        | inr there ↦ inr there
      ]),
    )
