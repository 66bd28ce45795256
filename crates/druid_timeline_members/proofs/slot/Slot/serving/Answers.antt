use Rattle.std.proofs.Common.{◌≡◌, ◌∙◌, ◌↔◌, ℕ, List, [], ◌∷◌, sym, ap, subst}
use Rattle.std.specs.List.{Contains}
use Rattle.druid_timeline_members.specs.Slots.{Statement, Replica, Serves}
use Rattle.druid_timeline_members.specs.Holders.{replicas_of}
use Rattle.druid_timeline_members.proofs.OneLemmas.{Serves-one}
use Rattle.druid_timeline_members.proofs.slot.Slot.serving.Goals as goal

pub returns-then-stated-clause-nodes : goal.returns-then-stated-clause-nodes
returns-then-stated-clause-nodes c n =
    let value : (c.in-One.node, c.in-One.stated) ∷ [] ≡ c.args.self.now = sym (ap replicas_of c.in-One.is) ∙ c.self.view_is in
    let serves = sym (ap (λ (s : Statement). s.serves) c.stated.view_is) ∙ c.if-stated.true in
    subst (λ (ns : List ℕ). Contains ns n ↔ Serves c.args.self.now n) (sym c.from_ref.ensures.value)
    (subst (λ (rs : List Replica). Contains (c.in-One.node ∷ []) n ↔ Serves rs n) value (Serves-one c.in-One.node c.in-One.stated serves n))

pub returns-in-Several-clause-nodes : goal.returns-in-Several-clause-nodes
returns-in-Several-clause-nodes c n =
    let value : c.deref.result.now ≡ c.args.self.now = c.deref.ensures ∙ sym (ap replicas_of c.in-Several.is) ∙ c.self.view_is in
    subst (λ (rs : List Replica). Contains c.serving.result.now n ↔ Serves rs n) value (c.serving.ensures.nodes n)
