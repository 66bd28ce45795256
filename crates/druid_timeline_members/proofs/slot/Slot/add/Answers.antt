use Rattle.std.proofs.Common.{◌≡◌, ◌∙◌, ◌↔◌, ◌⊎◌, List, [], ◌∷◌, map, sym, ap, subst}
use Rattle.std.specs.Bool.{IsTrue}
use Rattle.std.specs.Result.{IfOk}
use Rattle.std.specs.List.{Contains}
use Rattle.druid_timeline_members.specs.Slots.{Replica}
use Rattle.druid_timeline_members.specs.Holders.{replicas_of}
use Rattle.druid_timeline_members.proofs.slot.Slot.add.Goals as goal

pub returns-in_ok-roster-in-One-clause-added : goal.returns-in_ok-roster-in-One-clause-added
returns-in_ok-roster-in-One-clause-added c _ x =
    let value : (c.in-One.other, c.in-One.theirs) ∷ [] ≡ c.args.self.now = sym (ap replicas_of c.in-One.is) ∙ c.self.view_is in
    subst (λ (rs : List Replica). Contains c.in_ok-roster-in-One.roster.value x ↔ ((x ≡ (c.args.node, c.args.stated)) ⊎ Contains rs x)) value (c.in_ok-roster-in-One.ensures x)

pub returns-in-Several-clause-held : goal.returns-in-Several-clause-held
returns-in-Several-clause-held c =
    let value : c.deref_mut.result.now ≡ c.args.self.now = c.deref_mut.ensures.value ∙ sym (ap replicas_of c.in-Several.is) ∙ c.self.view_is in
    subst (λ (rs : List Replica). IfOk c.add.result (λ added. IsTrue added ↔ (Contains (map (λ (r : Replica). r.0) rs) c.args.node → ⊥))) value c.add.ensures.held

pub returns-in-Several-clause-added : goal.returns-in-Several-clause-added
returns-in-Several-clause-added c added x =
    let value : c.deref_mut.result.now ≡ c.args.self.now = c.deref_mut.ensures.value ∙ sym (ap replicas_of c.in-Several.is) ∙ c.self.view_is in
    subst (λ (rs : List Replica). Contains c.add.new.self x ↔ ((x ≡ (c.args.node, c.args.stated)) ⊎ Contains rs x)) value (c.add.ensures.added added x)
