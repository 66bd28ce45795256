use Rattle.std.proofs.Common.{◌∙◌, ◌≡◌, ◌↔◌, ℕ, Bool, true, false, not, List, sym, refl, subst, inr, arith}
use Rattle.std.specs.Bool.{IsTrue}
use Rattle.std.specs.List.{Contains}
use Rattle.std.proofs.lemmas.Bool.{false≢true}
use Rattle.druid_timeline_members.specs.Members.{Member, HoldsPlace, RemovesPlace, RemovesOne, SameMembers}
use Rattle.druid_timeline_members.specs.Slots.{members_in}
use Rattle.druid_timeline_members.proofs.CountLemmas.{kept_below-same}
use Rattle.druid_timeline_members.proofs.SlotLemmas.{RemovesOne-slot, RemovesPlace-slot, RemovesPlace-none, HoldsPlace-slot, HasMember-kept, HasMember-same, core_count-removes, core_count-same}
use Rattle.druid_timeline_members.proofs.members.Members.remove.Goals as goal

pub core_of-self-inside-requires : goal.core_of-self-inside-requires
core_of-self-inside-requires c =
    let e = c.remove_member-removed.ensures in
    let removes = RemovesPlace-slot c.self.inside.slots c.remove_member-removed.new.slots c.args.partition c.args.node e.was_ordered e.ordered e.others e.removed in
    let le = core_count-removes _ _ c.args.partition c.args.node removes in
    let was = c.self.invariant.0 in omega arith

some_left : (empty : Bool) (n : ℕ) (P : Type 0) → IsTrue empty ↔ (n ≡ 0) → ((n ≡ 0 → ⊥) ↔ P) → IsTrue (not empty) ↔ P
some_left true n P e h = (λ t. absurd (false≢true t), λ p. absurd (h.1 p (e.0 refl)))
some_left false n P e h = (λ _. h.0 (λ none. false≢true (e.1 none)), λ _. refl)

pub invariant_of-self : goal.invariant_of-self
invariant_of-self c =
    let e = c.remove_member-removed.ensures in
    let none = e.none_empty in
    (c.core_of-self-inside.ensures, some_left c.is_empty.result _ _ c.is_empty.ensures (HasMember-kept c.remove_member-removed.new.slots e.ordered none), none, c.within_after-self-inside.ensures c.self.inside.slots e.others c.contains_key-was.ensures c.self.invariant.3)

pub invariant_of-self-else-removed : goal.invariant_of-self-else-removed
invariant_of-self-else-removed c =
    let e = c.remove_member-removed.ensures in
    let removes = RemovesPlace-slot c.self.inside.slots c.remove_member-removed.new.slots c.args.partition c.args.node e.was_ordered e.ordered e.others e.removed in
    let held = HoldsPlace-slot c.self.inside.slots c.args.partition c.args.node e.was_ordered in
    let same = RemovesPlace-none _ _ c.args.partition c.args.node removes (λ there. false≢true (sym c.if-removed.false ∙ e.held.1 (held.0 there))) in
    (c.self.invariant.0 ∙ sym (core_count-same _ _ same), HasMember-same _ _ _ same c.self.invariant.1, e.none_empty, c.self.invariant.3 ∙ sym (kept_below-same c.self.inside.slots c.remove_member-removed.new.slots c.self.inside.core e.was_ordered e.ordered c.self.invariant.2 e.none_empty same))

-- what holds of the members in the slots holds of the value
of_value : (reported : Bool) (members value : List Member) (slot : List ℕ) (p n : ℕ) → members ≡ value → HoldsPlace members p n ↔ Contains slot n → IsTrue reported ↔ Contains slot n → IsTrue reported ↔ HoldsPlace value p n
of_value reported members value slot p n e h k =
    subst (λ (ms : List Member). IsTrue reported ↔ HoldsPlace ms p n) e (λ yes. h.1 (k.0 yes), λ held. k.1 (h.0 held))

pub returns-then-removed-clause-held : goal.returns-then-removed-clause-held
returns-then-removed-clause-held c =
    let e = c.remove_member-removed.ensures in
    of_value c.remove_member-removed.result _ c.args.self.now _ c.args.partition c.args.node c.self.view_is (HoldsPlace-slot c.self.inside.slots c.args.partition c.args.node e.was_ordered) e.held

pub returns-then-removed-clause-removed : goal.returns-then-removed-clause-removed
returns-then-removed-clause-removed c =
    let e = c.remove_member-removed.ensures in
    subst (λ (ms : List Member). RemovesPlace ms (members_in c.remove_member-removed.new.slots.entries) c.args.partition c.args.node) c.self.view_is
    (RemovesPlace-slot c.self.inside.slots c.remove_member-removed.new.slots c.args.partition c.args.node e.was_ordered e.ordered e.others e.removed)

pub returns-else-removed-clause-held : goal.returns-else-removed-clause-held
returns-else-removed-clause-held c =
    let e = c.remove_member-removed.ensures in
    of_value c.remove_member-removed.result _ c.args.self.now _ c.args.partition c.args.node c.self.view_is (HoldsPlace-slot c.self.inside.slots c.args.partition c.args.node e.was_ordered) e.held

pub returns-else-removed-clause-removed : goal.returns-else-removed-clause-removed
returns-else-removed-clause-removed c =
    let e = c.remove_member-removed.ensures in
    subst (λ (ms : List Member). RemovesPlace ms (members_in c.remove_member-removed.new.slots.entries) c.args.partition c.args.node) c.self.view_is
    (RemovesPlace-slot c.self.inside.slots c.remove_member-removed.new.slots c.args.partition c.args.node e.was_ordered e.ordered e.others e.removed)

pub returns-else-removed-clause-same : goal.returns-else-removed-clause-same
returns-else-removed-clause-same c =
    let e = c.remove_member-removed.ensures in
    let removes = RemovesPlace-slot c.self.inside.slots c.remove_member-removed.new.slots c.args.partition c.args.node e.was_ordered e.ordered e.others e.removed in
    let held = HoldsPlace-slot c.self.inside.slots c.args.partition c.args.node e.was_ordered in
    let same = RemovesPlace-none _ _ c.args.partition c.args.node removes (λ there. false≢true (sym c.if-removed.false ∙ e.held.1 (held.0 there))) in
    inr (subst (λ (ms : List Member). SameMembers ms (members_in c.remove_member-removed.new.slots.entries)) c.self.view_is same)

pub returns-then-removed-clause-one : goal.returns-then-removed-clause-one
returns-then-removed-clause-one c reported =
    let e = c.remove_member-removed.ensures in
    subst (λ (ms : List Member). RemovesOne ms (members_in c.remove_member-removed.new.slots.entries) c.args.partition c.args.node) c.self.view_is
    (RemovesOne-slot c.self.inside.slots c.remove_member-removed.new.slots c.args.partition c.args.node e.was_ordered e.ordered e.others (e.one reported))
