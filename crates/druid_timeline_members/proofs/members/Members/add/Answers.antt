use Rattle.std.proofs.Common.{◌∙◌, ◌≡◌, ◌↔◌, ◌⊎◌, ℕ, Bool, false, List, max, sym, ap, refl, subst, inl, inr}
use Rattle.std.specs.Bool.{IsTrue}
use Rattle.std.specs.List.{Contains}
use Rattle.druid_segment_id.specs.Identifier.{Identifier}
use Rattle.std.proofs.lemmas.Bool.{false≢true}
use Rattle.druid_timeline_members.specs.Members.{core_count, Member, HoldsPlace, Adds, SameMembers, member_of}
use Rattle.druid_timeline_members.specs.Slots.{Statement, member_at, members_in}
use Rattle.druid_base.proofs.ClauseLemmas.{always_err}
use Rattle.druid_timeline_members.proofs.CountLemmas.{kept_below-same}
use Rattle.druid_timeline_members.proofs.SlotLemmas.{Adds-slot, SameMembers-slot, HoldsPlace-slot, core_count-adds, core_count-same, HasMember-same}
use Rattle.druid_timeline_members.proofs.members.Members.add.Goals as goal

-- a value is added exactly where the node does not serve the partition
held_same : (added : Bool) (members value : List Member) (slot : List ℕ) (p q n : ℕ) → members ≡ value → p ≡ q → HoldsPlace members p n ↔ Contains slot n → IsTrue added ↔ (Contains slot n → ⊥) → IsTrue added ↔ (HoldsPlace value q n → ⊥)
held_same added members value slot p q n e f h k =
    let same : HoldsPlace members p n ↔ Contains slot n → HoldsPlace value q n ↔ Contains slot n =
    λ g. subst (λ (r : ℕ). HoldsPlace value r n ↔ Contains slot n) f (subst (λ (ms : List Member). HoldsPlace ms p n ↔ Contains slot n) e g) in
    let at = same h in
    (λ yes held. k.0 yes (at.0 held), λ no. k.1 (λ there. no (at.1 there)))

pub invariant_of-self : goal.invariant_of-self
invariant_of-self c =
    let e = c.add_member.ensures in
    let same = SameMembers-slot c.self.inside.slots c.add_member.new.slots c.partition-partition.result e.was_ordered e.ordered e.others c.in_err-added.ensures.err in
    (c.self.invariant.0 ∙ sym (core_count-same _ _ same), HasMember-same _ _ _ same c.self.invariant.1, e.none_empty c.self.invariant.2, c.self.invariant.3 ∙ sym (kept_below-same c.self.inside.slots c.add_member.new.slots c.self.inside.core e.was_ordered e.ordered c.self.invariant.2 (e.none_empty c.self.invariant.2) same))

pub returns-in_err-added-clause-err : goal.returns-in_err-added-clause-err
returns-in_err-added-clause-err c =
    let e = c.add_member.ensures in
    let same = SameMembers-slot c.self.inside.slots c.add_member.new.slots c.partition-partition.result e.was_ordered e.ordered e.others c.in_err-added.ensures.err in
    always_err c.from_residual.result _ (subst (λ (ms : List Member). SameMembers ms (members_in c.add_member.new.slots.entries)) c.self.view_is same)

pub invariant_of-self-then-added : goal.invariant_of-self-then-added
invariant_of-self-then-added c =
    let e = c.add_member.ensures in
    let adds = Adds-slot c.self.inside.slots c.add_member.new.slots c.partition-partition.result c.args.node c.of-stated.result e.was_ordered e.ordered e.others (c.in_ok-added.ensures.added c.if-added.true) in
    (c.max-self-inside.ensures ∙ ap (λ (k : ℕ). max k c.core-core.result) c.self.invariant.0 ∙ ap (λ (k : ℕ). max (core_count (members_in c.self.inside.slots.entries)) k) (c.core-core.ensures.value ∙ sym (ap (λ (s : Statement). s.core) c.of-stated.ensures)) ∙ sym (core_count-adds _ _ _ adds), (λ _. (member_at c.partition-partition.result (c.args.node, c.of-stated.result), (adds _).1 (inl refl)), λ _. refl), e.none_empty c.self.invariant.2, c.within_after-self-inside.ensures c.self.inside.slots e.others c.contains_key-was.ensures c.self.invariant.3)

-- where nothing was added the slot is as before
unchanged : (added : Bool) (P : Type 0) → added ≡ false → (IsTrue added ⊎ P) → P
unchanged added P not_added (inl added') = absurd (false≢true (sym not_added ∙ added'))
unchanged added P not_added (inr p) = p

pub invariant_of-self-else-added : goal.invariant_of-self-else-added
invariant_of-self-else-added c =
    let e = c.add_member.ensures in
    let same = SameMembers-slot c.self.inside.slots c.add_member.new.slots c.partition-partition.result e.was_ordered e.ordered e.others (unchanged c.in_ok-added.added _ c.if-added.false c.in_ok-added.ensures.same) in
    (c.self.invariant.0 ∙ sym (core_count-same _ _ same), HasMember-same _ _ _ same c.self.invariant.1, e.none_empty c.self.invariant.2, c.self.invariant.3 ∙ sym (kept_below-same c.self.inside.slots c.add_member.new.slots c.self.inside.core e.was_ordered e.ordered c.self.invariant.2 (e.none_empty c.self.invariant.2) same))

pub returns-then-added-clause-held : goal.returns-then-added-clause-held
returns-then-added-clause-held c =
    held_same c.in_ok-added.added (members_in c.self.inside.slots.entries) c.args.self.now _ c.partition-partition.result _ c.args.node c.self.view_is (c.partition-partition.ensures.value ∙ ap (λ (id : Identifier). id.partition) c.id.ensures.value) (HoldsPlace-slot c.self.inside.slots c.partition-partition.result c.args.node c.add_member.ensures.was_ordered) c.in_ok-added.ensures.held

pub returns-then-added-clause-added : goal.returns-then-added-clause-added
returns-then-added-clause-added c reported =
    let e = c.add_member.ensures in
    let adds = Adds-slot c.self.inside.slots c.add_member.new.slots c.partition-partition.result c.args.node c.of-stated.result e.was_ordered e.ordered e.others (c.in_ok-added.ensures.added c.if-added.true) in
    let at = c.partition-partition.ensures.value ∙ ap (λ (id : Identifier). id.partition) c.id.ensures.value in
    let one : member_at c.partition-partition.result (c.args.node, c.of-stated.result) ≡ member_of c.args.node c.args.descriptor.now = λ i. member_at (at i) (c.args.node, c.of-stated.ensures i) in
    subst (λ (m : Member). Adds c.args.self.now (members_in c.add_member.new.slots.entries) m) one
    (subst (λ (ms : List Member). Adds ms (members_in c.add_member.new.slots.entries) (member_at c.partition-partition.result (c.args.node, c.of-stated.result))) c.self.view_is adds)

pub returns-else-added-clause-held : goal.returns-else-added-clause-held
returns-else-added-clause-held c =
    held_same c.in_ok-added.added (members_in c.self.inside.slots.entries) c.args.self.now _ c.partition-partition.result _ c.args.node c.self.view_is (c.partition-partition.ensures.value ∙ ap (λ (id : Identifier). id.partition) c.id.ensures.value) (HoldsPlace-slot c.self.inside.slots c.partition-partition.result c.args.node c.add_member.ensures.was_ordered) c.in_ok-added.ensures.held

pub returns-else-added-clause-same : goal.returns-else-added-clause-same
returns-else-added-clause-same c =
    let e = c.add_member.ensures in
    let same = SameMembers-slot c.self.inside.slots c.add_member.new.slots c.partition-partition.result e.was_ordered e.ordered e.others (unchanged c.in_ok-added.added _ c.if-added.false c.in_ok-added.ensures.same) in
    inr (subst (λ (ms : List Member). SameMembers ms (members_in c.add_member.new.slots.entries)) c.self.view_is same)

pub returns-in_err-added-clause-absent : goal.returns-in_err-added-clause-absent
returns-in_err-added-clause-absent c =
    let p = c.partition-partition.result in
    let at = c.partition-partition.ensures.value ∙ ap (λ (id : Identifier). id.partition) c.id.ensures.value in
    let slot = HoldsPlace-slot c.self.inside.slots p c.args.node c.add_member.ensures.was_ordered in
    let absent : HoldsPlace (members_in c.self.inside.slots.entries) p c.args.node → ⊥ = λ held. c.in_err-added.ensures.absent (slot.0 held) in
    always_err c.from_residual.result _ (subst (λ (q : ℕ). HoldsPlace c.args.self.now q c.args.node → ⊥) at
    (subst (λ (ms : List Member). HoldsPlace ms p c.args.node → ⊥) c.self.view_is absent))
