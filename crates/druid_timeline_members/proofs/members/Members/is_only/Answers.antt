use Rattle.std.proofs.Common.{◌∙◌, ℕ, List, sym, refl, subst, arith}
use Rattle.std.specs.Map.Iter.{deref_pair}
use Rattle.std.proofs.lemmas.Bool.{false≢true}
use Rattle.std.proofs.lemmas.Map.Iter.{rest_more, rest_all}
use Rattle.druid_timeline_members.specs.Members.{Member, AllAt}
use Rattle.druid_timeline_members.proofs.SlotLemmas.{AreAtOrLeft, AreAtOrLeft-start, AreAtOrLeft-next, AreAtOrLeft-end, AllAt-slot}
use Rattle.druid_timeline_members.proofs.members.Members.is_only.Goals as goal
use Rattle.druid_timeline_members.specs.Slots.{Replica}
use Rattle.druid_timeline_members.proofs.members.Members.is_only.Goals.{then-other-partition-via-then-other-partition, then-other-partition-via-else-other-partition+then-not-is_only}

abbrev Entries : Type 0
Entries = List (ℕ × List Replica)

pub loop-other-init : goal.loop-other-init
loop-other-init c = (
  c.self.inside.slots,
  c.self.view_is,
  c.iter-other-items.ensures.ordered,
  c.self.invariant.2,
  subst (λ (rest : Entries). AreAtOrLeft c.self.inside.slots.entries rest c.args.partition c.args.node) (sym (c.into_iter-other-iterator.ensures.into_iter_gives ∙ c.iter-other-items.ensures.rest))
      (AreAtOrLeft-start c.self.inside.slots.entries c.args.partition c.args.node),
)

pub returns-then-other-partition : goal.returns-then-other-partition
returns-then-other-partition c =
    let e = rest_more deref_pair c.loop-other.other-iterator c.next.new.self c.next.result (c.in-Some.other, c.in-Some.slot) c.in-Some.is c.next.ensures.steps in
    let inv = c.loop-other.invariant in
    let left = subst (λ (rest : Entries). AreAtOrLeft inv.0.entries rest c.args.partition c.args.node) e inv.4 in
    let here = left.among (c.in-Some.other.now, c.in-Some.slot.now) (0, omega arith, refl) in (
      λ f. absurd (false≢true f),
      λ all.
          let at = AllAt-slot inv.0 (c.in-Some.other.now, c.in-Some.slot.now) c.args.partition c.args.node inv.2 inv.3 here (subst (λ (ms : List Member). AllAt ms c.args.partition c.args.node) (sym inv.1) all) in
          elim c.then-other-partition.branch [
            | then-other-partition-via-then-other-partition w ↦ absurd (w.if-other-partition.true at.0)
            | then-other-partition-via-else-other-partition+then-not-is_only w ↦ absurd (false≢true (sym w.if-not-is_only.true ∙ w.is_only.ensures.value.1 at.1))
          ],
    )

pub loop-other-preserved : goal.loop-other-preserved
loop-other-preserved c =
    let e = rest_more deref_pair c.loop-other.other-iterator c.next.new.self c.next.result (c.in-Some.other, c.in-Some.slot) c.in-Some.is c.next.ensures.steps in
    let inv = c.loop-other.invariant in
    let left = subst (λ (rest : Entries). AreAtOrLeft inv.0.entries rest c.args.partition c.args.node) e inv.4 in
    (inv.0, inv.1, inv.2, inv.3, AreAtOrLeft-next inv.0.entries c.next.new.self (c.in-Some.other.now, c.in-Some.slot.now) c.args.partition c.args.node left c.if-other-partition.false (c.is_only.ensures.value.0 c.if-not-is_only.false))

pub returns : goal.returns
returns c =
    let e = rest_all deref_pair c.loop-other.other-iterator c.next.new.self c.next.result c.in-None.is c.next.ensures.steps in
    let inv = c.loop-other.invariant in
    let left = subst (λ (rest : Entries). AreAtOrLeft inv.0.entries rest c.args.partition c.args.node) e inv.4 in
    (λ _. subst (λ (ms : List Member). AllAt ms c.args.partition c.args.node) inv.1 (AreAtOrLeft-end inv.0.entries c.args.partition c.args.node left), λ _. refl)
