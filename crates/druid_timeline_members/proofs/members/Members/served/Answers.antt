use Rattle.std.proofs.Common.{◌≡◌, ◌↔◌, ℕ, List, [], Option, unwrap_or, sym, ap, subst}
use Rattle.std.specs.List.{Contains}
use Rattle.druid_base.proofs.MemberLemmas.{Contains-nil}
use Rattle.druid_timeline_members.specs.Members.{Member, ServesPlace}
use Rattle.druid_timeline_members.specs.Slots.{Replica, Serves}
use Rattle.druid_timeline_members.proofs.SlotLemmas.{ServesPlace-slot}
use Rattle.druid_timeline_members.proofs.members.Members.served.Goals as goal

-- what the slot says of a node holds of the value
of_slot : (members value : List Member) (slot kept : List Replica) (nodes : List ℕ) (p n : ℕ) → members ≡ value → slot ≡ kept → ServesPlace members p n ↔ Serves kept n → Contains nodes n ↔ Serves slot n → Contains nodes n ↔ ServesPlace value p n
of_slot members value slot kept nodes p n e f h k = (
  λ there. subst (λ (ms : List Member). ServesPlace ms p n) e (h.1 (subst (λ (rs : List Replica). Serves rs n) f (k.0 there))),
  λ held. k.1 (subst (λ (rs : List Replica). Serves rs n) (sym f) (h.0 (subst (λ (ms : List Member). ServesPlace ms p n) (sym e) held))),
)

pub returns-in-Some-clause-nodes : goal.returns-in-Some-clause-nodes
returns-in-Some-clause-nodes c n =
    of_slot _ c.args.self.now c.in-Some.slot.now _ c.serving.result.now c.args.partition n c.self.view_is (ap (λ (o : Option (List Replica)). unwrap_or o []) c.in-Some.ensures.value) (ServesPlace-slot c.self.inside.slots c.args.partition n c.len.ensures.ordered) (c.serving.ensures.nodes n)

pub returns-in-None-clause-nodes : goal.returns-in-None-clause-nodes
returns-in-None-clause-nodes c n =
    of_slot _ c.args.self.now [] _ [] c.args.partition n c.self.view_is (ap (λ (o : Option (List Replica)). unwrap_or o []) c.in-None.ensures.value) (ServesPlace-slot c.self.inside.slots c.args.partition n c.len.ensures.ordered)
    (λ there. absurd (Contains-nil n there), λ (r, there, at_n, serves). absurd (Contains-nil r there))
