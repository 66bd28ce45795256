use Rattle.std.proofs.Common.{◌∙◌, ◌≡◌, ◌≤◌, ℕ, List, max, length, drop, map, sym, ap, subst, arith}
use Rattle.std.proofs.lemmas.List.{drop_all}
use Rattle.druid_timeline_members.specs.Members.{core_count}
use Rattle.druid_timeline_members.specs.Slots.{Statement, Replica, member_at}
use Rattle.druid_timeline_members.proofs.SlotLemmas.{greatest, core_count-slot}
use Rattle.druid_timeline_members.proofs.replicas.Replicas.core.Goals as goal

at_end : (ns : List Statement) (i core : ℕ) → length ns ≤ i → max core (greatest (drop i ns)) ≡ greatest ns → core ≡ greatest ns
at_end ns i core done h =
    let e : max core 0 ≡ greatest ns = subst (λ (xs : List Statement). max core (greatest xs) ≡ greatest ns) (drop_all i ns done) h in omega arith

pub returns : goal.returns
returns c p =
    at_end c.deref-stated-items.result.now c.loop-stated.stated-index c.loop-stated.core c.loop-stated-test.false c.loop-stated.invariant
    ∙ ap greatest c.deref-stated-items.ensures.value
    ∙ sym (core_count-slot p c.self.inside.nodes.items c.self.inside.stated.items c.self.invariant.0)
    ∙ ap (λ (ps : List Replica). core_count (map (member_at p) ps)) c.self.view_is
