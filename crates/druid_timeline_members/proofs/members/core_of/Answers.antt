use Rattle.std.proofs.Common.{◌∙◌, ◌≡◌, ◌≤◌, ℕ, List, max, ap, subst, arith}
use Rattle.std.specs.Map.Iter.{deref_pair}
use Rattle.std.proofs.lemmas.Map.Iter.{rest_more}
use Rattle.druid_timeline_members.specs.Members.{core_count}
use Rattle.druid_timeline_members.specs.Slots.{Replica, members_in}
use Rattle.druid_timeline_members.proofs.SlotLemmas.{core_count-next}
use Rattle.druid_timeline_members.proofs.members.core_of.Goals as goal

at_bound : (core rest total bound : ℕ) → max core rest ≡ total → total ≤ bound → core ≡ bound → core ≡ total
at_bound core rest total bound h le e = omega arith

pub returns-then-core-bound : goal.returns-then-core-bound
returns-then-core-bound c =
    let e = rest_more deref_pair c.loop-slot.slot-iterator c.next.new.self c.next.result (c.in-Some.field-0-0, c.in-Some.slot) c.in-Some.is c.next.ensures.steps in
    let h = subst (λ (rest : List (ℕ × List Replica)). max c.loop-slot.core (core_count (members_in rest)) ≡ core_count (members_in c.args.slots.now.entries)) e c.loop-slot.invariant in
    let more = core_count-next (c.in-Some.field-0-0.now, c.in-Some.slot.now) c.next.new.self c.loop-slot.core c.core.result (core_count (members_in c.args.slots.now.entries)) (c.core.ensures c.in-Some.field-0-0.now) h in
    at_bound c.max-core.result (core_count (members_in c.next.new.self)) (core_count (members_in c.args.slots.now.entries)) c.args.bound
    (ap (λ (k : ℕ). max k (core_count (members_in c.next.new.self))) c.max-core.ensures ∙ more) c.requires c.if-core-bound.true

pub loop-slot-preserved : goal.loop-slot-preserved
loop-slot-preserved c =
    let e = rest_more deref_pair c.loop-slot.slot-iterator c.next.new.self c.next.result (c.in-Some.field-0-0, c.in-Some.slot) c.in-Some.is c.next.ensures.steps in
    let h = subst (λ (rest : List (ℕ × List Replica)). max c.loop-slot.core (core_count (members_in rest)) ≡ core_count (members_in c.args.slots.now.entries)) e c.loop-slot.invariant in
    let more = core_count-next (c.in-Some.field-0-0.now, c.in-Some.slot.now) c.next.new.self c.loop-slot.core c.core.result (core_count (members_in c.args.slots.now.entries)) (c.core.ensures c.in-Some.field-0-0.now) h in
    ap (λ (k : ℕ). max k (core_count (members_in c.next.new.self))) c.max-core.ensures ∙ more
