use Rattle.std.proofs.Common.{◌∙◌, map, sym, ap, inl, inr, arith}
use Rattle.druid_base.proofs.MemberLemmas.{Contains-map, Contains-map_back}
use Rattle.druid_timeline_members.specs.Members.{Member}
use Rattle.druid_timeline_members.specs.Slots.{member_at}
use Rattle.druid_timeline_members.proofs.CompleteLemmas.{core_count-some}
use Rattle.druid_timeline_members.proofs.SlotLemmas.{core_count-member}
use Rattle.druid_timeline_members.proofs.members.core_beside.Goals as goal

pub returns-then-partition-at-clause-most : goal.returns-then-partition-at-clause-most
returns-then-partition-at-clause-most c r there not =
    c.core_without.ensures.most r there (λ same. not (c.if-partition-at.true, same))

pub returns-else-partition-at-clause-most : goal.returns-else-partition-at-clause-most
returns-else-partition-at-clause-most c r there not =
    let ms = map (member_at c.args.partition) c.args.slot.now in
    let le = core_count-member ms (member_at c.args.partition r) (Contains-map_back (member_at c.args.partition) c.args.slot.now r there) in
    let is = c.core.ensures c.args.partition in
    omega (arith, le, is)

pub returns-else-partition-at-clause-some : goal.returns-else-partition-at-clause-some
returns-else-partition-at-clause-some c =
    let ms = map (member_at c.args.partition) c.args.slot.now in
    elim (core_count-some ms) [
      | inl none ↦ inl (c.core.ensures c.args.partition ∙ none)
      | inr found ↦
          let r = Contains-map (member_at c.args.partition) c.args.slot.now found.0 found.1 in
          inr (r.0, r.1, (λ at. c.if-partition-at.false at.0), ap (λ (x : Member). x.core) r.2 ∙ found.2 ∙ sym (c.core.ensures c.args.partition))
    ]
