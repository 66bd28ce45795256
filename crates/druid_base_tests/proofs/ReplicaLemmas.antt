-- A segment that another node holds too.
use Rattle.std.proofs.Common.{◌≡◌, ◌≤◌, ◌↔◌, List, [], filter, refl, sym, ap, ◌∙◌, subst, inl, inr, arith}
use Rattle.std.specs.List.{Contains}
use Rattle.druid_base.proofs.MemberLemmas.{Contains-nil, Contains-map, Contains-map_back}
use Rattle.druid_segment_id.specs.Group.{Group, same_group}
use Rattle.druid_segment_id.specs.Identifier.{Identifier}
use Rattle.druid_segment_descriptor.specs.Described.{Described}
use Rattle.druid_timeline_members.specs.Members.{Member, IsComplete, Adds, core_count}
use Rattle.druid_timeline_members.proofs.SlotLemmas.{core_count-member, core_count-least}
use Rattle.druid_timeline_chunks.proofs.ChunkLemmas.{same_group-exact, same_group-same}
use Rattle.druid_timeline.specs.Holding.{Held, members_of, held_of, IsCompleteIn, AddsHeld, RemovesHeld, RemovesOneHeld}
use Rattle.druid_timeline.proofs.HoldingLemmas.{in_filter, from_filter}

in_members : (held : List Held) (g : Group) (x : Held) → Contains held x → x.group ≡ g → Contains (members_of held g) x.member
in_members held g x there same =
    Contains-map_back (λ (h : Held). h.member) (filter (λ (h : Held). same_group h.group g) held) x (in_filter (λ (h : Held). same_group h.group g) held x there (same_group-same x.group g same))

of_members : (held : List Held) (g : Group) (m : Member) → Contains (members_of held g) m → (x : Held) × Contains held x × (x.group ≡ g) × (x.member ≡ m)
of_members held g m there =
    let found = Contains-map (λ (h : Held). h.member) (filter (λ (h : Held). same_group h.group g) held) m there in
    let kept = from_filter (λ (h : Held). same_group h.group g) held found.0 found.1 in
    (found.0, kept.0, same_group-exact found.0.group g kept.1, found.2)

-- a segment more is a member more of its chunk
member_more : (old new : List Held) (h : Held) → AddsHeld old new h → Adds (members_of old h.group) (members_of new h.group) h.member
member_more old new h adds m = (
  λ there.
      let x = of_members new h.group m there in
      elim ((adds x.0).0 x.1) [
        | inl same ↦ inl (sym x.3 ∙ ap (λ (y : Held). y.member) same)
        | inr was ↦ inr (subst (Contains (members_of old h.group)) x.3 (in_members old h.group x.0 was x.2))
      ],
  λ either. elim either [
    | inl same ↦ subst (Contains (members_of new h.group)) (sym same) (in_members new h.group h ((adds h).1 (inl refl)) refl)
    | inr was ↦
        let x = of_members old h.group m was in
        subst (Contains (members_of new h.group)) x.3 (in_members new h.group x.0 ((adds x.0).1 (inr x.1)) x.2)
  ],
)

-- of a partition that is there, with as many core partitions, it turns nothing
level_member : (old new : List Member) (m twin : Member) → Adds old new m → Contains old twin → twin.partition ≡ m.partition → m.core ≤ twin.core → IsComplete old ↔ IsComplete new
level_member old new m twin adds there same core = (
  λ whole. record {
    some = (twin, (adds twin).1 (inr there));
    cores = λ p below. let at = whole.cores p (omega (arith, below, less)) in (at.0, (adds at.0).1 (inr at.1), at.2);
  },
  λ whole. record {
    some = (twin, there);
    cores = λ p below.
        let at = whole.cores p (omega (arith, below, more)) in
        elim ((adds at.0).0 at.1) [
          | inl is ↦ (twin, there, same ∙ ap (λ (x : Member). x.partition) (sym is) ∙ at.2)
          | inr was ↦ (at.0, was, at.2)
        ];
  },
) where
  less : core_count new ≤ core_count old
  less = core_count-least new (core_count old) (λ x has. elim ((adds x).0 has) [
    | inl is ↦ let c = ap (λ (y : Member). y.core) is in let l = core_count-member old twin there in omega (arith, c, l, core)
    | inr was ↦ core_count-member old x was
  ])

  more : core_count old ≤ core_count new
  more = core_count-least old (core_count new) (λ x was. core_count-member new x ((adds x).1 (inr was)))

-- a replica comes
pub level_replica : (old new : List Held) (h twin : Held) → AddsHeld old new h → Contains old twin → twin.group ≡ h.group → twin.member.partition ≡ h.member.partition → h.member.core ≤ twin.member.core
    → IsCompleteIn old h.group ↔ IsCompleteIn new h.group
level_replica old new h twin adds there group same core =
    level_member (members_of old h.group) (members_of new h.group) h.member twin.member (member_more old new h adds) (in_members old h.group twin there group) same core

-- of two replicas, the second comes
pub level_second : (none one two : List Held) (d : Described) → none ≡ [] → AddsHeld none one (held_of 0 d) → AddsHeld one two (held_of 1 d)
    → IsCompleteIn one (held_of 1 d).group ↔ IsCompleteIn two (held_of 1 d).group
level_second none one two d empty first second =
    level_replica one two (held_of 1 d) (held_of 0 d) second ((first (held_of 0 d)).1 (inl refl)) refl refl (omega arith)

-- and goes
pub level_back : (none one two back : List Held) (d : Described) (id : Identifier) → none ≡ [] → id ≡ d.id → AddsHeld none one (held_of 0 d) → AddsHeld one two (held_of 1 d)
    → RemovesHeld two back 1 id → RemovesOneHeld two back 1 id → IsCompleteIn two (held_of 1 d).group ↔ IsCompleteIn back (held_of 1 d).group
level_back none one two back d id empty same first second removes removed =
    let gone = removed.0 in
    let is : gone ≡ held_of 1 d = elim ((second gone).0 ((removed.2 gone).1 (inl refl))) [
      | inl its ↦ its
      | inr was ↦ elim ((first gone).0 was) [
        | inl other ↦ let node : 0 ≡ 1 = sym (ap (λ (x : Held). x.member.node) other) ∙ removed.1.2 in absurd (omega (arith, node))
        | inr nothing ↦ absurd (Contains-nil gone (subst (λ (xs : List Held). Contains xs gone) empty nothing))
      ]
    ] in
    let adds = subst (AddsHeld back two) is removed.2 in
    let stays = (removes (held_of 0 d)).1 ((second (held_of 0 d)).1 (inr ((first (held_of 0 d)).1 (inl refl))), λ place. let node : 0 ≡ 1 = place.2 in omega (arith, node)) in
    let level = level_replica back two (held_of 1 d) (held_of 0 d) adds stays refl refl (omega arith) in
    (λ c. level.1 c, λ c. level.0 c)
