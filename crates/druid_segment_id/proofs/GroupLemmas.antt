-- Groups: the test of equality, and the order of ranks.
use Rattle.std.proofs.Common.{◌≡◌, ◌⊎◌, refl, inl, inr}
use Rattle.std.specs.Ordering.{ordering_then, ordering_reverse, nat_cmp}
use Rattle.std.specs.declared.cmp.Ordering.{Ordering}
use Rattle.std.specs.declared.cmp.Ordering.TheVariants.{Less, Equal, Greater}
use Rattle.std.specs.Cmp.{IsTotalOrder}
use Rattle.std.specs.Cmp.Lexicographic.{slice_cmp}
use Rattle.std.proofs.lemmas.Cmp.{then_total, on_total, nat_cmp_total, nat_list_cmp_total}
use Rattle.druid_base.proofs.OrderLemmas.{reverse-Greater}
use Rattle.druid_segment_id.specs.Group.{Group, rank_cmp, Outranks}
use Rattle.druid_segment_id.proofs.OrderLemmas.{nat_cmp-Equal, slice_cmp-Equal}

pub rank_cmp-total : IsTotalOrder rank_cmp
rank_cmp-total =
    then_total (on_total (λ (g : Group). g.version) nat_list_cmp_total)
    (then_total (on_total (λ (g : Group). g.interval.start) nat_cmp_total) (on_total (λ (g : Group). g.interval.end) nat_cmp_total))

rank_cmp-parts : (o p q : Ordering) → ordering_then o (ordering_then p q) ≡ Equal → (o ≡ Equal) × (p ≡ Equal) × (q ≡ Equal)
rank_cmp-parts Less p q e = absurd (cc)
rank_cmp-parts Greater p q e = absurd (cc)
rank_cmp-parts Equal Less q e = absurd (cc)
rank_cmp-parts Equal Greater q e = absurd (cc)
rank_cmp-parts Equal Equal q e = (refl, refl, e)

pub group_same : (g h : Group) → g.interval.start ≡ h.interval.start → g.interval.end ≡ h.interval.end → g.version ≡ h.version → g ≡ h
group_same g h start end version i =
    record { interval = record { start = start i; end = end i }; version = version i }

-- only a group has its own rank
pub rank_cmp-Equal : (g h : Group) → rank_cmp g h ≡ Equal → g ≡ h
rank_cmp-Equal g h e =
    let parts = rank_cmp-parts (slice_cmp nat_cmp g.version h.version) (nat_cmp g.interval.start h.interval.start) (nat_cmp g.interval.end h.interval.end) e in
    group_same g h (nat_cmp-Equal _ _ parts.1) (nat_cmp-Equal _ _ parts.2) (slice_cmp-Equal g.version h.version parts.0)

reverse-Less : (o p : Ordering) → o ≡ ordering_reverse p → o ≡ Less → p ≡ Greater
reverse-Less o Less e l = absurd (cc)
reverse-Less o Equal e l = absurd (cc)
reverse-Less o Greater e l = refl

three_ways : (o p : Ordering) → o ≡ ordering_reverse p → (o ≡ Greater) ⊎ (o ≡ Equal) ⊎ (p ≡ Greater)
three_ways Less p e = inr (inr (reverse-Less Less p e refl))
three_ways Equal p e = inr (inl refl)
three_ways Greater p e = inl refl

-- of two groups one outranks the other, or they are the same
pub Outranks-cases : (g h : Group) → Outranks g h ⊎ (g ≡ h) ⊎ Outranks h g
Outranks-cases g h =
    elim (three_ways (rank_cmp g h) (rank_cmp h g) (rank_cmp-total.antisymm g h)) [
      | inl above ↦ inl above
      | inr (inl level) ↦ inr (inl (rank_cmp-Equal g h level))
      | inr (inr below) ↦ inr (inr below)
    ]

pub Outranks-one_way : (g h : Group) → Outranks g h → Outranks h g → ⊥
Outranks-one_way g h above below =
    let back = reverse-Greater (rank_cmp g h) (rank_cmp h g) (rank_cmp-total.antisymm g h) above in
    absurd (cc)

pub Outranks-onward : (g h k : Group) → Outranks g h → Outranks h k → Outranks g k
Outranks-onward g h k first second =
    let lower = reverse-Greater (rank_cmp g h) (rank_cmp h g) (rank_cmp-total.antisymm g h) first in
    let lowest = reverse-Greater (rank_cmp h k) (rank_cmp k h) (rank_cmp-total.antisymm h k) second in
    reverse-Less (rank_cmp k g) (rank_cmp g k) (rank_cmp-total.antisymm k g) (rank_cmp-total.trans k h g lowest lower)
