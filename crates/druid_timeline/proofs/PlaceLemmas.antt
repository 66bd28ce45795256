-- The order of chunks by start, then by end, then by version.
use Rattle.std.proofs.Common.{◌≡◌, ◌≢◌, ◌+◌, ◌-◌, ◌<◌, ◌≤◌, ◌++◌, ℕ, false, List, [], ◌∷◌, length, get_or, refl, sym, ap, ◌∙◌, subst, inl, inr, arith}
use Rattle.std.specs.Cmp.{IsTotalOrder}
use Rattle.std.specs.Cmp.Lexicographic.{slice_cmp}
use Rattle.std.specs.List.{IsDistinct, insert}
use Rattle.std.specs.List.Sorted.{IsSorted, IsPermutation, IsStrictlySortedBy}
use Rattle.std.specs.Ordering.{ordering_then, ordering_reverse, nat_cmp, is_lt}
use Rattle.std.specs.declared.cmp.Ordering.{Ordering}
use Rattle.std.specs.declared.cmp.Ordering.TheVariants.{Less, Equal, Greater}
use Rattle.std.proofs.lemmas.Bool.{false≢true}
use Rattle.std.proofs.lemmas.Bool.{cases_order}
use Rattle.std.proofs.lemmas.List.{get_or_default}
use Rattle.std.proofs.lemmas.List.Edits.{get_or-insert_below, get_or-insert_at, get_or-insert_above, length-insert}
use Rattle.std.proofs.lemmas.List.Sorted.{IsPermutation-trans, IsPermutation-append_comm, IsPermutation-cons, IsPermutation-insert}
use Rattle.std.proofs.lemmas.Cmp.{then_total, on_total, nat_cmp_total, nat_list_cmp_total}
use Rattle.std.proofs.lemmas.Map.Keys.{sorted_from_all_adjacent}
use Rattle.std.proofs.lemmas.Map.Made.{AllPairs-from_IsDistinct}
use Rattle.druid_base.proofs.OrderLemmas.{reverse-Greater}
use Rattle.druid_segment_id.specs.Group.{Group, same_group, rank_cmp, Outranks}
use Rattle.druid_segment_id.proofs.GroupLemmas.{group_same, rank_cmp-total, Outranks-cases}
use Rattle.druid_segment_id.proofs.OrderLemmas.{both-Equal, nat_cmp-Equal, slice_cmp-Equal}
use Rattle.druid_timeline.specs.Overshadowed.{place_cmp}
use Rattle.druid_timeline_chunks.proofs.ChunkLemmas.{same_group-exact, same_group-same}

pub place_cmp-total : IsTotalOrder place_cmp
place_cmp-total =
    then_total (then_total (on_total (λ (g : Group). g.interval.start) nat_cmp_total) (on_total (λ (g : Group). g.interval.end) nat_cmp_total))
    (on_total (λ (g : Group). g.version) nat_list_cmp_total)

pub place_cmp-Equal : (g h : Group) → place_cmp g h ≡ Equal → g ≡ h
place_cmp-Equal g h e =
    let front = both-Equal (ordering_then (nat_cmp g.interval.start h.interval.start) (nat_cmp g.interval.end h.interval.end)) (slice_cmp nat_cmp g.version h.version) e in
    let ends = both-Equal (nat_cmp g.interval.start h.interval.start) (nat_cmp g.interval.end h.interval.end) front.0 in
    group_same g h (nat_cmp-Equal _ _ ends.0) (nat_cmp-Equal _ _ ends.1) (slice_cmp-Equal g.version h.version front.1)

then_level : (o p : Ordering) → p ≡ Equal → ordering_then o p ≡ o
then_level Less p e = refl
then_level Equal p e = e
then_level Greater p e = refl

-- of chunks of one interval, the order is that of the ranks
pub place_cmp-rank : (g h : Group) → ordering_then (nat_cmp g.interval.start h.interval.start) (nat_cmp g.interval.end h.interval.end) ≡ Equal → place_cmp g h ≡ rank_cmp g h
place_cmp-rank g h e =
    ap (λ (o : Ordering). ordering_then o (slice_cmp nat_cmp g.version h.version)) e
    ∙ sym (then_level (slice_cmp nat_cmp g.version h.version) (ordering_then (nat_cmp g.interval.start h.interval.start) (nat_cmp g.interval.end h.interval.end)) e)

pub place_cmp-below : (g h : Group) → ordering_then (nat_cmp g.interval.start h.interval.start) (nat_cmp g.interval.end h.interval.end) ≡ Equal → Outranks h g → Less ≡ place_cmp g h
place_cmp-below g h e above =
    sym (place_cmp-rank g h e ∙ reverse-Greater (rank_cmp h g) (rank_cmp g h) (rank_cmp-total.antisymm h g) above)

level : (o : Ordering) → o ≡ ordering_reverse o → o ≡ Equal
level Less e = absurd (cc)
level Equal e = refl
level Greater e = absurd (cc)

pub place_cmp-level : (g h : Group) → (Outranks g h → ⊥) → (Outranks h g → ⊥) → Equal ≡ place_cmp g h
place_cmp-level g h above below = elim (Outranks-cases g h) [
  | inl over ↦ absurd (above over)
  | inr (inl same) ↦ subst (λ (k : Group). Equal ≡ place_cmp g k) same (sym (level (place_cmp g g) (place_cmp-total.antisymm g g)))
  | inr (inr under) ↦ absurd (below under)
]

nowhere : Group
nowhere = record { interval = record { start = 0; end = 0 }; version = [] }

adjacent : (g h : Group) (o : Ordering) → place_cmp g h ≡ o → g ≢ h → is_lt (place_cmp h g) ≡ false → place_cmp g h ≡ Less
adjacent g h Less e other not = e
adjacent g h Equal e other not = absurd (other (place_cmp-Equal g h e))
adjacent g h Greater e other not =
    let below = reverse-Greater (place_cmp g h) (place_cmp h g) (place_cmp-total.antisymm g h) e in
    absurd (false≢true (sym not ∙ ap is_lt below))

-- sorted, and none twice
pub strictly_sorted : (gs : List Group) → IsDistinct same_group gs → IsSorted place_cmp gs → IsStrictlySortedBy place_cmp gs
strictly_sorted gs once sorted =
    let apart = AllPairs-from_IsDistinct (λ g h. (same_group-exact g h, same_group-same g h)) gs once in
    sorted_from_all_adjacent place_cmp-total gs nowhere (λ k l.
    adjacent (get_or gs k nowhere) (get_or gs (k + 1) nowhere) (place_cmp (get_or gs k nowhere) (get_or gs (k + 1) nowhere)) refl
    (apart k (k + 1) nowhere (omega arith) l) (sorted k nowhere (omega arith) l))

-- ---- where a chunk belongs

-- the chunk is not before the one that stands below low, nor after the one at high
pub record IsBetween (gs : List Group) (key : Group) (low high : ℕ) : Type 0 where
  pub apart : low ≤ high
  pub within : high ≤ length gs
  pub below : (k : ℕ) (d : Group) → k + 1 ≡ low → is_lt (place_cmp key (get_or gs k d)) ≡ false
  pub above : (d : Group) → high < length gs → is_lt (place_cmp (get_or gs high d) key) ≡ false

pub IsBetween-all : (gs : List Group) (key : Group) (n : ℕ) → n ≡ length gs → IsBetween gs key 0 n
IsBetween-all gs key n e = record {
  apart = omega arith;
  within = omega (arith, e);
  below = λ k d none. absurd (omega (arith, none));
  above = λ d l. absurd (omega (arith, e, l));
}

not_below : (g h : Group) → place_cmp g h ≡ Less → is_lt (place_cmp h g) ≡ false
not_below g h e = ap is_lt (place_cmp-total.antisymm h g ∙ ap ordering_reverse e)

pub IsBetween-above : (gs : List Group) (key x : Group) (low high m : ℕ) → IsBetween gs key low high → m < high → x ≡ get_or gs m x → place_cmp x key ≡ Less → IsBetween gs key (m + 1) high
IsBetween-above gs key x low high m h under is less = record {
  apart = omega (arith, under);
  within = h.within;
  below = λ k d e.
      let at : k ≡ m = omega (arith, e) in
      let same : get_or gs k d ≡ x = ap (λ (i : ℕ). get_or gs i d) at ∙ get_or_default gs m d x (omega (arith, under, h.within)) ∙ sym is in
      ap (λ (y : Group). is_lt (place_cmp key y)) same ∙ not_below x key less;
  above = h.above;
}

not_less : (o : Ordering) → (o ≡ Less → ⊥) → is_lt o ≡ false
not_less Less other = absurd (other refl)
not_less Equal other = refl
not_less Greater other = refl

pub IsBetween-below : (gs : List Group) (key x : Group) (low high m : ℕ) → IsBetween gs key low high → low ≤ m → m < high → x ≡ get_or gs m x → (place_cmp x key ≡ Less → ⊥) → IsBetween gs key low m
IsBetween-below gs key x low high m h over under is other = record {
  apart = over;
  within = omega (arith, under, h.within);
  below = h.below;
  above = λ d l.
      let same : get_or gs m d ≡ x = get_or_default gs m d x l ∙ sym is in
      ap (λ (y : Group). is_lt (place_cmp y key)) same ∙ not_less (place_cmp x key) other;
}

-- chunks are sorted with one more where it belongs
pub IsSorted-insert : (gs : List Group) (key : Group) (i : ℕ) → IsBetween gs key i i → IsSorted place_cmp gs → IsSorted place_cmp (insert gs i key)
IsSorted-insert gs key i h sorted k d from l = elim (cases_order (k + 1) i) [
  | inr (inl before) ↦ both (get_or gs (k + 1) d) (get_or gs k d) (get_or-insert_below gs i key d (k + 1) before h.within) (get_or-insert_below gs i key d k (omega (arith, before)) h.within)
      (sorted k d from (omega (arith, before, h.within)))
  | inl at ↦ both key (get_or gs k d) (subst (λ (j : ℕ). get_or (insert gs i key) j d ≡ key) (sym at) (get_or-insert_at gs i key d h.within)) (get_or-insert_below gs i key d k (omega (arith, at)) h.within)
      (h.below k d at)
  | inr (inr beyond) ↦ elim (cases_order i k) [
    | inr (inl after) ↦
        let same : (k - 1) + 1 ≡ k = omega (arith, after) in
        both (get_or gs k d) (get_or gs (k - 1) d) (get_or-insert_above gs i key d k (omega (arith, after)) h.within)
        (subst (λ (j : ℕ). get_or (insert gs i key) j d ≡ get_or gs (k - 1) d) same (get_or-insert_above gs i key d (k - 1) (omega (arith, after)) h.within))
        (subst (λ (j : ℕ). is_lt (place_cmp (get_or gs j d) (get_or gs (k - 1) d)) ≡ false) same (sorted (k - 1) d (omega arith) (omega (arith, l, after, length-insert gs i key h.within))))
    | inl at ↦ both (get_or gs i d) key (subst (λ (j : ℕ). get_or (insert gs i key) (j + 1) d ≡ get_or gs i d) at (get_or-insert_above gs i key d i (omega arith) h.within))
        (subst (λ (j : ℕ). get_or (insert gs i key) j d ≡ key) at (get_or-insert_at gs i key d h.within))
        (h.above d (omega (arith, l, at, length-insert gs i key h.within)))
    | inr (inr under) ↦ absurd (omega (arith, beyond, under))
  ]
] where
  both : (a b : Group) → get_or (insert gs i key) (k + 1) d ≡ a → get_or (insert gs i key) k d ≡ b → is_lt (place_cmp a b) ≡ false
      → is_lt (place_cmp (get_or (insert gs i key) (k + 1) d) (get_or (insert gs i key) k d)) ≡ false
  both a b e f h = ap (λ (y : Group). is_lt (place_cmp y (get_or (insert gs i key) k d))) e ∙ ap (λ (y : Group). is_lt (place_cmp a y)) f ∙ h

-- one more of the list that is sorted
pub IsPermutation-one_more : (taken sorted : List Group) (key : Group) (i : ℕ) → IsPermutation taken sorted → IsPermutation (taken ++ key ∷ []) (insert sorted i key)
IsPermutation-one_more taken sorted key i same =
    IsPermutation-trans (taken ++ key ∷ []) (key ∷ taken) (insert sorted i key) (IsPermutation-append_comm taken (key ∷ []))
    (IsPermutation-trans (key ∷ taken) (key ∷ sorted) (insert sorted i key) (IsPermutation-cons key taken sorted same) (IsPermutation-insert sorted i key))
