-- Segments in the order of their identifiers' texts.
use Rattle.std.proofs.Common.{◌≡◌, ◌+◌, ◌-◌, ◌<◌, ℕ, zero, suc, List, length, get_or, true, refl, sym, ap, ◌∙◌, inl, inr, arith}
use Rattle.std.specs.Ordering.{nat_cmp, is_lt, ordering_reverse, ordering_then, bool_cmp}
use Rattle.std.specs.declared.cmp.Ordering.{Ordering}
use Rattle.std.specs.declared.cmp.Ordering.TheVariants.{Less, Equal, Greater}
use Rattle.std.specs.Cmp.Lexicographic.{slice_cmp}
use Rattle.std.specs.List.Sorted.{IsPermutation, IsSorted}
use Rattle.std.proofs.lemmas.Bool.{cases_order, false≢true}
use Rattle.std.proofs.lemmas.Cmp.{nat_list_cmp_total, tied_itself}
use Rattle.druid_base.proofs.OrderLemmas.{nat_cmp-eq}
use Rattle.druid_segment_id.specs.Identifier.{identifier_text, parts_cmp}
use Rattle.druid_segment_id.proofs.OrderLemmas.{slice_cmp-Equal}
use Rattle.druid_segment_descriptor.specs.Described.{Described, described_cmp}
use Rattle.druid_segment_descriptor.specs.Mark.{Point, mark_cmp}
use Rattle.druid_segment_descriptor.specs.Reply.{IsBefore, AreSorted, HaveOwnIdentifiers}
use Rattle.druid_base.proofs.MovedLemmas.{alone-permutation}

-- no identifier comes before itself
pub not_before_itself : (a b : Described) → IsBefore a b → identifier_text a.id ≡ identifier_text b.id → ⊥
not_before_itself a b before same =
    let tied = tied_itself nat_list_cmp_total (identifier_text a.id) in
    let e : slice_cmp nat_cmp (identifier_text a.id) (identifier_text a.id) ≡ Less = rw (← same) at before in
    absurd (cc)

-- each comes before each later one
pub AreSorted-later : (ds : List Described) → AreSorted ds → (i n : ℕ) (d : Described) → i + suc n < length ds → IsBefore (get_or ds i d) (get_or ds (i + suc n) d)
AreSorted-later ds h i zero d l = h i d l
AreSorted-later ds h i (suc n) d l =
    let before = AreSorted-later ds h i n d (omega arith) in
    let next : IsBefore (get_or ds (i + suc n) d) (get_or ds (i + suc n + 1) d) = h (i + suc n) d (omega arith) in
    let e : i + suc n + 1 ≡ i + suc (suc n) = omega arith in
    let next' : IsBefore (get_or ds (i + suc n) d) (get_or ds (i + suc (suc n)) d) = rw e at next in
    nat_list_cmp_total.trans _ (identifier_text (get_or ds (i + suc n) d).id) _ before next'

later_differs : (ds : List Described) → AreSorted ds → (i j : ℕ) (d : Described) → i < j → j < length ds → identifier_text (get_or ds i d).id ≡ identifier_text (get_or ds j d).id → ⊥
later_differs ds h i j d below l same =
    let e : i + suc (j - suc i) ≡ j = omega arith in
    let before = AreSorted-later ds h i (j - suc i) d (omega arith) in
    let before' : IsBefore (get_or ds i d) (get_or ds j d) = rw e at before in
    not_before_itself (get_or ds i d) (get_or ds j d) before' same

-- in order, no identifier stands twice
pub AreSorted-own : (ds : List Described) → AreSorted ds → HaveOwnIdentifiers ds
AreSorted-own ds h i j d li lj same =
    elim (cases_order i j) [
      | inl level ↦ level
      | inr (inl below) ↦ absurd (later_differs ds h i j d below lj same)
      | inr (inr above) ↦ absurd (later_differs ds h j i d above li (sym same))
    ]

less_first : (a b : Described) → IsBefore a b → described_cmp a b ≡ Less
less_first a b before =
    (λ i. ordering_then (ordering_then (ordering_then (ordering_then (before i) (parts_cmp a.id b.id)) (nat_cmp a.core b.core)) (nat_cmp a.size b.size))
    (bool_cmp a.tombstone b.tombstone))

-- sorted by an order that looks at the texts first, and with no identifier twice, they are in order
pub own-AreSorted : (ds : List Described) → IsSorted described_cmp ds → HaveOwnIdentifiers ds → AreSorted ds
own-AreSorted ds sorted own k d l =
    by_order (slice_cmp nat_cmp (identifier_text (get_or ds k d).id) (identifier_text (get_or ds (k + 1) d).id)) refl where
      by_order : (o : Ordering) → o ≡ slice_cmp nat_cmp (identifier_text (get_or ds k d).id) (identifier_text (get_or ds (k + 1) d).id) → IsBefore (get_or ds k d) (get_or ds (k + 1) d)
      by_order Less e = sym e
      by_order Equal e =
          let same = slice_cmp-Equal (identifier_text (get_or ds k d).id) (identifier_text (get_or ds (k + 1) d).id) (sym e) in
          let level : k ≡ k + 1 = own k (k + 1) d (omega arith) l same in
          absurd (omega arith)
      by_order Greater e =
          let back : slice_cmp nat_cmp (identifier_text (get_or ds (k + 1) d).id) (identifier_text (get_or ds k d).id) ≡ Less =
          nat_list_cmp_total.antisymm (identifier_text (get_or ds (k + 1) d).id) (identifier_text (get_or ds k d).id) ∙ ap ordering_reverse (sym e) in
          let less = less_first (get_or ds (k + 1) d) (get_or ds k d) back in
          let not_less = sorted k d (omega arith) l in
          let e' : is_lt (described_cmp (get_or ds (k + 1) d) (get_or ds k d)) ≡ true = ap is_lt less in
          absurd (false≢true (sym not_less ∙ e'))

-- in whatever order they stand
pub own-permutation : (xs ys : List Described) → IsPermutation xs ys → HaveOwnIdentifiers xs → HaveOwnIdentifiers ys
own-permutation xs ys moved own = alone-permutation (λ a b. identifier_text a.id ≡ identifier_text b.id) xs ys moved own

-- ---- marks

pub mark_cmp-same : (m : Point) → mark_cmp m m ≡ Equal
mark_cmp-same m = λ i. ordering_then (nat_cmp-eq m.incarnation i) (nat_cmp-eq m.count i)
