-- Answers of comparisons and of tests.
use Rattle.std.proofs.Common.{◌≡◌, ◌≢◌, ℕ, ◌<◌, ◌≤◌, Bool, true, false, not, List, inl, inr, refl, sym, ap, ◌∙◌, arith}
use Rattle.std.specs.Str.{bytes_eq}
use Rattle.std.specs.Ordering.{nat_cmp, is_le, is_lt, ordering_then, ordering_reverse}
use Rattle.std.specs.declared.cmp.Ordering.{Ordering}
use Rattle.std.specs.declared.cmp.Ordering.TheVariants.{Less, Equal, Greater}
use Rattle.std.proofs.lemmas.Bool.{cases_Bool, false≢true}
use Rattle.std.proofs.lemmas.Bool.Decides.{nat_tests}
use Rattle.std.proofs.lemmas.Slice.Eq.{bytes_eq-Decides}

-- tests that hold together are equal
pub bool_same : (a b : Bool) → (a ≡ true → b ≡ true) → (b ≡ true → a ≡ true) → a ≡ b
bool_same true b to back = sym (to refl)
bool_same false true to back = back refl
bool_same false false to back = refl

-- ---- texts

pub texts_differ : (a b : List ℕ) (r : Bool) → r ≡ not (bytes_eq a b) → r ≡ true → a ≢ b
texts_differ a b r is h e =
    let same = (bytes_eq-Decides a b).1 e in
    let off : r ≡ false = is ∙ ap not same in
    absurd (cc)

pub texts_same : (a b : List ℕ) (r : Bool) → r ≡ not (bytes_eq a b) → r ≡ false → a ≡ b
texts_same a b r is h =
    elim (cases_Bool (bytes_eq a b)) [
      | inl same ↦ (bytes_eq-Decides a b).0 same
      | inr other ↦ let on : r ≡ true = is ∙ ap not other in absurd (cc)
    ]

-- ---- numbers

pub nat_cmp-lt : (x y : ℕ) → x < y → nat_cmp x y ≡ Less
nat_cmp-lt x y h = grind (arith, nat_tests)

pub nat_cmp-eq : (x : ℕ) → nat_cmp x x ≡ Equal
nat_cmp-eq x = grind (arith, nat_tests)

pub nat_cmp-gt : (x y : ℕ) → y < x → nat_cmp x y ≡ Greater
nat_cmp-gt x y h = grind (arith, nat_tests)

pub is_le-from : (x y : ℕ) → x ≤ y → is_le (nat_cmp x y) ≡ true
is_le-from x y h = grind (arith, nat_tests)

-- ---- orderings

pub ordering_then-assoc : (o p q : Ordering) → ordering_then (ordering_then o p) q ≡ ordering_then o (ordering_then p q)
ordering_then-assoc Less p q = refl
ordering_then-assoc Equal p q = refl
ordering_then-assoc Greater p q = refl

pub reverse-Greater : (o p : Ordering) → o ≡ ordering_reverse p → o ≡ Greater → p ≡ Less
reverse-Greater o Less e above = refl
reverse-Greater o Equal e above = absurd cc
reverse-Greater o Greater e above = absurd cc

pub is_lt-Less : (o : Ordering) → is_lt o ≡ true → o ≡ Less
is_lt-Less Less e = refl
is_lt-Less Equal e = absurd (false≢true e)
is_lt-Less Greater e = absurd (false≢true e)
