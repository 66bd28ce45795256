-- Comparisons of numbers and texts, piece by piece.
use Rattle.std.proofs.Common.{◌≡◌, ℕ, ◌<◌, ◌≤◌, List, [], ◌∷◌, ◌++◌, length, take, drop, refl, sym, ap, ◌∙◌, arith, append_assoc}
use Rattle.std.specs.Ordering.{nat_cmp, ordering_then, ordering_reverse}
use Rattle.std.specs.declared.cmp.Ordering.{Ordering}
use Rattle.std.specs.declared.cmp.Ordering.TheVariants.{Less, Equal, Greater}
use Rattle.std.specs.Cmp.Lexicographic.{slice_cmp}
use Rattle.std.proofs.lemmas.List.{take-append-drop, length-take-le}
use Rattle.std.proofs.lemmas.Cmp.{nat_list_cmp_total}
use Rattle.std.proofs.lemmas.Bool.Decides.{nat_tests}
use Rattle.druid_base.proofs.OrderLemmas.{ordering_then-assoc, nat_cmp-eq}

-- ---- numbers

pub nat_cmp-Equal : (x y : ℕ) → nat_cmp x y ≡ Equal → x ≡ y
nat_cmp-Equal x y h = grind (arith, nat_tests)

-- ---- texts

-- texts that begin alike
pub slice_cmp-front : (front xs ys : List ℕ) → slice_cmp nat_cmp (front ++ xs) (front ++ ys) ≡ slice_cmp nat_cmp xs ys
slice_cmp-front [] xs ys = refl
slice_cmp-front (b ∷ front) xs ys =
    ap (λ o. ordering_then o (slice_cmp nat_cmp (front ++ xs) (front ++ ys))) (nat_cmp-eq b) ∙ slice_cmp-front front xs ys

-- fronts of one length, and then the rests
pub slice_cmp-append : (us vs xs ys : List ℕ) → length us ≡ length vs → slice_cmp nat_cmp (us ++ xs) (vs ++ ys) ≡ ordering_then (slice_cmp nat_cmp us vs) (slice_cmp nat_cmp xs ys)
slice_cmp-append [] [] xs ys e = refl
slice_cmp-append [] (v ∷ vs) xs ys e = absurd (omega arith)
slice_cmp-append (u ∷ us) [] xs ys e = absurd (omega arith)
slice_cmp-append (u ∷ us) (v ∷ vs) xs ys e =
    ap (ordering_then (nat_cmp u v)) (slice_cmp-append us vs xs ys (omega arith))
    ∙ sym (ordering_then-assoc (nat_cmp u v) (slice_cmp nat_cmp us vs) (slice_cmp nat_cmp xs ys))

-- a shorter text is compared with the front alone
pub slice_cmp-short : (us vs ys : List ℕ) → length us < length vs → slice_cmp nat_cmp us (vs ++ ys) ≡ slice_cmp nat_cmp us vs
slice_cmp-short [] [] ys h = absurd (omega arith)
slice_cmp-short [] (v ∷ vs) ys h = refl
slice_cmp-short (u ∷ us) [] ys h = absurd (omega arith)
slice_cmp-short (u ∷ us) (v ∷ vs) ys h = ap (ordering_then (nat_cmp u v)) (slice_cmp-short us vs ys (omega arith))

pub both-Equal : (o p : Ordering) → ordering_then o p ≡ Equal → (o ≡ Equal) × (p ≡ Equal)
both-Equal Less p e = absurd (cc)
both-Equal Equal p e = (refl, e)
both-Equal Greater p e = absurd (cc)

-- a tie of texts is one text
pub slice_cmp-Equal : (xs ys : List ℕ) → slice_cmp nat_cmp xs ys ≡ Equal → xs ≡ ys
slice_cmp-Equal [] [] e = refl
slice_cmp-Equal [] (y ∷ ys) e = absurd (cc)
slice_cmp-Equal (x ∷ xs) [] e = absurd (cc)
slice_cmp-Equal (x ∷ xs) (y ∷ ys) e =
    let both = both-Equal (nat_cmp x y) (slice_cmp nat_cmp xs ys) e in
    λ i. nat_cmp-Equal x y both.0 i ∷ slice_cmp-Equal xs ys both.1 i

-- ---- texts in two parts, cut where the shorter front ends

-- a text and a pair whose front is no longer
pub slice_cmp-pair : (us vs ys mine left : List ℕ) → mine ≡ take (length vs) us → left ≡ drop (length vs) us → length vs ≤ length us
    → ordering_then (slice_cmp nat_cmp mine vs) (slice_cmp nat_cmp left ys) ≡ slice_cmp nat_cmp us (vs ++ ys)
slice_cmp-pair us vs ys mine left e f h =
    let whole : mine ++ left ≡ us = (λ i. e i ++ f i) ∙ take-append-drop (length vs) us in
    let long : length mine ≡ length vs = ap length e ∙ length-take-le (length vs) us h in
    sym (slice_cmp-append mine vs left ys long) ∙ ap (λ x. slice_cmp nat_cmp x (vs ++ ys)) whole

-- two pairs, the first front no longer
pub slice_cmp-pairs_short : (us xs vs ys theirs left : List ℕ) → theirs ≡ take (length us) vs → left ≡ drop (length us) vs → length us ≤ length vs
    → ordering_then (slice_cmp nat_cmp us theirs) (slice_cmp nat_cmp xs (left ++ ys)) ≡ slice_cmp nat_cmp (us ++ xs) (vs ++ ys)
slice_cmp-pairs_short us xs vs ys theirs left e f h =
    let whole : theirs ++ (left ++ ys) ≡ vs ++ ys = sym (append_assoc theirs left ys) ∙ ap (λ z. z ++ ys) ((λ i. e i ++ f i) ∙ take-append-drop (length us) vs) in
    let long : length us ≡ length theirs = sym (ap length e ∙ length-take-le (length us) vs h) in
    sym (slice_cmp-append us theirs xs (left ++ ys) long) ∙ ap (slice_cmp nat_cmp (us ++ xs)) whole

-- two pairs, the second front no longer
pub slice_cmp-pairs_long : (us xs vs ys mine left : List ℕ) → mine ≡ take (length vs) us → left ≡ drop (length vs) us → length vs ≤ length us
    → ordering_then (slice_cmp nat_cmp mine vs) (ordering_reverse (slice_cmp nat_cmp ys (left ++ xs))) ≡ slice_cmp nat_cmp (us ++ xs) (vs ++ ys)
slice_cmp-pairs_long us xs vs ys mine left e f h =
    let whole : mine ++ (left ++ xs) ≡ us ++ xs = sym (append_assoc mine left xs) ∙ ap (λ z. z ++ xs) ((λ i. e i ++ f i) ∙ take-append-drop (length vs) us) in
    let long : length mine ≡ length vs = ap length e ∙ length-take-le (length vs) us h in
    ap (ordering_then (slice_cmp nat_cmp mine vs)) (sym (nat_list_cmp_total.antisymm (left ++ xs) ys))
    ∙ sym (slice_cmp-append mine vs (left ++ xs) ys long) ∙ ap (λ z. slice_cmp nat_cmp z (vs ++ ys)) whole
