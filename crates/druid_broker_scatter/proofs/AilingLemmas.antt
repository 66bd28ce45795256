-- Nodes put last.
use Rattle.std.proofs.Common.{◌≡◌, ◌<◌, ◌+◌, ◌-◌, ℕ, Bool, true, false, not, cond, List, [], ◌∷◌, ◌++◌, length, take, drop, get_or, refl, sym, ap, subst, ◌∙◌, arith, add-one, append_assoc, length-append}
use Rattle.std.proofs.lemmas.List.{length-take-le, append-nil}
use Rattle.std.proofs.lemmas.List.Elements.{filter_more}
use Rattle.std.proofs.lemmas.List.Filters.{length-filter_both}
use Rattle.std.proofs.lemmas.List.Sorted.{IsPermutation-filter_both, IsPermutation-trans}
use Rattle.std.specs.List.{filter}
use Rattle.std.specs.List.Sorted.{IsPermutation}
use Rattle.std.proofs.Math.Seq.{take-append_seam, drop-append_seam, get_or-append_seam, drop-cons}
use Rattle.std.proofs.Math.Bool.{not-not, and-false}
use Rattle.std.proofs.Math.Nat.{zero-div}
use Rattle.std.specs.Prelude.{nat_lt}
use borrow.Rule.Slice.PartMut.{put_mid, mid_of}
use Rattle.druid_broker_scatter.specs.Order.{has_node, has_no_node, ailing_last}

front_is : (xs ys zs : List ℕ) (n : ℕ) → zs ≡ xs ++ ys → n ≡ length xs → take n zs ≡ xs
front_is xs ys zs n e l = ap (take n) e ∙ ap (λ (k : ℕ). take k (xs ++ ys)) l ∙ take-append_seam xs ys

back_is : (xs ys zs : List ℕ) (n : ℕ) → zs ≡ xs ++ ys → n ≡ length xs → drop n zs ≡ ys
back_is xs ys zs n e l = ap (drop n) e ∙ ap (λ (k : ℕ). drop k (xs ++ ys)) l ∙ drop-append_seam xs ys

-- a part whose last comes first
last_first : (passed : List ℕ) (node : ℕ) (mid : List ℕ) → mid ≡ passed ++ node ∷ [] → drop (length mid - 1) mid ++ take (length mid - 1) mid ≡ node ∷ passed
last_first passed node mid e =
    let l : length mid - 1 ≡ length passed = omega (arith, ap (length {A = ℕ}) e, length-append passed (node ∷ [])) in
    let b : drop (length mid - 1) mid ≡ node ∷ [] = back_is passed (node ∷ []) mid (length mid - 1) e l in
    let f : take (length mid - 1) mid ≡ passed = front_is passed (node ∷ []) mid (length mid - 1) e l in
    rw (b, f) refl

pub moved : (front passed after : List ℕ) (node : ℕ) (s r : List ℕ) (to from : ℕ) → s ≡ front ++ (passed ++ node ∷ after) → length front ≡ to → length front + length passed ≡ from
    → r ≡ drop (length (mid_of to (from + 1 - to) s) - 1) (mid_of to (from + 1 - to) s) ++ take (length (mid_of to (from + 1 - to) s) - 1) (mid_of to (from + 1 - to) s)
    → put_mid to (from + 1 - to) s r ≡ front ++ node ∷ (passed ++ after)
moved front passed after node s r to from e l m h =
    let start : take to s ≡ front = front_is front (passed ++ node ∷ after) s to e (sym l) in
    let rest : drop to s ≡ passed ++ node ∷ after = back_is front (passed ++ node ∷ after) s to e (sym l) in
    let joined : drop to s ≡ (passed ++ node ∷ []) ++ after = rest ∙ sym (append_assoc passed (node ∷ []) after) in
    let long : from + 1 - to ≡ length (passed ++ node ∷ []) = omega (arith, length-append passed (node ∷ [])) in
    let part : mid_of to (from + 1 - to) s ≡ passed ++ node ∷ [] = front_is (passed ++ node ∷ []) after (drop to s) (from + 1 - to) joined long in
    let later : drop (from + 1 - to) (drop to s) ≡ after = back_is (passed ++ node ∷ []) after (drop to s) (from + 1 - to) joined long in
    let turned : r ≡ node ∷ passed = h ∙ last_first passed node (mid_of to (from + 1 - to) s) part in
    rw (start, later, turned) refl

-- ---- one node more

-- what is left from a place on, of which the first is the node there
split_at : (xs : List ℕ) (i : ℕ) → i < length xs → drop i xs ≡ get_or xs i 0 ∷ drop (i + 1) xs
split_at xs i h = rw add-one (drop-cons xs i 0 h)

-- the nodes so far in their two groups, and those that are left
record Groups (a : ℕ) (xs ys : List ℕ) (i : ℕ) : Type 0 where
  here : get_or ys i 0 ≡ get_or xs i 0
  parts : ys ≡ filter (has_no_node a) (take i xs) ++ (filter (has_node a) (take i xs) ++ get_or xs i 0 ∷ drop (i + 1) xs)
  lengths : length (filter (has_no_node a) (take i xs)) + length (filter (has_node a) (take i xs)) ≡ i

groups : (a : ℕ) (xs ys : List ℕ) (i : ℕ) → i < length xs → ys ≡ ailing_last a (take i xs) ++ drop i xs → Groups a xs ys i
groups a xs ys i h e =
    let x : ℕ = get_or xs i 0 in
    let w : List ℕ = filter (has_no_node a) (take i xs) in
    let p : List ℕ = filter (has_node a) (take i xs) in
    let lens : length w + length p ≡ i = length-filter_both (has_no_node a) (has_node a) (λ n. sym (not-not (has_node a n))) (take i xs) ∙ length-take-le i xs (omega arith) in
    let whole : ys ≡ (w ++ p) ++ x ∷ drop (i + 1) xs = e ∙ ap (λ (rest : List ℕ). (w ++ p) ++ rest) (split_at xs i h) in
    let long : length (w ++ p) ≡ i = length-append w p ∙ lens in
    let seam : get_or ys i 0 ≡ x = ap (λ (zs : List ℕ). get_or zs i 0) whole ∙ ap (λ (k : ℕ). get_or ((w ++ p) ++ x ∷ drop (i + 1) xs) k 0) (sym long) ∙ get_or-append_seam (w ++ p) x (drop (i + 1) xs) 0 in
    record { here = seam; parts = whole ∙ append_assoc w p (x ∷ drop (i + 1) xs); lengths = lens }

-- a group with one node more, or without
more : (p : ℕ → Bool) (xs : List ℕ) (i : ℕ) → i < length xs → p (get_or xs i 0) ≡ true → filter p (take (i + 1) xs) ≡ filter p (take i xs) ++ get_or xs i 0 ∷ []
more p xs i h t = filter_more p xs i 0 h ∙ ap (λ (b : Bool). filter p (take i xs) ++ cond b (get_or xs i 0 ∷ []) []) t

no_more : (p : ℕ → Bool) (xs : List ℕ) (i : ℕ) → i < length xs → p (get_or xs i 0) ≡ false → filter p (take (i + 1) xs) ≡ filter p (take i xs)
no_more p xs i h t = filter_more p xs i 0 h ∙ ap (λ (b : Bool). filter p (take i xs) ++ cond b (get_or xs i 0 ∷ []) []) t ∙ append-nil (filter p (take i xs))

-- the loop's invariant, after a node that is well and was moved
pub well_more : (a : ℕ) (xs ys zs : List ℕ) (well i : ℕ) → i < length xs → ys ≡ ailing_last a (take i xs) ++ drop i xs → well ≡ length (filter (has_no_node a) (take i xs))
    → has_node a (get_or ys i 0) ≡ false
    → ((front passed after : List ℕ) (node : ℕ) → ys ≡ front ++ (passed ++ node ∷ after) → length front ≡ well → length front + length passed ≡ i → zs ≡ front ++ node ∷ (passed ++ after))
    → (zs ≡ ailing_last a (take (i + 1) xs) ++ drop (i + 1) xs) × (well + 1 ≡ length (filter (has_no_node a) (take (i + 1) xs)))
well_more a xs ys zs well i h e c t f =
    let g : Groups a xs ys i = groups a xs ys i h e in
    let x : ℕ = get_or xs i 0 in
    let w : List ℕ = filter (has_no_node a) (take i xs) in
    let p : List ℕ = filter (has_node a) (take i xs) in
    let ill : has_node a x ≡ false = ap (has_node a) (sym g.here) ∙ t in
    let fine : has_no_node a x ≡ true = ap not ill in
    let front : filter (has_no_node a) (take (i + 1) xs) ≡ w ++ x ∷ [] = more (has_no_node a) xs i h fine in
    let back : filter (has_node a) (take (i + 1) xs) ≡ p = no_more (has_node a) xs i h ill in
    let made : zs ≡ w ++ x ∷ (p ++ drop (i + 1) xs) = f w p (drop (i + 1) xs) x g.parts (sym c) g.lengths in
    let joined : ((w ++ x ∷ []) ++ p) ++ drop (i + 1) xs ≡ w ++ x ∷ (p ++ drop (i + 1) xs) = simp append_assoc in
    (rw (front, back) (made ∙ sym joined), rw front (omega (arith, length-append w (x ∷ []))))

-- and after one that ails and stays
pub ailing_more : (a : ℕ) (xs ys : List ℕ) (well i : ℕ) → i < length xs → ys ≡ ailing_last a (take i xs) ++ drop i xs → well ≡ length (filter (has_no_node a) (take i xs))
    → has_node a (get_or ys i 0) ≡ true
    → (ys ≡ ailing_last a (take (i + 1) xs) ++ drop (i + 1) xs) × (well ≡ length (filter (has_no_node a) (take (i + 1) xs)))
ailing_more a xs ys well i h e c t =
    let g : Groups a xs ys i = groups a xs ys i h e in
    let x : ℕ = get_or xs i 0 in
    let w : List ℕ = filter (has_no_node a) (take i xs) in
    let p : List ℕ = filter (has_node a) (take i xs) in
    let ill : has_node a x ≡ true = ap (has_node a) (sym g.here) ∙ t in
    let fine : has_no_node a x ≡ false = ap not ill in
    let front : filter (has_no_node a) (take (i + 1) xs) ≡ w = no_more (has_no_node a) xs i h fine in
    let back : filter (has_node a) (take (i + 1) xs) ≡ p ++ x ∷ [] = more (has_node a) xs i h ill in
    let joined : (w ++ (p ++ x ∷ [])) ++ drop (i + 1) xs ≡ w ++ (p ++ x ∷ drop (i + 1) xs) = simp append_assoc in
    (rw (front, back) (g.parts ∙ sym joined), rw front c)

-- ---- what it is to put nodes last

pub put_last_permutes : (a : ℕ) (before turned after : List ℕ) → IsPermutation before turned → after ≡ ailing_last a turned → IsPermutation before after
put_last_permutes a before turned after h e =
    let P : List ℕ → Type 0 = λ zs. IsPermutation before zs in
    subst P (sym e) (IsPermutation-trans before turned (ailing_last a turned) h
    (IsPermutation-filter_both (has_no_node a) (has_node a) (λ n. sym (not-not (has_node a n))) turned))

-- the set of no nodes has none of them
empty : (n : ℕ) → has_node 0 n ≡ false
empty n = rw zero-div (and-false (nat_lt n 64))

all_fine : (xs : List ℕ) → filter (has_no_node 0) xs ≡ xs
all_fine [] = refl
all_fine (x ∷ xs) = rw (empty x) (ap (λ (ys : List ℕ). x ∷ ys) (all_fine xs))

none_ill : (xs : List ℕ) → filter (has_node 0) xs ≡ []
none_ill [] = refl
none_ill (x ∷ xs) = rw (empty x) (none_ill xs)

pub none_ailing : (xs : List ℕ) → ailing_last 0 xs ≡ xs
none_ailing xs = rw (all_fine xs, none_ill xs) (append-nil xs)
