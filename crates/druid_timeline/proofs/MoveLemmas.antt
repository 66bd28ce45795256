-- A middle that is exchanged by moves at the end.
use Rattle.std.proofs.Common.{◌≡◌, ◌+◌, ◌-◌, ◌≤◌, ◌++◌, ℕ, List, [], ◌∷◌, length, take, drop, reverse, refl, sym, ap, ◌∙◌, arith}
use Rattle.std.proofs.lemmas.List.{take-append-drop, length-take, length-take-le, length-drop, length-append, drop-drop, drop_all, append-nil}
use Rattle.std.proofs.Math.Seq.{take-length, take-append-add}
use Rattle.std.specs.Vec.{vec_capacity}
use Rattle.druid_timeline.specs.declared.edit.Edit.{Edit}
use Rattle.druid_timeline.specs.Edited.{spliced, turned}
use Rattle.druid_timeline.specs.Exchanges.{CanExchange, ExchangesBack, exchanged}
use Rattle.druid_timeline.proofs.SweepLemmas.{Run}

assoc : (xs ys zs : List Run) → (xs ++ ys) ++ zs ≡ xs ++ (ys ++ zs)
assoc [] ys zs = refl
assoc (x ∷ xs) ys zs = ap (λ (ws : List Run). x ∷ ws) (assoc xs ys zs)

take_own : (xs ys : List Run) → take (length xs) (xs ++ ys) ≡ xs
take_own [] ys = refl
take_own (x ∷ xs) ys = ap (λ (ws : List Run). x ∷ ws) (take_own xs ys)

drop_own : (xs ys : List Run) → drop (length xs) (xs ++ ys) ≡ ys
drop_own [] ys = refl
drop_own (x ∷ xs) ys = drop_own xs ys

front : (xs ys zs : List Run) (n : ℕ) → zs ≡ xs ++ ys → n ≡ length xs → take n zs ≡ xs
front xs ys zs n e l = ap (take n) e ∙ ap (λ (k : ℕ). take k (xs ++ ys)) l ∙ take_own xs ys

back : (xs ys zs : List Run) (n : ℕ) → zs ≡ xs ++ ys → n ≡ length xs → drop n zs ≡ ys
back xs ys zs n e l = ap (drop n) e ∙ ap (λ (k : ℕ). drop k (xs ++ ys)) l ∙ drop_own xs ys

turned_parts : (a x b zs : List Run) (from count : ℕ) → zs ≡ a ++ (x ++ b) → from ≡ length a → count ≡ length x → turned zs from count ≡ (a ++ b) ++ x
turned_parts a x b zs from count e l m =
    let start = front a (x ++ b) zs from e l in
    let rest = back a (x ++ b) zs from e l in
    let later = back (a ++ x) b zs (from + count) (e ∙ sym (assoc a x b)) (omega (arith, l, m, length-append a x)) in
    let moved = front x b (drop from zs) count rest m in
    rw (start, later, moved) refl

-- ---- an exchange

-- what stands between two places, and after it
between : (xs : List Run) (from to : ℕ) → from ≤ to → drop from xs ≡ take (to - from) (drop from xs) ++ drop to xs
between xs from to order =
    let e : from + (to - from) ≡ to = omega (arith, order) in
    sym (take-append-drop (to - from) (drop from xs)) ∙ ap (λ (ws : List Run). take (to - from) (drop from xs) ++ ws) (drop-drop (to - from) from xs ∙ ap (λ (k : ℕ). drop k xs) e)

length_between : (xs : List Run) (from to : ℕ) → to ≤ length xs → to - from ≡ length (take (to - from) (drop from xs))
length_between xs from to inside = omega (arith, length-take (to - from) (drop from xs), length-drop from xs, inside)

take_two : (xs : List Run) (n m : ℕ) → n ≤ length xs → take n xs ++ take m (drop n xs) ≡ take (n + m) xs
take_two xs n m inside =
    sym (take-append-add (take n xs) (drop n xs) m)
    ∙ ap (λ (ws : List Run). take (length (take n xs) + m) ws) (take-append-drop n xs) ∙ ap (λ (k : ℕ). take (k + m) xs) (length-take-le n xs inside)

pub exchanged_for_fewer : (xs ms swapped others cut left moved : List Run) (from to new less kept : ℕ) → from ≤ to → to ≤ length xs → new ≡ length ms → new ≤ to - from → less ≡ to - from - new → kept ≡ length xs - less
    → swapped ≡ spliced xs from (from + new) (take new ms) → others ≡ take new (drop from xs) ++ drop new ms → cut ≡ turned swapped (from + new) less → left ≡ take kept cut → moved ≡ others ++ drop kept cut
    → (left ≡ spliced xs from to ms) × (moved ≡ take (to - from) (drop from xs))
exchanged_for_fewer xs ms swapped others cut left moved from to new less kept order inside n few l k es eo ec el em =
    (el ∙ front ((a ++ ms) ++ b) x2 cut kept is_cut len_kept, em ∙ ap (λ (ws : List Run). ws ++ drop kept cut) is_others ∙ ap (λ (ws : List Run). x1 ++ ws) (back ((a ++ ms) ++ b) x2 cut kept is_cut len_kept) ∙ both) where
      a : List Run
      a = take from xs

      x1 : List Run
      x1 = take new (drop from xs)

      x2 : List Run
      x2 = take (to - (from + new)) (drop (from + new) xs)

      b : List Run
      b = drop to xs

      own : take new ms ≡ ms
      own = ap (λ (i : ℕ). take i ms) n ∙ take-length ms

      is_others : others ≡ x1
      is_others = eo ∙ ap (λ (ws : List Run). x1 ++ ws) (drop_all new ms (omega (arith, n))) ∙ append-nil x1

      is_swapped : swapped ≡ (a ++ ms) ++ (x2 ++ b)
      is_swapped = es ∙ ap (λ (ws : List Run). (a ++ ws) ++ drop (from + new) xs) own ∙ ap (λ (ws : List Run). (a ++ ms) ++ ws) (between xs (from + new) to (omega (arith, order, few)))

      len_front : from + new ≡ length (a ++ ms)
      len_front = omega (arith, length-append a ms, length-take from xs, n, order, inside)

      len_x2 : less ≡ length x2
      len_x2 = omega (arith, length_between xs (from + new) to inside, l)

      is_cut : cut ≡ ((a ++ ms) ++ b) ++ x2
      is_cut = ec ∙ turned_parts (a ++ ms) x2 b swapped (from + new) less is_swapped len_front len_x2

      len_kept : kept ≡ length ((a ++ ms) ++ b)
      len_kept = omega (arith, length-append (a ++ ms) b, length-drop to xs, len_front, k, l, order, few, inside)

      both : x1 ++ x2 ≡ take (to - from) (drop from xs)
      both =
          let e : new + (to - (from + new)) ≡ to - from = omega (arith, order, few) in
          ap (λ (ws : List Run). x1 ++ take (to - (from + new)) ws) (sym (drop-drop new from xs))
          ∙ take_two (drop from xs) new (to - (from + new)) (omega (arith, length-drop from xs, order, few, inside)) ∙ ap (λ (i : ℕ). take i (drop from xs)) e

-- what was exchanged is exchanged back
pub spliced-back : (xs ms gone : List Run) (from to end : ℕ) → from ≤ to → to ≤ length xs → gone ≡ take (to - from) (drop from xs) → end ≡ from + length ms → spliced (spliced xs from to ms) from end gone ≡ xs
spliced-back xs ms gone from to end order inside g e =
    let len : from ≡ length (take from xs) = omega (arith, length-take from xs, order, inside) in
    let len_two : end ≡ length (take from xs ++ ms) = omega (arith, length-append (take from xs) ms, len, e) in
    let first = front (take from xs) (ms ++ drop to xs) (spliced xs from to ms) from (assoc (take from xs) ms (drop to xs)) len in
    let last = back (take from xs ++ ms) (drop to xs) (spliced xs from to ms) end refl len_two in
    rw (first, last, g) (assoc (take from xs) (take (to - from) (drop from xs)) (drop to xs) ∙ ap (λ (ws : List Run). take from xs ++ ws) (sym (between xs from to order)) ∙ take-append-drop from xs)

length-spliced : (xs ms : List Run) (from to : ℕ) → from ≤ to → to ≤ length xs → length (spliced xs from to ms) + (to - from) ≡ length xs + length ms
length-spliced xs ms from to order inside =
    omega (arith, length-append (take from xs ++ ms) (drop to xs), length-append (take from xs) ms, length-take from xs, length-drop to xs, order, inside)

-- an edit that has what stood there, after an exchange
pub exchanges_back : (old new : List Run) (capacity : ℕ) (edit back : Edit) → CanExchange old capacity edit → length old ≤ capacity → length edit.runs.items ≤ vec_capacity edit.runs
    → new ≡ exchanged old edit → back.from ≡ edit.from → back.to ≡ length new - (length old - edit.to) → back.runs.items ≡ take (edit.to - edit.from) (drop edit.from old) → vec_capacity back.runs ≡ vec_capacity edit.runs
    → ExchangesBack old new capacity back
exchanges_back old new capacity edit back can full own e f t g p = record {
  can = record {
    inside = (omega (arith, f, is_end), omega (arith, is_end, len, can.inside.0, can.inside.1));
    room = omega (arith, is_end, f, len, gone, full, can.inside.0, can.inside.1);
    place = omega (arith, is_end, f, own, p);
  };
  runs =
      ap (λ (rs : List Run). exchanged rs back) e
      ∙ ap (λ (n : ℕ). spliced (exchanged old edit) n back.to back.runs.items) f
      ∙ spliced-back old edit.runs.items back.runs.items edit.from edit.to back.to can.inside.0 can.inside.1 g is_end;
} where
  len : length new + (edit.to - edit.from) ≡ length old + length edit.runs.items
  len = ap (λ (rs : List Run). length rs + (edit.to - edit.from)) e ∙ length-spliced old edit.runs.items edit.from edit.to can.inside.0 can.inside.1

  is_end : back.to ≡ edit.from + length edit.runs.items
  is_end = omega (arith, t, len, can.inside.0, can.inside.1)

  gone : length back.runs.items ≡ edit.to - edit.from
  gone = ap length g ∙ sym (length_between old edit.from edit.to can.inside.1)

-- ---- moved from one end to another, last first

pub record AreMoved (runs others left moved : List Run) : Type 0 where
  pub some : List Run
  pub from : left ++ some ≡ runs
  pub to : moved ≡ others ++ reverse some
