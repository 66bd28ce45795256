-- Parts of a list.
use Rattle.std.proofs.Common.{◌≡◌, ◌+◌, ◌-◌, min, ℕ, List, length, take, drop, sym, ap, ◌∙◌, inl, inr, arith, nat_le, drop_of_length-le}
use Rattle.std.proofs.lemmas.Bool.{cases_Bool, leb-true, leb-false}
use Rattle.std.proofs.lemmas.List.{take_all, length-drop}
use Rattle.std.proofs.Math.Seq.{take-nil}
use Rattle.std.specs.List.{slice_range}

-- so many elements from a place on, or all there are
pub cut_is : {X : Type 0} (m : ℕ) (xs : List X) (place start end : ℕ) → start ≡ min (length xs) place → end ≡ min (length xs) (start + m)
    → slice_range xs start end ≡ take m (drop place xs)
cut_is m xs place start end s e = elim (cases_Bool (nat_le (length xs) place)) [
  | inl past ↦
      let far = leb-true (length xs) place past in
      let at : start ≡ length xs = omega (arith, s, far) in
      ap (take (end - start)) (drop_of_length-le xs (omega (arith, at))) ∙ take-nil (end - start)
      ∙ sym (take-nil m) ∙ sym (ap (take m) (drop_of_length-le xs far))
  | inr within ↦
      let near = leb-false (length xs) place within in
      let at : start ≡ place = omega (arith, s, near) in
      let n = length-drop place xs in
      elim (cases_Bool (nat_le (length xs) (start + m))) [
        | inl short ↦
            let few = leb-true (length xs) (start + m) short in
            let to : end ≡ length xs = omega (arith, e, few) in
            ap (λ i. take (end - start) (drop i xs)) at ∙ take_all (end - start) (drop place xs) (omega (arith, n, at, to)) ∙ sym (take_all m (drop place xs) (omega (arith, n, at, few)))
        | inr long ↦
            let many = leb-false (length xs) (start + m) long in
            let to : end - start ≡ m = omega (arith, e, many) in
            ap (λ i. take (end - start) (drop i xs)) at ∙ ap (λ i. take i (drop place xs)) to
      ]
]
