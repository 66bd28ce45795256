-- The number that the codes of a row make.
use Rattle.std.proofs.Common.{◌≡◌, ◌∙◌, ℕ, ◌+◌, ◌*◌, ◌<◌, ◌≤◌, List, [], ◌∷◌, length, get_or, drop, sym, ap, subst, arith}
use Rattle.std.specs.Prelude.{All, IfSome}
use Rattle.std.proofs.Math.Nat.{mul-le-mul_left, mul_comm}
use Rattle.std.proofs.lemmas.List.{drop_more}
use Rattle.std.proofs.lemmas.List.Elements.{All-get_or, All-head, All-tail, All-drop}
use Rattle.druid_partial_scan.specs.Cells.{Column, code_at, HasCode, cell_from, room_from}

pub times_rises : (m n s : ℕ) → m ≤ n → m * s ≤ n * s
times_rises m n s h = rw (mul_comm m s) (rw (mul_comm n s) (mul-le-mul_left s h))

-- where a code is below the size, a number has its own place among those after it
pub one_place : (n s a : ℕ) → a < s → n * s + a + 1 ≤ (n + 1) * s
one_place n s a h = grind (arith, h)

pub room_rises : (cs : List Column) (m n : ℕ) → m ≤ n → room_from cs m ≤ room_from cs n
room_rises [] m n h = h
room_rises (c ∷ cs) m n h = room_rises cs (m * c.size) (n * c.size) (times_rises m n c.size h)

pub room_grows : (cs : List Column) (row n : ℕ) → All (HasCode row) cs → n ≤ room_from cs n
room_grows [] row n h = omega arith
room_grows (c ∷ cs) row n h =
    let below = (All-head (HasCode row) c cs h).below in
    let rest = room_grows cs row (n * c.size) (All-tail (HasCode row) c cs h) in
    let wide : n * 1 ≤ n * c.size = mul-le-mul_left n (omega (arith, below)) in
    omega (arith, rest, wide)

-- one column more
pub record ColumnStep (cs : List Column) (i row n : ℕ) (c : Column) : Type 0 where
  pub there : IfSome c.codes (λ codes. row < length codes)
  pub value : cell_from (drop (i + 1) cs) row (n * c.size + code_at c row) ≡ cell_from (drop i cs) row n
  pub inside : room_from (drop (i + 1) cs) (n * c.size + code_at c row + 1) ≤ room_from (drop i cs) (n + 1)
  pub fits : n * c.size + code_at c row + 1 ≤ room_from (drop i cs) (n + 1)

pub column_step : (cs : List Column) (i row n : ℕ) (c : Column) → i < length cs → c ≡ get_or cs i c → All (HasCode row) cs → ColumnStep cs i row n c
column_step cs i row n c h is all = record {
  there = has.there;
  value = sym (ap (λ l. cell_from l row n) left);
  inside = let e = ap (λ l. room_from l (n + 1)) left in
      let up = room_rises (drop (i + 1) cs) (n * c.size + code_at c row + 1) ((n + 1) * c.size) (one_place n c.size (code_at c row) has.below) in
      rw e up;
  fits = let e = ap (λ l. room_from l (n + 1)) left in
      let up = one_place n c.size (code_at c row) has.below in
      let grown = room_grows (drop (i + 1) cs) row ((n + 1) * c.size) (All-drop (HasCode row) (i + 1) cs all) in
      rw e (omega (arith, up, grown));
}
  where
    has : HasCode row c
    has = let P : Column → Type 0 = HasCode row in subst P (sym is) (All-get_or (HasCode row) cs i c h all)

    left : drop i cs ≡ c ∷ drop (i + 1) cs
    left = drop_more cs i c h ∙ ap (λ x. x ∷ drop (i + 1) cs) (sym is)
