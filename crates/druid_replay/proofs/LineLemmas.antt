-- The first line of an input, and the others.
use Rattle.std.proofs.Common.{◌≡◌, ℕ, ◌<◌, Bool, true, false, eqb, cond, List, [], ◌∷◌, length, refl, ap, arith}
use Rattle.std.specs.Io.BufRead.{drop_through}
use Rattle.druid_stream.specs.Lines.{line_at}
use Rattle.druid_replay.specs.Lines.{lines_of, onto_first}

pub lines_of-first : (xs : List ℕ) → 0 < length xs → lines_of xs ≡ line_at xs ∷ lines_of (drop_through 10 xs)
lines_of-first [] h = absurd (omega arith)
lines_of-first (x ∷ xs) h = by (eqb x 10) xs (λ more. lines_of-first xs more)
  where
    by : (b : Bool) (zs : List ℕ) → (0 < length zs → lines_of zs ≡ line_at zs ∷ lines_of (drop_through 10 zs))
        → cond b ([] ∷ lines_of zs) (onto_first x (lines_of zs)) ≡ cond b [] (x ∷ line_at zs) ∷ lines_of (cond b zs (drop_through 10 zs))
    by true zs again = refl
    by false [] again = refl
    by false (y ∷ ys) again = ap (onto_first x) (again (omega arith))
