-- What a walk over rows of paths, and one row of paths and a part, finds.
use Rattle.std.proofs.Common.{◌≡◌, ℕ, zero, suc, ◌-◌, ◌==◌, ◌&&◌, Bool, true, false, not, cond, ◌||◌, List, [], ◌∷◌, ◌++◌, length, take, drop, Option, Some, None, bytes_eq, nat_lt, refl, sym, ap, ◌∙◌, arith}
use Rattle.std.specs.List.{list_any, list_all, AllByRecursion}
use Rattle.std.specs.Cmp.{nat_eq_equiv}
use Rattle.std.proofs.lemmas.Bool.{le-leb, not-true}
use Rattle.matchit.specs.Rows.{RowsOf}
use Rattle.matchit.specs.Seek.{own, step, or_else, seek, param_step, has_slash}
use Rattle.druid_broker.specs.Routes.{is_part}

same_either_way : (a b : ℕ) → (a == b) ≡ (b == a)
same_either_way a b = nat_eq_equiv.symm a b

and_first : (a b : Bool) → (a && b) ≡ true → a ≡ true
and_first true b h = refl
and_first false b h = h

and_last : (a b : Bool) → (a && b) ≡ true → b ≡ true
and_last true b h = h
and_last false b h = absurd (cc)

-- no token of it is a part
abbrev pub plain : List ℕ → Bool
plain w = list_all (λ x. not (x == 256) && not (x == 257)) w

is_no_param : (x : ℕ) (w : List ℕ) → plain (x ∷ w) ≡ true → (x == 256) ≡ false
is_no_param x w h = not-true (x == 256) (and_first (not (x == 256)) (not (x == 257)) (and_first (not (x == 256) && not (x == 257)) (plain w) h))

is_no_catch : (x : ℕ) (w : List ℕ) → plain (x ∷ w) ≡ true → (x == 257) ≡ false
is_no_catch x w h = not-true (x == 257) (and_last (not (x == 256)) (not (x == 257)) (and_first (not (x == 256) && not (x == 257)) (plain w) h))

plain_tail : (x : ℕ) (w : List ℕ) → plain (x ∷ w) ≡ true → plain w ≡ true
plain_tail x w h = and_last (not (x == 256) && not (x == 257)) (plain w) h

slash_reports : (path : List ℕ) → has_slash path ≡ list_any (λ b. b == 47) path
slash_reports [] = refl
slash_reports (b ∷ path) = by (b == 47) (slash_reports path)
  where
    by : (v : Bool) → has_slash path ≡ list_any (λ b. b == 47) path → cond v true (has_slash path) ≡ (v || list_any (λ b. b == 47) path)
    by true same = refl
    by false same = same

some_bytes : (b : ℕ) (path : List ℕ) → nat_lt 0 (length (b ∷ path)) ≡ true
some_bytes b path = le-leb 1 (length (b ∷ path)) (omega arith)

module _ {K : Type 0} where
  abbrev pub ArePlain : RowsOf K → Type 0
  ArePlain [] = Unit {0}
  ArePlain ((t, k) ∷ rest) = (plain t ≡ true) × ArePlain rest

  -- the first row of just this path
  abbrev pub literal : RowsOf K → List ℕ → Option K
  literal [] path = None
  literal ((t, k) ∷ rest) path = cond (bytes_eq path t) (Some k) (literal rest path)

  none_more : (a : Option K) → or_else a None ≡ a
  none_more None = refl
  none_more (Some k) = refl

  no_param : (rs : RowsOf K) → ArePlain rs → step 256 rs ≡ []
  no_param [] h = refl
  no_param (([], k) ∷ rest) h = no_param rest h.1
  no_param ((x ∷ t, k) ∷ rest) h = ap (λ b. cond b ((t, k) ∷ step 256 rest) (step 256 rest)) (is_no_param x t h.0) ∙ no_param rest h.1

  no_catch : (rs : RowsOf K) → ArePlain rs → step 257 rs ≡ []
  no_catch [] h = refl
  no_catch (([], k) ∷ rest) h = no_catch rest h.1
  no_catch ((x ∷ t, k) ∷ rest) h = ap (λ b. cond b ((t, k) ∷ step 257 rest) (step 257 rest)) (is_no_catch x t h.0) ∙ no_catch rest h.1

  still_plain : (b : ℕ) (rs : RowsOf K) → ArePlain rs → ArePlain (step b rs)
  still_plain b [] h = tt
  still_plain b (([], k) ∷ rest) h = still_plain b rest h.1
  still_plain b ((x ∷ t, k) ∷ rest) h = by (x == b) (plain_tail x t h.0) (still_plain b rest h.1)
    where
      by : (v : Bool) → plain t ≡ true → ArePlain (step b rest) → ArePlain (cond v ((t, k) ∷ step b rest) (step b rest))
      by true p q = (p, q)
      by false p q = q

  -- no rows
  none_stepped : (path : List ℕ) → (param_step {K = K} [] path).1 ≡ []
  unfolding param_step
  none_stepped path =
      elim (has_slash path) as (λ v. (cond {A = ℕ × RowsOf K} v (0, []) (length path, [])).1 ≡ []) [
        | true ↦ refl
        | false ↦ refl
      ]

  nothing : (skip : ℕ) (path : List ℕ) → seek {K = K} skip [] path ≡ None
  unfolding seek
  nothing skip [] = refl
  nothing (suc skip) (b ∷ path) = nothing skip path
  nothing zero (b ∷ path) = simp (nothing 0 path, none_stepped (b ∷ path), nothing (((param_step {K = K} [] (b ∷ path)).0) - 1) path)

  -- rows of paths, once a byte is read
  literal_step : (b : ℕ) (rs : RowsOf K) (path : List ℕ) → literal (step b rs) path ≡ literal rs (b ∷ path)
  literal_step b [] path = refl
  literal_step b (([], k) ∷ rest) path = literal_step b rest path
  literal_step b ((x ∷ t, k) ∷ rest) path =
      by (x == b) (literal_step b rest path) ∙ ap (λ v. cond (v && bytes_eq path t) (Some k) (literal rest (b ∷ path))) (same_either_way x b)
    where
      by : (v : Bool) → literal (step b rest) path ≡ literal rest (b ∷ path)
          → literal (cond v ((t, k) ∷ step b rest) (step b rest)) path ≡ cond (v && bytes_eq path t) (Some k) (literal rest (b ∷ path))
      by true same = ap (λ r. cond (bytes_eq path t) (Some k) r) same
      by false same = same

  own_literal : (rs : RowsOf K) → own rs ≡ literal rs []
  own_literal [] = refl
  own_literal (([], k) ∷ rest) = refl
  own_literal ((x ∷ t, k) ∷ rest) = own_literal rest

  -- a byte of a row that has no part in front
  pub on_byte : (rs : RowsOf K) (b : ℕ) (path : List ℕ) → step 256 rs ≡ [] → step 257 rs ≡ [] → seek 0 rs (b ∷ path) ≡ seek 0 (step b rs) path
  unfolding seek
  on_byte rs b path p q =
      simp (p, q, none_stepped (b ∷ path), nothing (((param_step {K = K} [] (b ∷ path)).0) - 1) path, none_more)

  pub seek_plain : (rs : RowsOf K) (path : List ℕ) → ArePlain rs → seek 0 rs path ≡ literal rs path
  unfolding seek
  seek_plain rs [] h = own_literal rs
  seek_plain rs (b ∷ path) h =
      on_byte rs b path (no_param rs h) (no_catch rs h) ∙ seek_plain (step b rs) path (still_plain b rs h) ∙ literal_step b rs path

  -- ---- a part of a path after a front

  -- the row of the front and a part, if the path is such
  abbrev pub with_part : List ℕ → K → List ℕ → Option K
  with_part [] k path = cond (is_part path) (Some k) None
  with_part (x ∷ w) k [] = None
  with_part (x ∷ w) k (b ∷ path) = cond (x == b) (with_part w k path) None

  -- what the part is of is skipped
  skipped : (k : K) (path : List ℕ) → seek (length path) (([], k) ∷ []) path ≡ Some k
  unfolding seek
  skipped k [] = refl
  skipped k (b ∷ path) = skipped k path

  -- the part that begins here
  part_here : (k : K) (b : ℕ) (path : List ℕ)
      → seek ((param_step (([], k) ∷ []) (b ∷ path)).0 - 1) (param_step (([], k) ∷ []) (b ∷ path)).1 path ≡ with_part [] k (b ∷ path)
  unfolding param_step
  part_here k b path = by (has_slash (b ∷ path)) ∙ ap (λ v. cond (not v) (Some k) None) (slash_reports (b ∷ path))
      ∙ ap (λ v. cond (v && not (list_any (λ x. x == 47) (b ∷ path))) (Some k) None) (sym (some_bytes b path))
    where
      by : (v : Bool) → seek ((cond {A = ℕ × RowsOf K} v (0, []) (length (b ∷ path), ([], k) ∷ [])).0 - 1) (cond {A = ℕ × RowsOf K} v (0, []) (length (b ∷ path), ([], k) ∷ [])).1 path
          ≡ cond (not v) (Some k) None
      by true = nothing 0 path
      by false = let e : suc (length path) - 1 ≡ length path = omega arith in ap (λ n. seek n (([], k) ∷ []) path) e ∙ skipped k path

  part_begins : (k : K) (rs : RowsOf K) (b : ℕ) (path : List ℕ) → ArePlain rs → (256 == b) ≡ false
      → seek 0 ((256 ∷ [], k) ∷ rs) (b ∷ path) ≡ or_else (literal rs (b ∷ path)) (with_part [] k (b ∷ path))
  unfolding seek
  part_begins k rs b path h low =
      simp (low, no_param rs h, no_catch rs h, seek_plain (step b rs) path (still_plain b rs h), literal_step b rs path, none_more, part_here k b path)

  not_ended : (w : List ℕ) (k : K) (rs : RowsOf K) → own ((w ++ 256 ∷ [], k) ∷ rs) ≡ own rs
  not_ended [] k rs = refl
  not_ended (x ∷ w) k rs = refl

  no_part : (w : List ℕ) (k : K) → with_part w k [] ≡ None
  no_part [] k = refl
  no_part (x ∷ w) k = refl

  pub seek_part : (w : List ℕ) (k : K) (rs : RowsOf K) (path : List ℕ) → plain w ≡ true → ArePlain rs → AllByRecursion (λ b. (256 == b) ≡ false) path
      → seek 0 ((w ++ 256 ∷ [], k) ∷ rs) path ≡ or_else (literal rs path) (with_part w k path)
  unfolding seek
  seek_part w k rs [] p h low = not_ended w k rs ∙ own_literal rs ∙ sym (none_more (literal rs [])) ∙ ap (λ o. or_else (literal rs []) o) (sym (no_part w k))
  seek_part [] k rs (b ∷ path) p h low = part_begins k rs b path h low.0
  seek_part (x ∷ w) k rs (b ∷ path) p h low =
      on_byte ((x ∷ w ++ 256 ∷ [], k) ∷ rs) b path
      (ap (λ v. cond v ((w ++ 256 ∷ [], k) ∷ step 256 rs) (step 256 rs)) (is_no_param x w p) ∙ no_param rs h)
      (ap (λ v. cond v ((w ++ 256 ∷ [], k) ∷ step 257 rs) (step 257 rs)) (is_no_catch x w p) ∙ no_catch rs h)
      ∙ by (x == b) (seek_part w k (step b rs) path (plain_tail x w p) (still_plain b rs h) low.1) (seek_plain (step b rs) path (still_plain b rs h))
      ∙ ap (λ o. or_else o (cond (x == b) (with_part w k path) None)) (literal_step b rs path)
    where
      by : (v : Bool) → seek 0 ((w ++ 256 ∷ [], k) ∷ step b rs) path ≡ or_else (literal (step b rs) path) (with_part w k path)
          → seek 0 (step b rs) path ≡ literal (step b rs) path
          → seek 0 (cond v ((w ++ 256 ∷ [], k) ∷ step b rs) (step b rs)) path ≡ or_else (literal (step b rs) path) (cond v (with_part w k path) None)
      by true here next = here
      by false here next = next ∙ sym (none_more (literal (step b rs) path))

  -- the same by the front and what is after it
  pub part_beyond : (w : List ℕ) (k : K) (path : List ℕ)
      → with_part w k path ≡ cond (bytes_eq (take (length w) path) w && is_part (drop (length w) path)) (Some k) None
  part_beyond [] k path = refl
  part_beyond (x ∷ w) k [] = refl
  part_beyond (x ∷ w) k (b ∷ path) = by (x == b) (part_beyond w k path)
      ∙ ap (λ v. cond ((v && bytes_eq (take (length w) path) w) && is_part (drop (length w) path)) (Some k) None) (same_either_way x b)
    where
      by : (v : Bool) → with_part w k path ≡ cond (bytes_eq (take (length w) path) w && is_part (drop (length w) path)) (Some k) None
          → cond v (with_part w k path) None ≡ cond ((v && bytes_eq (take (length w) path) w) && is_part (drop (length w) path)) (Some k) None
      by true here = here
      by false here = refl
