-- The values of a metric: one more, those at a place, the first of them.
use Rattle.std.proofs.Common.{◌≡◌, ℕ, ℤ, zero, suc, ◌<◌, ◌≤◌, Bool, true, false, List, [], ◌∷◌, ◌++◌, length, take, get_or, Some, None, All, IfSome, FitsSigned, ap, refl, arith}
use Rattle.std.specs.Int.{w64}
use Rattle.std.proofs.lemmas.List.Elements.{All-nil, All-cons, All-head, All-tail}
use Rattle.druid_segment_rows.specs.Metrics.{unless_null}
use Rattle.druid_segment_rows.specs.Rows.{AreWords}

pub length_values : (ns : List ℤ) (nulls : List Bool) → length (unless_null ns nulls) ≡ length ns
length_values [] nulls = refl
length_values (n ∷ ns) [] = ap suc (length_values ns [])
length_values (n ∷ ns) (true ∷ nulls) = ap suc (length_values ns nulls)
length_values (n ∷ ns) (false ∷ nulls) = ap suc (length_values ns nulls)

-- a mark more that says nothing
pub marked_more : (ns : List ℤ) (nulls : List Bool) → unless_null ns (nulls ++ false ∷ []) ≡ unless_null ns nulls
marked_more [] nulls = refl
marked_more (n ∷ ns) [] = refl
marked_more (n ∷ ns) (true ∷ nulls) = ap (λ vs. None ∷ vs) (marked_more ns nulls)
marked_more (n ∷ ns) (false ∷ nulls) = ap (λ vs. Some n ∷ vs) (marked_more ns nulls)

-- a number more
pub number_more : (ns : List ℤ) (nulls : List Bool) (m : ℤ) → length nulls ≤ length ns → unless_null (ns ++ m ∷ []) nulls ≡ unless_null ns nulls ++ Some m ∷ []
number_more [] [] m h = refl
number_more [] (b ∷ nulls) m h = absurd (omega (arith, h))
number_more (n ∷ ns) [] m h = ap (λ vs. Some n ∷ vs) (number_more ns [] m (omega arith))
number_more (n ∷ ns) (true ∷ nulls) m h = ap (λ vs. None ∷ vs) (number_more ns nulls m (omega (arith, h)))
number_more (n ∷ ns) (false ∷ nulls) m h = ap (λ vs. Some n ∷ vs) (number_more ns nulls m (omega (arith, h)))

-- a null more
pub null_more : (ns : List ℤ) (nulls : List Bool) (m : ℤ) → length nulls ≡ length ns → unless_null (ns ++ m ∷ []) (nulls ++ true ∷ []) ≡ unless_null ns nulls ++ None ∷ []
null_more [] [] m h = refl
null_more [] (b ∷ nulls) m h = absurd (omega (arith, h))
null_more (n ∷ ns) [] m h = absurd (omega (arith, h))
null_more (n ∷ ns) (true ∷ nulls) m h = ap (λ vs. None ∷ vs) (null_more ns nulls m (omega (arith, h)))
null_more (n ∷ ns) (false ∷ nulls) m h = ap (λ vs. Some n ∷ vs) (null_more ns nulls m (omega (arith, h)))

take_numbers : (k : ℕ) (ns : List ℤ) → unless_null (take k ns) [] ≡ take k (unless_null ns [])
take_numbers zero ns = refl
take_numbers (suc k) [] = refl
take_numbers (suc k) (n ∷ ns) = ap (λ vs. Some n ∷ vs) (take_numbers k ns)

-- the first of them
pub take_values : (k : ℕ) (ns : List ℤ) (nulls : List Bool) → unless_null (take k ns) (take k nulls) ≡ take k (unless_null ns nulls)
take_values zero ns nulls = refl
take_values (suc k) [] nulls = refl
take_values (suc k) (n ∷ ns) [] = ap (λ vs. Some n ∷ vs) (take_numbers k ns)
take_values (suc k) (n ∷ ns) (true ∷ nulls) = ap (λ vs. None ∷ vs) (take_values k ns nulls)
take_values (suc k) (n ∷ ns) (false ∷ nulls) = ap (λ vs. Some n ∷ vs) (take_values k ns nulls)

-- ---- the value at a place

pub null_at : (ns : List ℤ) (nulls : List Bool) (row : ℕ) → true ≡ get_or nulls row false → None ≡ get_or (unless_null ns nulls) row None
null_at [] nulls row h = refl
null_at (n ∷ ns) [] zero h = absurd cc
null_at (n ∷ ns) [] (suc row) h = null_at ns [] row h
null_at (n ∷ ns) (true ∷ nulls) zero h = refl
null_at (n ∷ ns) (true ∷ nulls) (suc row) h = null_at ns nulls row h
null_at (n ∷ ns) (false ∷ nulls) zero h = absurd cc
null_at (n ∷ ns) (false ∷ nulls) (suc row) h = null_at ns nulls row h

pub number_at : (ns : List ℤ) (nulls : List Bool) (row : ℕ) (d : ℤ) → row < length ns → false ≡ get_or nulls row false → Some (get_or ns row d) ≡ get_or (unless_null ns nulls) row None
number_at [] nulls row d lt h = absurd (omega (arith, lt))
number_at (n ∷ ns) [] zero d lt h = refl
number_at (n ∷ ns) [] (suc row) d lt h = number_at ns [] row d (omega (arith, lt)) h
number_at (n ∷ ns) (true ∷ nulls) zero d lt h = absurd cc
number_at (n ∷ ns) (true ∷ nulls) (suc row) d lt h = number_at ns nulls row d (omega (arith, lt)) h
number_at (n ∷ ns) (false ∷ nulls) zero d lt h = refl
number_at (n ∷ ns) (false ∷ nulls) (suc row) d lt h = number_at ns nulls row d (omega (arith, lt)) h

-- ---- words

pub words_of : (ns : List ℤ) (nulls : List Bool) → All (FitsSigned w64) ns → AreWords (unless_null ns nulls)
words_of [] nulls h = All-nil (λ number. IfSome number (FitsSigned w64))
words_of (n ∷ ns) [] h =
    All-cons (λ number. IfSome number (FitsSigned w64)) (Some n) (unless_null ns []) (All-head (FitsSigned w64) n ns h) (words_of ns [] (All-tail (FitsSigned w64) n ns h))
words_of (n ∷ ns) (true ∷ nulls) h =
    All-cons (λ number. IfSome number (FitsSigned w64)) None (unless_null ns nulls) tt (words_of ns nulls (All-tail (FitsSigned w64) n ns h))
words_of (n ∷ ns) (false ∷ nulls) h =
    All-cons (λ number. IfSome number (FitsSigned w64)) (Some n) (unless_null ns nulls) (All-head (FitsSigned w64) n ns h) (words_of ns nulls (All-tail (FitsSigned w64) n ns h))
