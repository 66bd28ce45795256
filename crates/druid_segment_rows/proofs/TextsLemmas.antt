-- Where texts stand that lie one after another, and one more text after them.
use Rattle.std.proofs.Common.{◌≡◌, ◌∙◌, ℕ, zero, suc, ◌+◌, ◌-◌, ◌<◌, ◌≤◌, List, [], ◌∷◌, ◌++◌, length, take, drop, slice_index_or, slice_range, ap, sym, refl, subst, arith, ⊎_elim}
use Rattle.std.proofs.lemmas.Bool.{cases_eq}
use Rattle.std.proofs.lemmas.List.{take-append-le, drop-append-le, drop_at, length-append, length-drop, take_all, get_or_append_left}
use Rattle.std.proofs.lemmas.Str.{IsCharBoundary-at_seam, IsCharBoundary-end}
use Rattle.std.specs.Str.{IsUtf8, IsCharBoundary}
use Rattle.druid_segment_rows.specs.Texts.{texts_from, AreEnds, start_from}

pub length_texts : (bytes : List ℕ) (start : ℕ) (ends : List ℕ) → length (texts_from bytes start ends) ≡ length ends
length_texts bytes start [] = refl
length_texts bytes start (e ∷ es) = ap suc (length_texts bytes e es)

-- the text at a place, and where it may be cut out
pub record StandsAt (bytes : List ℕ) (start : ℕ) (ends : List ℕ) (place : ℕ) : Type 0 where
  pub rises : start_from start ends place ≤ slice_index_or ends place 0
  pub begins : IsCharBoundary bytes (start_from start ends place)
  pub stops : IsCharBoundary bytes (slice_index_or ends place 0)
  pub text : slice_index_or (texts_from bytes start ends) place [] ≡ slice_range bytes (start_from start ends place) (slice_index_or ends place 0)

pub stands_at : (bytes : List ℕ) (start : ℕ) (ends : List ℕ) (place : ℕ) → IsCharBoundary bytes start → AreEnds bytes start ends → place < length ends
    → StandsAt bytes start ends place
stands_at bytes start [] place begins are lt = absurd (omega (arith, lt))
stands_at bytes start (e ∷ es) zero begins are lt = record { rises = are.0; begins = begins; stops = are.1; text = refl }
stands_at bytes start (e ∷ es) (suc zero) begins are lt =
    let rest = stands_at bytes e es zero are.1 are.2 (omega (arith, lt)) in
    record { rises = rest.rises; begins = rest.begins; stops = rest.stops; text = rest.text }
stands_at bytes start (e ∷ es) (suc (suc k)) begins are lt =
    let rest = stands_at bytes e es (suc k) are.1 are.2 (omega (arith, lt)) in
    record { rises = rest.rises; begins = rest.begins; stops = rest.stops; text = rest.text }

-- ---- one more text

kept_boundary : (bytes text : List ℕ) (i : ℕ) → IsUtf8 text → IsCharBoundary bytes i → IsCharBoundary (bytes ++ text) i
kept_boundary bytes text i is (le, lead) =
    ⊎_elim (λ (same : length bytes ≡ i). subst (IsCharBoundary (bytes ++ text)) same (IsCharBoundary-at_seam (bytes ++ text) bytes text refl is))
    (λ (apart : length bytes ≡ i → ⊥).
    let less : i < length bytes = omega (arith, le, apart) in
    let here = get_or_append_left bytes text 0 i less in
    (omega (arith, le, length-append bytes text), λ lt big. subst (λ b. 192 ≤ b) (sym here) (lead less (subst (λ b. 128 ≤ b) here big))))
    (cases_eq (length bytes) i)

pub pushed_ends : (bytes text : List ℕ) (start : ℕ) (ends : List ℕ) (last : ℕ) → IsUtf8 text → last ≡ length bytes + length text → AreEnds bytes start ends
    → AreEnds (bytes ++ text) start (ends ++ last ∷ [])
pushed_ends bytes text start [] last is at same =
    let long : last ≡ length (bytes ++ text) = at ∙ sym (length-append bytes text) in
    (omega (arith, same, at), subst (IsCharBoundary (bytes ++ text)) (sym long) (IsCharBoundary-end (bytes ++ text)), long)
pushed_ends bytes text start (e ∷ es) last is at (le, here, rest) =
    (le, kept_boundary bytes text e is here, pushed_ends bytes text e es last is at rest)

kept_range : (bytes text : List ℕ) (a b : ℕ) → a ≤ b → b ≤ length bytes → slice_range (bytes ++ text) a b ≡ slice_range bytes a b
kept_range bytes text a b le end =
    ap (take (b - a)) (drop-append-le a bytes text (omega (arith, le, end)))
    ∙ take-append-le (b - a) (drop a bytes) text (omega (arith, le, end, length-drop a bytes))

last_range : (bytes text : List ℕ) (start last : ℕ) → start ≡ length bytes → last ≡ length bytes + length text → slice_range (bytes ++ text) start last ≡ text
last_range bytes text start last same at =
    ap (take (last - start)) (drop_at bytes text start (sym same)) ∙ take_all (last - start) text (omega (arith, same, at))

pub pushed_texts : (bytes text : List ℕ) (start : ℕ) (ends : List ℕ) (last : ℕ) → last ≡ length bytes + length text → AreEnds bytes start ends
    → texts_from (bytes ++ text) start (ends ++ last ∷ []) ≡ texts_from bytes start ends ++ text ∷ []
pushed_texts bytes text start [] last at same = ap (λ t. t ∷ []) (last_range bytes text start last same at)
pushed_texts bytes text start (e ∷ es) last at (le, here, rest) =
    let one = kept_range bytes text start e le here.0 in
    let more = pushed_texts bytes text e es last at rest in
    λ i. one i ∷ more i
