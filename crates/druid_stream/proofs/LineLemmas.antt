-- The first line of known bytes, read part by part.
use Rattle.std.proofs.Common.{◌≡◌, ◌≢◌, ℕ, ◌+◌, ◌<◌, ◌≤◌, cond, List, [], ◌∷◌, ◌++◌, All, length, length-append, append_assoc, append-nil, Option, None, Some, IfSome, refl, sym, ap, subst, ◌∙◌, arith, ne_eqb}
use Rattle.std.proofs.lemmas.List.Elements.{All-head, All-tail, All-append}
use Rattle.std.proofs.KnownBytes.{Consumes-trans}
use Rattle.std.proofs.BufReadLemmas.{drop_through-append}
use Rattle.std.specs.Io.KnownBytes.{Consumes}
use Rattle.std.specs.Io.BufRead.{drop_through}
use Rattle.druid_stream.specs.Parts.{feed_of, IsPart}
use Rattle.druid_stream.specs.Lines.{line_at}
use Rattle.druid_stream.specs.declared.lines.Part.{Part}
use Rattle.druid_stream.specs.declared.lines.Part.TheVariants.{More, Feed, Ended}

-- no byte is a line feed
abbrev pub IsPlain : List ℕ → Type 0
IsPlain xs = All (λ b. b ≢ 10) xs

pub line_at-append : (xs ys : List ℕ) → IsPlain xs → line_at (xs ++ ys) ≡ xs ++ line_at ys
line_at-append [] ys h = refl
line_at-append (x ∷ xs) ys h =
    ap (λ b. cond b [] (x ∷ line_at (xs ++ ys))) (ne_eqb x 10 (All-head (λ y. y ≢ 10) x xs h))
    ∙ ap (λ l. x ∷ l) (line_at-append xs ys (All-tail (λ y. y ≢ 10) x xs h))

-- the line so far, and one more part
pub grown_plain : (part : Part) (old new : List ℕ) (room : ℕ) (b c : Option (List ℕ)) → IsPlain old → IsPart part old new room b c → IsPlain new
grown_plain part old new room b c plain p = subst IsPlain (sym p.grown) (All-append (λ y. y ≢ 10) old p.front plain p.plain)

pub grown_taken : (part : Part) (old new : List ℕ) (room : ℕ) (a b c : Option (List ℕ)) → Consumes a b old → IsPart part old new room b c → Consumes a c (new ++ feed_of part)
grown_taken part old new room a b c taken p =
    subst (Consumes a c) (sym (append_assoc old p.front (feed_of part)) ∙ ap (λ l. l ++ feed_of part) (sym p.grown)) (Consumes-trans a b c old (p.front ++ feed_of part) taken p.taken)

pub grown_length : (part : Part) (old new : List ℕ) (room : ℕ) (b c : Option (List ℕ)) → IsPart part old new room b c → length new ≤ length old + room
grown_length part old new room b c p = omega (arith, p.short, ap length p.grown, length-append old p.front)

finds_more : (old new : List ℕ) (room : ℕ) (a b c : Option (List ℕ)) → Consumes a b old → IsPart More old new room b c → Consumes a c new
finds_more old new room a b c taken p = subst (Consumes a c) (append-nil new) (grown_taken More old new room a b c taken p)

pub finds_long : (limit : ℕ) (new feed : List ℕ) (a c : Option (List ℕ)) → IsPlain new → limit < length new → Consumes a c (new ++ feed) → IfSome a (λ xs. (0 < length xs) × (limit < length (line_at xs)))
finds_long limit new feed None c plain long taken = tt
finds_long limit new feed (Some xs) None plain long taken = absurd taken
finds_long limit new feed (Some xs) (Some ys) plain long taken =
    let whole : xs ≡ new ++ (feed ++ ys) = taken ∙ append_assoc new feed ys in
    let line : line_at xs ≡ new ++ line_at (feed ++ ys) = ap line_at whole ∙ line_at-append new (feed ++ ys) plain in
    (omega (arith, ap length whole, length-append new (feed ++ ys)), omega (arith, ap length line, length-append new (line_at (feed ++ ys))))

pub finds_feed : (new : List ℕ) (a c : Option (List ℕ)) → IsPlain new → Consumes a c (new ++ 10 ∷ []) → IfSome a (λ xs. (0 < length xs) × (new ≡ line_at xs) × (c ≡ Some (drop_through 10 xs)))
finds_feed new None c plain taken = tt
finds_feed new (Some xs) None plain taken = absurd taken
finds_feed new (Some xs) (Some ys) plain taken =
    let whole : xs ≡ new ++ 10 ∷ ys = taken ∙ append_assoc new (10 ∷ []) ys in (
      omega (arith, ap length whole, length-append new (10 ∷ ys)),
      sym (ap line_at whole ∙ line_at-append new (10 ∷ ys) plain ∙ append-nil new),
      ap Some (sym (ap (drop_through 10) whole ∙ drop_through-append 10 new (10 ∷ ys) plain)),
    )

nothing_left : (xs ys zs : List ℕ) → xs ++ ys ≡ [] → (xs ≡ []) × (ys ≡ [])
nothing_left [] ys zs e = (refl, e)
nothing_left (x ∷ xs) ys zs e = absurd (omega (arith, ap length e))

-- at the end of the input
pub finds_last : (old new : List ℕ) (room : ℕ) (a b c : Option (List ℕ)) → IsPlain old → Consumes a b old → IsPart Ended old new room b c → 0 < length new → IfSome a (λ xs. (0 < length xs) × (new ≡ line_at xs) × (c ≡ Some (drop_through 10 xs)))
finds_last old new room None b c plain taken p some = tt
finds_last old new room (Some xs) None c plain taken p some = absurd taken
finds_last old new room (Some xs) (Some ys) None plain taken p some = absurd p.taken
finds_last old new room (Some xs) (Some ys) (Some zs) plain taken p some =
    let none = p.ended refl in
    let parts = nothing_left (p.front ++ []) zs zs (sym p.taken ∙ none) in
    let same : new ≡ old = p.grown ∙ ap (λ l. old ++ l) (sym (append-nil p.front) ∙ parts.0) ∙ append-nil old in
    let whole : xs ≡ old ++ [] = taken ∙ ap (λ l. old ++ l) none in (
      omega (arith, ap length whole, ap length same, length-append {A = ℕ} old []),
      same ∙ sym (ap line_at whole ∙ line_at-append old [] plain ∙ append-nil old),
      ap Some (parts.1 ∙ sym (ap (drop_through 10) whole ∙ drop_through-append 10 old [] plain)),
    )

finds_end : (old new : List ℕ) (room : ℕ) (a b c : Option (List ℕ)) → Consumes a b old → IsPart Ended old new room b c → length new ≡ 0 → IfSome a (λ xs. xs ≡ [])
finds_end old new room None b c taken p none = tt
finds_end old new room (Some xs) None c taken p none = absurd taken
finds_end old new room (Some xs) (Some ys) c taken p none =
    taken ∙ ap (λ l. old ++ l) (p.ended refl) ∙ append-nil old ∙ nil_of old (omega (arith, ap length p.grown, length-append old p.front))
  where
    nil_of : (l : List ℕ) → length l ≡ 0 → l ≡ []
    nil_of [] h = refl
    nil_of (x ∷ l) h = absurd (omega arith)

pub finds_last_at : (part : Part) (old new : List ℕ) (room : ℕ) (a b c : Option (List ℕ)) → part ≡ Ended → IsPlain old → Consumes a b old → IsPart part old new room b c → 0 < length new → IfSome a (λ xs. (0 < length xs) × (new ≡ line_at xs) × (c ≡ Some (drop_through 10 xs)))
finds_last_at More old new room a b c e plain taken p some = absurd cc
finds_last_at Feed old new room a b c e plain taken p some = absurd cc
finds_last_at Ended old new room a b c e plain taken p some = finds_last old new room a b c plain taken p some

pub finds_feed_at : (part : Part) (old new : List ℕ) (room : ℕ) (a b c : Option (List ℕ)) → part ≡ Feed → IsPlain old → Consumes a b old → IsPart part old new room b c → IfSome a (λ xs. (0 < length xs) × (new ≡ line_at xs) × (c ≡ Some (drop_through 10 xs)))
finds_feed_at More old new room a b c e plain taken p = absurd cc
finds_feed_at Feed old new room a b c e plain taken p =
    finds_feed new a c (grown_plain Feed old new room b c plain p) (grown_taken Feed old new room a b c taken p)
finds_feed_at Ended old new room a b c e plain taken p = absurd cc

pub finds_more_at : (part : Part) (old new : List ℕ) (room : ℕ) (a b c : Option (List ℕ)) → part ≡ More → Consumes a b old → IsPart part old new room b c → Consumes a c new
finds_more_at part old new room a b c e taken p = finds_more old new room a b c taken (subst (λ q. IsPart q old new room b c) e p)

pub finds_end_at : (part : Part) (old new : List ℕ) (room : ℕ) (a b c : Option (List ℕ)) → part ≡ Ended → Consumes a b old → IsPart part old new room b c → length new ≡ 0 → IfSome a (λ xs. xs ≡ [])
finds_end_at part old new room a b c e taken p none = finds_end old new room a b c taken (subst (λ q. IsPart q old new room b c) e p) none
