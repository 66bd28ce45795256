-- A line, out of its parts.
use Rattle.std.proofs.Common.{◌≡◌, ◌≢◌, ℕ, ◌+◌, ◌<◌, ◌≤◌, List, [], ◌∷◌, ◌++◌, All, length, length-append, append_assoc, append-nil, Option, None, Some, IfSome, refl, sym, ap, subst, ◌∙◌, arith}
use Rattle.std.proofs.lemmas.List.Elements.{All-nil, All-append}
use Rattle.std.proofs.KnownBytes.{Consumes-trans, Consumes-nil}
use Rattle.std.specs.Io.KnownBytes.{Consumes, IsAtEnd}
use Rattle.druid_stream.specs.Parts.{feed_of, IsPart}
use Rattle.druid_stream.specs.Taken.{TakesAtMost}
use Rattle.druid_stream.proofs.TakenLemmas.{takes_front}
use Rattle.druid_http_wire.specs.Parts.{IsLine}
use Rattle.druid_stream.specs.declared.lines.Part.{Part}
use Rattle.druid_stream.specs.declared.lines.Part.TheVariants.{More, Feed, Ended}

-- old has grown by bytes at the reader's front, which have no line feed, and by one more than there is room for at most
pub record HasGrown (room : ℕ) (old new : List ℕ) (a b : Option (List ℕ)) : Type 0 where
  pub front : List ℕ
  pub grown : new ≡ old ++ front
  pub plain : All (λ x. x ≢ 10) front
  pub taken : Consumes a b front
  pub within : length front ≤ room + 1

pub not_grown : (room : ℕ) (old : List ℕ) (a : Option (List ℕ)) → HasGrown room old old a a
not_grown room old a =
    record { front = []; grown = sym (append-nil old); plain = All-nil (λ x. x ≢ 10); taken = Consumes-nil a; within = omega arith }

pub grown_long : (room : ℕ) (old new : List ℕ) (a b : Option (List ℕ)) → HasGrown room old new a b → length old ≤ length new
grown_long room old new a b g = omega (arith, ap length g.grown, length-append old g.front)

-- what old grew by on the whole, with what is taken after it
pub grown_front : (part : Part) (old mid new : List ℕ) (room left : ℕ) (a b c : Option (List ℕ)) → HasGrown room old mid a b → IsPart part mid new left b c
    → (front : List ℕ) × (new ≡ old ++ front) × All (λ x. x ≢ 10) front × Consumes a c (front ++ feed_of part)
grown_front part old mid new room left a b c g p = (
  g.front ++ p.front,
  p.grown ∙ ap (λ l. l ++ p.front) g.grown ∙ append_assoc old g.front p.front,
  All-append (λ x. x ≢ 10) g.front p.front g.plain p.plain,
  subst (Consumes a c) (sym (append_assoc g.front p.front (feed_of part))) (Consumes-trans a b c g.front (p.front ++ feed_of part) g.taken p.taken),
)

grown_by : (old new front : List ℕ) → new ≡ old ++ front → length new ≡ length old + length front
grown_by old new front e = ap length e ∙ length-append old front

-- there was room for one byte more than was left
part_within : (part : Part) (old mid new front : List ℕ) (room left : ℕ) (b c : Option (List ℕ)) → IsPart part mid new left b c → new ≡ old ++ front
    → length mid + left ≤ length old + room + 1 → length front ≤ room + 1
part_within part old mid new front room left b c p e fits = omega (arith, fits, p.short, grown_by mid new p.front p.grown, grown_by old new front e)

pub grown_more : (old mid new : List ℕ) (room left : ℕ) (a b c : Option (List ℕ)) → HasGrown room old mid a b → IsPart More mid new left b c
    → length mid + left ≤ length old + room + 1 → HasGrown room old new a c
grown_more old mid new room left a b c g p fits =
    let w = grown_front More old mid new room left a b c g p in
    record { front = w.0; grown = w.1; plain = w.2; taken = subst (Consumes a c) (append-nil w.0) w.3; within = part_within More old mid new w.0 room left b c p w.1 fits }

pub line_feed : (old mid new : List ℕ) (room left : ℕ) (a b c : Option (List ℕ)) → HasGrown room old mid a b → IsPart Feed mid new left b c
    → length new < length old + room → IsLine Feed old new room a c
line_feed old mid new room left a b c g p short =
    let w = grown_front Feed old mid new room left a b c g p in
    record { front = w.0; grown = w.1; plain = w.2; ends = (w.3, omega (arith, short, grown_by old new w.0 w.1)) }

pub line_full : (old new : List ℕ) (room : ℕ) (a b : Option (List ℕ)) → HasGrown room old new a b → length old + room < length new → IsLine More old new room a b
line_full old new room a b g long =
    record {
      front = g.front;
      grown = g.grown;
      plain = g.plain;
      ends = ([], subst (Consumes a b) (sym (append-nil g.front)) g.taken, omega (arith, long, grown_by old new g.front g.grown), omega (arith, long, grown_by old new g.front g.grown));
    }

pub line_full_feed : (old mid new : List ℕ) (room left : ℕ) (a b c : Option (List ℕ)) → HasGrown room old mid a b → IsPart Feed mid new left b c
    → length old + room ≤ length new → IsLine More old new room a c
line_full_feed old mid new room left a b c g p long =
    let w = grown_front Feed old mid new room left a b c g p in
    record { front = w.0; grown = w.1; plain = w.2; ends = (10 ∷ [], w.3, omega (arith, long, grown_by old new w.0 w.1), omega (arith, long, grown_by old new w.0 w.1)) }

pub line_end : (old mid new : List ℕ) (room left : ℕ) (a b c : Option (List ℕ)) → HasGrown room old mid a b → IsPart Ended mid new left b c
    → length mid ≤ length old + room → IsLine Ended old new room a c
unfolding grown_front
line_end old mid new room left a b c g p fits =
    let w = grown_front Ended old mid new room left a b c g p in
    record { front = w.0; grown = w.1; plain = w.2; ends = whole a b c (p.ended refl) g.taken p.taken }
  where
    nil : (l ys : List ℕ) → (l ++ []) ++ ys ≡ [] → l ≡ []
    nil [] ys e = refl
    nil (x ∷ l) ys e = absurd (omega (arith, ap length e))

    whole : (a b c : Option (List ℕ)) → IsAtEnd b → Consumes a b g.front → Consumes b c (p.front ++ [])
        → IfSome a (λ xs. (xs ≡ g.front ++ p.front) × (length (g.front ++ p.front) ≤ room))
    whole None b c end taken more = tt
    whole (Some xs) None c end taken more = absurd taken
    whole (Some xs) (Some ys) None end taken more = absurd more
    whole (Some xs) (Some ys) (Some zs) end taken more =
        let none = nil p.front zs (sym more ∙ end) in (
          taken ∙ ap (λ l. g.front ++ l) (end ∙ sym none),
          omega (arith, fits, grown_by old mid g.front g.grown, length-append g.front p.front, ap length none),
        )

-- ---- how much is taken

feed_short : (part : Part) → length (feed_of part) ≤ 1
feed_short More = omega arith
feed_short Feed = omega arith
feed_short Ended = omega arith

pub part_takes : (part : Part) (old mid new : List ℕ) (room left : ℕ) (a b c : Option (List ℕ)) → HasGrown room old mid a b → IsPart part mid new left b c
    → length mid + left ≤ length old + room + 1 → TakesAtMost (room + 2) a c
part_takes part old mid new room left a b c g p fits =
    let w = grown_front part old mid new room left a b c g p in
    takes_front (room + 2) a c (w.0 ++ feed_of part) w.3
    (omega (arith, part_within part old mid new w.0 room left b c p w.1 fits, feed_short part, length-append w.0 (feed_of part)))

-- ---- the same of a part that is given by an equation

pub part_long : (part : Part) (old mid new : List ℕ) (room left : ℕ) (a b c : Option (List ℕ)) → HasGrown room old mid a b → IsPart part mid new left b c → length old ≤ length new
part_long part old mid new room left a b c g p = omega (arith, grown_by old mid g.front g.grown, grown_by mid new p.front p.grown)

pub more_at : (part : Part) (old mid new : List ℕ) (room left : ℕ) (a b c : Option (List ℕ)) → part ≡ More → HasGrown room old mid a b → IsPart part mid new left b c
    → length mid + left ≤ length old + room + 1 → HasGrown room old new a c
more_at part old mid new room left a b c e g p fits = grown_more old mid new room left a b c g (subst (λ q. IsPart q mid new left b c) e p) fits

pub feed_at : (part : Part) (old mid new : List ℕ) (room left : ℕ) (a b c : Option (List ℕ)) → part ≡ Feed → HasGrown room old mid a b → IsPart part mid new left b c
    → length new < length old + room → IsLine Feed old new room a c
feed_at part old mid new room left a b c e g p short = line_feed old mid new room left a b c g (subst (λ q. IsPart q mid new left b c) e p) short

pub full_at : (part : Part) (old mid new : List ℕ) (room left : ℕ) (a b c : Option (List ℕ)) → part ≡ Feed → HasGrown room old mid a b → IsPart part mid new left b c
    → length old + room ≤ length new → IsLine More old new room a c
full_at part old mid new room left a b c e g p long = line_full_feed old mid new room left a b c g (subst (λ q. IsPart q mid new left b c) e p) long

pub end_at : (part : Part) (old mid new : List ℕ) (room left : ℕ) (a b c : Option (List ℕ)) → part ≡ Ended → HasGrown room old mid a b → IsPart part mid new left b c
    → length mid ≤ length old + room → IsLine Ended old new room a c
end_at part old mid new room left a b c e g p fits = line_end old mid new room left a b c g (subst (λ q. IsPart q mid new left b c) e p) fits
