-- A head, line by line.
use Rattle.std.proofs.Common.{◌≡◌, ℕ, ◌+◌, ◌<◌, ◌≤◌, List, [], ◌∷◌, ◌++◌, All, length, drop, length-append, append_assoc, append-nil, Option, None, Some, IfSome, refl, sym, ap, subst, ◌∙◌, arith}
use Rattle.std.proofs.lemmas.List.Elements.{All-nil, All-push}
use Rattle.std.proofs.lemmas.Grind.{flat_map-append}
use Rattle.std.proofs.Math.Seq.{drop-append_seam}
use Rattle.std.proofs.KnownBytes.{Consumes-trans, Consumes-nil}
use Rattle.std.specs.Io.KnownBytes.{Consumes}
use Rattle.druid_stream.specs.Taken.{TakesAtMost}
use Rattle.druid_stream.proofs.TakenLemmas.{takes_more}
use Rattle.druid_http_wire.specs.Frame.{IsPlain, IsBlank, IsTextLine, text_of, IsFramed, IsBegun, EndsInHead, IsLongHead}
use Rattle.druid_http_wire.specs.Parts.{IsLine}
use Rattle.druid_http_wire.specs.Limits.{max_head}
use Rattle.druid_stream.specs.declared.lines.Part.{Part}
use Rattle.druid_stream.specs.declared.lines.Part.TheVariants.{More, Feed, Ended}

-- blank lines of so many bytes were taken, and after them the lines of head
pub record HasLines (passed : ℕ) (head : List ℕ) (a b : Option (List ℕ)) : Type 0 where
  pub blank : List (List ℕ)
  pub lines : List (List ℕ)
  pub blanks : All IsBlank blank
  pub each : All IsTextLine lines
  pub is : head ≡ text_of lines
  pub counted : passed ≡ length (text_of blank)
  pub short : passed + length head ≤ max_head
  pub taken : Consumes a b (text_of blank ++ text_of lines)

-- one line more
pub text_of-push : (lines : List (List ℕ)) (line : List ℕ) → text_of (lines ++ line ∷ []) ≡ text_of lines ++ (line ++ 10 ∷ [])
text_of-push lines line = flat_map-append (λ l. l ++ 10 ∷ []) lines (line ∷ []) ∙ ap (λ t. text_of lines ++ t) (append-nil (line ++ 10 ∷ []))

pub no_lines : (a : Option (List ℕ)) → HasLines 0 [] a a
no_lines a =
    record { blank = []; lines = []; blanks = All-nil IsBlank; each = All-nil IsTextLine; is = refl; counted = refl; short = omega arith; taken = Consumes-nil a }

-- what follows the lines is the line that was taken
beyond : (old mid front : List ℕ) → mid ≡ old ++ front → drop (length old) mid ≡ front
beyond old mid front e = ap (λ l. drop (length old) l) e ∙ drop-append_seam old front

-- what is kept of it, with its line feed
with_feed : (old mid front : List ℕ) (lines : List (List ℕ)) → old ≡ text_of lines → mid ≡ old ++ front → mid ++ 10 ∷ [] ≡ text_of (lines ++ front ∷ [])
with_feed old mid front lines is e =
    ap (λ l. l ++ 10 ∷ []) (e ∙ ap (λ l. l ++ front) is) ∙ append_assoc (text_of lines) front (10 ∷ []) ∙ sym (text_of-push lines front)

with_feed_long : (old mid front : List ℕ) → mid ≡ old ++ front → length (mid ++ 10 ∷ []) ≡ length old + length front + 1
with_feed_long old mid front e = omega (arith, length-append mid (10 ∷ []), ap length e, length-append old front)

pub line_more : (passed : ℕ) (old mid : List ℕ) (room : ℕ) (a b c : Option (List ℕ)) → HasLines passed old a b → IsLine Feed old mid room b c
    → room + passed + length old ≤ max_head → (IsBlank (drop (length old) mid) → ⊥) → HasLines passed (mid ++ 10 ∷ []) a c
line_more passed old mid room a b c h w fits text = record {
  blank = h.blank;
  lines = h.lines ++ w.front ∷ [];
  blanks = h.blanks;
  each = All-push IsTextLine h.lines w.front h.each (w.plain, λ blank. text (subst IsBlank (sym (beyond old mid w.front w.grown)) blank));
  is = with_feed old mid w.front h.lines h.is w.grown;
  counted = h.counted;
  short = omega (arith, fits, w.ends.1, with_feed_long old mid w.front w.grown);
  taken = subst (Consumes a c) all (Consumes-trans a b c (text_of h.blank ++ text_of h.lines) (w.front ++ 10 ∷ []) h.taken w.ends.0);
}
  where
    all : (text_of h.blank ++ text_of h.lines) ++ (w.front ++ 10 ∷ []) ≡ text_of h.blank ++ text_of (h.lines ++ w.front ∷ [])
    all = append_assoc (text_of h.blank) (text_of h.lines) (w.front ++ 10 ∷ []) ∙ ap (λ l. text_of h.blank ++ l) (sym (text_of-push h.lines w.front))

-- no bytes are no lines
pub none_of : (lines : List (List ℕ)) → length (text_of lines) ≡ 0 → text_of lines ≡ []
none_of lines e = nil (text_of lines) e
  where
    nil : (l : List ℕ) → length l ≡ 0 → l ≡ []
    nil [] h = refl
    nil (x ∷ l) h = absurd (omega (arith, h))

pub some_of : (lines : List (List ℕ)) → 0 < length (text_of lines) → 0 < length lines
some_of [] h = absurd (omega (arith, h))
some_of (l ∷ ls) h = omega arith

-- a blank line before all others
pub blank_more : (passed : ℕ) (old mid : List ℕ) (room : ℕ) (a b c : Option (List ℕ)) → HasLines passed old a b → IsLine Feed old mid room b c
    → room + passed + length old ≤ max_head → length old ≡ 0 → IsBlank (drop (length old) mid) → HasLines (passed + length (mid ++ 10 ∷ [])) [] a c
blank_more passed old mid room a b c h w fits empty is_blank = record {
  blank = h.blank ++ w.front ∷ [];
  lines = [];
  blanks = All-push IsBlank h.blank w.front h.blanks (subst IsBlank (beyond old mid w.front w.grown) is_blank);
  each = All-nil IsTextLine;
  is = refl;
  counted = omega (
    arith,
    empty,
    h.counted,
    with_feed_long old mid w.front w.grown,
    ap length (text_of-push h.blank w.front),
    length-append (text_of h.blank) (w.front ++ 10 ∷ []),
    length-append w.front (10 ∷ []),
  );
  short = omega (arith, fits, w.ends.1, with_feed_long old mid w.front w.grown);
  taken = subst (Consumes a c) all (Consumes-trans a b c (text_of h.blank ++ text_of h.lines) (w.front ++ 10 ∷ []) h.taken w.ends.0);
}
  where
    none : text_of h.lines ≡ []
    none = none_of h.lines (omega (arith, empty, ap length h.is))

    all : (text_of h.blank ++ text_of h.lines) ++ (w.front ++ 10 ∷ []) ≡ text_of (h.blank ++ w.front ∷ []) ++ []
    all = ap (λ l. (text_of h.blank ++ l) ++ (w.front ++ 10 ∷ [])) none ∙ ap (λ l. l ++ (w.front ++ 10 ∷ [])) (append-nil (text_of h.blank))
        ∙ sym (text_of-push h.blank w.front) ∙ sym (append-nil (text_of (h.blank ++ w.front ∷ [])))

-- the blank line after the others
pub head_found : (passed : ℕ) (old mid : List ℕ) (room : ℕ) (a b c : Option (List ℕ)) → HasLines passed old a b → IsLine Feed old mid room b c
    → room + passed + length old ≤ max_head → 0 < length old → IsBlank (drop (length old) mid) → IfSome a (λ input. (rest : List ℕ) × (c ≡ Some rest) × IsFramed input (mid ++ 10 ∷ []) rest)
head_found passed old mid room None b c h w fits some is_blank = tt
head_found passed old mid room (Some input) None c h w fits some is_blank = absurd h.taken
head_found passed old mid room (Some input) (Some more) None h w fits some is_blank = absurd w.ends.0
head_found passed old mid room (Some input) (Some more) (Some rest) h w fits some is_blank = (
  rest,
  refl,
  record {
    blank = h.blank;
    blanks = h.blanks;
    is = h.taken ∙ ap (λ l. (text_of h.blank ++ text_of h.lines) ++ l) w.ends.0 ∙ append_assoc (text_of h.blank) (text_of h.lines) ((w.front ++ 10 ∷ []) ++ rest)
        ∙ ap (λ l. text_of h.blank ++ l) (sym (append_assoc (text_of h.lines) (w.front ++ 10 ∷ []) rest) ∙ ap (λ l. l ++ rest) (sym whole));
    framed = record {
      lines = h.lines;
      last = w.front;
      some = some_of h.lines (omega (arith, some, ap length h.is));
      each = h.each;
      empty = subst IsBlank (beyond old mid w.front w.grown) is_blank;
      is = whole;
    };
    short = omega (arith, fits, w.ends.1, h.counted, with_feed_long old mid w.front w.grown);
  },
)
  where
    whole : mid ++ 10 ∷ [] ≡ text_of h.lines ++ (w.front ++ 10 ∷ [])
    whole = ap (λ l. l ++ 10 ∷ []) (w.grown ∙ ap (λ l. l ++ w.front) h.is) ∙ append_assoc (text_of h.lines) w.front (10 ∷ [])

-- what was begun
begun : (passed : ℕ) (old front : List ℕ) (a b : Option (List ℕ)) (h : HasLines passed old a b) → IsPlain front → IsBegun (text_of h.blank ++ (text_of h.lines ++ front)) (text_of h.lines ++ front)
begun passed old front a b h plain = record {
  blank = h.blank;
  lines = h.lines;
  line = front;
  blanks = h.blanks;
  each = h.each;
  plain = plain;
  front_is = refl;
  is = refl;
}

pub ends_in_head : (passed : ℕ) (old mid : List ℕ) (room : ℕ) (a b c : Option (List ℕ)) → HasLines passed old a b → IsLine Ended old mid room b c
    → room + passed + length old ≤ max_head → IfSome a EndsInHead
ends_in_head passed old mid room None b c h w fits = tt
ends_in_head passed old mid room (Some input) None c h w fits = absurd h.taken
ends_in_head passed old mid room (Some input) (Some more) c h w fits = (
  text_of h.lines ++ w.front,
  subst (λ l. IsBegun l (text_of h.lines ++ w.front)) (sym whole) (begun passed old w.front (Some input) (Some more) h w.plain),
  omega (
    arith,
    fits,
    w.ends.1,
    h.counted,
    ap length h.is,
    ap length whole,
    length-append (text_of h.blank) (text_of h.lines ++ w.front),
    length-append (text_of h.lines) w.front,
  ),
)
  where
    whole : input ≡ text_of h.blank ++ (text_of h.lines ++ w.front)
    whole = h.taken ∙ ap (λ l. (text_of h.blank ++ text_of h.lines) ++ l) w.ends.0 ∙ append_assoc (text_of h.blank) (text_of h.lines) w.front

pub head_too_long : (passed : ℕ) (old mid : List ℕ) (room : ℕ) (a b c : Option (List ℕ)) → HasLines passed old a b → IsLine More old mid room b c
    → max_head ≤ room + passed + length old → IfSome a IsLongHead
head_too_long passed old mid room None b c h w fits = tt
head_too_long passed old mid room (Some input) None c h w fits = absurd h.taken
head_too_long passed old mid room (Some input) (Some more) None h w fits = absurd w.ends.1
head_too_long passed old mid room (Some input) (Some more) (Some rest) h w fits = record {
  begun = text_of h.blank ++ (text_of h.lines ++ w.front);
  front = text_of h.lines ++ w.front;
  rest = w.ends.0 ++ rest;
  is = whole;
  begins = begun passed old w.front (Some input) (Some more) h w.plain;
  long = omega (arith, fits, w.ends.2, h.counted, ap length h.is, long);
  over = omega (
    arith,
    fits,
    w.ends.3,
    h.counted,
    ap length h.is,
    long,
    ap length whole,
    length-append (text_of h.blank ++ (text_of h.lines ++ w.front)) (w.ends.0 ++ rest),
    length-append w.ends.0 rest,
  );
}
  where
    whole : input ≡ (text_of h.blank ++ (text_of h.lines ++ w.front)) ++ (w.ends.0 ++ rest)
    whole = h.taken ∙ ap (λ l. (text_of h.blank ++ text_of h.lines) ++ l) (w.ends.1 ∙ append_assoc w.front w.ends.0 rest)
        ∙ sym (append_assoc (text_of h.blank ++ text_of h.lines) w.front (w.ends.0 ++ rest))
        ∙ ap (λ l. l ++ (w.ends.0 ++ rest)) (append_assoc (text_of h.blank) (text_of h.lines) w.front)

    long : length (text_of h.blank ++ (text_of h.lines ++ w.front)) ≡ length (text_of h.blank) + length (text_of h.lines) + length w.front
    long = omega (arith, length-append (text_of h.blank) (text_of h.lines ++ w.front), length-append (text_of h.lines) w.front)

-- ---- how much is taken

-- what was taken, and one read more
pub lines_take : (passed : ℕ) (old : List ℕ) (room : ℕ) (a b c : Option (List ℕ)) → HasLines passed old a b → TakesAtMost (room + 2) b c
    → room + passed + length old ≤ max_head → TakesAtMost (max_head + 2) a c
lines_take passed old room a b c h more fits =
    takes_more (room + 2) (max_head + 2) a b c (text_of h.blank ++ text_of h.lines) h.taken more
    (omega (arith, fits, h.counted, ap length h.is, length-append (text_of h.blank) (text_of h.lines)))

-- ---- the same of a part that is given by an equation, of a head by what it has now

pub long_at : (part : Part) (passed : ℕ) (old mid : List ℕ) (room : ℕ) (a b c : Option (List ℕ)) → part ≡ More → HasLines passed old a b
    → IsLine part old mid room b c → max_head ≤ room + passed + length old → IfSome a IsLongHead
long_at part passed old mid room a b c e h w fits = head_too_long passed old mid room a b c h (subst (λ p. IsLine p old mid room b c) e w) fits

pub end_at : (part : Part) (passed : ℕ) (old mid : List ℕ) (room : ℕ) (a b c : Option (List ℕ)) → part ≡ Ended → HasLines passed old a b
    → IsLine part old mid room b c → room + passed + length old ≤ max_head → IfSome a EndsInHead
end_at part passed old mid room a b c e h w fits = ends_in_head passed old mid room a b c h (subst (λ p. IsLine p old mid room b c) e w) fits

pub found_at : (part : Part) (passed : ℕ) (old mid new : List ℕ) (room : ℕ) (a b c : Option (List ℕ)) → part ≡ Feed → HasLines passed old a b
    → IsLine part old mid room b c → room + passed + length old ≤ max_head → 0 < length old → IsBlank (drop (length old) mid) → new ≡ mid ++ 10 ∷ []
    → IfSome a (λ input. (rest : List ℕ) × (c ≡ Some rest) × IsFramed input new rest)
found_at part passed old mid new room a b c e h w fits some blank is =
    subst (λ l. IfSome a (λ input. (rest : List ℕ) × (c ≡ Some rest) × IsFramed input l rest)) (sym is)
    (head_found passed old mid room a b c h (subst (λ p. IsLine p old mid room b c) e w) fits some blank)

pub more_at : (part : Part) (passed : ℕ) (old mid new : List ℕ) (room : ℕ) (a b c : Option (List ℕ)) → part ≡ Feed → HasLines passed old a b
    → IsLine part old mid room b c → room + passed + length old ≤ max_head → (IsBlank (drop (length old) mid) → ⊥) → new ≡ mid ++ 10 ∷ []
    → HasLines passed new a c
more_at part passed old mid new room a b c e h w fits text is =
    subst (λ l. HasLines passed l a c) (sym is) (line_more passed old mid room a b c h (subst (λ p. IsLine p old mid room b c) e w) fits text)

pub blank_at : (part : Part) (passed then : ℕ) (old mid new : List ℕ) (room : ℕ) (a b c : Option (List ℕ)) → part ≡ Feed → HasLines passed old a b
    → IsLine part old mid room b c → room + passed + length old ≤ max_head → length old ≡ 0 → IsBlank (drop (length old) mid) → new ≡ []
    → then ≡ passed + length (mid ++ 10 ∷ []) → HasLines then new a c
blank_at part passed then old mid new room a b c e h w fits empty blank is counts =
    subst (λ n. HasLines n new a c) (sym counts)
    (subst (λ l. HasLines (passed + length (mid ++ 10 ∷ [])) l a c) (sym is)
    (blank_more passed old mid room a b c h (subst (λ p. IsLine p old mid room b c) e w) fits empty blank))

pub opening : (new : List ℕ) (a : Option (List ℕ)) → new ≡ [] → HasLines 0 new a a
opening new a is = subst (λ l. HasLines 0 l a a) (sym is) (no_lines a)

pub same_line : (start n : ℕ) (bytes mid : List ℕ) → start ≡ n → bytes ≡ mid → IsBlank (drop start bytes) → IsBlank (drop n mid)
same_line start n bytes mid e f blank = subst (λ l. IsBlank (drop n l)) f (subst (λ k. IsBlank (drop k bytes)) e blank)
