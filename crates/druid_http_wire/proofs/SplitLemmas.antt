-- A head in bytes that are at hand, line by line.
use Rattle.std.proofs.Common.{◌≡◌, ℕ, ◌+◌, ◌-◌, ◌<◌, ◌≤◌, List, [], ◌∷◌, ◌++◌, All, length, take, drop, get_or, length-append, append_assoc, refl, sym, ap, ◌∙◌, arith}
use Rattle.std.proofs.lemmas.List.{take-append-drop, drop_more}
use Rattle.std.proofs.lemmas.List.Elements.{All-nil, All-push}
use Rattle.std.proofs.Math.Seq.{take-append_seam}
use Rattle.druid_http_wire.specs.Frame.{IsPlain, IsBlank, IsTextLine, text_of, IsFramed, IsBegun, IsLongHead}
use Rattle.druid_http_wire.specs.Limits.{max_head}
use Rattle.druid_http_wire.proofs.FrameLemmas.{text_of-push, some_of, none_of}

-- a line feed parts the bytes
pub parted : (bytes : List ℕ) (i d : ℕ) → i < length bytes → get_or bytes i d ≡ 10 → bytes ≡ take i bytes ++ 10 ∷ drop (i + 1) bytes
parted bytes i d inside feed =
    sym (take-append-drop i bytes) ∙ ap (λ (l : List ℕ). take i bytes ++ l) (drop_more bytes i d inside ∙ ap (λ (b : ℕ). b ∷ drop (i + 1) bytes) feed)

-- blank lines were passed, and after them, in text, lines that are not
pub record Passes (bytes text rest : List ℕ) : Type 0 where
  pub blank : List (List ℕ)
  pub lines : List (List ℕ)
  pub blanks : All IsBlank blank
  pub each : All IsTextLine lines
  pub is : bytes ≡ text_of blank ++ text
  pub goes : text ≡ text_of lines ++ rest
  pub within : (length rest ≤ length text) × (length text ≤ length bytes)

pub begins : (bytes : List ℕ) → Passes bytes bytes bytes
begins bytes = record { blank = []; lines = []; blanks = All-nil IsBlank; each = All-nil IsTextLine; is = refl; goes = refl; within = (omega arith, omega arith) }

-- a line in front of the rest
length_line : (line next rest : List ℕ) → rest ≡ line ++ 10 ∷ next → length rest ≡ length line + 1 + length next
length_line line next rest e = omega (arith, ap length e, length-append line (10 ∷ next))

-- it goes after those that were passed
pushed : (lines : List (List ℕ)) (line next : List ℕ) → text_of lines ++ (line ++ 10 ∷ next) ≡ text_of (lines ++ line ∷ []) ++ next
pushed lines line next =
    ap (λ (l : List ℕ). text_of lines ++ l) (sym (append_assoc line (10 ∷ []) next)) ∙ sym (append_assoc (text_of lines) (line ++ 10 ∷ []) next)
    ∙ ap (λ (l : List ℕ). l ++ next) (sym (text_of-push lines line))

pub text_line : (bytes text rest line next : List ℕ) → Passes bytes text rest → IsPlain line → rest ≡ line ++ 10 ∷ next → (IsBlank line → ⊥) → Passes bytes text next
text_line bytes text rest line next w plain e some = record {
  blank = w.blank;
  lines = w.lines ++ line ∷ [];
  blanks = w.blanks;
  each = All-push IsTextLine w.lines line w.each (plain, some);
  is = w.is;
  goes = w.goes ∙ ap (λ (l : List ℕ). text_of w.lines ++ l) e ∙ pushed w.lines line next;
  within = (omega (arith, w.within.0, length_line line next rest e), w.within.1);
}

-- how many bytes were passed
passed_length : (bytes text rest : List ℕ) (w : Passes bytes text rest) → length text ≡ length (text_of w.lines) + length rest
passed_length bytes text rest w = omega (arith, ap length w.goes, length-append (text_of w.lines) rest)

pub blank_line : (bytes text rest line next : List ℕ) → Passes bytes text rest → rest ≡ line ++ 10 ∷ next → IsBlank line → length text ≤ length rest → Passes bytes next next
blank_line bytes text rest line next w e blank first = record {
  blank = w.blank ++ line ∷ [];
  lines = [];
  blanks = All-push IsBlank w.blank line w.blanks blank;
  each = All-nil IsTextLine;
  is = w.is ∙ ap (λ (l : List ℕ). text_of w.blank ++ l) (w.goes ∙ ap (λ (l : List ℕ). l ++ rest) none ∙ e) ∙ pushed w.blank line next;
  goes = refl;
  within = (omega arith, omega (arith, w.within.0, w.within.1, length_line line next rest e));
}
  where
    none : text_of w.lines ≡ []
    none = none_of w.lines (omega (arith, first, passed_length bytes text rest w))

-- the line that ends the head
pub head_ends : (bytes text rest line next : List ℕ) (end : ℕ) → Passes bytes text rest → length rest < length text → IsBlank line → rest ≡ line ++ 10 ∷ next
    → end ≡ length text - length next → length bytes ≤ max_head + length next → IsFramed bytes (take end text) next
head_ends bytes text rest line next end w some blank e ends fits = record {
  blank = w.blank;
  blanks = w.blanks;
  is = w.is ∙ ap (λ (l : List ℕ). text_of w.blank ++ l) (whole ∙ ap (λ (l : List ℕ). l ++ next) (sym front));
  framed = record {
    lines = w.lines;
    last = line;
    some = some_of w.lines (omega (arith, some, passed_length bytes text rest w));
    each = w.each;
    empty = blank;
    is = front;
  };
  short = omega (
    arith,
    fits,
    ap length w.is,
    length-append (text_of w.blank) text,
    ap length whole,
    ap length front,
    length-append (text_of w.lines ++ (line ++ 10 ∷ [])) next,
  );
}
  where
    whole : text ≡ (text_of w.lines ++ (line ++ 10 ∷ [])) ++ next
    whole = w.goes ∙ ap (λ (l : List ℕ). text_of w.lines ++ l) (e ∙ sym (append_assoc line (10 ∷ []) next)) ∙ sym (append_assoc (text_of w.lines) (line ++ 10 ∷ []) next)

    long : length (text_of w.lines ++ (line ++ 10 ∷ [])) ≡ end
    long = omega (arith, ends, ap length whole, length-append (text_of w.lines ++ (line ++ 10 ∷ [])) next)

    front : take end text ≡ text_of w.lines ++ (line ++ 10 ∷ [])
    front = ap (λ (n : ℕ). take n text) (sym long) ∙ ap (λ (l : List ℕ). take (length (text_of w.lines ++ (line ++ 10 ∷ []))) l) whole
        ∙ take-append_seam (text_of w.lines ++ (line ++ 10 ∷ [])) next

begun : (bytes text rest line : List ℕ) (w : Passes bytes text rest) → IsPlain line → IsBegun (text_of w.blank ++ (text_of w.lines ++ line)) (text_of w.lines ++ line)
begun bytes text rest line w plain = record {
  blank = w.blank;
  lines = w.lines;
  line = line;
  blanks = w.blanks;
  each = w.each;
  plain = plain;
  front_is = refl;
  is = refl;
}

-- what was begun, and the bytes after it
begun_length : (bytes text rest line more : List ℕ) (w : Passes bytes text rest) → rest ≡ line ++ more
    → length bytes ≡ length (text_of w.blank ++ (text_of w.lines ++ line)) + length more
begun_length bytes text rest line more w e =
    omega (
      arith,
      ap length w.is,
      length-append (text_of w.blank) text,
      passed_length bytes text rest w,
      ap length e,
      length-append line more,
      length-append (text_of w.lines) line,
      length-append (text_of w.blank) (text_of w.lines ++ line),
    )

pub head_is_long : (bytes text rest line more : List ℕ) → Passes bytes text rest → IsPlain line → rest ≡ line ++ more → max_head + length more ≤ length bytes
    → max_head < length bytes → IsLongHead bytes
head_is_long bytes text rest line more w plain e fits above = record {
  begun = text_of w.blank ++ (text_of w.lines ++ line);
  front = text_of w.lines ++ line;
  rest = more;
  is = w.is ∙ ap (λ (l : List ℕ). text_of w.blank ++ l) (w.goes ∙ ap (λ (l : List ℕ). text_of w.lines ++ l) e ∙ sym (append_assoc (text_of w.lines) line more))
      ∙ sym (append_assoc (text_of w.blank) (text_of w.lines ++ line) more);
  begins = begun bytes text rest line w plain;
  long = omega (arith, fits, begun_length bytes text rest line more w e);
  over = above;
}
