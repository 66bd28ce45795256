-- A segment, read and written.
use Rattle.std.proofs.Common.{◌≡◌, ℕ, ◌+◌, ◌-◌, ◌<◌, ◌≤◌, ◌⊎◌, Bool, true, false, ◌&&◌, cond, eqb, ltb, leb, List, [], ◌++◌, length, take, Option, Some, None, Result, Ok, Err, refl, sym, ap, subst, ◌∙◌, append_assoc, arith, min, inl, inr, rules}
use Rattle.std.specs.Prelude.{IfOk, IfSome, bytes_eq}
use Rattle.std.specs.Cmp.Lexicographic.{bytes_decides}
use Rattle.std.specs.Str.{IsUtf8}
use Rattle.std.proofs.lemmas.Bool.{and_parts, and_left, and_right, and_from, cond-true, cond-false, cases_lt, eqb-true, leb-true, le-leb, lt-leb, lt-ltb, le-ltb, ne_eqb}
use Rattle.std.proofs.lemmas.List.{append-nil, length-append, length-take, nil_from_length, take_all, take_min, take-take}
use Rattle.std.proofs.lemmas.List.Elements.{All-weaker}
use Rattle.std.proofs.Math.Seq.{take-append-add}
use Rattle.druid_time.specs.Extent.{Extent, IsExtent}
use Rattle.druid_segment_rows.specs.Rows.{Schema, Row, HasShape, IsInside, HasShortValues, max_value}
use Rattle.druid_segment_rows.specs.Segment.{Segment, IsSegment, max_text, text_length}
use Rattle.druid_segment_file.specs.declared.fault.FileFault.{FileFault}
use Rattle.druid_segment_file.specs.declared.fault.FileFault.TheVariants.{Magic, Cut, Field, RowOutside, TooLong, Trailing, Read, Write, Memory}
use Rattle.druid_segment_file.specs.ByteParts.{magic, spelling, AreValues, Fits}
use Rattle.druid_segment_file.specs.ColumnBytes.{column_magic, Coded, AreCoded, column_spelling, IsColumnSpelling}
use Rattle.druid_segment_file.specs.Layouts.{IsFileOf}
use Rattle.druid_time.specs.Results.{◌>>=◌}
use Rattle.druid_segment_file.specs.Parts.{shape_of}
use Rattle.druid_segment_file.specs.ColumnReader.{Columns, column_content_at}
use Rattle.druid_segment_file.specs.Reader.{GivesInMemory, GivesOfReader, Cursor, row_content_at, content_in, content_at, short_of, segment_within, segment_at}
use Rattle.druid_segment_file.proofs.PartLemmas.{bind_ok, passed_ok, IsBytes, IsBytes-take, Takes, Takes-then, step_takes, step_again, bytes_read}
use Rattle.druid_segment_file.proofs.RowLemmas.{IsTextValue, IsRow}
use Rattle.druid_segment_file.proofs.LengthLemmas.{length_spelling}
use Rattle.druid_segment_file.proofs.ContentLemmas.{IsContent, row_body, row_spelled, row_content_takes, row_content_again}
use Rattle.druid_segment_file.proofs.ColumnLemmas.{columns_of, column_body, column_spelled, IsRead, column_content_takes, column_content_again, one_list}
use Rattle.druid_segment_file.proofs.FrontLemmas.{front_short, IsOfBytes, within_own}

-- ---- the layouts

-- what follows the name of one layout, or of the other
which : (short : FileFault) (name bytes : List ℕ) (x : Segment × List ℕ) (rows columns : Bool) → cond rows (row_content_at short bytes) (cond columns (column_content_at short bytes) (Err Magic)) ≡ Ok x
    → ((rows ≡ true) × (row_content_at short bytes ≡ Ok x)) ⊎ ((columns ≡ true) × (column_content_at short bytes ≡ Ok x))
which short name bytes x true columns e = inl (refl, e)
which short name bytes x false true e = inr (refl, e)
which short name bytes x false false e = absurd cc

-- a segment that is read, and the bytes that it is spelled in
record IsFound (text : List ℕ) (s : Segment) : Type 0 where
  pub spelled : IsFileOf text s
  pub content : IsContent s
  pub fits : length text ≤ max_text → text_length s ≤ max_text

by_columns : (bytes rest after : List ℕ) (s : Segment) (columns : Columns) → Takes bytes column_magic rest → Takes rest (column_body s columns) after → IsRead s columns → (text : List ℕ) × Takes bytes text after × IsFound text s
by_columns bytes rest after s columns t1 t2 is =
    let text = column_magic ++ column_body s columns in
    let same : text ≡ column_spelling s columns.dimensions = ap (λ (c : Columns). column_magic ++ column_body s c) (sym is.back) ∙ sym (column_spelled s columns.dimensions) in
    (text, Takes-then bytes column_magic rest (column_body s columns) after t1 t2, record { spelled = inr (columns.dimensions, is.coded, same); content = is.content; fits = λ short. is.short })

content_takes : (short : FileFault) (bytes : List ℕ) (x : Segment × List ℕ) → IsBytes bytes → content_at short bytes ≡ Ok x → (text : List ℕ) × Takes bytes text x.1 × IsFound text x.0
unfolding content_at content_in
content_takes short bytes x fits e =
    let s = step_takes (bytes_read short 4) _ bytes x fits e in
    elim (which short s.0.0 s.0.1 x (bytes_eq s.0.0 magic) (bytes_eq s.0.0 column_magic) s.3) [
      | inl rows ↦
          let same : s.0.0 ≡ magic = (bytes_decides s.0.0 magic).0 rows.0 in
          let named = subst (λ (t : List ℕ). Takes bytes t s.0.1) same s.1 in
          let t = row_content_takes short s.0.1 x s.1.rest_fits rows.1 in
          (magic ++ row_body x.0, Takes-then bytes magic s.0.1 (row_body x.0) x.1 named t.0, record { spelled = inl (sym (row_spelled x.0)); content = t.1; fits = λ short. omega (arith, short, length_spelling x.0, ap length (row_spelled x.0)) })
      | inr columns ↦
          let same : s.0.0 ≡ column_magic = (bytes_decides s.0.0 column_magic).0 columns.0 in
          let named = subst (λ (t : List ℕ). Takes bytes t s.0.1) same s.1 in
          let t = column_content_takes short s.0.1 x s.1.rest_fits columns.1 in
          by_columns bytes s.0.1 x.1 x.0 t.0 named t.1 t.2
    ]

rows_again : (short : FileFault) (s : Segment) (rest : List ℕ) → IsContent s → content_at short (spelling s ++ rest) ≡ Ok (s, rest)
unfolding content_at content_in
rows_again short s rest h =
    ap (content_at short) (ap (λ (t : List ℕ). t ++ rest) (row_spelled s) ∙ append_assoc magic (row_body s) rest)
    ∙ step_again (bytes_read short 4) _ magic (row_body s ++ rest) refl
    ∙ row_content_again short s rest h

coded_again : (short : FileFault) (s : Segment) (dimensions : List Coded) (rest : List ℕ) → IsContent s → text_length s ≤ max_text → AreCoded s dimensions → content_at short (column_spelling s dimensions ++ rest) ≡ Ok (s, rest)
unfolding content_at content_in
coded_again short s dimensions rest h fits coded =
    let body = column_body s (columns_of s dimensions) in
    ap (content_at short) (ap (λ (t : List ℕ). t ++ rest) (column_spelled s dimensions) ∙ append_assoc column_magic body rest)
    ∙ step_again (bytes_read short 4) _ column_magic (body ++ rest) refl
    ∙ column_content_again short s dimensions rest h fits coded

-- what is spelled in one layout or in the other is read again
content_again : (short : FileFault) (text : List ℕ) (s : Segment) (rest : List ℕ) → IsContent s → text_length s ≤ max_text → IsFileOf text s → content_at short (text ++ rest) ≡ Ok (s, rest)
content_again short text s rest h fits (inl rows) =
    ap (λ (t : List ℕ). content_at short (t ++ rest)) rows ∙ rows_again short s rest h
content_again short text s rest h fits (inr columns) =
    ap (λ (t : List ℕ). content_at short (t ++ rest)) columns.2 ∙ coded_again short s columns.0 rest h fits columns.1

-- ---- all of the bytes

within_takes : (limit : ℕ) (bytes : List ℕ) (s : Segment) → IsBytes bytes → segment_within limit bytes ≡ Ok s → IsFound bytes s × (length bytes ≤ limit)
unfolding segment_within
within_takes limit bytes s fits e =
    let b = bind_ok (content_at (short_of limit bytes) (take limit bytes)) _ s e in
    let g = passed_ok (eqb (length b.0.1) 0 && leb (length bytes) limit) Trailing b.0.0 s b.2 in
    let tests = and_parts (eqb (length b.0.1) 0) (leb (length bytes) limit) g.0 in
    let short = leb-true (length bytes) limit tests.1 in
    let t = content_takes (short_of limit bytes) (take limit bytes) b.0 (IsBytes-take limit bytes fits) b.1 in
    let nothing : b.0.1 ≡ [] = nil_from_length b.0.1 (eqb-true (length b.0.1) 0 tests.0) in
    let whole : bytes ≡ t.0 = sym (take_all limit bytes short) ∙ t.1.parts ∙ ap (λ (r : List ℕ). t.0 ++ r) nothing ∙ append-nil t.0 in
    subst (λ (c : Segment). IsFound bytes c × (length bytes ≤ limit)) g.1 (subst (λ (text : List ℕ). IsFound text b.0.0) (sym whole) t.2, short)

within_again : (limit : ℕ) (text : List ℕ) (s : Segment) → IsContent s → text_length s ≤ max_text → IsFileOf text s → length text ≤ limit → segment_within limit text ≡ Ok s
unfolding segment_within
within_again limit text s h fits is short =
    let front : take limit text ≡ text ++ [] = take_all limit text short ∙ sym (append-nil text) in
    ap (λ r. r >>= λ content. cond (eqb (length content.1) 0 && leb (length text) limit) (Ok content.0) (Err Trailing)) (ap (content_at (short_of limit text)) front ∙ content_again (short_of limit text) text s [] h fits is)
    ∙ cond-true (leb (length text) limit) (Ok s) (Err Trailing) (le-leb (length text) limit short)

-- ---- content and segments

pub text_is_short : (value : Option (List ℕ)) → IsTextValue value → IfSome value (λ text. length text ≤ max_value)
text_is_short None h = tt
text_is_short (Some text) h = h.0

text_is_utf8 : (value : Option (List ℕ)) → IsTextValue value → IfSome value IsUtf8
text_is_utf8 None h = tt
text_is_utf8 (Some text) h = h.1

text_value_from : (value : Option (List ℕ)) → IfSome value (λ text. length text ≤ max_value) → IfSome value IsUtf8 → IsTextValue value
text_value_from None short utf8 = tt
text_value_from (Some text) short utf8 = (short, utf8)

pub content_segment : (s : Segment) → IsContent s → text_length s ≤ max_text → IsSegment s
content_segment s h short = record {
  ordinary = h.descriptor.ordinary;
  schema = h.fields.schema;
  within = record {
    dimensions = h.fields.dimensions;
    metrics = h.fields.metrics;
    rows = h.rows.0;
    values = All-weaker (IsRow (shape_of s.descriptor s.fields)) HasShortValues (λ row is. All-weaker IsTextValue (λ value. IfSome value (λ text. length text ≤ max_value)) text_is_short row.dimensions is.texts.1) s.rows h.rows.1;
    text = short;
  };
  shape = All-weaker (IsRow (shape_of s.descriptor s.fields)) (HasShape s.fields) (λ row is. record { dimensions = is.texts.0; metrics = is.numbers.0 }) s.rows h.rows.1;
  inside = All-weaker (IsRow (shape_of s.descriptor s.fields)) (IsInside s.descriptor.id.interval) (λ row is. is.time.0) s.rows h.rows.1;
}

content_fits : (s : Segment) → IsContent s → Fits s
content_fits s h = record {
  descriptor = h.descriptor.described;
  rows = All-weaker (IsRow (shape_of s.descriptor s.fields)) AreValues (λ row is. record {
    texts = All-weaker IsTextValue (λ value. IfSome value IsUtf8) text_is_utf8 row.dimensions is.texts.1;
    numbers = is.numbers.1;
  }) s.rows h.rows.1;
}

is_row : (extent : Extent) (fields : Schema) (row : Row) → IsExtent extent → HasShape fields row → IsInside extent row → HasShortValues row → AreValues row → IsRow (record { interval = extent; dimensions = length fields.dimensions; metrics = length fields.metrics }) row
is_row extent fields row valid shape inside short values = record {
  time = (inside, omega (arith, inside.1, valid.1));
  texts = (shape.dimensions, λ k d lt. text_value_from _ (short k d lt) (values.texts k d lt));
  numbers = (shape.metrics, values.numbers);
}

segment_content : (s : Segment) → IsSegment s → Fits s → IsContent s
segment_content s h fits = record {
  descriptor = record { described = fits.descriptor; ordinary = h.ordinary };
  fields = record { schema = h.schema; dimensions = h.within.dimensions; metrics = h.within.metrics };
  rows = (h.within.rows, λ k d lt. is_row s.descriptor.id.interval s.fields _ fits.descriptor.id.interval (h.shape k d lt) (h.inside k d lt) (h.within.values k d lt) (fits.rows k d lt));
}

-- ---- laws

pub segment_takes : (bytes : List ℕ) (s : Segment) → IsBytes bytes → segment_at bytes ≡ Ok s → IsFileOf bytes s × IsSegment s × Fits s
segment_takes bytes s fits e =
    let t = within_takes max_text bytes s fits e in
    (t.0.spelled, content_segment s t.0.content (t.0.fits t.1), content_fits s t.0.content)

pub file_again : (bytes : List ℕ) (s : Segment) → IsSegment s → Fits s → IsFileOf bytes s → length bytes ≤ max_text → segment_at bytes ≡ Ok s
file_again bytes s h fits is short = within_again max_text bytes s (segment_content s h fits) h.within.text is short

pub short_spelling : (s : Segment) → IsSegment s → length (spelling s) ≤ max_text
short_spelling s h = omega (arith, length_spelling s, h.within.text)

pub segment_again : (s : Segment) → IsSegment s → Fits s → segment_at (spelling s) ≡ Ok s
segment_again s h fits = file_again (spelling s) s h fits (inl refl) (short_spelling s h)

-- ---- what a reader has, of which one byte more was read than a file may have

same_test : (limit : ℕ) (bytes : List ℕ) → ltb limit (length (take (limit + 1) bytes)) ≡ ltb limit (length bytes)
same_test limit bytes =
    let len = length-take (limit + 1) bytes in
    elim (cases_lt limit (length bytes)) [
      | inl lt ↦ lt-ltb limit (length (take (limit + 1) bytes)) (omega (arith, len)) ∙ sym (lt-ltb limit (length bytes) lt)
      | inr le ↦ le-ltb limit (length (take (limit + 1) bytes)) (omega (arith, len)) ∙ sym (le-ltb limit (length bytes) le)
    ]

same_bound : (limit : ℕ) (bytes : List ℕ) → leb (length (take (limit + 1) bytes)) limit ≡ leb (length bytes) limit
same_bound limit bytes =
    let len = length-take (limit + 1) bytes in
    elim (cases_lt limit (length bytes)) [
      | inl lt ↦ lt-leb (length (take (limit + 1) bytes)) limit (omega (arith, len)) ∙ sym (lt-leb (length bytes) limit lt)
      | inr le ↦ le-leb (length (take (limit + 1) bytes)) limit (omega (arith, len)) ∙ sym (le-leb (length bytes) limit le)
    ]

within_front : (limit : ℕ) (bytes : List ℕ) → segment_within limit (take (limit + 1) bytes) ≡ segment_within limit bytes
unfolding segment_within
within_front limit bytes = rw (take-take limit (limit + 1) bytes (omega arith), same_test limit bytes, same_bound limit bytes) refl

short_front : (limit : ℕ) (front bytes : List ℕ) → front ≡ take (limit + 1) bytes → length front ≤ limit → front ≡ bytes
short_front limit front bytes e short =
    let len : length front ≡ min (limit + 1) (length bytes) = ap length e ∙ length-take (limit + 1) bytes in
    e ∙ take_all (limit + 1) bytes (omega (arith, len, short))

-- the front that was read of known bytes
abbrev pub IsFront : List ℕ → Option (List ℕ) → Type 0
IsFront front known = IfSome known (λ bytes. front ≡ take (max_text + 1) bytes)

within_short : (limit : ℕ) (bytes : List ℕ) (s : Segment) → segment_within limit bytes ≡ Ok s → length bytes ≤ limit
unfolding segment_within
within_short limit bytes s e =
    let b = bind_ok (content_at (short_of limit bytes) (take limit bytes)) _ s e in
    let g = passed_ok (eqb (length b.0.1) 0 && leb (length bytes) limit) Trailing b.0.0 s b.2 in
    leb-true (length bytes) limit (and_parts (eqb (length b.0.1) 0) (leb (length bytes) limit) g.0).1

pub known_found : (known : Option (List ℕ)) (front : List ℕ) (result : Result Segment FileFault) → IfOk result (IsFileOf front) → GivesInMemory result (segment_at front) → IsFront front known → IfOk result (λ s. IfSome known (λ bytes. IsFileOf bytes s))
known_found None front (Ok s) found exact is = tt
known_found (Some bytes) front (Ok s) found exact is =
    subst (λ (text : List ℕ). IsFileOf text s) (short_front max_text front bytes is (within_short max_text front s exact)) found
known_found known front (Err fault) found exact is = tt

front_again : (front bytes : List ℕ) (s : Segment) → IsSegment s → Fits s → IsFileOf bytes s → length bytes ≤ max_text → front ≡ take (max_text + 1) bytes → segment_at front ≡ Ok s
front_again front bytes s h fits file short is =
    ap segment_at (is ∙ take_all (max_text + 1) bytes (omega (arith, short))) ∙ file_again bytes s h fits file short

of_reader : {X : Type 0} (result read : Result X FileFault) → GivesInMemory result read → GivesOfReader result read
of_reader (Ok x) read h = h
of_reader (Err Magic) read h = h
of_reader (Err Cut) read h = h
of_reader (Err Field) read h = h
of_reader (Err RowOutside) read h = h
of_reader (Err TooLong) read h = h
of_reader (Err Trailing) read h = h
of_reader (Err Read) read h = tt
of_reader (Err Write) read h = h
of_reader (Err Memory) read h = tt

known_file : (known : Option (List ℕ)) (front bytes : List ℕ) (result : Result Segment FileFault) → IsFront front known → GivesInMemory result (segment_at front) → (s : Segment) → IsSegment s → Fits s → IsFileOf bytes s → length bytes ≤ max_text → known ≡ Some bytes → GivesOfReader result (Ok s)
known_file known front bytes result is gives s h fits file short e =
    let one : IsFront front (Some bytes) = subst (IsFront front) e is in
    of_reader result (Ok s) (subst (GivesInMemory result) (front_again front bytes s h fits file short one) gives)

pub known_only : (known : Option (List ℕ)) (front : List ℕ) (result : Result Segment FileFault) → IsFront front known → GivesInMemory result (segment_at front) → (s : Segment) → IsSegment s → Fits s → known ≡ Some (spelling s) → GivesOfReader result (Ok s)
known_only known front result is gives s h fits e = known_file known front (spelling s) result is gives s h fits (inl refl) (short_spelling s h) e

pub known_columns : (known : Option (List ℕ)) (front : List ℕ) (result : Result Segment FileFault) → IsFront front known → GivesInMemory result (segment_at front) → (s : Segment) (bytes : List ℕ) → IsSegment s → Fits s → IsColumnSpelling bytes s → length bytes ≤ max_text → known ≡ Some bytes → GivesOfReader result (Ok s)
known_columns known front result is gives s bytes h fits columns short e = known_file known front bytes result is gives s h fits (inr columns) short e

pub known_exact : (known : Option (List ℕ)) (front : List ℕ) (result : Result Segment FileFault) → IsFront front known → GivesInMemory result (segment_at front) → IfSome known (λ bytes. GivesOfReader result (segment_at bytes))
known_exact None front result is gives = tt
known_exact (Some bytes) front result is gives =
    of_reader result (segment_at bytes) (subst (GivesInMemory result) (ap segment_at is ∙ within_front max_text bytes) gives)

-- ---- for the code, whose window is a front of the bytes

same_window : (limit n : ℕ) (bytes : List ℕ) → n ≡ min (length bytes) limit → take n bytes ≡ take limit bytes
same_window limit n bytes e =
    let turned : n ≡ min limit (length bytes) = omega (arith, e) in
    ap (λ k. take k bytes) turned ∙ take_min limit bytes

same_content : (limit n : ℕ) (bytes : List ℕ) (short : FileFault) → short ≡ short_of limit bytes → n ≡ min (length bytes) limit → content_at (short_of limit bytes) (take limit bytes) ≡ content_at short (take n bytes)
same_content limit n bytes short s e =
    ap (λ window. content_at (short_of limit bytes) window) (sym (same_window limit n bytes e)) ∙ ap (λ d. content_at d (take n bytes)) (sym s)

pub content_fails : (limit n : ℕ) (bytes : List ℕ) (short fault : FileFault) → short ≡ short_of limit bytes → n ≡ min (length bytes) limit → content_at short (take n bytes) ≡ Err fault → segment_within limit bytes ≡ Err fault
unfolding segment_within
content_fails limit n bytes short fault s e is =
    let one : content_at (short_of limit bytes) (take limit bytes) ≡ Err fault = same_content limit n bytes short s e ∙ is in
    rw one refl

content_judged : (limit n : ℕ) (bytes : List ℕ) (short : FileFault) (x : Segment × List ℕ) → short ≡ short_of limit bytes → n ≡ min (length bytes) limit → content_at short (take n bytes) ≡ Ok x
    → segment_within limit bytes ≡ cond (eqb (length x.1) 0 && leb (length bytes) limit) (Ok x.0) (Err Trailing)
unfolding segment_within
content_judged limit n bytes short x s e is =
    let one : content_at (short_of limit bytes) (take limit bytes) ≡ Ok x = same_content limit n bytes short s e ∙ is in
    rw one refl

pub trails : (limit n : ℕ) (bytes : List ℕ) (short : FileFault) (x : Segment × List ℕ) → short ≡ short_of limit bytes → n ≡ min (length bytes) limit → content_at short (take n bytes) ≡ Ok x → eqb (length x.1) 0 ≡ false → segment_within limit bytes ≡ Err Trailing
trails limit n bytes short x s e is more =
    content_judged limit n bytes short x s e is ∙ cond-false _ (Ok x.0) (Err Trailing) (and_left (eqb (length x.1) 0) (leb (length bytes) limit) more)

pub passes_limit : (limit n : ℕ) (bytes : List ℕ) (short : FileFault) (x : Segment × List ℕ) → short ≡ short_of limit bytes → n ≡ min (length bytes) limit → content_at short (take n bytes) ≡ Ok x → limit < length bytes → segment_within limit bytes ≡ Err Trailing
passes_limit limit n bytes short x s e is long =
    content_judged limit n bytes short x s e is ∙ cond-false _ (Ok x.0) (Err Trailing) (and_right (eqb (length x.1) 0) (leb (length bytes) limit) (lt-leb (length bytes) limit long))

pub is_all : (limit n : ℕ) (bytes : List ℕ) (short : FileFault) (x : Segment × List ℕ) → short ≡ short_of limit bytes → n ≡ min (length bytes) limit → content_at short (take n bytes) ≡ Ok x → eqb (length x.1) 0 ≡ true → length bytes ≤ limit → segment_within limit bytes ≡ Ok x.0
is_all limit n bytes short x s e is none fits =
    content_judged limit n bytes short x s e is ∙ cond-true _ (Ok x.0) (Err Trailing) (and_from (eqb (length x.1) 0) (leb (length bytes) limit) none (le-leb (length bytes) limit fits))

reported_err : {X : Type 0} (fault : FileFault) (read : Result X FileFault) → IsOfBytes fault → read ≡ Err fault → GivesInMemory (Err fault) read
reported_err Magic read own e = e
reported_err Cut read own e = e
reported_err Field read own e = e
reported_err RowOutside read own e = e
reported_err TooLong read own e = e
reported_err Trailing read own e = e
reported_err Read read own e = e
reported_err Write read own e = e
reported_err Memory read own e = absurd own

-- a fault of the bytes
pub judged_err : (limit n : ℕ) (bytes : List ℕ) (short fault : FileFault) (cursor : Cursor) → short ≡ short_of limit bytes → n ≡ min (length bytes) limit → cursor ≡ record { rest = take n bytes; short = short } → content_at cursor.short cursor.rest ≡ Err fault → GivesInMemory (Err fault) (segment_within limit bytes)
judged_err limit n bytes short fault cursor s e at h =
    let fails = content_fails limit n bytes short fault s e (subst (λ (c : Cursor). content_at c.short c.rest ≡ Err fault) at h) in
    reported_err fault (segment_within limit bytes) (within_own limit bytes fault fails) fails

-- the bytes are all read
pub judged_ok : (limit n : ℕ) (bytes : List ℕ) (short : FileFault) (cursor : Cursor) (s : Segment) (after : List ℕ) → short ≡ short_of limit bytes → n ≡ min (length bytes) limit → cursor ≡ record { rest = take n bytes; short = short } → content_at cursor.short cursor.rest ≡ Ok (s, after) → eqb (length after) 0 ≡ true → length bytes ≤ limit → segment_within limit bytes ≡ Ok s
judged_ok limit n bytes short cursor s after is e at h none fits =
    is_all limit n bytes short (s, after) is e (subst (λ (c : Cursor). content_at c.short c.rest ≡ Ok (s, after)) at h) none fits

pub judged_trails : (limit n : ℕ) (bytes : List ℕ) (short : FileFault) (cursor : Cursor) (s : Segment) (after : List ℕ) → short ≡ short_of limit bytes → n ≡ min (length bytes) limit → cursor ≡ record { rest = take n bytes; short = short } → content_at cursor.short cursor.rest ≡ Ok (s, after) → eqb (length after) 0 ≡ false → segment_within limit bytes ≡ Err Trailing
judged_trails limit n bytes short cursor s after is e at h more =
    trails limit n bytes short (s, after) is e (subst (λ (c : Cursor). content_at c.short c.rest ≡ Ok (s, after)) at h) more

pub judged_passes : (limit n : ℕ) (bytes : List ℕ) (short : FileFault) (cursor : Cursor) (s : Segment) (after : List ℕ) → short ≡ short_of limit bytes → n ≡ min (length bytes) limit → cursor ≡ record { rest = take n bytes; short = short } → content_at cursor.short cursor.rest ≡ Ok (s, after) → limit < length bytes → segment_within limit bytes ≡ Err Trailing
judged_passes limit n bytes short cursor s after is e at h long =
    passes_limit limit n bytes short (s, after) is e (subst (λ (c : Cursor). content_at c.short c.rest ≡ Ok (s, after)) at h) long

pub may_lack_memory : {X : Type 0} (read : Result X FileFault) (x : X) (reported : FileFault) → read ≡ Ok x → reported ≡ Memory → GivesInMemory (Err reported) read
may_lack_memory read x reported e is = rw (is, e) (search rules)

-- ---- cut files and long ones

within_cut : (limit : ℕ) (text : List ℕ) (s : Segment) (k : ℕ) → IsContent s → text_length s ≤ max_text → IsFileOf text s → k ≤ limit → k < length text → segment_within limit (take k text) ≡ Err Cut
unfolding segment_within
within_cut limit text s k h fits is few lt =
    let front = take k text in
    let len : length front ≤ limit = omega (arith, length-take k text, few) in
    let whole : content_at Cut text ≡ Ok (s, []) = ap (content_at Cut) (sym (append-nil text)) ∙ content_again Cut text s [] h fits is in
    rw (le-ltb limit (length front) len, take_all limit front len, front_short Cut text s k whole lt) refl

pub segment_cut : (s : Segment) (k : ℕ) → IsSegment s → Fits s → k < length (spelling s) → segment_at (take k (spelling s)) ≡ Err Cut
segment_cut s k h fits lt = within_cut max_text (spelling s) s k (segment_content s h fits) h.within.text (inl refl) (omega (arith, short_spelling s h, lt)) lt

pub columns_cut : (s : Segment) (bytes : List ℕ) (k : ℕ) → IsSegment s → Fits s → IsColumnSpelling bytes s → k < length bytes → k ≤ max_text → segment_at (take k bytes) ≡ Err Cut
columns_cut s bytes k h fits columns lt few = within_cut max_text bytes s k (segment_content s h fits) h.within.text (inr columns) few lt

within_trails : (limit : ℕ) (text : List ℕ) (s : Segment) (more : List ℕ) → IsContent s → text_length s ≤ max_text → IsFileOf text s → length text ≤ limit → 0 < length more → segment_within limit (text ++ more) ≡ Err Trailing
within_trails limit text s more h short is fits some =
    let bytes = text ++ more in
    let len = length-append text more in
    let window_end = min (length bytes) limit in
    let room = window_end - length text in
    let all : window_end ≡ length text + room = omega (arith, len, fits) in
    let window : take window_end bytes ≡ text ++ take room more = ap (λ n. take n bytes) all ∙ take-append-add text more room in
    let read : content_at (short_of limit bytes) (take window_end bytes) ≡ Ok (s, take room more) = ap (content_at (short_of limit bytes)) window ∙ content_again (short_of limit bytes) text s (take room more) h short is in
    elim (cases_lt limit (length bytes)) [
      | inl lt ↦ passes_limit limit window_end bytes (short_of limit bytes) (s, take room more) refl refl read lt
      | inr le ↦ trails limit window_end bytes (short_of limit bytes) (s, take room more) refl refl read (ne_eqb (length (take room more)) 0 (λ e. omega (arith, e, length-take room more, len, le, some)))
    ]

pub segment_trails : (s : Segment) (more : List ℕ) → IsSegment s → Fits s → 0 < length more → segment_at (spelling s ++ more) ≡ Err Trailing
segment_trails s more h fits some = within_trails max_text (spelling s) s more (segment_content s h fits) h.within.text (inl refl) (short_spelling s h) some

pub columns_trail : (s : Segment) (bytes more : List ℕ) → IsSegment s → Fits s → IsColumnSpelling bytes s → length bytes ≤ max_text → 0 < length more → segment_at (bytes ++ more) ≡ Err Trailing
columns_trail s bytes more h fits columns short some = within_trails max_text bytes s more (segment_content s h fits) h.within.text (inr columns) short some

pub columns_again : (s : Segment) (bytes : List ℕ) → IsSegment s → Fits s → IsColumnSpelling bytes s → length bytes ≤ max_text → segment_at bytes ≡ Ok s
columns_again s bytes h fits columns short = file_again bytes s h fits (inr columns) short

pub one_spelling : (s : Segment) (a b : List ℕ) → IsColumnSpelling a s → IsColumnSpelling b s → a ≡ b
one_spelling s a b h k = h.2 ∙ ap (column_spelling s) (one_list s h.0 k.0 h.1 k.1) ∙ sym k.2

pub is_file : (bytes : List ℕ) (s : Segment) → IsBytes bytes → segment_at bytes ≡ Ok s → IsFileOf bytes s
is_file bytes s fits e = (segment_takes bytes s fits e).0
