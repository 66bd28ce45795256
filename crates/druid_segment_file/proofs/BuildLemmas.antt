-- A segment that is built from the rows that are read: there is always room for them.
use Rattle.std.proofs.Common.{false, ◌≡◌, ℕ, ◌+◌, ◌-◌, ◌<◌, ◌≤◌, List, [], ◌∷◌, ◌++◌, map, length, take, Option, ℤ, Result, Ok, Err, IsOk, refl, sym, ap, subst, ◌∙◌, arith}
use Rattle.std.specs.List.{sum}
use Rattle.std.specs.Int.{w32, to_be_bytes}
use Rattle.std.proofs.lemmas.List.{length-append, length-take, length-map, length_push, map_push}
use Rattle.std.proofs.lemmas.List.Sums.{sum_by_push}
use Rattle.std.proofs.lemmas.List.Elements.{All-nil, All-push, All-weaker}
use Rattle.std.proofs.lemmas.Bool.{lt-ltb}
use Rattle.druid_segment_descriptor.specs.Described.{Described}
use Rattle.druid_segment_rows.specs.Rows.{Schema, Row, row_of, HasShape, IsInside, HasShortValues}
use Rattle.druid_segment_rows.specs.Segment.{Segment, IsSegment, segment_of, with_row, text_length, head_length, row_length, max_rows, max_text}
use Rattle.druid_segment_file.specs.declared.fault.FileFault.{FileFault}
use Rattle.druid_segment_file.specs.declared.fault.FileFault.TheVariants.{TooLong}
use Rattle.druid_segment_file.specs.ByteParts.{magic, row}
use Rattle.druid_time.specs.Results.{◌>>=◌}
use Rattle.druid_segment_file.specs.declared.layout.Layout.{Layout}
use Rattle.druid_segment_file.specs.declared.layout.Layout.TheVariants.{ByRows, ByColumns}
use Rattle.druid_segment_file.specs.ColumnReader.{Columns, columns_at, rows_of, of_length, column_content_at}
use Rattle.druid_segment_file.specs.FileRules.{columns_length}
use Rattle.druid_segment_file.specs.Parts.{number_at, at_most, Shape, shape_of, each_at, values_at, rows_at, row_count_at}
use Rattle.druid_segment_file.specs.Reader.{Cursor, row_content_at, content_at}
use Rattle.druid_segment_file.specs.Builder.{content_of, IsHead, IsWhole, IsWholeByColumns, IsWholeIn, IsJudged, HasRoom, with_read, CanBuild, IsBuilt}
use Rattle.druid_segment_file.specs.Borrowed.{bytes_of, texts_borrowed, values_borrowed}
use Rattle.std.specs.Borrow.{Bor}
use Rattle.druid_segment_file.proofs.PartLemmas.{IsBytes, IsBytes-take, IsBytes-drop, ok_is}
use Rattle.druid_segment_file.proofs.HeadLemmas.{descriptor_read, IsAnnounced}
use Rattle.druid_segment_file.proofs.FieldLemmas.{AreFields, fields_read}
use Rattle.druid_segment_file.proofs.RowLemmas.{IsTextValue, IsRow, values_read}
use Rattle.druid_segment_file.proofs.LengthLemmas.{length_row, length_head}
use Rattle.druid_segment_file.proofs.ColumnLemmas.{count_read, columns_read, long_texts, long_numbers, is_content, of_length_within}
use Rattle.druid_segment_file.proofs.SumLemmas.{rows_length}
use Rattle.druid_segment_file.proofs.SegmentLemmas.{text_is_short, content_segment}

text_length-with_row : (s : Segment) (v : Row) → text_length (with_row s v) ≡ text_length s + row_length v
text_length-with_row s v =
    let pushed : sum (map row_length (s.rows ++ v ∷ [])) ≡ sum (map row_length s.rows) + row_length v = ap sum (map_push row_length s.rows v) ∙ sum_by_push (λ (n : ℕ). n) (map row_length s.rows) (row_length v) in
    omega (arith, pushed)

segment_with_row : (s : Segment) (v : Row) → IsSegment s → IsRow (shape_of s.descriptor s.fields) v → length s.rows < max_rows → text_length (with_row s v) ≤ max_text → IsSegment (with_row s v)
segment_with_row s v h is more short = record {
  ordinary = h.ordinary;
  schema = h.schema;
  within = record {
    dimensions = h.within.dimensions;
    metrics = h.within.metrics;
    rows = omega (arith, length_push s.rows v, more);
    values = All-push HasShortValues s.rows v h.within.values (All-weaker IsTextValue _ text_is_short v.dimensions is.texts.1);
    text = short;
  };
  shape = All-push (HasShape s.fields) s.rows v h.shape (record { dimensions = is.texts.0; metrics = is.numbers.0 });
  inside = All-push (IsInside s.descriptor.id.interval) s.rows v h.inside is.time.0;
}

-- a row that was read has room, and those after it have room after it
pub room_for_row : (short : FileFault) (s : Segment) (shape : Shape) (count i : ℕ) (bytes : List ℕ) (v : Row) (after : List ℕ) → HasRoom s shape (count - i) (length bytes) → i < count → IsBytes bytes → values_at short shape bytes ≡ Ok (v, after)
    → HasRoom (with_row s v) shape (count - (i + 1)) (length after) × IsBytes after
room_for_row short s shape count i bytes v after room lt fits e =
    let t = (values_read short shape).takes bytes (v, after) fits e in
    let is : IsRow (shape_of s.descriptor s.fields) v = subst (λ (w : Shape). IsRow w v) room.shaped t.1 in
    let len : length bytes ≡ row_length v + length after = ap length t.0.parts ∙ length-append (row v) after ∙ ap (λ n. n + length after) (length_row v) in
    let grown = text_length-with_row s v in (
      record {
        valid = segment_with_row s v room.valid is (omega (arith, room.rows, lt)) (omega (arith, room.text, len, grown));
        shaped = room.shaped;
        rows = omega (arith, room.rows, lt, length_push s.rows v);
        text = omega (arith, room.text, len, grown);
      },
      t.0.rest_fits,
    )

-- ---- before the first row

none_yet : (d : Described) (fields : Schema) → d.tombstone ≡ false → AreFields fields → head_length d fields ≤ max_text → IsSegment (segment_of d fields [])
none_yet d fields ordinary h short = record {
  ordinary = ordinary;
  schema = h.schema;
  within = record {
    dimensions = h.dimensions;
    metrics = h.metrics;
    rows = omega arith;
    values = All-nil HasShortValues;
    text = omega (arith, short);
  };
  shape = All-nil (HasShape fields);
  inside = All-nil (IsInside d.id.interval);
}

-- what stands before the rows, without the name of the layout
pub record TakesHead (d : Described) (fields : Schema) (count : ℕ) (bytes rest : List ℕ) : Type 0 where
  pub described : IsAnnounced d
  pub fields_are : AreFields fields
  pub few : count ≤ max_rows
  pub len : 4 + length bytes ≡ head_length d fields + length rest
  pub rest_fits : IsBytes rest

pub head_takes : (short : FileFault) (bytes : List ℕ) (d : Described) (fields : Schema) (count : ℕ) (rest : List ℕ) → IsBytes bytes → IsHead short bytes d fields count rest → TakesHead d fields count bytes rest
head_takes short bytes d fields count rest fits h =
    let t1 = (descriptor_read short).takes bytes (d, h.after_descriptor) fits h.described in
    let t2 = (fields_read short).takes h.after_descriptor (fields, h.after_fields) t1.0.rest_fits h.named in
    let t3 = (count_read short).takes h.after_fields (count, rest) t2.0.rest_fits h.counted in
    let len = length_head d fields (magic ++ bytes) bytes h.after_descriptor h.after_fields rest (to_be_bytes w32 count) refl refl t1.0.parts t2.0.parts t3.0.parts in
    record { described = t1.1; fields_are = t2.1; few = t3.1; len = omega (arith, len, length-append magic bytes); rest_fits = t3.0.rest_fits }

room_beyond_head : (short : FileFault) (bytes : List ℕ) (d : Described) (fields : Schema) (count : ℕ) (rest : List ℕ) → IsBytes bytes → 4 + length bytes ≤ max_text → IsHead short bytes d fields count rest
    → HasRoom (segment_of d fields []) (shape_of d fields) count (length rest)
room_beyond_head short bytes d fields count rest fits small h =
    let t = head_takes short bytes d fields count rest fits h in
    record {
      valid = none_yet d fields t.described.ordinary t.fields_are (omega (arith, t.len, small));
      shaped = refl;
      rows = omega (arith, t.few);
      text = omega (arith, t.len, small);
    }

pub length_borrowed : (texts : List (Bor (List ℕ))) (names : List (List ℕ)) → texts_borrowed texts ≡ names → length texts ≡ length names
length_borrowed texts names e = sym (length-map texts bytes_of) ∙ ap length e

-- ---- what was judged

abbrev beside : List ℕ → ℕ → Result (ℕ × List ℕ) FileFault
beside bytes n = Ok (n, bytes)

regroup_limited : {A : Type 0} (counted : Result ℕ FileFault) (bytes : List ℕ) (f : ℕ → List ℕ → Result A FileFault) → (counted >>= λ n. f n bytes) ≡ ((counted >>= beside bytes) >>= λ (c : ℕ × List ℕ). f c.0 c.1)
regroup_limited (Ok n) bytes f = refl
regroup_limited (Err fault) bytes f = refl

regroup_count : {A : Type 0} (read : Result (ℕ × List ℕ) FileFault) (limit : ℕ) (f : ℕ → List ℕ → Result A FileFault) → (read >>= λ (part : ℕ × List ℕ). at_most limit part.0 >>= λ n. f n part.1) ≡ ((read >>= λ (part : ℕ × List ℕ). at_most limit part.0 >>= beside part.1) >>= λ (c : ℕ × List ℕ). f c.0 c.1)
regroup_count (Ok part) limit f = regroup_limited (at_most limit part.0) part.1 f
regroup_count (Err fault) limit f = refl

-- the number of rows, and then the rows
pub rows_counted : (short : FileFault) (shape : Shape) (bytes : List ℕ) → rows_at short shape bytes ≡ (row_count_at short bytes >>= λ c. each_at (values_at short shape) c.0 c.1)
unfolding rows_at row_count_at
rows_counted short shape bytes = regroup_count (number_at short w32 bytes) max_rows (λ n rest. each_at (values_at short shape) n rest)

pub whole_content : (short : FileFault) (bytes : List ℕ) (d : Described) (fields : Schema) (count : ℕ) (rest after : List ℕ) → (w : IsWhole short bytes d fields count rest after) → row_content_at short bytes ≡ Ok (segment_of d fields w.rows, after)
unfolding row_content_at
whole_content short bytes d fields count rest after w =
    rw (w.head.described, w.head.named, rows_counted short (shape_of d fields) w.head.after_fields, w.head.counted, w.read) refl

column_content : (short : FileFault) (bytes : List ℕ) (d : Described) (fields : Schema) (count : ℕ) (rest after : List ℕ) → (w : IsWholeByColumns short bytes d fields count rest after) → column_content_at short bytes ≡ Ok (segment_of d fields (rows_of w.columns), after)
unfolding column_content_at
column_content short bytes d fields count rest after w =
    rw (w.head.described, w.head.named, w.head.counted, w.read, of_length_within (segment_of d fields (rows_of w.columns)) w.text) refl

-- a segment whose text is too long
pub columns_too_long : (short : FileFault) (bytes : List ℕ) (d : Described) (fields : Schema) (count : ℕ) (rest after : List ℕ) (columns : Columns) → IsHead short bytes d fields count rest → columns_at short (shape_of d fields) count rest ≡ Ok (columns, after) → max_text < text_length (segment_of d fields (rows_of columns)) → column_content_at short bytes ≡ Err TooLong
unfolding column_content_at of_length at_most
columns_too_long short bytes d fields count rest after columns head read long =
    rw (head.described, head.named, head.counted, read, lt-ltb max_text (text_length (segment_of d fields (rows_of columns))) long) refl

-- the length of the text of columns that were judged
pub text_judged : (short : FileFault) (bytes : List ℕ) (d : Described) (fields : Schema) (count : ℕ) (rest after : List ℕ) (columns : Columns) (len : ℕ) → IsBytes bytes → IsHead short bytes d fields count rest → columns_at short (shape_of d fields) count rest ≡ Ok (columns, after) → len ≡ columns_length columns
    → text_length (segment_of d fields (rows_of columns)) + length rest ≡ 4 + length bytes + len
text_judged short bytes d fields count rest after columns len fits head read is =
    let t = head_takes short bytes d fields count rest fits head in
    let c = ((columns_read short (shape_of d fields) count t.few).takes rest (columns, after) t.rest_fits read).1 in
    let sums = rows_length columns (long_texts (shape_of d fields) count columns c) (long_numbers (shape_of d fields) count columns c) in
    omega (arith, t.len, sums, is)

-- ---- for what judges

pub rows_same : (short s2 : FileFault) (shape : Shape) (d : Described) (fields : Schema) (count : ℕ) (rest : List ℕ) (r : Result (List Row × List ℕ) FileFault) → s2 ≡ short → shape ≡ shape_of d fields → each_at (values_at s2 shape) count rest ≡ r → each_at (values_at short (shape_of d fields)) count rest ≡ r
rows_same short s2 shape d fields count rest r p q e =
    subst (λ (s : FileFault). each_at (values_at s (shape_of d fields)) count rest ≡ r) p (subst (λ (w : Shape). each_at (values_at s2 w) count rest ≡ r) q e)

pub columns_same : (short s2 : FileFault) (shape : Shape) (d : Described) (fields : Schema) (count : ℕ) (rest : List ℕ) (r : Result (Columns × List ℕ) FileFault) → s2 ≡ short → shape ≡ shape_of d fields → columns_at s2 shape count rest ≡ r → columns_at short (shape_of d fields) count rest ≡ r
columns_same short s2 shape d fields count rest r p q e =
    subst (λ (s : FileFault). columns_at s (shape_of d fields) count rest ≡ r) p (subst (λ (w : Shape). columns_at s2 w count rest ≡ r) q e)

pub rows_fault : (short fault : FileFault) (bytes : List ℕ) (d : Described) (fields : Schema) (count : ℕ) (rest : List ℕ) → IsHead short bytes d fields count rest → each_at (values_at short (shape_of d fields)) count rest ≡ Err fault → row_content_at short bytes ≡ Err fault
unfolding row_content_at
rows_fault short fault bytes d fields count rest head e =
    rw (head.described, head.named, rows_counted short (shape_of d fields) head.after_fields, head.counted, e) refl

pub columns_fault : (short fault : FileFault) (bytes : List ℕ) (d : Described) (fields : Schema) (count : ℕ) (rest : List ℕ) → IsHead short bytes d fields count rest → columns_at short (shape_of d fields) count rest ≡ Err fault → column_content_at short bytes ≡ Err fault
unfolding column_content_at
columns_fault short fault bytes d fields count rest head e =
    rw (head.described, head.named, head.counted, e) refl

-- the segment that was judged
pub judged_content : (layout : Layout) (short : FileFault) (bytes : List ℕ) (d : Described) (fields : Schema) (count : ℕ) (rest after : List ℕ) → IsWholeIn layout short bytes d fields count rest after → (s : Segment) × (content_of layout short bytes ≡ Ok (s, after))
judged_content ByRows short bytes d fields count rest after w = (segment_of d fields w.rows, whole_content short bytes d fields count rest after w)
judged_content ByColumns short bytes d fields count rest after w = (segment_of d fields (rows_of w.columns), column_content short bytes d fields count rest after w)

is_ok_from : {A : Type 0} (r : Result A FileFault) (x : A) → r ≡ Ok x → IsOk r
is_ok_from r x e = subst IsOk (sym e) refl

-- what was judged can be built
can_build : (layout : Layout) (short : FileFault) (bytes : List ℕ) (d : Described) (fields : Schema) (count : ℕ) (rest after : List ℕ) → IsBytes bytes → 4 + length bytes ≤ max_text → IsWholeIn layout short bytes d fields count rest after → CanBuild layout short d fields count rest
can_build ByRows short bytes d fields count rest after fits small w = (room_beyond_head short bytes d fields count rest fits small w.head, is_ok_from (each_at (values_at short (shape_of d fields)) count rest) (w.rows, after) w.read)
can_build ByColumns short bytes d fields count rest after fits small w = (
  (head_takes short bytes d fields count rest fits w.head).few,
  is_ok_from (columns_at short (shape_of d fields) count rest) (w.columns, after) w.read,
  λ columns left e.
      let t = head_takes short bytes d fields count rest fits w.head in
      let c = ((columns_read short (shape_of d fields) count t.few).takes rest (columns, left) t.rest_fits e).1 in
      let same : w.columns ≡ columns = ap (λ (p : Columns × List ℕ). p.0) (ok_is (w.columns, after) (columns, left) (sym w.read ∙ e)) in
      content_segment (segment_of d fields (rows_of columns)) (is_content d fields count columns c t.described t.fields_are t.few) (subst (λ (cs : Columns). text_length (segment_of d fields (rows_of cs)) ≤ max_text) same w.text),
)

-- what was judged is what is built
rows_built : (short : FileFault) (d : Described) (fields : Schema) (count : ℕ) (bytes left after : List ℕ) (rows : List Row) (s : Segment) → each_at (values_at short (shape_of d fields)) count bytes ≡ Ok (rows, left) → with_read (segment_of d fields []) (each_at (values_at short (shape_of d fields)) count bytes) ≡ Ok (s, after) → segment_of d fields rows ≡ s
rows_built short d fields count bytes left after rows s read built =
    let built2 = rw read at built in
    ap (λ (p : Segment × List ℕ). p.0) (ok_is (segment_of d fields rows, left) (s, after) built2)

is_built : (layout : Layout) (short : FileFault) (bytes : List ℕ) (d : Described) (fields : Schema) (count : ℕ) (rest after : List ℕ) (s : Segment) → (w : IsWholeIn layout short bytes d fields count rest after) → IsBuilt layout short d fields count rest s → content_of layout short bytes ≡ Ok (s, after)
is_built ByRows short bytes d fields count rest after s w b =
    whole_content short bytes d fields count rest after w ∙ ap (λ (t : Segment). Ok (t, after)) (rows_built short d fields count rest after b.0 w.rows s w.read b.1)
is_built ByColumns short bytes d fields count rest after s w b =
    let same : w.columns ≡ b.0 = ap (λ (p : Columns × List ℕ). p.0) (ok_is (w.columns, after) (b.0, b.1) (sym w.read ∙ b.2)) in
    column_content short bytes d fields count rest after w ∙ ap (λ (t : Segment). Ok (t, after)) (ap (λ (cs : Columns). segment_of d fields (rows_of cs)) same ∙ sym b.3)

-- ---- the same of what the cursor had

pub content_found : (short : FileFault) (bytes : List ℕ) (layout : Layout) (d : Described) (fields : Schema) (count : ℕ) (rest after : List ℕ) → IsJudged short bytes layout d fields count rest after → (s : Segment) × (content_at short bytes ≡ Ok (s, after))
content_found short bytes layout d fields count rest after j =
    let c = judged_content layout short j.beyond d fields count rest after j.whole in
    (c.0, j.content ∙ c.1)

pub content_built : (short : FileFault) (bytes : List ℕ) (layout : Layout) (d : Described) (fields : Schema) (count : ℕ) (rest after : List ℕ) (s : Segment) → IsJudged short bytes layout d fields count rest after → IsBuilt layout short d fields count rest s → content_at short bytes ≡ Ok (s, after)
content_built short bytes layout d fields count rest after s j b =
    j.content ∙ is_built layout short j.beyond d fields count rest after s j.whole b

pub room_at_cursor : (n : ℕ) (bytes : List ℕ) (short : FileFault) (cursor : Cursor) (layout : Layout) (d : Described) (fields : Schema) (count : ℕ) (rest after : List ℕ) → n ≤ max_text → IsBytes bytes → cursor ≡ record { rest = take n bytes; short = short } → IsJudged cursor.short cursor.rest layout d fields count rest after → CanBuild layout short d fields count rest
room_at_cursor n bytes short cursor layout d fields count rest after few fits at j =
    let window : cursor.rest ≡ take n bytes = ap (λ (c : Cursor). c.rest) at in
    let bytes_fit : IsBytes cursor.rest = subst IsBytes (sym window) (IsBytes-take n bytes fits) in
    let beyond_fits : IsBytes j.beyond = subst IsBytes (sym j.named) (IsBytes-drop 4 cursor.rest bytes_fit) in
    let small : 4 + length j.beyond ≤ max_text = omega (arith, j.len, ap length window, length-take n bytes, few) in
    subst (λ (s : FileFault). CanBuild layout s d fields count rest) (ap (λ (c : Cursor). c.short) at) (can_build layout cursor.short j.beyond d fields count rest after beyond_fits small j.whole)

pub borrowed_row : (time : ℕ) (texts others : List (Option (Bor (List ℕ)))) (numbers others_numbers : List (Option ℤ)) → others ≡ texts → others_numbers ≡ numbers → row_of time (values_borrowed others) others_numbers ≡ row_of time (values_borrowed texts) numbers
borrowed_row time texts others numbers others_numbers e f = rw (e, f) refl
