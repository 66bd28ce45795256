-- The content of a segment by columns, read and written.
use Rattle.std.proofs.Common.{◌≡◌, ℕ, ℤ, ◌^◌, ◌<◌, ◌≤◌, zero, suc, List, [], ◌++◌, length, map, get_or, Option, None, Ok, sym, ap, ap₂, subst, ◌∙◌, append_assoc, arith, ⊎_elim}
use Rattle.std.specs.Prelude.{All}
use Rattle.std.specs.List.{flat_map, range_with_len}
use Rattle.std.specs.Int.{w32, to_be_bytes}
use Rattle.std.proofs.lemmas.List.{same_lists, get_or-map, get_or_default, length-map}
use Rattle.std.proofs.lemmas.List.Elements.{All-map}
use Rattle.std.proofs.lemmas.List.Folds.{flat_map-map}
use Rattle.std.proofs.lemmas.List.FromFn.{get_or-map-range_with_len, length-map-range_with_len}
use Rattle.std.proofs.lemmas.Option.{slice_get-get_or, slice_get_past}
use Rattle.std.proofs.lemmas.Bool.{cases_lt}
use Rattle.druid_segment_descriptor.specs.Described.{Described}
use Rattle.druid_segment_rows.specs.Rows.{Schema, Row, row_of, no_row}
use Rattle.druid_segment_rows.specs.Columns.{column, value_at, across, AreLong}
use Rattle.druid_segment_rows.specs.Segment.{Segment, segment_of, text_length, max_rows, max_text}
use Rattle.druid_segment_rows.proofs.TableLemmas.{length_rows_in, rows_in_at, times_again, texts_again, numbers_again, text_cell, number_cell}
use Rattle.druid_segment_file.specs.declared.fault.FileFault.{FileFault}
use Rattle.druid_segment_file.specs.ByteParts.{instant, descriptor, names}
use Rattle.druid_segment_file.specs.ColumnBytes.{column_magic, Coded, no_values, dimension, metric, numbers_of, IsCoded, AreCoded, column_spelling}
use Rattle.druid_time.specs.Results.{◌>>=◌}
use Rattle.druid_segment_file.specs.Parts.{at_most, each_at, row_count_at, row_time_at, Shape, shape_of}
use Rattle.druid_segment_file.specs.ColumnReader.{dimension_at, metric_at, Columns, columns_at, decoded, rows_of, of_length, column_content_at}
use Rattle.druid_segment_file.proofs.PartLemmas.{bind_ok, ok_is, at_most_ok, at_most_within, IsBytes, Takes, Takes-then, Reads, step_takes, step_again, wide32, number_read, IsText, AreEach, each_read}
use Rattle.druid_segment_file.proofs.HeadLemmas.{descriptor_read, IsAnnounced}
use Rattle.druid_segment_file.proofs.FieldLemmas.{fields_text, AreFields, fields_read}
use Rattle.druid_segment_file.proofs.RowLemmas.{IsRowTime, row_time_read, IsTextValue, IsNumberValue, IsRow, AreRows}
use Rattle.druid_segment_file.proofs.ContentLemmas.{IsContent}
use Rattle.druid_segment_file.proofs.DictionaryLemmas.{IsDimension, dimension_read, rising_texts, is_coded, is_dimension, one_coded}
use Rattle.druid_segment_file.proofs.MetricLemmas.{IsMetric, metric_read}

-- ---- the columns, read and written

abbrev pub columns_text : Columns → List ℕ
columns_text columns = flat_map instant columns.times ++ (flat_map dimension columns.dimensions ++ flat_map metric columns.metrics)

-- columns that so many rows of that shape have
pub record AreColumns (shape : Shape) (rows : ℕ) (columns : Columns) : Type 0 where
  pub times : AreEach (IsRowTime shape.interval) rows columns.times
  pub dimensions : AreEach (IsDimension rows) shape.dimensions columns.dimensions
  pub metrics : AreEach (IsMetric rows) shape.metrics columns.metrics

abbrev made : List ℕ → List Coded → List (List (Option ℤ)) → Columns
made times dimensions metrics = record { times = times; dimensions = dimensions; metrics = metrics }

times_read : (short : FileFault) (shape : Shape) (rows : ℕ) → Reads (List ℕ) (each_at (row_time_at short shape.interval) rows) (flat_map instant) (AreEach (IsRowTime shape.interval) rows)
times_read short shape rows = each_read (row_time_at short shape.interval) instant (IsRowTime shape.interval) (row_time_read short shape.interval) rows

dimensions_read : (short : FileFault) (shape : Shape) (rows : ℕ) → rows ≤ max_rows → Reads (List Coded) (each_at (dimension_at short rows) shape.dimensions) (flat_map dimension) (AreEach (IsDimension rows) shape.dimensions)
dimensions_read short shape rows few = each_read (dimension_at short rows) dimension (IsDimension rows) (dimension_read short rows few) shape.dimensions

metrics_read : (short : FileFault) (shape : Shape) (rows : ℕ) → Reads (List (List (Option ℤ))) (each_at (metric_at short rows) shape.metrics) (flat_map metric) (AreEach (IsMetric rows) shape.metrics)
metrics_read short shape rows = each_read (metric_at short rows) metric (IsMetric rows) (metric_read short rows) shape.metrics

columns_take : (short : FileFault) (shape : Shape) (rows : ℕ) (bytes : List ℕ) (x : Columns × List ℕ) → rows ≤ max_rows → IsBytes bytes → columns_at short shape rows bytes ≡ Ok x → Takes bytes (columns_text x.0) x.1 × AreColumns shape rows x.0
unfolding columns_at
columns_take short shape rows bytes x few fits e =
    let s1 = step_takes (times_read short shape rows) _ bytes x fits e in
    let s2 = step_takes (dimensions_read short shape rows few) _ s1.0.1 x s1.1.rest_fits s1.3 in
    let s3 = step_takes (metrics_read short shape rows) _ s2.0.1 x s2.1.rest_fits s2.3 in
    let values = Takes-then s1.0.1 (flat_map dimension s2.0.0) s2.0.1 (flat_map metric s3.0.0) s3.0.1 s2.1 s3.1 in
    let joined = Takes-then bytes (flat_map instant s1.0.0) s1.0.1 (flat_map dimension s2.0.0 ++ flat_map metric s3.0.0) s3.0.1 s1.1 values in
    subst (λ (p : Columns × List ℕ). Takes bytes (columns_text p.0) p.1 × AreColumns shape rows p.0) (ok_is (made s1.0.0 s2.0.0 s3.0.0, s3.0.1) x s3.3)
    (joined, record { times = s1.2; dimensions = s2.2; metrics = s3.2 })

columns_again : (short : FileFault) (shape : Shape) (rows : ℕ) (columns : Columns) (rest : List ℕ) → rows ≤ max_rows → AreColumns shape rows columns → columns_at short shape rows (columns_text columns ++ rest) ≡ Ok (columns, rest)
unfolding columns_at
columns_again short shape rows columns rest few h =
    let times = flat_map instant columns.times in
    let dimensions = flat_map dimension columns.dimensions in
    let metrics = flat_map metric columns.metrics in
    ap (columns_at short shape rows) (append_assoc times (dimensions ++ metrics) rest ∙ ap (λ (t : List ℕ). times ++ t) (append_assoc dimensions metrics rest))
    ∙ step_again (times_read short shape rows) _ columns.times (dimensions ++ (metrics ++ rest)) h.times
    ∙ step_again (dimensions_read short shape rows few) _ columns.dimensions (metrics ++ rest) h.dimensions
    ∙ step_again (metrics_read short shape rows) _ columns.metrics rest h.metrics

pub columns_read : (short : FileFault) (shape : Shape) (rows : ℕ) → rows ≤ max_rows → Reads Columns (columns_at short shape rows) columns_text (AreColumns shape rows)
columns_read short shape rows few = record {
  takes = λ bytes x fits e. columns_take short shape rows bytes x few fits e;
  again = λ columns rest h. columns_again short shape rows columns rest few h;
}

-- ---- the rows of columns

value_fine : (texts : List (List ℕ)) → All IsText texts → (code : ℕ) → IsTextValue (value_at texts code)
value_fine texts all zero = tt
value_fine texts all (suc k) =
    ⊎_elim (λ (lt : k < length texts). subst IsTextValue (sym (slice_get-get_or texts k [] lt)) (all k [] lt)) (λ (le : length texts ≤ k). subst IsTextValue (sym (slice_get_past texts k le)) tt) (cases_lt k (length texts))

values_fine : (rows : ℕ) (coded : Coded) → IsDimension rows coded → All IsTextValue (decoded coded)
values_fine rows coded h =
    let texts = rising_texts None coded.texts h.texts in
    All-map IsTextValue (value_at coded.texts) coded.codes (λ i d lt. value_fine coded.texts texts (get_or coded.codes i d))

length_decoded : (coded : Coded) → length (decoded coded) ≡ length coded.codes
length_decoded coded = length-map coded.codes (value_at coded.texts)

module _ (shape : Shape) (rows : ℕ) (columns : Columns) (h : AreColumns shape rows columns) where
  abbrev texts : List (List (Option (List ℕ)))
  texts = map decoded columns.dimensions

  pub long_texts : AreLong (length columns.times) texts
  long_texts =
      All-map (λ (values : List (Option (List ℕ))). length values ≡ length columns.times) decoded columns.dimensions (λ i d lt. length_decoded (get_or columns.dimensions i d) ∙ (h.dimensions.1 i d lt).codes.each.0 ∙ sym h.times.0)

  pub long_numbers : AreLong (length columns.times) columns.metrics
  long_numbers i d lt = (h.metrics.1 i d lt).0 ∙ sym h.times.0

  is_row : (k : ℕ) → k < length columns.times → IsRow shape (row_of (get_or columns.times k 0) (across texts k) (across columns.metrics k))
  is_row k lt = record {
    time = h.times.1 k 0 lt;
    texts = (
      length-map texts (λ values. get_or values k None) ∙ length-map columns.dimensions decoded ∙ h.dimensions.0,
      All-map IsTextValue (λ values. get_or values k None) texts (All-map (λ (values : List (Option (List ℕ))). IsTextValue (get_or values k None)) decoded columns.dimensions (λ i d within.
          let coded = get_or columns.dimensions i d in
          let is = h.dimensions.1 i d within in
          values_fine rows coded is k None (omega (arith, lt, length_decoded coded, is.codes.each.0, h.times.0)))),
    );
    numbers = (
      length-map columns.metrics (λ values. get_or values k None) ∙ h.metrics.0,
      All-map IsNumberValue (λ values. get_or values k None) columns.metrics (λ i d within.
          let is = h.metrics.1 i d within in
          is.1 k None (omega (arith, lt, is.0, h.times.0))),
    );
  }

  pub length_rows : length (rows_of columns) ≡ rows
  length_rows = length_rows_in columns.times texts columns.metrics ∙ h.times.0

  pub are_rows : rows ≤ max_rows → AreRows shape (rows_of columns)
  are_rows few = (
    omega (arith, length_rows, few),
    λ k d lt.
        let within : k < length columns.times = omega (arith, lt, length_rows_in columns.times texts columns.metrics) in
        subst (IsRow shape) (sym (rows_in_at columns.times texts columns.metrics k d within)) (is_row k within),
  )

-- ---- the columns of a segment

abbrev pub columns_of : Segment → List Coded → Columns
columns_of s dimensions = record {
  times = map (λ (row : Row). row.time) s.rows;
  dimensions = dimensions;
  metrics = map (numbers_of s.rows) (range_with_len 0 (length s.fields.metrics));
}

regroups : (m d n1 n2 c t ds ms : List ℕ) → ((((((m ++ d) ++ n1) ++ n2) ++ c) ++ t) ++ ds) ++ ms ≡ m ++ (d ++ ((n1 ++ n2) ++ (c ++ (t ++ (ds ++ ms)))))
regroups m d n1 n2 c t ds ms =
    append_assoc (((((m ++ d) ++ n1) ++ n2) ++ c) ++ t) ds ms
    ∙ append_assoc ((((m ++ d) ++ n1) ++ n2) ++ c) t (ds ++ ms)
    ∙ append_assoc (((m ++ d) ++ n1) ++ n2) c (t ++ (ds ++ ms))
    ∙ ap (λ (front : List ℕ). front ++ (c ++ (t ++ (ds ++ ms)))) (append_assoc (m ++ d) n1 n2)
    ∙ append_assoc (m ++ d) (n1 ++ n2) (c ++ (t ++ (ds ++ ms)))
    ∙ append_assoc m d ((n1 ++ n2) ++ (c ++ (t ++ (ds ++ ms))))

-- what follows the name of the layout
abbrev pub column_body : Segment → Columns → List ℕ
column_body s columns = descriptor s.descriptor ++ (fields_text s.fields ++ (to_be_bytes w32 (length s.rows) ++ columns_text columns))

pub column_spelled : (s : Segment) (dimensions : List Coded) → column_spelling s dimensions ≡ column_magic ++ column_body s (columns_of s dimensions)
column_spelled s dimensions =
    let places = range_with_len 0 (length s.fields.metrics) in
    let times = flat_map-map instant (λ (row : Row). row.time) s.rows in
    let metrics = flat_map-map metric (numbers_of s.rows) places in
    regroups column_magic (descriptor s.descriptor) (names s.fields.dimensions) (names s.fields.metrics) (to_be_bytes w32 (length s.rows)) (flat_map (λ (row : Row). instant row.time) s.rows) (flat_map dimension dimensions) (flat_map (λ place. metric (numbers_of s.rows place)) places)
    ∙ ap₂ (λ (t ms : List ℕ). column_magic ++ (descriptor s.descriptor ++ (fields_text s.fields ++ (to_be_bytes w32 (length s.rows) ++ (t ++ (flat_map dimension dimensions ++ ms)))))) (sym times) (sym metrics)

-- the columns that the rows were made of
module _ (d : Described) (fields : Schema) (rows : ℕ) (columns : Columns) (h : AreColumns (shape_of d fields) rows columns) where
  abbrev whole : Segment
  whole = segment_of d fields (rows_of columns)

  pub columns_back : columns_of whole columns.dimensions ≡ columns
  columns_back =
      let texts = map decoded columns.dimensions in
      let times = times_again columns.times texts columns.metrics in
      let places = range_with_len 0 (length fields.metrics) in
      let long : length (map (numbers_of whole.rows) places) ≡ length columns.metrics = length-map-range_with_len (numbers_of whole.rows) 0 (length fields.metrics) ∙ sym h.metrics.0 in
      let metrics = same_lists (map (numbers_of whole.rows) places) columns.metrics long (λ k e lt.
      let within : k < length columns.metrics = omega (arith, lt, long) in
      get_or-map-range_with_len (numbers_of whole.rows) 0 (length fields.metrics) k k e (omega (arith, within, h.metrics.0)) (omega arith)
      ∙ numbers_again columns.times texts columns.metrics k (get_or columns.metrics k e) (long_numbers (shape_of d fields) rows columns h) within (get_or_default columns.metrics k e _ within)) in
      λ i. made (times i) columns.dimensions (metrics i)

  pub are_coded : AreCoded whole columns.dimensions
  are_coded = record {
    long = h.dimensions.0;
    each = λ place lt.
        let texts = map decoded columns.dimensions in
        let coded = get_or columns.dimensions place no_values in
        let within : place < length texts = omega (arith, lt, length-map columns.dimensions decoded) in
        let here : decoded coded ≡ get_or texts place (decoded coded) = sym (get_or-map decoded columns.dimensions place no_values (decoded coded) lt) in
        let values = texts_again columns.times texts columns.metrics place (decoded coded) (long_texts (shape_of d fields) rows columns h) within here in
        subst (λ vs. IsCoded vs coded) (sym values) (is_coded rows coded (h.dimensions.1 place no_values lt));
  }

  pub is_content : IsAnnounced d → AreFields fields → rows ≤ max_rows → IsContent whole
  is_content described are few = record { descriptor = described; fields = are; rows = are_rows (shape_of d fields) rows columns h few }

  pub long_rows : length whole.rows ≡ rows
  long_rows = length_rows (shape_of d fields) rows columns h

-- the columns of a segment are such, and its rows are theirs
module _ (s : Segment) (dimensions : List Coded) (h : IsContent s) (coded : AreCoded s dimensions) where
  abbrev columns : Columns
  columns = columns_of s dimensions

  coded_at : (k : ℕ) (e : Coded) → k < length dimensions → IsCoded (column k s.rows) (get_or dimensions k e)
  coded_at k e lt = subst (IsCoded (column k s.rows)) (get_or_default dimensions k no_values e lt) (coded.each k lt)

  pub are_columns : AreColumns (shape_of s.descriptor s.fields) (length s.rows) columns
  are_columns = record {
    times = (length-map s.rows (λ (row : Row). row.time), All-map (IsRowTime s.descriptor.id.interval) (λ (row : Row). row.time) s.rows (λ k d lt. (h.rows.1 k d lt).time));
    dimensions = (
      coded.long,
      λ place e lt.
          is_dimension (length s.rows) (column place s.rows) (get_or dimensions place e) (coded_at place e lt) (length-map s.rows (λ row. get_or row.dimensions place None)) (All-map IsTextValue (λ row. get_or row.dimensions place None) s.rows (λ k d within.
          let texts = (h.rows.1 k d within).texts in
          texts.1 place None (omega (arith, lt, coded.long, texts.0)))),
    );
    metrics = (
      length-map-range_with_len (numbers_of s.rows) 0 (length s.fields.metrics),
      λ place e lt.
          let within : place < length s.fields.metrics = omega (arith, lt, length-map-range_with_len (numbers_of s.rows) 0 (length s.fields.metrics)) in
          subst (IsMetric (length s.rows)) (sym (get_or-map-range_with_len (numbers_of s.rows) 0 (length s.fields.metrics) place place e within (omega arith))) (
            length-map s.rows (λ row. get_or row.metrics place None),
            All-map IsNumberValue (λ row. get_or row.metrics place None) s.rows (λ k d inside.
                let numbers = (h.rows.1 k d inside).numbers in
                numbers.1 place None (omega (arith, within, numbers.0))),
          ),
    );
  }

  row_back : (k : ℕ) → k < length s.rows → row_of (get_or columns.times k 0) (across (map decoded dimensions) k) (across columns.metrics k) ≡ get_or s.rows k no_row
  row_back k lt =
      let row = get_or s.rows k no_row in
      let is = h.rows.1 k no_row lt in
      let time : get_or columns.times k 0 ≡ row.time = get_or-map (λ (r : Row). r.time) s.rows k no_row 0 lt in
      let texts = map decoded dimensions in
      let wide : length (across texts k) ≡ length row.dimensions = length-map texts (λ values. get_or values k None) ∙ length-map dimensions decoded ∙ coded.long ∙ sym is.texts.0 in
      let values : across texts k ≡ row.dimensions = same_lists (across texts k) row.dimensions wide (λ place e within.
      let there : place < length dimensions = omega (arith, within, length-map texts (λ values. get_or values k None), length-map dimensions decoded) in
      let inside : place < length texts = omega (arith, there, length-map dimensions decoded) in
      let more : place < length row.dimensions = omega (arith, within, wide) in
      get_or-map (λ values. get_or values k None) texts place [] e inside
      ∙ ap (λ values. get_or values k None) (get_or-map decoded dimensions place no_values [] there ∙ (coded.each place there).codes.stand)
      ∙ text_cell s.rows k place lt
      ∙ get_or_default row.dimensions place None e more) in
      let many : length (across columns.metrics k) ≡ length row.metrics = length-map columns.metrics (λ values. get_or values k None) ∙ length-map-range_with_len (numbers_of s.rows) 0 (length s.fields.metrics) ∙ sym is.numbers.0 in
      let numbers : across columns.metrics k ≡ row.metrics = same_lists (across columns.metrics k) row.metrics many (λ place e within.
      let more : place < length row.metrics = omega (arith, within, many) in
      let there : place < length s.fields.metrics = omega (arith, more, is.numbers.0) in
      let inside : place < length columns.metrics = omega (arith, there, length-map-range_with_len (numbers_of s.rows) 0 (length s.fields.metrics)) in
      get_or-map (λ values. get_or values k None) columns.metrics place [] e inside
      ∙ ap (λ values. get_or values k None) (get_or-map-range_with_len (numbers_of s.rows) 0 (length s.fields.metrics) place place [] there (omega arith))
      ∙ number_cell s.rows k place None lt
      ∙ get_or_default row.metrics place None e more) in
      λ i. row_of (time i) (values i) (numbers i)

  pub rows_back : rows_of columns ≡ s.rows
  rows_back =
      let texts = map decoded dimensions in
      let long : length (rows_of columns) ≡ length s.rows = length_rows_in columns.times texts columns.metrics ∙ length-map s.rows (λ (row : Row). row.time) in
      same_lists (rows_of columns) s.rows long (λ k d lt.
      let within : k < length s.rows = omega (arith, lt, long) in
      rows_in_at columns.times texts columns.metrics k d (omega (arith, within, length-map s.rows (λ (row : Row). row.time)))
      ∙ row_back k within
      ∙ get_or_default s.rows k no_row d within)

-- ---- the content

pub count_read : (short : FileFault) → Reads ℕ (row_count_at short) (to_be_bytes w32) (λ n. n ≤ max_rows)
unfolding row_count_at
count_read short = record {
  takes = λ bytes x fits e.
      let s = step_takes (number_read short w32 (2 ^ 32) wide32) (λ part. at_most max_rows part.0 >>= λ count. Ok (count, part.1)) bytes x fits e in
      let m = bind_ok (at_most max_rows s.0.0) (λ count. Ok (count, s.0.1)) x s.3 in
      let a = at_most_ok max_rows s.0.0 m.0 m.1 in
      subst (λ (p : ℕ × List ℕ). Takes bytes (to_be_bytes w32 p.0) p.1 × (p.0 ≤ max_rows)) (ok_is (m.0, s.0.1) x m.2) (subst (λ (n : ℕ). Takes bytes (to_be_bytes w32 n) s.0.1) a.0 s.1, a.1);
  again = λ n rest h.
      step_again (number_read short w32 (2 ^ 32) wide32) (λ part. at_most max_rows part.0 >>= λ count. Ok (count, part.1)) n rest (omega (arith, h))
      ∙ ap (λ r. r >>= λ count. Ok (count, rest)) (at_most_within max_rows n h);
}

of_length_ok : (s x : Segment) → of_length s ≡ Ok x → (s ≡ x) × (text_length s ≤ max_text)
unfolding of_length
of_length_ok s x e =
    let m = bind_ok (at_most max_text (text_length s)) (λ len. Ok s) x e in
    let a = at_most_ok max_text (text_length s) m.0 m.1 in
    (ok_is s x m.2, omega (arith, a.0, a.1))

pub of_length_within : (s : Segment) → text_length s ≤ max_text → of_length s ≡ Ok s
unfolding of_length
of_length_within s h = ap (λ r. r >>= λ len. Ok s) (at_most_within max_text (text_length s) h)

-- what is read by columns: its columns, its text
pub record IsRead (s : Segment) (columns : Columns) : Type 0 where
  pub content : IsContent s
  pub short : text_length s ≤ max_text
  pub coded : AreCoded s columns.dimensions
  pub back : columns_of s columns.dimensions ≡ columns

pub column_content_takes : (short : FileFault) (bytes : List ℕ) (x : Segment × List ℕ) → IsBytes bytes → column_content_at short bytes ≡ Ok x → (columns : Columns) × Takes bytes (column_body x.0 columns) x.1 × IsRead x.0 columns
unfolding column_content_at
column_content_takes short bytes x fits e =
    let s1 = step_takes (descriptor_read short) _ bytes x fits e in
    let s2 = step_takes (fields_read short) _ s1.0.1 x s1.1.rest_fits s1.3 in
    let s3 = step_takes (count_read short) _ s2.0.1 x s2.1.rest_fits s2.3 in
    let d = s1.0.0 in
    let fields = s2.0.0 in
    let s4 = step_takes (columns_read short (shape_of d fields) s3.0.0 s3.2) _ s3.0.1 x s3.1.rest_fits s3.3 in
    let columns = s4.0.0 in
    let s = segment_of d fields (rows_of columns) in
    let m = bind_ok (of_length s) (λ made. Ok (made, s4.0.1)) x s4.3 in
    let g = of_length_ok s m.0 m.1 in
    let count = sym (long_rows d fields s3.0.0 columns s4.2) in
    let counted = subst (λ (n : ℕ). Takes s2.0.1 (to_be_bytes w32 n) s3.0.1) count s3.1 in
    let j3 = Takes-then s2.0.1 (to_be_bytes w32 (length s.rows)) s3.0.1 (columns_text columns) s4.0.1 counted s4.1 in
    let j2 = Takes-then s1.0.1 (fields_text fields) s2.0.1 (to_be_bytes w32 (length s.rows) ++ columns_text columns) s4.0.1 s2.1 j3 in
    let j1 = Takes-then bytes (descriptor d) s1.0.1 (fields_text fields ++ (to_be_bytes w32 (length s.rows) ++ columns_text columns)) s4.0.1 s1.1 j2 in
    let is : IsRead s columns = record {
      content = is_content d fields s3.0.0 columns s4.2 s1.2 s2.2 s3.2;
      short = g.1;
      coded = are_coded d fields s3.0.0 columns s4.2;
      back = columns_back d fields s3.0.0 columns s4.2;
    } in
    subst (λ (p : Segment × List ℕ). (c : Columns) × Takes bytes (column_body p.0 c) p.1 × IsRead p.0 c) (ap (λ (z : Segment). (z, s4.0.1)) g.0 ∙ ok_is (m.0, s4.0.1) x m.2) (columns, j1, is)

column_regroups : (d f c t rest : List ℕ) → (d ++ (f ++ (c ++ t))) ++ rest ≡ d ++ (f ++ (c ++ (t ++ rest)))
column_regroups d f c t rest =
    append_assoc d (f ++ (c ++ t)) rest
    ∙ ap (λ (x : List ℕ). d ++ x) (append_assoc f (c ++ t) rest ∙ ap (λ (x : List ℕ). f ++ x) (append_assoc c t rest))

pub column_content_again : (short : FileFault) (s : Segment) (dimensions : List Coded) (rest : List ℕ) → IsContent s → text_length s ≤ max_text → AreCoded s dimensions → column_content_at short (column_body s (columns_of s dimensions) ++ rest) ≡ Ok (s, rest)
unfolding column_content_at
column_content_again short s dimensions rest h fits coded =
    let columns = columns_of s dimensions in
    let n = length s.rows in
    let text = columns_text columns ++ rest in
    let shape = shape_of s.descriptor s.fields in
    let same : segment_of s.descriptor s.fields (rows_of columns) ≡ s = ap (segment_of s.descriptor s.fields) (rows_back s dimensions h coded) in
    ap (column_content_at short) (column_regroups (descriptor s.descriptor) (fields_text s.fields) (to_be_bytes w32 n) (columns_text columns) rest)
    ∙ step_again (descriptor_read short) _ s.descriptor (fields_text s.fields ++ (to_be_bytes w32 n ++ text)) h.descriptor
    ∙ step_again (fields_read short) _ s.fields (to_be_bytes w32 n ++ text) h.fields
    ∙ step_again (count_read short) _ n text h.rows.0
    ∙ step_again (columns_read short shape n h.rows.0) _ columns rest (are_columns s dimensions h coded)
    ∙ ap (λ z. of_length z >>= λ made. Ok (made, rest)) same
    ∙ ap (λ r. r >>= λ made. Ok (made, rest)) (of_length_within s fits)

-- a segment has one spelling by columns
pub one_list : (s : Segment) (a b : List Coded) → AreCoded s a → AreCoded s b → a ≡ b
one_list s a b h k =
    let long : length a ≡ length b = h.long ∙ sym k.long in
    same_lists a b long (λ place e lt.
    let there : place < length b = omega (arith, lt, long) in
    get_or_default a place e no_values lt ∙ one_coded (column place s.rows) (get_or a place no_values) (get_or b place no_values) (h.each place lt) (k.each place there) ∙ get_or_default b place no_values e there)
