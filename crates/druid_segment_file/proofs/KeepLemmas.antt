-- Columns that were judged, read again and kept.
use Rattle.std.proofs.Common.{◌≡◌, ℕ, ℤ, zero, suc, ◌-◌, ◌+◌, ◌<◌, ◌≤◌, Bool, true, false, List, [], ◌∷◌, ◌++◌, length, map, Option, None, Some, Result, Ok, Err, IsOk, refl, sym, ap, subst, ◌∙◌, append_assoc, arith}
use Rattle.std.specs.Prelude.{All}
use Rattle.std.specs.Int.{w32}
use Rattle.std.proofs.lemmas.List.{append-nil, length-map}
use Rattle.std.proofs.lemmas.List.Elements.{All-map}
use Rattle.druid_segment_descriptor.specs.Described.{Described}
use Rattle.druid_segment_rows.specs.Rows.{Schema}
use Rattle.druid_segment_rows.specs.Segment.{segment_of}
use Rattle.druid_segment_rows.specs.Columns.{value_at, IsDictionary, rows_in, AreLong}
use Rattle.druid_segment_file.specs.declared.fault.FileFault.{FileFault}
use Rattle.druid_segment_file.specs.ColumnBytes.{Coded}
use Rattle.druid_time.specs.Results.{◌>>=◌}
use Rattle.druid_segment_file.specs.Parts.{number_at, signed_at, at_most, accepted, text_at, each_at, row_time_at, Shape}
use Rattle.druid_segment_file.specs.ColumnReader.{is_above, value_text_at, value_texts_at, code_at, codes_at, coded_at, dimension_at, have_rows, mark_at, present_at, metric_at, Columns, columns_at, decoded, rows_of}
use Rattle.druid_segment_file.specs.Reader.{Cursor}
use Rattle.druid_segment_file.specs.Builder.{present_value_at}
use Rattle.druid_segment_file.proofs.PartLemmas.{bind_ok, ok_is, at_most_ok, accepted_ok, AreEach}
use Rattle.druid_segment_file.proofs.LoopLemmas.{with_front}
use Rattle.druid_segment_file.proofs.DictionaryLemmas.{AreAbove, above_sorted, is_dictionary}
use Rattle.druid_segment_file.proofs.JudgeLemmas.{each_good, code_within, columns_found, times_counted}

pub ok_value : {A : Type 0} (read : Result A FileFault) → IsOk read → (x : A) × (read ≡ Ok x)
ok_value (Ok x) ok = (x, refl)
ok_value (Err fault) ok = absurd cc

pub ok_from : {A : Type 0} (read : Result A FileFault) (x : A) → read ≡ Ok x → IsOk read
ok_from read x e = subst IsOk (sym e) refl

-- a part and the bytes after it
abbrev with_rest : {A : Type 0} → A → List ℕ → A × List ℕ
with_rest part rest = (part, rest)

-- ---- a dimension

texts_above : (short : FileFault) (n : ℕ) (last : Option (List ℕ)) (bytes : List ℕ) (x : List (List ℕ) × List ℕ) → value_texts_at short n last bytes ≡ Ok x → AreAbove last x.0 × (length x.0 ≡ n)
unfolding value_texts_at value_text_at
texts_above short zero last bytes x e = subst (λ (p : List (List ℕ) × List ℕ). AreAbove last p.0 × (length p.0 ≡ 0)) (ok_is ([], bytes) x e) (tt, refl)
texts_above short (suc n) last bytes x e =
    let a = bind_ok (value_text_at short last bytes) (λ text. value_texts_at short n (Some text.0) text.1 >>= λ others. Ok (text.0 ∷ others.0, others.1)) x e in
    let b = bind_ok (value_texts_at short n (Some a.0.0) a.0.1) (λ others. Ok (a.0.0 ∷ others.0, others.1)) x a.2 in
    let t = bind_ok (text_at short bytes) (λ text. accepted (is_above last) text.0 >>= λ value. Ok (value, text.1)) a.0 a.1 in
    let g = bind_ok (accepted (is_above last) t.0.0) (λ value. Ok (value, t.0.1)) a.0 t.2 in
    let above : is_above last a.0.0 ≡ true = subst (λ (v : List ℕ). is_above last v ≡ true) (ap (λ (p : List ℕ × List ℕ). p.0) (ok_is (g.0, t.0.1) a.0 g.2)) (accepted_ok (is_above last) t.0.0 g.0 g.1).1 in
    let rest = texts_above short n (Some a.0.0) a.0.1 b.0 b.1 in
    subst (λ (p : List (List ℕ) × List ℕ). AreAbove last p.0 × (length p.0 ≡ suc n)) (ok_is (a.0.0 ∷ b.0.0, b.0.1) x b.2) ((above, rest.0), ap suc rest.1)

abbrev coded_of : List (List ℕ) → List ℕ → Coded
coded_of texts codes = record { texts = texts; codes = codes }

-- a dimension that is read, part by part
pub record IsDimensionOf (short : FileFault) (rows n : ℕ) (mid : List ℕ) (x : Coded × List ℕ) : Type 0 where
  pub texts : List (List ℕ)
  pub between : List ℕ
  pub codes : List ℕ
  pub after : List ℕ
  pub texts_read : value_texts_at short n None mid ≡ Ok (texts, between)
  pub codes_read : each_at (code_at short n) rows between ≡ Ok (codes, after)
  pub used : have_rows n codes ≡ true
  pub is : with_rest (coded_of texts codes) after ≡ x

pub dimension_parts : (short : FileFault) (rows : ℕ) (bytes : List ℕ) (n : ℕ) (mid : List ℕ) (x : Coded × List ℕ) → number_at short w32 bytes ≡ Ok (n, mid) → dimension_at short rows bytes ≡ Ok x → IsDimensionOf short rows n mid x
unfolding dimension_at coded_at codes_at
dimension_parts short rows bytes n mid x counted e =
    let e2 : (at_most rows n >>= λ count. coded_at short count rows mid) ≡ Ok x = rw counted at e in
    let m = bind_ok (at_most rows n) (λ count. coded_at short count rows mid) x e2 in
    let same : m.0 ≡ n = sym (at_most_ok rows n m.0 m.1).0 in
    let e3 = subst (λ (k : ℕ). coded_at short k rows mid ≡ Ok x) same m.2 in
    let t = bind_ok (value_texts_at short n None mid) (λ texts. codes_at short n rows texts.1 >>= λ codes. Ok (coded_of texts.0 codes.0, codes.1)) x e3 in
    let c = bind_ok (codes_at short n rows t.0.1) (λ codes. Ok (coded_of t.0.0 codes.0, codes.1)) x t.2 in
    let k = bind_ok (each_at (code_at short n) rows t.0.1) (λ part. accepted (have_rows n) part.0 >>= λ codes. Ok (codes, part.1)) c.0 c.1 in
    let a = bind_ok (accepted (have_rows n) k.0.0) (λ codes. Ok (codes, k.0.1)) c.0 k.2 in
    let g = accepted_ok (have_rows n) k.0.0 a.0 a.1 in
    let made : with_rest k.0.0 k.0.1 ≡ c.0 = ap (λ (cs : List ℕ). (cs, k.0.1)) g.0 ∙ ok_is (a.0, k.0.1) c.0 a.2 in
    record {
      texts = t.0.0;
      between = t.0.1;
      codes = k.0.0;
      after = k.0.1;
      texts_read = t.1;
      codes_read = k.1;
      used = subst (λ (cs : List ℕ). have_rows n cs ≡ true) (sym g.0) g.1;
      is = ap (λ (p : List ℕ × List ℕ). (coded_of t.0.0 p.0, p.1)) made ∙ ok_is (coded_of t.0.0 c.0.0, c.0.1) x c.2;
    }

dimension_begins : (short : FileFault) (rows : ℕ) (bytes : List ℕ) (x : Coded × List ℕ) → dimension_at short rows bytes ≡ Ok x → (n : ℕ × List ℕ) × (number_at short w32 bytes ≡ Ok n)
unfolding dimension_at
dimension_begins short rows bytes x e =
    let b = bind_ok (number_at short w32 bytes) (λ part. at_most rows part.0 >>= λ count. coded_at short count rows part.1) x e in
    (b.0, b.1)

-- what was kept of it
module _ (short : FileFault) (rows n : ℕ) (mid : List ℕ) (x : Coded × List ℕ) (d : IsDimensionOf short rows n mid x) (texts : List (List ℕ)) (between codes after : List ℕ) (texts_read : value_texts_at short n None mid ≡ Ok (texts, between)) where
  same_texts : with_rest d.texts d.between ≡ with_rest texts between
  same_texts = ok_is (d.texts, d.between) (texts, between) (sym d.texts_read ∙ texts_read)

  pub codes_are_ok : IsOk (each_at (code_at short n) rows between)
  codes_are_ok = ok_from (each_at (code_at short n) rows between) (d.codes, d.after) (subst (λ (p : List (List ℕ) × List ℕ). each_at (code_at short n) rows p.1 ≡ Ok (d.codes, d.after)) same_texts d.codes_read)

  module _ (codes_read : each_at (code_at short n) rows between ≡ Ok (codes, after)) where
    same_codes : with_rest d.codes d.after ≡ with_rest codes after
    same_codes = ok_is (d.codes, d.after) (codes, after) (sym (subst (λ (p : List (List ℕ) × List ℕ). each_at (code_at short n) rows p.1 ≡ Ok (d.codes, d.after)) same_texts d.codes_read) ∙ codes_read)

    counted : length texts ≡ n
    counted = (texts_above short n None mid (texts, between) texts_read).1

    pub kept_dictionary : IsDictionary (map (value_at texts) codes) texts
    kept_dictionary =
        let above = (texts_above short n None mid (texts, between) texts_read).0 in
        let used : have_rows (length texts) codes ≡ true = ap (λ (k : ℕ). have_rows k codes) counted ∙ ap (λ (p : List ℕ × List ℕ). have_rows n p.0) (sym same_codes) ∙ d.used in
        is_dictionary texts codes (above_sorted texts above) used

    pub kept_bounded : All (λ code. code ≤ length texts) codes
    kept_bounded =
        let bounded = (each_good (code_at short n) (λ code. code ≤ n) (λ bs y e. code_within short n bs y.0 y.1 e) rows between (codes, after) codes_read).1 in
        subst (λ (k : ℕ). All (λ code. code ≤ k) codes) (sym counted) bounded

    pub kept_dimension : with_rest (coded_of texts codes) after ≡ x
    kept_dimension =
        ap (λ (p : List ℕ × List ℕ). (coded_of texts p.0, p.1)) (sym same_codes) ∙ ap (λ (p : List (List ℕ) × List ℕ). (coded_of p.0 d.codes, d.after)) (sym same_texts) ∙ d.is

-- ---- a metric

next_bound : {A : Type 0} (front : List A) (value : A) (read : Result (List A × List ℕ) FileFault) → with_front front (read >>= λ others. Ok (value ∷ others.0, others.1)) ≡ with_front (front ++ value ∷ []) read
next_bound front value (Ok x) = ap (λ (xs : List _). Ok (xs, x.1)) (sym (append_assoc front (value ∷ []) x.0))
next_bound front value (Err fault) = refl

-- a mark that is read, and the number where there is one
pub next_present : (short : FileFault) (mark : Bool) (left : List Bool) (front : List (Option ℤ)) (bytes : List ℕ) (value : Option ℤ) (after : List ℕ) → present_value_at short mark bytes ≡ Ok (value, after) → with_front front (present_at short (mark ∷ left) bytes) ≡ with_front (front ++ value ∷ []) (present_at short left after)
unfolding present_at
next_present short false left front bytes value after e =
    let same = ok_is (None, bytes) (value, after) e in
    next_bound front None (present_at short left bytes) ∙ ap (λ (p : Option ℤ × List ℕ). with_front (front ++ p.0 ∷ []) (present_at short left p.1)) same
next_present short true left front bytes value after e =
    let b = bind_ok (signed_at short bytes) (λ number. Ok (Some number.0, number.1)) (value, after) e in
    let same = ok_is (Some b.0.0, b.0.1) (value, after) b.2 in
    let one : with_front front (present_at short (true ∷ left) bytes) ≡ with_front (front ++ Some b.0.0 ∷ []) (present_at short left b.0.1) = ap (λ (r : Result (ℤ × List ℕ) FileFault). with_front front (r >>= λ number. present_at short left number.1 >>= λ others. Ok (Some number.0 ∷ others.0, others.1))) b.1 ∙ next_bound front (Some b.0.0) (present_at short left b.0.1) in
    one ∙ ap (λ (p : Option ℤ × List ℕ). with_front (front ++ p.0 ∷ []) (present_at short left p.1)) same

abbrev some_number : ℤ × List ℕ → Result (Option ℤ × List ℕ) FileFault
some_number number = Ok (Some number.0, number.1)

no_number : (read : Result (ℤ × List ℕ) FileFault) (fault : FileFault) (front : List (Option ℤ)) (f : ℤ × List ℕ → Result (List (Option ℤ) × List ℕ) FileFault) → (read >>= some_number) ≡ Err fault → with_front front (read >>= f) ≡ Err fault
no_number (Ok x) fault front f e = absurd cc
no_number (Err of) fault front f e = let same : of ≡ fault = cc in ap Err same

pub no_present : (short fault : FileFault) (mark : Bool) (left : List Bool) (front : List (Option ℤ)) (bytes : List ℕ) → present_value_at short mark bytes ≡ Err fault → with_front front (present_at short (mark ∷ left) bytes) ≡ Err fault
unfolding present_at
no_present short fault false left front bytes e = absurd cc
no_present short fault true left front bytes e = no_number (signed_at short bytes) fault front (λ number. present_at short left number.1 >>= λ others. Ok (Some number.0 ∷ others.0, others.1)) e

-- the marks that are left
pub next_mark : (short : FileFault) (count i : ℕ) (bytes : List ℕ) (left : List Bool) (last : List ℕ) (mark : Bool) (after : List ℕ) → i < count → each_at (mark_at short) (count - i) bytes ≡ Ok (left, last) → mark_at short bytes ≡ Ok (mark, after)
    → (others : List Bool) × (left ≡ mark ∷ others) × (each_at (mark_at short) (count - (i + 1)) after ≡ Ok (others, last))
unfolding each_at
next_mark short count i bytes left last mark after lt e here =
    let k : count - i ≡ suc (count - (i + 1)) = omega arith in
    let whole : each_at (mark_at short) (suc (count - (i + 1))) bytes ≡ Ok (left, last) = subst (λ (n : ℕ). each_at (mark_at short) n bytes ≡ Ok (left, last)) k e in
    let rest : (each_at (mark_at short) (count - (i + 1)) after >>= λ others. Ok (mark ∷ others.0, others.1)) ≡ Ok (left, last) = rw here at whole in
    let b = bind_ok (each_at (mark_at short) (count - (i + 1)) after) (λ others. Ok (mark ∷ others.0, others.1)) (left, last) rest in
    let same = ok_is (mark ∷ b.0.0, b.0.1) (left, last) b.2 in
    (b.0.0, sym (ap (λ (p : List Bool × List ℕ). p.0) same), b.1 ∙ ap (λ (r : List ℕ). Ok (b.0.0, r)) (ap (λ (p : List Bool × List ℕ). p.1) same))

pub no_mark : (short fault : FileFault) (count i : ℕ) (bytes : List ℕ) (left : List Bool) (last : List ℕ) → i < count → each_at (mark_at short) (count - i) bytes ≡ Ok (left, last) → mark_at short bytes ≡ Err fault → ⊥
unfolding each_at
no_mark short fault count i bytes left last lt e here =
    let k : count - i ≡ suc (count - (i + 1)) = omega arith in
    let whole : each_at (mark_at short) (suc (count - (i + 1))) bytes ≡ Ok (left, last) = subst (λ (n : ℕ). each_at (mark_at short) n bytes ≡ Ok (left, last)) k e in
    let failed : each_at (mark_at short) (suc (count - (i + 1))) bytes ≡ Err fault = rw here refl in
    let clash = sym whole ∙ failed in
    absurd cc

-- nothing is left
pub marks_done : (short : FileFault) (count i : ℕ) (bytes : List ℕ) (left : List Bool) (last : List ℕ) → count ≤ i → each_at (mark_at short) (count - i) bytes ≡ Ok (left, last) → left ≡ []
unfolding each_at
marks_done short count i bytes left last le e =
    let k : count - i ≡ 0 = omega arith in
    let none : each_at (mark_at short) 0 bytes ≡ Ok (left, last) = subst (λ (n : ℕ). each_at (mark_at short) n bytes ≡ Ok (left, last)) k e in
    sym (ap (λ (p : List Bool × List ℕ). p.0) (ok_is ([], bytes) (left, last) none))

pub metric_marked : (short : FileFault) (rows : ℕ) (bytes : List ℕ) (marks : List Bool) (after : List ℕ) → each_at (mark_at short) rows bytes ≡ Ok (marks, after) → metric_at short rows bytes ≡ present_at short marks after
unfolding metric_at
metric_marked short rows bytes marks after e = rw e refl

pub all_marks : (short : FileFault) (rows : ℕ) (bytes : List ℕ) (marks : List Bool) (after : List ℕ) → each_at (mark_at short) rows bytes ≡ Ok (marks, after) → each_at (mark_at short) (rows - 0) bytes ≡ Ok (marks, after)
all_marks short rows bytes marks after e =
    let all : rows ≡ rows - 0 = omega arith in
    subst (λ (n : ℕ). each_at (mark_at short) n bytes ≡ Ok (marks, after)) all e

pub present_done : (short : FileFault) (front : List (Option ℤ)) (bytes : List ℕ) → with_front front (present_at short [] bytes) ≡ Ok (front, bytes)
unfolding present_at
present_done short front bytes = ap (λ (xs : List (Option ℤ)). Ok (xs, bytes)) (append-nil front)

-- ---- lengths

dimension_long : (short : FileFault) (rows : ℕ) (bytes : List ℕ) (x : Coded × List ℕ) → dimension_at short rows bytes ≡ Ok x → length (decoded x.0) ≡ rows
dimension_long short rows bytes x e =
    let b = dimension_begins short rows bytes x e in
    let d = dimension_parts short rows bytes b.0.0 b.0.1 x b.1 e in
    let long = (each_good (code_at short b.0.0) (λ code. code ≤ b.0.0) (λ bs y i. code_within short b.0.0 bs y.0 y.1 i) rows d.between (d.codes, d.after) d.codes_read).0 in
    ap (λ (p : Coded × List ℕ). length (decoded p.0)) (sym d.is) ∙ length-map d.codes (value_at d.texts) ∙ long

present_long : (short : FileFault) (marks : List Bool) (bytes : List ℕ) (x : List (Option ℤ) × List ℕ) → present_at short marks bytes ≡ Ok x → length x.0 ≡ length marks
unfolding present_at
present_long short [] bytes x e = ap (λ (p : List (Option ℤ) × List ℕ). length p.0) (sym (ok_is ([], bytes) x e))
present_long short (false ∷ marks) bytes x e =
    let b = bind_ok (present_at short marks bytes) (λ others. Ok (None ∷ others.0, others.1)) x e in
    ap (λ (p : List (Option ℤ) × List ℕ). length p.0) (sym (ok_is (None ∷ b.0.0, b.0.1) x b.2)) ∙ ap suc (present_long short marks bytes b.0 b.1)
present_long short (true ∷ marks) bytes x e =
    let a = bind_ok (signed_at short bytes) (λ number. present_at short marks number.1 >>= λ others. Ok (Some number.0 ∷ others.0, others.1)) x e in
    let b = bind_ok (present_at short marks a.0.1) (λ others. Ok (Some a.0.0 ∷ others.0, others.1)) x a.2 in
    ap (λ (p : List (Option ℤ) × List ℕ). length p.0) (sym (ok_is (Some a.0.0 ∷ b.0.0, b.0.1) x b.2)) ∙ ap suc (present_long short marks a.0.1 b.0 b.1)

metric_long : (short : FileFault) (rows : ℕ) (bytes : List ℕ) (x : List (Option ℤ) × List ℕ) → metric_at short rows bytes ≡ Ok x → length x.0 ≡ rows
unfolding metric_at
metric_long short rows bytes x e =
    let b = bind_ok (each_at (mark_at short) rows bytes) (λ marks. present_at short marks.0 marks.1) x e in
    present_long short b.0.0 b.0.1 x b.2 ∙ (each_good (mark_at short) (λ mark. Unit {0}) (λ bs y i. tt) rows bytes b.0 b.1).0

abbrev columns_of : List ℕ → List Coded → List (List (Option ℤ)) → Columns
columns_of times dimensions metrics = record { times = times; dimensions = dimensions; metrics = metrics }

-- ---- all columns

-- the columns with the metrics, which are read last
abbrev with_metrics : List ℕ → List Coded → List (List (Option ℤ)) × List ℕ → Result (Columns × List ℕ) FileFault
with_metrics times dimensions metrics = Ok (columns_of times dimensions metrics.0, metrics.1)

first_ok : {A B : Type 0} (read : Result A FileFault) (f : A → Result B FileFault) → IsOk (read >>= f) → IsOk read
first_ok (Ok x) f ok = refl
first_ok (Err fault) f ok = absurd cc

module _ (short : FileFault) (shape other : Shape) (count : ℕ) (bytes : List ℕ) (k0 : Cursor) (same : shape ≡ other) (at : k0 ≡ record { rest = bytes; short = short }) where
  pub whole_ok : IsOk (columns_at short other count bytes) → IsOk (columns_at k0.short shape count k0.rest)
  whole_ok ok =
      subst (λ (k : Cursor). IsOk (columns_at k.short shape count k.rest)) (sym at) (subst (λ (w : Shape). IsOk (columns_at short w count bytes)) (sym same) ok)

  pub whole_read : (x : Columns × List ℕ) → columns_at k0.short shape count k0.rest ≡ Ok x → columns_at short other count bytes ≡ Ok x
  whole_read x e =
      subst (λ (w : Shape). columns_at short w count bytes ≡ Ok x) same (subst (λ (k : Cursor). columns_at k.short shape count k.rest ≡ Ok x) at e)

  pub times_ok : IsOk (columns_at short other count bytes) → IsOk (each_at (row_time_at k0.short shape.interval) count k0.rest)
  unfolding columns_at
  times_ok ok = first_ok (each_at (row_time_at k0.short shape.interval) count k0.rest) _ (whole_ok ok)

  module _ (times : List ℕ) (k1 : Cursor) (short1 : k1.short ≡ k0.short) (read1 : each_at (row_time_at k0.short shape.interval) count k0.rest ≡ Ok (times, k1.rest)) where
    after_times : IsOk (columns_at short other count bytes) → IsOk (each_at (dimension_at k0.short count) shape.dimensions k1.rest >>= λ dimensions. each_at (metric_at k0.short count) shape.metrics dimensions.1 >>= with_metrics times dimensions.0)
    unfolding columns_at
    after_times ok = rw read1 at (whole_ok ok)

    pub dimensions_ok : IsOk (columns_at short other count bytes) → IsOk (each_at (dimension_at k1.short count) shape.dimensions k1.rest)
    dimensions_ok ok =
        subst (λ (s : FileFault). IsOk (each_at (dimension_at s count) shape.dimensions k1.rest)) (sym short1) (first_ok (each_at (dimension_at k0.short count) shape.dimensions k1.rest) _ (after_times ok))

    module _ (dimensions : List Coded) (k2 : Cursor) (short2 : k2.short ≡ k1.short) (read2 : each_at (dimension_at k1.short count) shape.dimensions k1.rest ≡ Ok (dimensions, k2.rest)) where
      dimensions_read : each_at (dimension_at k0.short count) shape.dimensions k1.rest ≡ Ok (dimensions, k2.rest)
      dimensions_read = subst (λ (s : FileFault). each_at (dimension_at s count) shape.dimensions k1.rest ≡ Ok (dimensions, k2.rest)) short1 read2

      pub metrics_ok : IsOk (columns_at short other count bytes) → IsOk (each_at (metric_at k2.short count) shape.metrics k2.rest)
      metrics_ok ok =
          subst (λ (s : FileFault). IsOk (each_at (metric_at s count) shape.metrics k2.rest)) (sym (short2 ∙ short1)) (first_ok (each_at (metric_at k0.short count) shape.metrics k2.rest) (with_metrics times dimensions) (rw dimensions_read at (after_times ok)))

      module _ (metrics : List (List (Option ℤ))) (k3 : Cursor) (read3 : each_at (metric_at k2.short count) shape.metrics k2.rest ≡ Ok (metrics, k3.rest)) where
        metrics_read : each_at (metric_at k0.short count) shape.metrics k2.rest ≡ Ok (metrics, k3.rest)
        metrics_read = subst (λ (s : FileFault). each_at (metric_at s count) shape.metrics k2.rest ≡ Ok (metrics, k3.rest)) (short2 ∙ short1) read3

        pub columns_kept : columns_at short other count bytes ≡ Ok (columns_of times dimensions metrics, k3.rest)
        columns_kept =
            let here = columns_found k0.short shape count k0.rest k1.rest k2.rest k3.rest times dimensions metrics read1 dimensions_read metrics_read in
            subst (λ (w : Shape). columns_at short w count bytes ≡ Ok (columns_of times dimensions metrics, k3.rest)) same (subst (λ (k : Cursor). columns_at k.short shape count k.rest ≡ Ok (columns_of times dimensions metrics, k3.rest)) at here)

        pub times_long : length times ≡ count
        times_long = times_counted k0.short shape count k0.rest k1.rest times read1

        pub dimensions_long : AreEach (λ coded. length (decoded coded) ≡ count) shape.dimensions dimensions
        dimensions_long = each_good (dimension_at k0.short count) (λ coded. length (decoded coded) ≡ count) (dimension_long k0.short count) shape.dimensions k1.rest (dimensions, k2.rest) dimensions_read

        pub metrics_long : AreEach (λ numbers. length numbers ≡ count) shape.metrics metrics
        metrics_long = each_good (metric_at k0.short count) (λ numbers. length numbers ≡ count) (metric_long k0.short count) shape.metrics k2.rest (metrics, k3.rest) metrics_read

        pub texts_long : AreLong (length times) (map decoded dimensions)
        texts_long = All-map (λ (values : List (Option (List ℕ))). length values ≡ length times) decoded dimensions (λ i d lt. dimensions_long.1 i d lt ∙ sym times_long)

        pub numbers_long : AreLong (length times) metrics
        numbers_long i d lt = metrics_long.1 i d lt ∙ sym times_long

pub segment_kept : (d announcement : Described) (schema fields : Schema) (times : List ℕ) (texts : List (List (Option (List ℕ)))) (dimensions : List Coded) (metrics : List (List (Option ℤ))) → d ≡ announcement → schema ≡ fields → texts ≡ map decoded dimensions → segment_of d schema (rows_in times texts metrics) ≡ segment_of announcement fields (rows_of (columns_of times dimensions metrics))
segment_kept d announcement schema fields times texts dimensions metrics p q r = λ i. segment_of (p i) (q i) (rows_in times (r i) metrics)
