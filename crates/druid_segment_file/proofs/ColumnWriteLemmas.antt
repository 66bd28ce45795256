-- What a writer got of a segment by columns.
use Rattle.std.proofs.Common.{◌≡◌, ◌↔◌, ℕ, ◌+◌, ◌<◌, ◌≤◌, List, [], ◌∷◌, ◌++◌, length, map, get_or, Option, Some, None, All, IfSome, Bool, false, IsTrue, inl, inr, refl, sym, ap, subst, ◌∙◌, append_assoc, append-nil, arith, length-append}
use Rattle.std.specs.List.{flat_map, range_with_len}
use Rattle.std.proofs.lemmas.Bool.{cases_lt, false≢true}
use Rattle.std.proofs.lemmas.List.Elements.{All-map, All-weaker, All-contains, Contains-get_or}
use Rattle.std.proofs.Math.ListN.{get_or-append}
use Rattle.std.proofs.Math.Seq.{get_or-append_seam}
use Rattle.std.proofs.lemmas.List.{get_or_past}
use Rattle.druid_segment_rows.specs.Rows.{Row, max_value, AreShort, HasShortValues}
use Rattle.druid_segment_rows.specs.Columns.{column, IsDictionary, AreCodes}
use Rattle.druid_segment_rows.specs.Segment.{Segment, IsSegment, max_text}
use Rattle.druid_segment_rows.proofs.ColumnLemmas.{IsDictionary_unique, AreCodes_unique}
use Rattle.druid_segment_file.specs.ColumnBytes.{column_magic, Coded, no_values, IsCoded, AreCoded, dimension, metric, numbers_of, column_spelling, IsColumnSpelling}
use Rattle.druid_segment_file.specs.ByteParts.{instant}
use Rattle.druid_segment_file.specs.Heading.{heading_after, column_front}
use Rattle.druid_segment_file.proofs.ColumnRoomLemmas.{length_column_spelling}
use Rattle.std.proofs.KnownBytes.{Appends-nil}
use Rattle.druid_stream.specs.Fronts.{AppendsFront}
use Rattle.std.proofs.lemmas.List.Folds.{flat_map-map}
use Rattle.druid_segment_file.specs.Written.{AppendsUpTo}
use Rattle.druid_segment_file.proofs.WriteLemmas.{up_to_then, up_to_more, front_then}

-- ---- parts after parts

-- a front of a text is one of a longer text
pub front_longer : (a b : Option (List ℕ)) (text more : List ℕ) → AppendsFront a b text → AppendsFront a b (text ++ more)
front_longer a b text more p =
    (p.0, p.1 ++ more, ap (λ (t : List ℕ). t ++ more) p.2 ∙ append_assoc p.0 p.1 more, omega (arith, p.3, length-append p.1 more), p.4)

-- the writer fails in what follows
pub front_beyond : (a b c : Option (List ℕ)) (text rest more : List ℕ) → AppendsUpTo a b text rest → AppendsFront b c (rest ++ more) → AppendsFront a c (text ++ more)
front_beyond a b c text rest more p q =
    subst (AppendsFront a c) (append-nil (text ++ more)) (front_then a b c (text ++ more) (rest ++ more) [] (up_to_more a b text rest more p) q)

-- ---- a dimension

-- what a segment lends of a dimension is its coding
pub same_coded : (segment : Segment) (dimensions : List Coded) (place : ℕ) (texts : List (List ℕ)) (codes : List ℕ) → AreCoded segment dimensions → place < length dimensions → IsDictionary (column place segment.rows) texts
    → ((all : List (List ℕ)) → IsDictionary (column place segment.rows) all → AreCodes all (column place segment.rows) codes) → dimension (record { texts = texts; codes = codes }) ≡ dimension (get_or dimensions place no_values)
same_coded segment dimensions place texts codes all lt is codes_are =
    let coded = get_or dimensions place no_values in
    let values = column place segment.rows in
    let each = all.each place lt in
    let same_texts : texts ≡ coded.texts = IsDictionary_unique values texts coded.texts is each.dictionary in
    let same_codes : codes ≡ coded.codes = AreCodes_unique values coded.texts codes coded.codes each.dictionary (codes_are coded.texts each.dictionary) each.codes in
    ap (λ ts. dimension (record { texts = ts; codes = codes })) same_texts ∙ ap (λ cs. dimension (record { texts = coded.texts; codes = cs })) same_codes

-- the dimensions before a place are coded so
abbrev pub AreCodedUpTo : Segment → ℕ → Type 0
AreCodedUpTo segment n =
    (dimensions : List Coded) × (length dimensions ≡ n) × ((place : ℕ) → place < length dimensions → IsCoded (column place segment.rows) (get_or dimensions place no_values))

pub none_coded : (segment : Segment) → AreCodedUpTo segment 0
none_coded segment = ([], refl, λ place lt. absurd (omega (arith, lt)))

pub one_coded : (segment : Segment) (n : ℕ) (texts : List (List ℕ)) (codes : List ℕ) → AreCodedUpTo segment n → IsDictionary (column n segment.rows) texts
    → ((all : List (List ℕ)) → IsDictionary (column n segment.rows) all → AreCodes all (column n segment.rows) codes) → AreCodedUpTo segment (n + 1)
one_coded segment n texts codes before is codes_are =
    let coded : Coded = record { texts = texts; codes = codes } in
    let so_far = before.0 in
    let all = so_far ++ coded ∷ [] in
    let this : IsCoded (column (length so_far) segment.rows) coded =
    subst (λ k. IsCoded (column k segment.rows) coded) (sym before.1) (record { dictionary = is; codes = codes_are texts is }) in
    let last : IsCoded (column (length so_far) segment.rows) (get_or all (length so_far) no_values) =
    subst (IsCoded (column (length so_far) segment.rows)) (sym (get_or-append_seam so_far coded [] no_values)) this in (
      all,
      omega (arith, length-append so_far (coded ∷ []), before.1),
      λ place lt. elim (cases_lt place (length so_far)) [
        | inl within ↦ subst (IsCoded (column place segment.rows)) (sym (get_or-append so_far (coded ∷ []) no_values place within)) (before.2 place within)
        | inr past ↦
            let at : length so_far ≡ place = omega (arith, lt, past, length-append so_far (coded ∷ [])) in
            subst (λ k. IsCoded (column k segment.rows) (get_or all k no_values)) at last
      ],
    )

pub all_coded : (segment : Segment) (n : ℕ) → n ≡ length segment.fields.dimensions → AreCodedUpTo segment n → (dimensions : List Coded) × AreCoded segment dimensions
all_coded segment n long coded = (coded.0, record { long = coded.1 ∙ long; each = coded.2 })

short_at : (values : List (Option (List ℕ))) (place : ℕ) → AreShort values → IfSome (get_or values place None) (λ text. length text ≤ max_value)
short_at values place short = elim (cases_lt place (length values)) [
  | inl within ↦ short place None within
  | inr past ↦ subst (λ value. IfSome value (λ text. length text ≤ max_value)) (sym (get_or_past values place None past)) tt
]

column_short : (rows : List Row) (place : ℕ) → All HasShortValues rows → AreShort (column place rows)
column_short rows place all =
    All-map (λ value. IfSome value (λ text. length text ≤ max_value)) (λ (row : Row). get_or row.dimensions place None) rows
    (All-weaker HasShortValues (λ (row : Row). IfSome (get_or row.dimensions place None) (λ text. length text ≤ max_value)) (λ row short. short_at row.dimensions place short) rows all)

-- no text of a dictionary is too long
pub texts_short : (segment : Segment) (place : ℕ) (texts : List (List ℕ)) → IsSegment segment → IsDictionary (column place segment.rows) texts → All (λ text. length text ≤ max_value) texts
texts_short segment place texts valid is i d lt =
    let text = get_or texts i d in
    All-contains (λ value. IfSome value (λ text. length text ≤ max_value)) (column place segment.rows) (Some text) (column_short segment.rows place valid.within.values) ((is.occur text).0 (Contains-get_or texts i d lt))

-- ---- a segment by columns

abbrev metrics_of : Segment → List ℕ
metrics_of segment = flat_map (λ place. metric (numbers_of segment.rows place)) (range_with_len 0 (length segment.fields.metrics))

pub front_made : (segment : Segment) (head out times : List ℕ) → head ≡ heading_after column_magic segment → times ≡ map (λ (row : Row). row.time) segment.rows → out ≡ head ++ flat_map instant times → out ≡ column_front segment
front_made segment head out times p q r =
    r ∙ ap (λ (h : List ℕ). h ++ flat_map instant times) p
    ∙ ap (λ (ts : List ℕ). heading_after column_magic segment ++ flat_map instant ts) q
    ∙ ap (λ (ts : List ℕ). heading_after column_magic segment ++ ts) (flat_map-map instant (λ (row : Row). row.time) segment.rows)

-- nothing is written yet
pub nothing_written : (segment : Segment) (dimensions : List Coded) (a : Option (List ℕ)) → AppendsFront a a (column_spelling segment dimensions)
nothing_written segment dimensions a =
    ([], column_spelling segment dimensions, refl, omega (arith, length_column_spelling segment dimensions), Appends-nil a)

pub dimensions_failed : (segment : Segment) (dimensions : List Coded) (a b : Option (List ℕ)) (start : List ℕ) → start ≡ column_front segment → AppendsFront a b (start ++ flat_map dimension dimensions) → AppendsFront a b (column_spelling segment dimensions)
dimensions_failed segment dimensions a b start e p =
    front_longer a b (column_front segment ++ flat_map dimension dimensions) (metrics_of segment) (subst (λ (s : List ℕ). AppendsFront a b (s ++ flat_map dimension dimensions)) e p)

pub metrics_failed : (segment : Segment) (dimensions : List Coded) (a b c : Option (List ℕ)) (start rest : List ℕ) → start ≡ column_front segment → AppendsUpTo a b (start ++ flat_map dimension dimensions) rest → AppendsFront b c (rest ++ metrics_of segment) → AppendsFront a c (column_spelling segment dimensions)
metrics_failed segment dimensions a b c start rest e p q =
    front_beyond a b c (column_front segment ++ flat_map dimension dimensions) rest (metrics_of segment) (subst (λ (s : List ℕ). AppendsUpTo a b (s ++ flat_map dimension dimensions) rest) e p) q

-- all is spelled, and the rest waits
pub all_spelled : (segment : Segment) (dimensions : List Coded) (a b c : Option (List ℕ)) (start rest more : List ℕ) → start ≡ column_front segment → AppendsUpTo a b (start ++ flat_map dimension dimensions) rest → AppendsUpTo b c (rest ++ metrics_of segment) more → AppendsUpTo a c (column_spelling segment dimensions) more
all_spelled segment dimensions a b c start rest more e p q =
    let front = column_front segment ++ flat_map dimension dimensions in
    up_to_then a b c (front ++ metrics_of segment) (rest ++ metrics_of segment) more
    (up_to_more a b front rest (metrics_of segment) (subst (λ (s : List ℕ). AppendsUpTo a b (s ++ flat_map dimension dimensions) rest) e p)) q

-- the writer fails in the rest
pub rest_unwritten : (a b c : Option (List ℕ)) (text rest : List ℕ) → AppendsUpTo a b text rest → AppendsFront b c rest → AppendsFront a c text
rest_unwritten a b c text rest p q =
    subst (AppendsFront a c) (append-nil text) (front_then a b c text rest [] p q)

-- a spelling is too long where that of any coding is
pub spelling_long : (segment : Segment) (bytes : List ℕ) (short : Bool) → ((dimensions : List Coded) → AreCoded segment dimensions → IsTrue short ↔ (length (column_spelling segment dimensions) ≤ max_text)) → short ≡ false → IsColumnSpelling bytes segment → max_text < length bytes
spelling_long segment bytes short means long is = elim (cases_lt max_text (length bytes)) [
  | inl more ↦ more
  | inr fits ↦ absurd (false≢true (sym long ∙ (means is.0 is.1).1 (subst (λ (bs : List ℕ). length bs ≤ max_text) is.2 fits)))
]
