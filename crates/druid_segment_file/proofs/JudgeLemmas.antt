-- Columns that are judged: their lengths, and which texts have rows.
use Rattle.std.proofs.Common.{◌≡◌, ℕ, ℤ, zero, suc, ◌+◌, ◌*◌, ◌<◌, ◌≤◌, Bool, true, false, leb, List, [], ◌∷◌, ◌++◌, length, get_or, map, take, drop, set, ltb, cond, Result, Option, None, Some, Ok, Err, refl, sym, ap, subst, ◌∙◌, arith, inl, inr}
use Rattle.std.specs.Prelude.{All}
use Rattle.std.specs.List.{sum}
use Rattle.std.specs.Int.{w64, from_be_bytes, cast_signed}
use Rattle.std.proofs.lemmas.Bool.{leb-true, ltb-true, ltb-false, lt-ltb, le-ltb, cases_lt, false_from_ne_true}
use Rattle.std.specs.Int.{w16, w32}
use Rattle.std.specs.Str.{is_utf8}
use Rattle.std.proofs.lemmas.List.{take_at, take_all, take-append-drop, drop_more, length-take, length-take-le, length-drop, drop-drop, get_or-map, get_or-take, get_or_default, length-map, length_push, get_or_push, map_push}
use Rattle.std.proofs.lemmas.List.Sums.{sum_by_push, sum_by-cons}
use Rattle.std.proofs.lemmas.List.Elements.{All-nil, All-cons, All-head, All-tail}
use Rattle.std.proofs.lemmas.Option.{slice_get-get_or}
use Rattle.druid_segment_rows.specs.Rows.{max_value}
use Rattle.druid_segment_rows.specs.Columns.{value_at}
use Rattle.druid_segment_rows.specs.Numbering.{with_mark}
use Rattle.druid_segment_rows.specs.Segment.{text_value_length, number_value_length}
use Rattle.druid_segment_rows.proofs.PlaceLemmas.{marked_more, set_next}
use Rattle.druid_segment_file.specs.declared.fault.FileFault.{FileFault}
use Rattle.druid_segment_file.specs.declared.fault.FileFault.TheVariants.{Field}
use Rattle.druid_segment_file.specs.ColumnBytes.{Coded}
use Rattle.druid_time.specs.Results.{◌>>=◌}
use Rattle.druid_segment_file.specs.Parts.{number_at, signed_at, accepted, at_most, bytes_at, text_at, each_at, row_time_at, Shape}
use Rattle.druid_segment_file.specs.Reader.{Cursor}
use Rattle.druid_segment_file.specs.ColumnReader.{is_above, value_text_at, value_texts_at, code_at, codes_at, coded_at, dimension_at, have_rows, mark_at, present_at, metric_at, columns_at, decoded}
use Rattle.druid_segment_file.specs.FileRules.{Finds, code_length, AreMarked, ones, texts_length, numbers_length}
use Rattle.druid_segment_file.proofs.PartLemmas.{bind_ok, guard_ok, ok_is, at_most_ok, accepted_ok, AreEach}
use Rattle.druid_segment_file.proofs.DictionaryLemmas.{rows_found, rows_there}

-- ---- parts of one kind

pub each_good : {A : Type 0} (read : List ℕ → Result (A × List ℕ) FileFault) (Good : A → Type 0) → ((bytes : List ℕ) (x : A × List ℕ) → read bytes ≡ Ok x → Good x.0) → (n : ℕ) (bytes : List ℕ) (x : List A × List ℕ) → each_at read n bytes ≡ Ok x → AreEach Good n x.0
unfolding each_at
each_good {A} read Good good zero bytes x e = subst (λ (p : List A × List ℕ). AreEach Good 0 p.0) (ok_is ([], bytes) x e) (refl, All-nil Good)
each_good {A} read Good good (suc n) bytes x e =
    let a = bind_ok (read bytes) (λ first. each_at read n first.1 >>= λ others. Ok (first.0 ∷ others.0, others.1)) x e in
    let b = bind_ok (each_at read n a.0.1) (λ others. Ok (a.0.0 ∷ others.0, others.1)) x a.2 in
    let rest = each_good read Good good n a.0.1 b.0 b.1 in
    subst (λ (p : List A × List ℕ). AreEach Good (suc n) p.0) (ok_is (a.0.0 ∷ b.0.0, b.0.1) x b.2) (ap suc rest.0, All-cons Good a.0.0 b.0.0 (good bytes a.0 a.1) rest.1)

too_few : {A : Type 0} (short fault : FileFault) (b : Bool) (x : A) → cond b (Err short) (Ok x) ≡ Err fault → (b ≡ true) × (short ≡ fault)
too_few short fault true x e = (refl, cc)
too_few short fault false x e = absurd cc

-- ---- the texts

short_text : (short : FileFault) (bytes : List ℕ) (x : List ℕ × List ℕ) → text_at short bytes ≡ Ok x → length x.0 ≤ max_value
unfolding text_at bytes_at
short_text short bytes x e =
    let s = bind_ok (number_at short w16 bytes) (λ part. at_most max_value part.0 >>= λ len. bytes_at short len part.1 >>= λ beyond. accepted is_utf8 beyond.0 >>= λ value. Ok (value, beyond.1)) x e in
    let m = bind_ok (at_most max_value s.0.0) (λ len. bytes_at short len s.0.1 >>= λ beyond. accepted is_utf8 beyond.0 >>= λ value. Ok (value, beyond.1)) x s.2 in
    let a = at_most_ok max_value s.0.0 m.0 m.1 in
    let t = bind_ok (bytes_at short m.0 s.0.1) (λ beyond. accepted is_utf8 beyond.0 >>= λ value. Ok (value, beyond.1)) x m.2 in
    let g = guard_ok (ltb (length s.0.1) m.0) short (take m.0 s.0.1, drop m.0 s.0.1) t.0 t.1 in
    let u = bind_ok (accepted is_utf8 t.0.0) (λ value. Ok (value, t.0.1)) x t.2 in
    let same : take m.0 s.0.1 ≡ x.0 = ap (λ (p : List ℕ × List ℕ). p.0) g.1 ∙ (accepted_ok is_utf8 t.0.0 u.0 u.1).0 ∙ ap (λ (p : List ℕ × List ℕ). p.0) (ok_is (u.0, t.0.1) x u.2) in
    omega (arith, ap length same, length-take m.0 s.0.1, a.1)

-- a text that is read is no longer than it may be
pub text_within : (short : FileFault) (last : Option (List ℕ)) (bytes text rest : List ℕ) → value_text_at short last bytes ≡ Ok (text, rest) → length text ≤ max_value
unfolding value_text_at text_at bytes_at
text_within short last bytes text rest e =
    let a = bind_ok (text_at short bytes) (λ part. accepted (is_above last) part.0 >>= λ value. Ok (value, part.1)) (text, rest) e in
    let b = bind_ok (accepted (is_above last) a.0.0) (λ value. Ok (value, a.0.1)) (text, rest) a.2 in
    let same : a.0.0 ≡ text = (accepted_ok (is_above last) a.0.0 b.0 b.1).0 ∙ ap (λ (p : List ℕ × List ℕ). p.0) (ok_is (b.0, a.0.1) (text, rest) b.2) in
    subst (λ (t : List ℕ). length t ≤ max_value) same (short_text short bytes a.0 a.1)

-- the lengths of the texts, with that of one more
pub lens_push : (lens : List ℕ) (place : ℕ) (front : List (List ℕ)) (text : List ℕ) → place < length lens → take place lens ≡ map length front → take (place + 1) (set lens place (length text)) ≡ map length (front ++ text ∷ [])
lens_push lens place front text lt done =
    let before = take place lens in
    let rest = drop (place + 1) lens in
    let len = length text in
    let long : length before ≡ place = length-take-le place lens (omega (arith, lt)) in
    let split : lens ≡ before ++ get_or lens place 0 ∷ rest = sym (take-append-drop place lens) ∙ ap (λ (t : List ℕ). before ++ t) (drop_more lens place 0 lt) in
    let written = set_next lens before rest (get_or lens place 0) len place long split in
    ap (take (place + 1)) written ∙ take_at (before ++ len ∷ []) rest (place + 1) (length_push before len ∙ ap (λ (n : ℕ). n + 1) long) ∙ ap (λ (t : List ℕ). t ++ len ∷ []) done ∙ sym (map_push length front text)

-- ---- the codes

-- a code is that of null or of a text
pub code_within : (short : FileFault) (count : ℕ) (bytes : List ℕ) (code : ℕ) (rest : List ℕ) → code_at short count bytes ≡ Ok (code, rest) → code ≤ count
unfolding code_at
code_within short count bytes code rest e =
    let b = bind_ok (number_at short w32 bytes) (λ part. accepted (λ n. leb n count) part.0 >>= λ n. Ok (n, part.1)) (code, rest) e in
    let m = bind_ok (accepted (λ n. leb n count) b.0.0) (λ n. Ok (n, b.0.1)) (code, rest) b.2 in
    let g = accepted_ok (λ n. leb n count) b.0.0 m.0 m.1 in
    subst (λ (p : ℕ × List ℕ). p.0 ≤ count) (ok_is (m.0, b.0.1) (code, rest) m.2) (leb-true m.0 count g.1)

pub none_marked : (marks : List ℕ) → All (λ mark. mark ≡ 0) marks → AreMarked [] marks
none_marked marks none place lt = (λ some. absurd (omega (arith, some, none place 0 lt)), λ there. absurd (omega (arith, there.1)))

pub marked_push : (front marks : List ℕ) (code : ℕ) → AreMarked front marks → AreMarked (front ++ code ∷ []) (with_mark marks code)
marked_push front marks code h =
    let codes = front ++ code ∷ [] in
    let long = length_push front code in
    let before : AreMarked (take (length front) codes) marks = subst (λ (cs : List ℕ). AreMarked cs marks) (sym (take_at front (code ∷ []) (length front) refl)) h in
    let last = sym (get_or_push front code code (length front) refl) in
    subst (λ (cs : List ℕ). AreMarked cs (with_mark marks code)) (take_all (length front + 1) codes (omega (arith, long))) (marked_more codes marks (length front) code (omega (arith, long)) last before)

pub sum_push : {X : Type 0} (f : X → ℕ) (front : List X) (x : X) → sum (map f (front ++ x ∷ [])) ≡ sum (map f front) + f x
sum_push f front x = ap sum (map_push f front x) ∙ sum_by_push (λ (n : ℕ). n) (map f front) (f x)

-- the lengths of what codes stand for
one_length : (texts : List (List ℕ)) (code : ℕ) → code ≤ length texts → code_length (map length texts) code ≡ text_value_length (value_at texts code)
one_length texts zero h = refl
one_length texts (suc k) h =
    ap (λ (n : ℕ). 3 + n) (get_or-map length texts k [] 0 h) ∙ sym (ap text_value_length (slice_get-get_or texts k [] h))

all_lengths : (texts : List (List ℕ)) (codes : List ℕ) → All (λ code. code ≤ length texts) codes → map (code_length (map length texts)) codes ≡ map text_value_length (map (value_at texts) codes)
all_lengths texts [] all = refl
all_lengths texts (code ∷ codes) all =
    let here = one_length texts code (All-head (λ code. code ≤ length texts) code codes all) in
    let rest = all_lengths texts codes (All-tail (λ code. code ≤ length texts) code codes all) in
    λ i. here i ∷ rest i

-- ---- a dimension

abbrev coded_of : List (List ℕ) → List ℕ → Coded
coded_of texts codes = record { texts = texts; codes = codes }

pub coded_no_texts : (short fault : FileFault) (count rows : ℕ) (bytes : List ℕ) → value_texts_at short count None bytes ≡ Err fault → coded_at short count rows bytes ≡ Err fault
unfolding coded_at
coded_no_texts short fault count rows bytes e = rw e refl

module _ (short : FileFault) (count rows : ℕ) (bytes mid : List ℕ) (texts : List (List ℕ)) (read : value_texts_at short count None bytes ≡ Ok (texts, mid)) where
  pub coded_no_codes : (fault : FileFault) → each_at (code_at short count) rows mid ≡ Err fault → coded_at short count rows bytes ≡ Err fault
  unfolding coded_at codes_at
  coded_no_codes fault e = rw (read, e) refl

  module _ (codes after lens marks : List ℕ) (coded : each_at (code_at short count) rows mid ≡ Ok (codes, after)) (long : length marks ≡ count) (marked : AreMarked codes marks) where
    pub coded_unused : (All (λ mark. 0 < mark) marks → ⊥) → coded_at short count rows bytes ≡ Err Field
    unfolding coded_at codes_at accepted
    coded_unused some =
        let none : have_rows count codes ≡ false = false_from_ne_true (have_rows count codes) (λ e. some (λ k d lt.
        let row = rows_found count codes e k (omega (arith, lt, long)) in
        subst (λ (m : ℕ). 0 < m) (get_or_default marks k 0 d lt) ((marked k lt).1 row))) in
        rw (read, coded, none) refl

    pub coded_found : All (λ mark. 0 < mark) marks → coded_at short count rows bytes ≡ Ok (coded_of texts codes, after)
    unfolding coded_at codes_at accepted
    coded_found all =
        let used : have_rows count codes ≡ true = rows_there count codes (λ k lt.
        let within : k < length marks = omega (arith, lt, long) in
        (marked k within).0 (all k 0 within)) in
        rw (read, coded, used) refl

  pub coded_length : (codes after lens : List ℕ) (len : ℕ) → each_at (code_at short count) rows mid ≡ Ok (codes, after) → lens ≡ map length texts → length lens ≡ count → len ≡ sum (map (code_length lens) codes) → len ≡ texts_length (decoded (coded_of texts codes))
  coded_length codes after lens len coded is long sums =
      let bounded = (each_good (code_at short count) (λ code. code ≤ count) (λ bs x e. code_within short count bs x.0 x.1 e) rows mid (codes, after) coded).1 in
      let many : count ≡ length texts = sym long ∙ ap length is ∙ length-map texts length in
      sums ∙ ap (λ (ls : List ℕ). sum (map (code_length ls) codes)) is ∙ ap sum (all_lengths texts codes (subst (λ (n : ℕ). All (λ code. code ≤ n) codes) many bounded))

-- ---- the marks

ones_added : (front : List Bool) (mark : Bool) → ones (front ++ mark ∷ []) ≡ ones front + ones (mark ∷ [])
ones_added [] false = refl
ones_added [] true = refl
ones_added (false ∷ front) mark = ones_added front mark
ones_added (true ∷ front) mark = omega (arith, ones_added front mark)

-- one row more, without a number or with one
pub ones_same : (front : List Bool) (mark : Bool) (count : ℕ) → mark ≡ false → count ≡ ones front → count ≡ ones (front ++ mark ∷ [])
ones_same front false count is h = omega (arith, ones_added front false, h)
ones_same front true count is h = absurd cc

pub ones_more : (front : List Bool) (mark : Bool) (count : ℕ) → mark ≡ true → count ≡ ones front → count + 1 ≡ ones (front ++ mark ∷ [])
ones_more front true count is h = omega (arith, ones_added front true, h)
ones_more front false count is h = absurd cc

-- the numbers of those rows, that many bytes each

present_err : (short : FileFault) (marks : List Bool) (bytes : List ℕ) → length bytes < 8 * ones marks → present_at short marks bytes ≡ Err short
unfolding present_at signed_at number_at bytes_at
present_err short [] bytes lt = absurd (omega (arith, lt))
present_err short (false ∷ marks) bytes lt = ap (λ r. r >>= λ others. Ok (None ∷ others.0, others.1)) (present_err short marks bytes lt)
present_err short (true ∷ marks) bytes lt =
    elim (cases_lt (length bytes) 8) [
      | inl few ↦ rw (lt-ltb (length bytes) 8 few) refl
      | inr enough ↦
          let later = present_err short marks (drop 8 bytes) (omega (arith, lt, length-drop 8 bytes)) in
          rw (le-ltb (length bytes) 8 enough, later) refl
    ]

present_ok : (short : FileFault) (marks : List Bool) (bytes : List ℕ) → 8 * ones marks ≤ length bytes → (numbers : List (Option ℤ)) × (present_at short marks bytes ≡ Ok (numbers, drop (8 * ones marks) bytes)) × (numbers_length numbers ≡ length marks + 8 * ones marks)
unfolding present_at signed_at number_at bytes_at
present_ok short [] bytes le = ([], refl, refl)
present_ok short (false ∷ marks) bytes le =
    let t = present_ok short marks bytes le in
    (None ∷ t.0, ap (λ r. r >>= λ others. Ok (None ∷ others.0, others.1)) t.1, omega (arith, t.2, sum_by-cons (λ (n : ℕ). n) 1 (map number_value_length t.0)))
present_ok short (true ∷ marks) bytes le =
    let t = present_ok short marks (drop 8 bytes) (omega (arith, le, length-drop 8 bytes)) in
    let number = cast_signed w64 (from_be_bytes w64 (take 8 bytes)) in
    let left : drop (8 * ones marks) (drop 8 bytes) ≡ drop (8 * suc (ones marks)) bytes = drop-drop (8 * ones marks) 8 bytes ∙ ap (λ (n : ℕ). drop n bytes) (omega arith) in
    let read : present_at short (true ∷ marks) bytes ≡ Ok (Some number ∷ t.0, drop (8 * suc (ones marks)) bytes) = rw (le-ltb (length bytes) 8 (omega (arith, le)), t.1, left) refl in
    (Some number ∷ t.0, read, omega (arith, t.2, sum_by-cons (λ (n : ℕ). n) 9 (map number_value_length t.0)))

-- ---- a metric

pub metric_unmarked : (short fault : FileFault) (rows : ℕ) (bytes : List ℕ) → each_at (mark_at short) rows bytes ≡ Err fault → metric_at short rows bytes ≡ Err fault
unfolding metric_at
metric_unmarked short fault rows bytes e = rw e refl

pub metric_ends : (short fault : FileFault) (rows : ℕ) (bytes : List ℕ) (marks : List Bool) (after : List ℕ) (n : ℕ) → each_at (mark_at short) rows bytes ≡ Ok (marks, after) → n ≡ ones marks → bytes_at short (8 * n) after ≡ Err fault → metric_at short rows bytes ≡ Err fault
unfolding metric_at bytes_at
metric_ends short fault rows bytes marks after n e counted ended =
    let few = too_few short fault (ltb (length after) (8 * n)) _ ended in
    let less : length after < 8 * ones marks = omega (arith, ltb-true (length after) (8 * n) few.0, counted) in
    rw e (present_err short marks after less ∙ ap Err few.1)

pub metric_found : (short : FileFault) (rows : ℕ) (bytes : List ℕ) (marks : List Bool) (after : List ℕ) (n : ℕ) (part rest : List ℕ) → each_at (mark_at short) rows bytes ≡ Ok (marks, after) → n ≡ ones marks → bytes_at short (8 * n) after ≡ Ok (part, rest)
    → (numbers : List (Option ℤ)) × (metric_at short rows bytes ≡ Ok (numbers, rest)) × (rows + 8 * n ≡ numbers_length numbers)
unfolding metric_at bytes_at
metric_found short rows bytes marks after n part rest e counted read =
    let g = guard_ok (ltb (length after) (8 * n)) short (take (8 * n) after, drop (8 * n) after) (part, rest) read in
    let enough = ltb-false (length after) (8 * n) g.0 in
    let t = present_ok short marks after (omega (arith, enough, counted)) in
    let left : drop (8 * ones marks) after ≡ rest = ap (λ (k : ℕ). drop (8 * k) after) (sym counted) ∙ ap (λ (p : List ℕ × List ℕ). p.1) g.1 in
    let long : length marks ≡ rows = (each_good (mark_at short) (λ b. Unit {0}) (λ bs x is. tt) rows bytes (marks, after) e).0 in
    (t.0, rw e (t.1 ∙ ap (λ (r : List ℕ). Ok (t.0, r)) left), omega (arith, t.2, counted, long))

-- ---- for the code

pub finds_as : {X A : Type 0} (Is : X → A → Type 0) (mid old new : Cursor) (result : Result X FileFault) (part read : Result (A × List ℕ) FileFault) → mid.short ≡ old.short → read ≡ part → Finds Is mid new result part → Finds Is old new result read
finds_as Is mid old new (Ok x) part read same e h = ((h.0.0, e ∙ h.0.1, h.0.2), h.1 ∙ same)
finds_as Is mid old new (Err fault) part read same e h = e ∙ h

pub codes_same : (s1 s2 : FileFault) (n1 n2 rows : ℕ) (bytes : List ℕ) (r : Result (List ℕ × List ℕ) FileFault) → s1 ≡ s2 → n1 ≡ n2 → each_at (code_at s1 n1) rows bytes ≡ r → each_at (code_at s2 n2) rows bytes ≡ r
codes_same s1 s2 n1 n2 rows bytes r p q e =
    subst (λ (s : FileFault). each_at (code_at s n2) rows bytes ≡ r) p (subst (λ (n : ℕ). each_at (code_at s1 n) rows bytes ≡ r) q e)

pub dimension_counted : (short : FileFault) (rows n count : ℕ) (bytes after : List ℕ) → number_at short w32 bytes ≡ Ok (n, after) → at_most rows n ≡ Ok count → dimension_at short rows bytes ≡ coded_at short count rows after
unfolding dimension_at
dimension_counted short rows n count bytes after e limit = rw (e, limit) refl

pub dimension_uncounted : (short fault : FileFault) (rows : ℕ) (bytes : List ℕ) → number_at short w32 bytes ≡ Err fault → dimension_at short rows bytes ≡ Err fault
unfolding dimension_at
dimension_uncounted short fault rows bytes e = rw e refl

pub dimension_too_long : (short fault : FileFault) (rows n : ℕ) (bytes after : List ℕ) → number_at short w32 bytes ≡ Ok (n, after) → at_most rows n ≡ Err fault → dimension_at short rows bytes ≡ Err fault
unfolding dimension_at
dimension_too_long short fault rows n bytes after e limit = rw (e, limit) refl

pub none_in_front : (n : ℕ) (marks : List ℕ) → All (λ mark. mark ≡ 0) marks → n ≤ length marks → All (λ mark. mark ≡ 0) (take n marks)
none_in_front n marks none few k d lt =
    let within : k < n = omega (arith, lt, length-take n marks) in
    get_or-take n marks k d within ∙ none k d (omega (arith, within, few))

pub columns_found : (short : FileFault) (shape : Shape) (rows : ℕ) (bytes b1 b2 b3 : List ℕ) (times : List ℕ) (dimensions : List Coded) (metrics : List (List (Option ℤ))) → each_at (row_time_at short shape.interval) rows bytes ≡ Ok (times, b1) → each_at (dimension_at short rows) shape.dimensions b1 ≡ Ok (dimensions, b2) → each_at (metric_at short rows) shape.metrics b2 ≡ Ok (metrics, b3)
    → columns_at short shape rows bytes ≡ Ok (record { times = times; dimensions = dimensions; metrics = metrics }, b3)
unfolding columns_at
columns_found short shape rows bytes b1 b2 b3 times dimensions metrics p q r = rw (p, q, r) refl

pub times_counted : (short : FileFault) (shape : Shape) (rows : ℕ) (bytes after times : List ℕ) → each_at (row_time_at short shape.interval) rows bytes ≡ Ok (times, after) → length times ≡ rows
times_counted short shape rows bytes after times e = (each_good (row_time_at short shape.interval) (λ t. Unit {0}) (λ bs x is. tt) rows bytes (times, after) e).0
