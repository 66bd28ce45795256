-- The names of fields, read and written: each is new, where all are distinct.
use Rattle.std.proofs.Common.{◌≡◌, ℕ, zero, suc, ◌<◌, ◌≤◌, Bool, true, false, not, ◌||◌, List, [], ◌∷◌, ◌++◌, length, get_or, Ok, refl, sym, ap, subst, ◌∙◌, append_assoc, arith, inl, inr}
use Rattle.std.specs.Prelude.{bytes_eq, All}
use Rattle.std.specs.List.{flat_map, list_any}
use Rattle.std.specs.Str.{IsUtf8}
use Rattle.std.specs.Borrow.{Bor}
use Rattle.druid_segment_file.specs.Borrowed.{bytes_of, texts_borrowed}
use Rattle.std.specs.Cmp.Lexicographic.{bytes_decides}
use Rattle.std.proofs.lemmas.Bool.{and_parts, and_from, not-true, not_from_false, false_from_ne_true, false≢true, cases_order}
use Rattle.std.proofs.lemmas.List.{append-nil, length-append, length_push, get_or_append_left, get_or_push, get_or_at}
use Rattle.std.proofs.lemmas.List.Concat.{flat_map-cons}
use Rattle.std.proofs.lemmas.List.Elements.{All-nil, All-cons, All-head, All-tail}
use Rattle.std.proofs.lemmas.List.Folds.{list_any_at, Any-from_list_any, list_any-append}
use Rattle.druid_segment_rows.specs.Names.{is_field_name, IsFieldName}
use Rattle.druid_base.specs.Distinct.{AreDistinct}
use Rattle.druid_segment_rows.specs.Rows.{Schema, IsSchema}
use Rattle.druid_segment_rows.specs.Segment.{max_fields}
use Rattle.druid_segment_file.specs.declared.fault.FileFault.{FileFault}
use Rattle.druid_segment_file.specs.ByteParts.{short_text, names}
use Rattle.druid_time.specs.Results.{◌>>=◌}
use Rattle.druid_segment_file.specs.Parts.{at_most, is_new_name, field_name_at, field_names_at, names_at, fields_at}
use Rattle.druid_segment_file.proofs.TextLemmas.{is_field_name-is, is_field_name-true, no_field_name}
use Rattle.druid_segment_file.proofs.PartLemmas.{bind_ok, ok_is, at_most_ok, at_most_within, accepted_read, IsBytes, Takes, Takes-then, Reads, step_takes, step_again, byte_read, short_text_read}

-- each is a field name, and none of those before it
abbrev pub AreNew : List (List ℕ) → List (List ℕ) → Type 0
AreNew before [] = Unit {0}
AreNew before (name ∷ more) = (is_new_name before name ≡ true) × AreNew (before ++ name ∷ []) more

-- ---- new names are distinct ones

-- a name that stands nowhere before
is_absent : (name : List ℕ) (before : List (List ℕ)) → list_any (bytes_eq name) before ≡ false → (k : ℕ) (d : List ℕ) → k < length before → get_or before k d ≡ name → ⊥
is_absent name before none k d lt e =
    absurd (false≢true (sym none ∙ list_any_at (bytes_eq name) before k d lt ((bytes_decides name (get_or before k d)).1 (sym e))))

distinct_push : (before : List (List ℕ)) (name : List ℕ) → AreDistinct before → list_any (bytes_eq name) before ≡ false → AreDistinct (before ++ name ∷ [])
distinct_push before name distinct none i j d li lj e =
    let len = length_push before name in
    elim (cases_order i (length before)) [
      | inl i-last ↦ elim (cases_order j (length before)) [
        | inl j-last ↦ omega (arith, i-last, j-last)
        | inr (inl j-in) ↦ absurd (is_absent name before none j d j-in (sym (get_or_append_left before (name ∷ []) d j j-in) ∙ sym e ∙ get_or_push before name d i (sym i-last)))
        | inr (inr j-out) ↦ absurd (omega (arith, len, lj, j-out))
      ]
      | inr (inl i-in) ↦ elim (cases_order j (length before)) [
        | inl j-last ↦ absurd (is_absent name before none i d i-in (sym (get_or_append_left before (name ∷ []) d i i-in) ∙ e ∙ get_or_push before name d j (sym j-last)))
        | inr (inl j-in) ↦ distinct i j d i-in j-in (sym (get_or_append_left before (name ∷ []) d i i-in) ∙ e ∙ get_or_append_left before (name ∷ []) d j j-in)
        | inr (inr j-out) ↦ absurd (omega (arith, len, lj, j-out))
      ]
      | inr (inr i-out) ↦ absurd (omega (arith, len, li, i-out))
    ]

pub distinct_new : (before more : List (List ℕ)) → AreDistinct before → AreNew before more → AreDistinct (before ++ more)
distinct_new before [] distinct new = subst AreDistinct (sym (append-nil before)) distinct
distinct_new before (name ∷ more) distinct new =
    let parts = and_parts (is_field_name name) (not (list_any (bytes_eq name) before)) new.0 in
    subst AreDistinct (append_assoc before (name ∷ []) more) (distinct_new (before ++ name ∷ []) more (distinct_push before name distinct (not-true (list_any (bytes_eq name) before) parts.1)) new.1)

pub names_new : (before more : List (List ℕ)) → AreNew before more → All IsFieldName more
names_new before [] new = All-nil IsFieldName
names_new before (name ∷ more) new =
    let parts = and_parts (is_field_name name) (not (list_any (bytes_eq name) before)) new.0 in
    All-cons IsFieldName name more (is_field_name-is name parts.0) (names_new (before ++ name ∷ []) more new.1)

-- ---- distinct names are new ones

was_absent : (before : List (List ℕ)) (name : List ℕ) (more : List (List ℕ)) → AreDistinct (before ++ name ∷ more) → list_any (bytes_eq name) before ≡ false
was_absent before name more distinct =
    false_from_ne_true (list_any (bytes_eq name) before) (λ t.
    let at = Any-from_list_any (bytes_eq name) before t in
    let same : name ≡ at.1 = (bytes_decides name at.1).0 at.4 in
    let len = length-append before (name ∷ more) in
    let first : get_or (before ++ name ∷ more) at.0 at.1 ≡ name = get_or_append_left before (name ∷ more) at.1 at.0 at.2 ∙ at.3 ∙ sym same in
    let second : get_or (before ++ name ∷ more) (length before) at.1 ≡ name = get_or_at before name more at.1 (length before) refl in
    let one = distinct at.0 (length before) at.1 (omega (arith, len, at.2)) (omega (arith, len)) (first ∙ sym second) in
    omega (arith, one, at.2))

pub new_distinct : (before more : List (List ℕ)) → AreDistinct (before ++ more) → All IsFieldName more → AreNew before more
new_distinct before [] distinct fields = tt
new_distinct before (name ∷ more) distinct fields =
    let test = and_from (is_field_name name) (not (list_any (bytes_eq name) before)) (is_field_name-true name (All-head IsFieldName name more fields)) (not_from_false (list_any (bytes_eq name) before) (was_absent before name more distinct)) in
    (test, new_distinct (before ++ name ∷ []) more (subst AreDistinct (sym (append_assoc before (name ∷ []) more)) distinct) (All-tail IsFieldName name more fields))

distinct_front : (xs ys : List (List ℕ)) → AreDistinct (xs ++ ys) → AreDistinct xs
distinct_front xs ys distinct i j d li lj e =
    let len = length-append xs ys in
    distinct i j d (omega (arith, len, li)) (omega (arith, len, lj)) (get_or_append_left xs ys d i li ∙ e ∙ sym (get_or_append_left xs ys d j lj))

none_distinct : AreDistinct []
none_distinct i j d li lj e = omega arith

-- ---- readers

pub field_name_read : (short : FileFault) (before : List (List ℕ)) → Reads (List ℕ) (field_name_at short before) short_text (λ name. is_new_name before name ≡ true)
unfolding field_name_at
field_name_read short before =
    accepted_read (is_new_name before) (λ name. is_new_name before name ≡ true) (short_text_read short 100 (omega arith)) (λ name is fine. is) (λ name h.
    let parts = and_parts (is_field_name name) (not (list_any (bytes_eq name) before)) h in
    ((is_field_name-is name parts.0).short, h))

field_names_take : (short : FileFault) (n : ℕ) (before : List (List ℕ)) (bytes : List ℕ) (x : List (List ℕ) × List ℕ) → IsBytes bytes → field_names_at short n before bytes ≡ Ok x → Takes bytes (flat_map short_text x.0) x.1 × (length x.0 ≡ n) × AreNew before x.0
unfolding field_names_at
field_names_take short zero before bytes x fits e =
    subst (λ (p : List (List ℕ) × List ℕ). Takes bytes (flat_map short_text p.0) p.1 × (length p.0 ≡ 0) × AreNew before p.0) (ok_is ([], bytes) x e) (record { parts = refl; rest_fits = fits }, refl, tt)
field_names_take short (suc n) before bytes x fits e =
    let a = step_takes (field_name_read short before) (λ name. field_names_at short n (before ++ name.0 ∷ []) name.1 >>= λ others. Ok (name.0 ∷ others.0, others.1)) bytes x fits e in
    let b = bind_ok (field_names_at short n (before ++ a.0.0 ∷ []) a.0.1) (λ others. Ok (a.0.0 ∷ others.0, others.1)) x a.3 in
    let second = field_names_take short n (before ++ a.0.0 ∷ []) a.0.1 b.0 a.1.rest_fits b.1 in
    let both = Takes-then bytes (short_text a.0.0) a.0.1 (flat_map short_text b.0.0) b.0.1 a.1 second.0 in
    let made : List (List ℕ) × List ℕ = (a.0.0 ∷ b.0.0, b.0.1) in
    subst (λ (p : List (List ℕ) × List ℕ). Takes bytes (flat_map short_text p.0) p.1 × (length p.0 ≡ suc n) × AreNew before p.0) (ok_is made x b.2) (rw flat_map-cons both, ap suc second.1, (a.2, second.2))

field_names_again : (short : FileFault) (xs before : List (List ℕ)) (rest : List ℕ) → AreNew before xs → field_names_at short (length xs) before (flat_map short_text xs ++ rest) ≡ Ok (xs, rest)
unfolding field_names_at
field_names_again short [] before rest h = refl
field_names_again short (x ∷ xs) before rest h =
    let regrouped : flat_map short_text (x ∷ xs) ++ rest ≡ short_text x ++ (flat_map short_text xs ++ rest) = ap (λ (t : List ℕ). t ++ rest) (flat_map-cons short_text x xs) ∙ append_assoc (short_text x) (flat_map short_text xs) rest in
    ap (field_names_at short (suc (length xs)) before) regrouped
    ∙ step_again (field_name_read short before) (λ name. field_names_at short (length xs) (before ++ name.0 ∷ []) name.1 >>= λ others. Ok (name.0 ∷ others.0, others.1)) x (flat_map short_text xs ++ rest) h.0
    ∙ ap (λ r. r >>= λ others. Ok (x ∷ others.0, others.1)) (field_names_again short xs (before ++ x ∷ []) rest h.1)

-- names that a list of names may be followed by
abbrev pub AreNames : List (List ℕ) → List (List ℕ) → Type 0
AreNames before xs = (length xs ≤ max_fields) × AreNew before xs

pub names_read : (short : FileFault) (before : List (List ℕ)) → Reads (List (List ℕ)) (names_at short before) names (AreNames before)
unfolding names_at
names_read short before = record {
  takes = λ bytes x fits e.
      let s = step_takes (byte_read short) (λ part. at_most max_fields part.0 >>= λ count. field_names_at short count before part.1) bytes x fits e in
      let m = bind_ok (at_most max_fields s.0.0) (λ count. field_names_at short count before s.0.1) x s.3 in
      let a = at_most_ok max_fields s.0.0 m.0 m.1 in
      let t = field_names_take short m.0 before s.0.1 x s.1.rest_fits m.2 in
      let both = Takes-then bytes (s.0.0 ∷ []) s.0.1 (flat_map short_text x.0) x.1 s.1 t.0 in
      (subst (λ (n : ℕ). Takes bytes (n ∷ flat_map short_text x.0) x.1) (a.0 ∙ sym t.1) both, (omega (arith, a.1, t.1), t.2));
  again = λ xs rest h.
      step_again (byte_read short) (λ part. at_most max_fields part.0 >>= λ count. field_names_at short count before part.1) (length xs) (flat_map short_text xs ++ rest) (omega (arith, h.0))
      ∙ ap (λ r. r >>= λ count. field_names_at short count before (flat_map short_text xs ++ rest)) (at_most_within max_fields (length xs) h.0)
      ∙ field_names_again short xs before rest h.1;
}

abbrev pub fields_text : Schema → List ℕ
fields_text fields = names fields.dimensions ++ names fields.metrics

-- a schema, within the limits
pub record AreFields (fields : Schema) : Type 0 where
  pub schema : IsSchema fields
  pub dimensions : length fields.dimensions ≤ max_fields
  pub metrics : length fields.metrics ≤ max_fields

abbrev fields_of : List (List ℕ) → List (List ℕ) → Schema
fields_of dimensions metrics = record { dimensions = dimensions; metrics = metrics }

are_fields : (dimensions metrics : List (List ℕ)) → AreNames [] dimensions → AreNames dimensions metrics → AreFields (fields_of dimensions metrics)
are_fields dimensions metrics d m = record {
  schema = record {
    dimensions = names_new [] dimensions d.1;
    metrics = names_new dimensions metrics m.1;
    distinct = distinct_new dimensions metrics (distinct_new [] dimensions none_distinct d.1) m.1;
  };
  dimensions = d.0;
  metrics = m.0;
}

fields_takes : (short : FileFault) (bytes : List ℕ) (x : Schema × List ℕ) → IsBytes bytes → fields_at short bytes ≡ Ok x → Takes bytes (fields_text x.0) x.1 × AreFields x.0
unfolding fields_at
fields_takes short bytes x fits e =
    let d = step_takes (names_read short []) _ bytes x fits e in
    let m = step_takes (names_read short d.0.0) _ d.0.1 x d.1.rest_fits d.3 in
    let both = Takes-then bytes (names d.0.0) d.0.1 (names m.0.0) m.0.1 d.1 m.1 in
    subst (λ (p : Schema × List ℕ). Takes bytes (fields_text p.0) p.1 × AreFields p.0) (ok_is (fields_of d.0.0 m.0.0, m.0.1) x m.3) (both, are_fields d.0.0 m.0.0 d.2 m.2)

fields_again : (short : FileFault) (fields : Schema) (rest : List ℕ) → AreFields fields → fields_at short (fields_text fields ++ rest) ≡ Ok (fields, rest)
unfolding fields_at
fields_again short fields rest h =
    let d = new_distinct [] fields.dimensions (distinct_front fields.dimensions fields.metrics h.schema.distinct) h.schema.dimensions in
    let m = new_distinct fields.dimensions fields.metrics h.schema.distinct h.schema.metrics in
    ap (fields_at short) (append_assoc (names fields.dimensions) (names fields.metrics) rest)
    ∙ step_again (names_read short []) _ fields.dimensions (names fields.metrics ++ rest) (h.dimensions, d)
    ∙ step_again (names_read short fields.dimensions) _ fields.metrics rest (h.metrics, m)

pub fields_read : (short : FileFault) → Reads Schema (fields_at short) fields_text AreFields
fields_read short = record {
  takes = λ bytes x fits e. fields_takes short bytes x fits e;
  again = λ fields rest h. fields_again short fields rest h;
}

-- ---- for the code

pub among_both : (test : List ℕ → Bool) (xs ys : List (List ℕ)) → list_any test (xs ++ ys) ≡ (list_any test xs || list_any test ys)
among_both test xs ys = list_any-append test xs ys

pub no_new_name : (before : List (List ℕ)) (text : List ℕ) → ¬ (IsUtf8 text) → is_new_name before text ≡ false
no_new_name before text not = rw (no_field_name text not) refl

any_of_texts : (test : List ℕ → Bool) (names : List (Bor (List ℕ))) → list_any test (texts_borrowed names) ≡ list_any (λ name. test (bytes_of name)) names
any_of_texts test [] = refl
any_of_texts test (name ∷ names) = ap (λ b. test (bytes_of name) || b) (any_of_texts test names)

pub any_text : (test : List ℕ → Bool) (names : List (Bor (List ℕ))) (answer : Bool) → answer ≡ list_any (λ name. test (bytes_of name)) names → answer ≡ list_any test (texts_borrowed names)
any_text test names answer e = e ∙ sym (any_of_texts test names)
