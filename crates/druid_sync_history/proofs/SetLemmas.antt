-- Maps from identifiers to segments: what calls make of the set of their values.
use Rattle.std.proofs.Common.{◌≡◌, Bool, true, false, not, cond, ◌||◌, List, [], ◌∷◌, Option, Some, None, refl, sym, ap, ◌∙◌, subst, arith, inl, inr}
use Rattle.std.specs.BTreeMap.{insert_entry, is_at}
use Rattle.std.specs.List.{All, Contains, list_any}
use Rattle.std.specs.Map.{lookup, remove_entry, values_of}
use Rattle.std.specs.Option.{is_some}
use Rattle.std.specs.Ordering.{nat_cmp, is_eq, is_lt, match_ordering}
use Rattle.std.specs.declared.cmp.Ordering.{Ordering}
use Rattle.std.specs.declared.cmp.Ordering.TheVariants.{Less, Equal, Greater}
use Rattle.std.specs.Cmp.Lexicographic.{slice_cmp, texts_ties}
use Rattle.std.proofs.lemmas.Bool.{cases_Bool, false≢true, false_from_ne_true, or_cases, or_parts, not-true}
use Rattle.std.proofs.lemmas.List.Elements.{All-nil, All-cons, All-head, All-tail, All-contains}
use Rattle.std.proofs.lemmas.List.Folds.{Any-from_list_any}
use Rattle.std.proofs.lemmas.Slice.Eq.{bytes_eq-Decides}
use Rattle.druid_base.proofs.OrderLemmas.{bool_same}
use Rattle.druid_segment_id.specs.Identifier.{Identifier, identifier_text, same_identifier, identifier_cmp}
use Rattle.druid_segment_id.specs.IdentifierLaws.{identifier_cmp-ties}
use Rattle.druid_segment_id.proofs.EqualLemmas.{identifier_cmp-text}
use Rattle.druid_segment_descriptor.specs.Described.{Described, IsDescribed, same_described}
use Rattle.druid_segment_descriptor.specs.Reply.{IsBefore}
use Rattle.druid_segment_descriptor.specs.Replay.{IsSegmentSet, shares_identifier, with_segment, without_segment, is_strict, has_room}
use Rattle.druid_segment_descriptor.proofs.DescribedLemmas.{same_described-decides}
use Rattle.druid_segment_descriptor.proofs.ReplayLemmas.{AreInOrder, in_order, after-set, first_before, rest_in_order, other_passes, without_segment-at}
use Rattle.druid_segment_descriptor.proofs.SortedLemmas.{not_before_itself}
use Rattle.druid_segment_descriptor.specs.declared.change.Change.TheVariants.{Load, Drop}
use Rattle.druid_sync_history.specs.Kept.{described_named}
use Rattle.druid_sync_history.specs.Segments.{IsEntry, IsKeyed}

abbrev pub Entry : Type 0
Entry = Identifier × Described

-- the search for a segment's identifier
abbrev pub at_id : Described → Identifier → Bool
at_id d = is_at (identifier_cmp d.id)

-- at an entry it compares the texts
cmp_entry : (d : Described) (e : Entry) → IsDescribed d → IsEntry e → identifier_cmp d.id e.0 ≡ slice_cmp nat_cmp (identifier_text d.id) (identifier_text e.1.id)
cmp_entry d e h entry = ap (identifier_cmp d.id) entry.0 ∙ identifier_cmp-text d.id e.1.id h.id entry.1.id

at_id-same : (d : Described) (e : Entry) → IsDescribed d → IsEntry e → at_id d e.0 ≡ true → identifier_text e.1.id ≡ identifier_text d.id
at_id-same d e h entry at =
    let tied = texts_ties (identifier_text d.id) (identifier_text e.1.id) ∙ ap is_eq (sym (cmp_entry d e h entry)) ∙ at in
    sym ((bytes_eq-Decides (identifier_text d.id) (identifier_text e.1.id)).0 tied)

at_id-made : (d : Described) (e : Entry) → IsDescribed d → IsEntry e → identifier_text e.1.id ≡ identifier_text d.id → at_id d e.0 ≡ true
at_id-made d e h entry same =
    ap is_eq (cmp_entry d e h entry) ∙ sym (texts_ties (identifier_text d.id) (identifier_text e.1.id))
    ∙ (bytes_eq-Decides (identifier_text d.id) (identifier_text e.1.id)).1 (sym same)

-- it finds an entry exactly where the segments share an identifier
at_id-shares : (d : Described) (e : Entry) → IsDescribed d → IsEntry e → at_id d e.0 ≡ shares_identifier e.1 d
at_id-shares d e h entry =
    bool_same (at_id d e.0) (shares_identifier e.1 d)
    (λ at. (bytes_eq-Decides (identifier_text e.1.id) (identifier_text d.id)).1 (at_id-same d e h entry at))
    (λ same. at_id-made d e h entry ((bytes_eq-Decides (identifier_text e.1.id) (identifier_text d.id)).0 same))

-- ---- looking one up

pub found-shares : (es : List Entry) (d : Described) → IsDescribed d → All IsEntry es → is_some (lookup (at_id d) es) ≡ list_any (λ x. shares_identifier x d) (values_of es)
found-shares [] d h each = refl
found-shares (e ∷ es) d h each =
    let rest = found-shares es d h (All-tail IsEntry e es each) in
    let one = at_id-shares d e h (All-head IsEntry e es each) in
    elim (cases_Bool (at_id d e.0)) [
      | inl at ↦ let shared : shares_identifier e.1 d ≡ true = sym one ∙ at in rw (at, shared) refl
      | inr apart ↦ let other : shares_identifier e.1 d ≡ false = sym one ∙ apart in rw (apart, other) rest
    ]

-- the one of an identifier
pub found-named : (es : List Entry) (id : Identifier) → All IsEntry es → lookup (is_at (identifier_cmp id)) es ≡ described_named id (values_of es)
found-named [] id each = refl
found-named (e ∷ es) id each =
    let rest = found-named es id (All-tail IsEntry e es each) in
    let entry = All-head IsEntry e es each in
    let here : is_eq (identifier_cmp id e.0) ≡ same_identifier id e.1.id = ap (λ (k : Identifier). is_eq (identifier_cmp id k)) entry.0 ∙ sym (identifier_cmp-ties id e.1.id) in
    λ i. cond (here i) (Some e.1) (rest i)

-- whether the one that was found is the segment
abbrev pub found_same : Option Described → Described → Bool
found_same None d = false
found_same (Some x) d = same_described x d

held_later : (vs : List Described) (d : Described) → list_any (λ x. same_described x d) vs ≡ true → Contains vs d
held_later vs d e =
    let found = Any-from_list_any (λ x. same_described x d) vs e in
    subst (Contains vs) ((same_described-decides found.1 d).0 found.4) (found.0, found.2, found.3)

-- no later one has its identifier
none_later : (x d : Described) (vs : List Described) → AreInOrder (x ∷ vs) → identifier_text x.id ≡ identifier_text d.id → list_any (λ y. same_described y d) vs ≡ false
none_later x d vs order same =
    false_from_ne_true (list_any (λ y. same_described y d) vs) (λ held.
    not_before_itself x d (All-contains (IsBefore x) vs d (first_before x vs order) (held_later vs d held)) same)

pub found-held : (es : List Entry) (d : Described) → IsDescribed d → All IsEntry es → AreInOrder (values_of es)
    → list_any (λ x. same_described x d) (values_of es) ≡ found_same (lookup (at_id d) es) d
found-held [] d h each order = refl
found-held (e ∷ es) d h each order =
    let entry = All-head IsEntry e es each in
    let rest = found-held es d h (All-tail IsEntry e es each) (rest_in_order e.1 (values_of es) order) in
    elim (cases_Bool (at_id d e.0)) [
      | inl at ↦
          let none = none_later e.1 d (values_of es) order (at_id-same d e h entry at) in
          rw (at, none) (or_false (same_described e.1 d))
      | inr apart ↦
          let other : same_described e.1 d ≡ false = false_from_ne_true (same_described e.1 d) (λ same.
          false≢true (sym apart ∙ at_id-made d e h entry (ap (λ (x : Described). identifier_text x.id) ((same_described-decides e.1 d).0 same)))) in
          rw (apart, other) rest
    ]
  where
    or_false : (b : Bool) → (b || false) ≡ b
    or_false true = refl
    or_false false = refl

-- ---- one more

inserted_at : (o : Ordering) (d x : Described) (k : Identifier) (es more : List Entry) → (o ≡ Equal → ⊥) → values_of more ≡ with_segment d (values_of es)
    → values_of (match_ordering o ((d.id, d) ∷ (k, x) ∷ es) ((k, d) ∷ es) ((k, x) ∷ more)) ≡ cond (is_lt o) (d ∷ x ∷ values_of es) (x ∷ with_segment d (values_of es))
inserted_at Less d x k es more apart rest = refl
inserted_at Equal d x k es more apart rest = absurd (apart refl)
inserted_at Greater d x k es more apart rest = ap (λ vs. x ∷ vs) rest

pub inserted-values : (es : List Entry) (d : Described) → IsDescribed d → All IsEntry es → list_any (λ x. shares_identifier x d) (values_of es) ≡ false
    → values_of (insert_entry identifier_cmp es d.id d) ≡ with_segment d (values_of es)
inserted-values [] d h each none = refl
inserted-values (e ∷ es) d h each none =
    let entry = All-head IsEntry e es each in
    let parts = or_parts (shares_identifier e.1 d) (list_any (λ x. shares_identifier x d) (values_of es)) none in
    let rest = inserted-values es d h (All-tail IsEntry e es each) parts.1 in
    let apart : identifier_cmp d.id e.0 ≡ Equal → ⊥ = λ tied. false≢true (sym (at_id-shares d e h entry ∙ parts.0) ∙ ap is_eq tied) in
    inserted_at (identifier_cmp d.id e.0) d e.1 e.0 es (insert_entry identifier_cmp es d.id d) apart rest
    ∙ ap (λ o. cond (is_lt o) (d ∷ e.1 ∷ values_of es) (e.1 ∷ with_segment d (values_of es))) (cmp_entry d e h entry)

each_at : (o : Ordering) (d : Described) (e : Entry) (es more : List Entry) → IsEntry (d.id, d) → (o ≡ Equal → ⊥) → All IsEntry (e ∷ es) → All IsEntry more
    → All IsEntry (match_ordering o ((d.id, d) ∷ e ∷ es) ((e.0, d) ∷ es) (e ∷ more))
each_at Less d e es more one apart each rest = All-cons IsEntry (d.id, d) (e ∷ es) one each
each_at Equal d e es more one apart each rest = absurd (apart refl)
each_at Greater d e es more one apart each rest = All-cons IsEntry e more (All-head IsEntry e es each) rest

pub inserted-each : (es : List Entry) (d : Described) → IsDescribed d → All IsEntry es → list_any (λ x. shares_identifier x d) (values_of es) ≡ false
    → All IsEntry (insert_entry identifier_cmp es d.id d)
inserted-each [] d h each none = All-cons IsEntry (d.id, d) [] (refl, h) (All-nil IsEntry)
inserted-each (e ∷ es) d h each none =
    let entry = All-head IsEntry e es each in
    let parts = or_parts (shares_identifier e.1 d) (list_any (λ x. shares_identifier x d) (values_of es)) none in
    let rest = inserted-each es d h (All-tail IsEntry e es each) parts.1 in
    let apart : identifier_cmp d.id e.0 ≡ Equal → ⊥ = λ tied. false≢true (sym (at_id-shares d e h entry ∙ parts.0) ∙ ap is_eq tied) in
    each_at (identifier_cmp d.id e.0) d e es (insert_entry identifier_cmp es d.id d) (refl, h) apart each rest

-- ---- one less

pub removed-values : (es : List Entry) (d : Described) → IsDescribed d → All IsEntry es → AreInOrder (values_of es) → list_any (λ x. same_described x d) (values_of es) ≡ true
    → values_of (remove_entry (at_id d) es) ≡ without_segment d (values_of es)
removed-values [] d h each order held = refl
removed-values (e ∷ es) d h each order held =
    let entry = All-head IsEntry e es each in
    let vs = values_of es in
    elim (cases_Bool (at_id d e.0)) [
      | inl at ↦
          let none = none_later e.1 d vs order (at_id-same d e h entry at) in
          let same : e.1 ≡ d = elim (or_cases (same_described e.1 d) (list_any (λ x. same_described x d) vs) held) [
            | inl here ↦ (same_described-decides e.1 d).0 here
            | inr later ↦ absurd (false≢true (sym none ∙ later))
          ] in
          rw at (sym (without_segment-at d (e.1 ∷ vs) 0 order (omega arith) (λ x. same)))
      | inr apart ↦
          let other : e.1 ≡ d → ⊥ = λ same. false≢true (sym apart ∙ at_id-made d e h entry (ap (λ (x : Described). identifier_text x.id) same)) in
          let later : list_any (λ x. same_described x d) vs ≡ true = elim (or_cases (same_described e.1 d) (list_any (λ x. same_described x d) vs) held) [
            | inl here ↦ absurd (other ((same_described-decides e.1 d).0 here))
            | inr later ↦ later
          ] in
          let rest = removed-values es d h (All-tail IsEntry e es each) (rest_in_order e.1 vs order) later in
          rw (apart, other_passes e.1 d other) (ap (λ ys. e.1 ∷ ys) rest)
    ]

pub removed-each : (es : List Entry) (test : Identifier → Bool) → All IsEntry es → All IsEntry (remove_entry test es)
removed-each [] test each = each
removed-each (e ∷ es) test each =
    elim (cases_Bool (test e.0)) [
      | inl at ↦ rw at (All-tail IsEntry e es each)
      | inr apart ↦ rw apart (All-cons IsEntry e (remove_entry test es) (All-head IsEntry e es each) (removed-each es test (All-tail IsEntry e es each)))
    ]

-- ---- in the steps of the code

pub lacks-is : (es : List Entry) (d : Described) (id : Identifier) (vs : List Described) (r : Bool) → id ≡ d.id → IsDescribed d → IsKeyed es → values_of es ≡ vs
    → r ≡ is_some (lookup (is_at (identifier_cmp id)) es) → not r ≡ is_strict vs (Load d)
lacks-is es d id vs r same h keyed view e =
    let here = ap (λ (k : Identifier). is_some (lookup (is_at (identifier_cmp k)) es)) same in
    ap not (e ∙ here ∙ found-shares es d h keyed.each ∙ ap (λ ds. list_any (λ x. shares_identifier x d) ds) view)

pub holds-is : (es : List Entry) (d : Described) (id : Identifier) (vs : List Described) (o : Option Described) → id ≡ d.id → IsDescribed d → IsKeyed es → values_of es ≡ vs
    → o ≡ lookup (is_at (identifier_cmp id)) es → found_same o d ≡ is_strict vs (Drop d)
holds-is es d id vs o same h keyed view e =
    let here = ap (λ (k : Identifier). found_same (lookup (is_at (identifier_cmp k)) es) d) same in
    ap (λ found. found_same found d) e ∙ here ∙ sym (found-held es d h keyed.each (in_order (values_of es) keyed.set.sorted))
    ∙ ap (λ ds. list_any (λ x. same_described x d) ds) view

pub find-is : (es : List Entry) (id : Identifier) (vs : List Described) (o : Option Described) → IsKeyed es → values_of es ≡ vs
    → o ≡ lookup (is_at (identifier_cmp id)) es → o ≡ described_named id vs
find-is es id vs o keyed view e = e ∙ found-named es id keyed.each ∙ ap (described_named id) view

pub insert-is : (es new : List Entry) (d : Described) (id : Identifier) (vs : List Described) → id ≡ d.id → IsDescribed d → IsKeyed es → values_of es ≡ vs
    → new ≡ insert_entry identifier_cmp es id d → is_strict vs (Load d) ≡ true → has_room vs (Load d) ≡ true → IsKeyed new × (values_of new ≡ with_segment d vs)
insert-is es new d id vs same h keyed view e strict room =
    let none : list_any (λ x. shares_identifier x d) (values_of es) ≡ false = ap (λ ds. list_any (λ x. shares_identifier x d) ds) view ∙ not-true (list_any (λ x. shares_identifier x d) vs) strict in
    let here : new ≡ insert_entry identifier_cmp es d.id d = e ∙ ap (λ (k : Identifier). insert_entry identifier_cmp es k d) same in
    let values : values_of new ≡ with_segment d vs = ap values_of here ∙ inserted-values es d h keyed.each none ∙ ap (with_segment d) view in
    let set : IsSegmentSet (with_segment d vs) = after-set vs (Load d) (subst IsSegmentSet view keyed.set) strict room in
    (record { each = subst (All IsEntry) (sym here) (inserted-each es d h keyed.each none); set = subst IsSegmentSet (sym values) set }, values)

pub remove-is : (es new : List Entry) (d : Described) (id : Identifier) (vs : List Described) → id ≡ d.id → IsDescribed d → IsKeyed es → values_of es ≡ vs
    → new ≡ remove_entry (is_at (identifier_cmp id)) es → is_strict vs (Drop d) ≡ true → IsKeyed new × (values_of new ≡ without_segment d vs)
remove-is es new d id vs same h keyed view e strict =
    let held : list_any (λ x. same_described x d) (values_of es) ≡ true = ap (λ ds. list_any (λ x. same_described x d) ds) view ∙ strict in
    let here : new ≡ remove_entry (at_id d) es = e ∙ ap (λ (k : Identifier). remove_entry (is_at (identifier_cmp k)) es) same in
    let order = in_order (values_of es) keyed.set.sorted in
    let values : values_of new ≡ without_segment d vs = ap values_of here ∙ removed-values es d h keyed.each order held ∙ ap (without_segment d) view in
    let set : IsSegmentSet (without_segment d vs) = after-set vs (Drop d) (subst IsSegmentSet view keyed.set) strict refl in
    (record { each = subst (All IsEntry) (sym here) (removed-each es (at_id d) keyed.each); set = subst IsSegmentSet (sym values) set }, values)
