-- What an answer of a node lists as missing.
use Rattle.std.proofs.Common.{◌≡◌, ◌∙◌, ◌↔◌, ℕ, arith, ◌+◌, ◌<◌, ◌≤◌, Bool, true, false, cond, IsTrue, List, [], ◌∷◌, ◌++◌, length, get_or, take, codes, Contains, Option, Some, None, IsSome, is_some, option_and_then, refl, sym, ap, subst, ◌⊎◌, inl, inr}
use Rattle.std.specs.List.{list_all}
use Rattle.std.specs.Ordering.{is_eq}
use Rattle.std.specs.declared.cmp.Ordering.{Ordering}
use Rattle.std.proofs.lemmas.Bool.{false≢true}
use Rattle.std.proofs.lemmas.Cmp.{tied_itself}
use Rattle.std.proofs.lemmas.List.{take_more, take_all}
use Rattle.std.proofs.lemmas.Option.{same_Some}
use Rattle.serde_json.specs.Data.{Data, Items, array}
use Rattle.serde_json.specs.Find.{get, as_array}
use Rattle.serde_json.specs.View.{view, items_view}
use Rattle.serde_json.specs.declared.value.Value.{Value}
use Rattle.druid_base.proofs.ListLemmas.{Contains-here}
use Rattle.druid_base.proofs.MemberLemmas.{Contains-later, Contains-nil, Contains-cons}
use Rattle.druid_base.specs.Each.{each_of}
use Rattle.druid_base.proofs.EachLemmas.{all_reads}
use Rattle.druid_query.specs.Asked.{Asked, asked_at}
use Rattle.druid_query.specs.SubQuery.{SubQuery}
use Rattle.druid_partial.specs.Groups.{Group}
use Rattle.druid_partial_text.specs.Read.{Lists, ReportsGroups}
use Rattle.druid_partial_text.specs.Borrowed.{AreRows}
use Rattle.druid_query.specs.PieceOrder.{piece_cmp, piece_cmp-total, piece_cmp-ties, same_asked-true}
use Rattle.druid_partial_text.specs.Answers.{WereAsked, ListsAnswer, ReportsAnswer}
use Rattle.druid_partial_text.specs.Missed.{AreMissed, AreLists, BothReport}
use Rattle.druid_partial_text.proofs.MadeLemmas.{Made, more, ends, some_reads}

-- ---- whether pieces were asked for

added : (done : List Asked) (a b : Asked) → Contains (done ++ a ∷ []) b → Contains done b ⊎ (a ≡ b)
added [] a b c = elim (Contains-cons a [] b c) [ inl same ↦ inr same | inr none ↦ inl none ]
added (d ∷ done) a b c =
    elim (Contains-cons d (done ++ a ∷ []) b c) [
      | inl same ↦ inl (subst (λ (x : Asked). Contains (d ∷ done) x) same (Contains-here d done))
      | inr there ↦ elim (added done a b there) [ inl before ↦ inl (Contains-later d done b before) | inr same ↦ inr same ]
    ]

kept : (done : List Asked) (a b : Asked) → Contains done b → Contains (done ++ a ∷ []) b
kept [] a b c = absurd (Contains-nil b c)
kept (d ∷ done) a b c =
    elim (Contains-cons d done b c) [
      | inl same ↦ subst (λ (x : Asked). Contains (d ∷ done ++ a ∷ []) x) same (Contains-here d (done ++ a ∷ []))
      | inr there ↦ Contains-later d (done ++ a ∷ []) b (kept done a b there)
    ]

at_last : (done : List Asked) (a : Asked) → Contains (done ++ a ∷ []) a
at_last [] a = Contains-here a []
at_last (d ∷ done) a = Contains-later d (done ++ a ∷ []) a (at_last done a)

tie_same : (a b : Asked) (o : Ordering) → piece_cmp a b ≡ o → is_eq o ≡ true → a ≡ b
tie_same a b o e tied = same_asked-true a b (piece_cmp-ties a b ∙ ap is_eq e ∙ tied)

one_more : (done : List Asked) (key a : Asked) (tied old new : Bool) → tied ≡ is_eq (piece_cmp key a) → new ≡ cond tied true old → (IsTrue old ↔ Contains done a)
    → (IsTrue new ↔ Contains (done ++ key ∷ []) a)
one_more done key a true old new same e was =
    (λ t. subst (λ (x : Asked). Contains (done ++ key ∷ []) x) (tie_same key a (piece_cmp key a) refl (sym same)) (at_last done key), λ c. e)
one_more done key a false old new same e was = (
  λ t. kept done key a (was.0 (sym e ∙ t)),
  λ c. elim (added done key a c) [
    | inl before ↦ e ∙ was.1 before
    | inr is ↦ absurd (false≢true (same ∙ ap (λ (x : Asked). is_eq (piece_cmp key x)) (sym is) ∙ ap is_eq (tied_itself piece_cmp-total key)))
  ],
)

-- a piece more in order
pub piece_more : (asked : List Asked) (i : ℕ) (item key a : Asked) (old new : Bool) → i < length asked → item ≡ get_or asked i item → key ≡ item → new ≡ cond (is_eq (piece_cmp key a)) true old
    → (IsTrue old ↔ Contains (take i asked) a) → (IsTrue new ↔ Contains (take (i + 1) asked) a)
piece_more asked i item key a old new h is k e was =
    let more : take (i + 1) asked ≡ take i asked ++ key ∷ [] = take_more asked i item h ∙ ap (λ (x : Asked). take i asked ++ x ∷ []) (sym is ∙ sym k) in
    subst (λ (l : List Asked). IsTrue new ↔ Contains l a) (sym more) (one_more (take i asked) key a (is_eq (piece_cmp key a)) old new refl e was)

abbrev AllIn : List Asked → List Asked → Type 0
AllIn asked missing = (a : Asked) → Contains missing a → Contains asked a

-- the first n are among them
abbrev pub AllAmong : List Asked → List Asked → ℕ → Type 0
AllAmong asked missing n = (a : Asked) → Contains (take n missing) a → Contains asked a

pub among_more : (asked missing : List Asked) (i : ℕ) (item key : Asked) → i < length missing → item ≡ get_or missing i item → key ≡ item → Contains asked key → AllAmong asked missing i
    → AllAmong asked missing (i + 1)
among_more asked missing i item key h is k in_it before a there =
    elim (added (take i missing) (get_or missing i item) a (subst (λ (l : List Asked). Contains l a) (take_more missing i item h) there)) [
      | inl old ↦ before a old
      | inr same ↦ subst (λ (x : Asked). Contains asked x) (k ∙ is ∙ same) in_it
    ]

pub among_all : (asked missing : List Asked) (i : ℕ) → length missing ≤ i → AllAmong asked missing i → AllIn asked missing
among_all asked missing i h among a there = among a (subst (λ (l : List Asked). Contains l a) (sym (take_all i missing h)) there)

pub among_none : (asked missing : List Asked) → length missing ≡ 0 → (a : Asked) → Contains missing a → Contains asked a
among_none asked [] none a there = absurd (Contains-nil a there)
among_none asked (b ∷ missing) none a there = absurd (omega arith)

-- ---- one after another

pub piece_reads : (source : List ℕ) (done : List Asked) (vs : List Value) (i : ℕ) (v : Value) → i < length vs → v ≡ get_or vs i v → Made (asked_at source) done vs i
    → IsSome (each_of (asked_at source) (items_view vs)) → IsSome (asked_at source (view v))
piece_reads source done vs i v h is before reads = some_reads (asked_at source) done vs i v (asked_at source (view v)) refl h is before reads

pub pieces_more : (source : List ℕ) (done : List Asked) (vs : List Value) (i : ℕ) (v : Value) (a : Asked) → i < length vs → v ≡ get_or vs i v → Some a ≡ asked_at source (view v)
    → Made (asked_at source) done vs i → Made (asked_at source) (done ++ a ∷ []) vs (i + 1)
pieces_more source done vs i v a h is read before = more (asked_at source) done vs i v a h is (sym read) before

pub pieces_last : (source : List ℕ) (done : List Asked) (vs : List Value) (i : ℕ) → length vs ≤ i → Made (asked_at source) done vs i → each_of (asked_at source) (items_view vs) ≡ Some done
pieces_last source done vs i h before = ends (asked_at source) done vs i h before

pub missed : (sub : SubQuery) (ds : Items) (missing : List Asked) → each_of (asked_at sub.query.source) ds ≡ Some missing → ((a : Asked) → Contains missing a → Contains sub.asked a) → AreMissed sub ds missing
missed sub ds missing read were = (read, were)

pub not_missed : (sub : SubQuery) (ds : Items) (made : List Asked) → each_of (asked_at sub.query.source) ds ≡ Some made → (((a : Asked) → Contains made a → Contains sub.asked a) → ⊥)
    → (missing : List Asked) → AreMissed sub ds missing → ⊥
not_missed sub ds made read none missing m =
    none (subst (λ (l : List Asked). WereAsked sub l) (sym (same_Some made missing (sym read ∙ m.0))) m.1)

-- ---- the lists

abbrev Pieces : SubQuery → Items → Option (List Asked)
Pieces sub ds = each_of (asked_at sub.query.source) ds

pub no_missing : (sub : SubQuery) (d : Data) → None ≡ option_and_then as_array (get (codes "missing") d) → ListsAnswer sub d → ⊥
no_missing sub d none l =
    let e : None ≡ Some l.missing = ap (option_and_then (each_of (asked_at sub.query.source))) none ∙ l.missed in absurd (cc)

pub no_rows : (sub : SubQuery) (d : Data) → None ≡ get (codes "rows") d → ListsAnswer sub d → ⊥
no_rows sub d none l = let e : None ≡ Some l.rows = none ∙ l.found in absurd (cc)

pub no_pieces : (sub : SubQuery) (d : Data) (vs : List Value) → Some (items_view vs) ≡ option_and_then as_array (get (codes "missing") d)
    → list_all (λ v. is_some (asked_at sub.query.source (view v))) vs ≡ false → ListsAnswer sub d → ⊥
no_pieces sub d vs is none l =
    let read : Pieces sub (items_view vs) ≡ Some l.missing = ap (option_and_then (each_of (asked_at sub.query.source))) is ∙ l.missed in
    false≢true (sym none ∙ all_reads (asked_at sub.query.source) vs ∙ ap (λ (o : Option (List Asked)). is_some o) read)

pub other_rows : (sub : SubQuery) (d rows : Data) → Some rows ≡ get (codes "rows") d → ((groups : List Group) → Lists sub.query rows groups → ⊥) → ListsAnswer sub d → ⊥
other_rows sub d rows is none l =
    let same : rows ≡ l.rows = same_Some rows l.rows (is ∙ l.found) in
    none l.groups (subst (λ (r : Data). Lists sub.query r l.groups) (sym same) l.listed)

pub lists_read : (sub : SubQuery) (d rows : Data) (vs : List Value) (rs : Items) → Some (items_view vs) ≡ option_and_then as_array (get (codes "missing") d)
    → list_all (λ v. is_some (asked_at sub.query.source (view v))) vs ≡ true → Some rows ≡ get (codes "rows") d → rows ≡ array rs → AreRows sub.query rs → AreLists sub d (items_view vs) rs
lists_read sub d rows vs rs is reads found list each = record {
  missed = sym is;
  pieces = sym (all_reads (asked_at sub.query.source) vs) ∙ reads;
  found = sym found ∙ ap Some list;
  each = each;
}

-- ---- what they tell

pub none_missed : (sub : SubQuery) (ds rs : Items) → ((missing : List Asked) → AreMissed sub ds missing → ⊥) → (pieces : List Asked) (groups : List Group) → BothReport sub ds rs pieces groups → ⊥
none_missed sub ds rs none pieces groups both = none pieces both.0

pub none_reported : (sub : SubQuery) (ds rs : Items) → ((groups : List Group) → ReportsGroups sub.query (array rs) groups → ⊥) → (pieces : List Asked) (groups : List Group) → BothReport sub ds rs pieces groups → ⊥
none_reported sub ds rs none pieces groups both = none groups both.1

-- ---- the whole

some_of : (o : Option (List Asked)) → IsSome o → (xs : List Asked) × (o ≡ Some xs)
some_of None some = absurd (cc)
some_of (Some xs) some = (xs, refl)

pub lists_answer : (sub : SubQuery) (d : Data) (ds rs : Items) → AreLists sub d ds rs → ListsAnswer sub d
lists_answer sub d ds rs l =
    let pieces = some_of (Pieces sub ds) l.pieces in
    record {
      missing = pieces.0;
      missed = ap (option_and_then (each_of (asked_at sub.query.source))) l.missed ∙ pieces.1;
      rows = array rs;
      found = l.found;
      groups = l.each.0;
      listed = record { read = l.each.1; each = l.each.2 };
    }

pub no_lists : (sub : SubQuery) (d : Data) → (ListsAnswer sub d → ⊥) → (missing : List Asked) (groups : List Group) → ReportsAnswer sub d missing groups → ⊥
no_lists sub d none missing groups t =
    none (record { missing = missing; missed = t.missed; rows = t.rows; found = t.found; groups = t.reported.rows; listed = t.reported.listed })

pub not_both : (sub : SubQuery) (d : Data) (ds rs : Items) → AreLists sub d ds rs → ((pieces : List Asked) (groups : List Group) → BothReport sub ds rs pieces groups → ⊥)
    → (missing : List Asked) (groups : List Group) → ReportsAnswer sub d missing groups → ⊥
not_both sub d ds rs l none missing groups t =
    let same : array rs ≡ t.rows = same_Some (array rs) t.rows (sym l.found ∙ t.found) in
    none missing groups
    ((ap (option_and_then (each_of (asked_at sub.query.source))) (sym l.missed) ∙ t.missed, t.were_asked), subst (λ (r : Data). ReportsGroups sub.query r groups) (sym same) t.reported)

pub both_reported : (sub : SubQuery) (d : Data) (ds rs : Items) (missing : List Asked) (groups : List Group) → AreLists sub d ds rs → BothReport sub ds rs missing groups → ReportsAnswer sub d missing groups
both_reported sub d ds rs missing groups l both = record {
  missed = ap (option_and_then (each_of (asked_at sub.query.source))) l.missed ∙ both.0.0;
  were_asked = both.0.1;
  rows = array rs;
  found = l.found;
  reported = both.1;
}
