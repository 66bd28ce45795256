-- What is answered to a list of changes, where each is one, and where one is none.
use Rattle.std.proofs.Common.{◌≡◌, ◌==◌, ℕ, arith, List, [], ◌∷◌, length, Option, Some, None, is_some, false, Result, Err, refl, sym, subst, ◌∙◌}
use Rattle.std.proofs.lemmas.Bool.Decides.{nat_tests}
use Rattle.serde_json.specs.Data.{Data, Items}
use Rattle.serde_json.specs.View.{view, items_view}
use Rattle.serde_json.specs.declared.value.Value.{Value}
use Rattle.druid_base.specs.Options.{◌>>=◌}
use Rattle.std.specs.List.{list_all}
use Rattle.druid_base.specs.Each.{each_of}
use Rattle.druid_base.proofs.EachLemmas.{all_reads}
use Rattle.druid_segment_descriptor.specs.Described.{Described}
use Rattle.druid_segment_descriptor.specs.Mark.{Point}
use Rattle.druid_segment_descriptor.specs.declared.change.Change.{Change}
use Rattle.druid_segment_descriptor.specs.declared.reply.Body.{Body}
use Rattle.druid_segment_descriptor.specs.Reply.{IsPageOf}
use Rattle.druid_sync_text.specs.declared.fault.SyncFault.{SyncFault}
use Rattle.druid_sync_text.specs.declared.fault.SyncFault.TheVariants as faults
use Rattle.druid_sync_text.specs.FirstFault.{shape_first}
use Rattle.druid_sync_text.specs.Read.{followed, whole, paged, mark_at, change_at, load_at, none_in, snapshot_at, delta_at, page_at, MayBePage, Answers, IsDeltaRead, IsSnapshotRead, IsPageRead}

-- the answer to a list: Y2 where an item does not read, and else that to what was read
abbrev pub AnswersList : {A : Type 0} → (List A → Result Body SyncFault → Type 0) → Option (List A) → Result Body SyncFault → Type 0
AnswersList R None answer = answer ≡ Err faults.Shape
AnswersList R (Some xs) answer = R xs answer

pub list_read : {A : Type 0} (R : List A → Result Body SyncFault → Type 0) (list : Option (List A)) (xs : List A) (answer : Result Body SyncFault) → list ≡ Some xs → R xs answer → AnswersList R list answer
list_read R list xs answer read h = subst (λ l. AnswersList R l answer) (sym read) h

pub list_refused : {A : Type 0} (R : List A → Result Body SyncFault → Type 0) (list : Option (List A)) (answered fault : SyncFault) → answered ≡ shape_first list fault
    → ((xs : List A) → list ≡ Some xs → R xs (Err fault)) → AnswersList R list (Err answered)
list_refused R None answered fault is h = subst (λ (f : SyncFault). AnswersList R None (Err f)) (sym is) refl
list_refused R (Some xs) answered fault is h = subst (λ (f : SyncFault). R xs (Err f)) (sym is) (h xs refl)

pub changes_read : (vs : List Value) → list_all (λ v. is_some (change_at (view v))) vs ≡ is_some (each_of change_at (items_view vs))
changes_read vs = all_reads change_at vs

pub loads_read : (vs : List Value) → list_all (λ v. is_some (load_at (view v))) vs ≡ is_some (each_of load_at (items_view vs))
loads_read vs = all_reads load_at vs

-- ---- snapshots

snapshot_list : (at : Point) (list : Option (List Described)) (answer : Result Body SyncFault) → AnswersList (IsSnapshotRead at) list answer
    → Answers (list >>= λ segments. Some (whole at segments)) answer
snapshot_list at None answer h = h
snapshot_list at (Some xs) answer h = h

pub snapshot_answered : (at : Point) (ds : Items) (answer : Result Body SyncFault) → AnswersList (IsSnapshotRead at) (each_of load_at ds) answer → Answers (snapshot_at at ds) answer
unfolding snapshot_at
snapshot_answered at ds answer h = snapshot_list at (each_of load_at ds) answer h

-- ---- pages

page_list : (at : Point) (page of : ℕ) (list : Option (List Described)) (answer : Result Body SyncFault) → AnswersList (IsPageRead at page of) list answer
    → Answers (list >>= λ segments. Some (paged at page of segments)) answer
page_list at page of None answer h = h
page_list at page of (Some xs) answer h = h

pub page_answered : (at : Point) (page of : ℕ) (ds : Items) (answer : Result Body SyncFault) → AnswersList (IsPageRead at page of) (each_of load_at ds) answer → Answers (page_at at page of ds) answer
unfolding page_at
page_answered at page of ds answer h = page_list at page of (each_of load_at ds) answer h

pub may_be_page : (page of count : ℕ) (xs : List Described) → length xs ≡ count → MayBePage page of count → MayBePage page of (length xs)
may_be_page page of count xs many may = subst (λ n. MayBePage page of n) (sym many) may

-- by its numbers and its count it is no page
pub no_page : (page of count : ℕ) (xs : List Described) → length xs ≡ count → (MayBePage page of count → ⊥) → IsPageOf page of xs → ⊥
no_page page of count xs many bad is =
    let may : MayBePage page of (length xs) = record { several = is.several; not_many = is.not_many; within = is.within; full = is.full } in
    bad (subst (λ n. MayBePage page of n) many may)

-- ---- deltas

delta_list : (from at : Point) (list : Option (List Change)) (answer : Result Body SyncFault) → AnswersList (IsDeltaRead from at) list answer
    → Answers (list >>= λ changes. Some (followed from at changes)) answer
delta_list from at None answer h = h
delta_list from at (Some xs) answer h = h

pub delta_answered : (at start : Point) (from : Data) (ds : Items) (answer : Result Body SyncFault) → mark_at from ≡ Some start → AnswersList (IsDeltaRead start at) (each_of change_at ds) answer
    → Answers (delta_at at from ds) answer
unfolding delta_at
delta_answered at start from ds answer mark h =
    subst (λ m. Answers (m >>= λ first. each_of change_at ds >>= λ changes. Some (followed first at changes)) answer) (sym mark)
    (delta_list start at (each_of change_at ds) answer h)

-- ---- resets

pub none_of : (vs : List Value) → (length vs == 0) ≡ is_some (none_in (items_view vs))
none_of [] = refl
none_of (v ∷ vs) =
    let some : (length (v ∷ vs) == 0) ≡ false = grind (arith, nat_tests) in
    let none : is_some (none_in (items_view (v ∷ vs))) ≡ false = refl in
    some ∙ sym none
