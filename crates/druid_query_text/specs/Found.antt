-- What a reader finds in JSON, before anything is built of it: only proofs use this.
use Rattle.std.specs.Prelude.{◌≡◌, Bool, false, List, Option, Some, None, IsSome, Result, Ok, Err}
use Rattle.std.specs.List.{filter_map}
use Rattle.serde_json.specs.Data.{Data}
use Rattle.serde_json.specs.View.{view, items_view}
use Rattle.serde_json.specs.declared.value.Value.{Value}
use Rattle.druid_base.specs.Each.{each_of}
use Rattle.druid_query.specs.Refusal.{Refusal, Reports, ReportsAfter}
use Rattle.druid_query.specs.declared.fault.QueryFault.{QueryFault}
use Rattle.druid_query.specs.declared.fault.QueryFault.TheVariants as faults

-- the fault that tells a refusal, and never that memory ran out
abbrev pub Refuses : {A : Type 0} → QueryFault → Result A Refusal → Type 0
Refuses faults.Memory read = ⊥
Refuses fault read = Reports fault read

-- a function that does not allocate answers with what reading gives, which is f of its value
abbrev pub FindsBy : {A B : Type 0} → (A → B) → Result A QueryFault → Result B Refusal → Type 0
FindsBy f (Ok x) read = read ≡ Ok (f x)
FindsBy f (Err e) read = Refuses e read

abbrev pub Finds : {A : Type 0} → Result A QueryFault → Result A Refusal → Type 0
Finds answer read = FindsBy (λ x. x) answer read

-- the same where a search allocates on the way
abbrev pub FindsAfter : {A B C : Type 0} → (A → B) → Result C Refusal → Result A QueryFault → Result B Refusal → Type 0
FindsAfter f before (Ok x) read = read ≡ Ok (f x)
FindsAfter f before (Err e) read = ReportsAfter before e read

-- what a value reads as, and that it does
abbrev pub read_of : {A : Type 0} → (Data → Option A) → Value → Option A
read_of f v = f (view v)

abbrev pub Reads : {A : Type 0} → (Data → Option A) → Value → Type 0
Reads f v = IsSome (f (view v))

-- each of a list does
abbrev pub EachReads : {A : Type 0} → (Data → Option A) → List Value → Type 0
EachReads f vs = IsSome (each_of f (items_view vs))

-- whether it reads, and as what passes
abbrev pub holds_in : {A : Type 0} → (A → Bool) → Option A → Bool
holds_in p None = false
holds_in p (Some x) = p x

-- what the values read as, without those that do not read
abbrev pub readings : {A : Type 0} → (Data → Option A) → List Value → List A
readings f vs = filter_map (λ v. f (view v)) vs
