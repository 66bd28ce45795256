-- Why a value is no query.
use Rattle.std.specs.Prelude.{◌≡◌, ℕ, Bool, List, Option, Some, None, Result, Ok, Err, IsOk, ⊤, if◌then◌else◌}
use Rattle.druid_query.specs.declared.fault.QueryFault.{QueryFault}
use Rattle.druid_query.specs.declared.fault.QueryFault.TheVariants as faults

-- a field goes by its key
pub data Refusal : Type 0 where
  unknown_type : Refusal
  bad_field : (key : List ℕ) → Refusal
  bad_interval : Refusal
  limit_passed : Refusal
  doubled_name : Refusal

-- the value, or else the refusal
abbrev pub or_refuse : {A : Type 0} → Option A → Refusal → Result A Refusal
or_refuse None e = Err e
or_refuse (Some x) e = Ok x

-- the value where the test holds, or else the refusal
abbrev pub when : {A : Type 0} → Bool → A → Refusal → Result A Refusal
when test x e = if test then Ok x else Err e

-- the same where there is no value
abbrev pub allow : Bool → Refusal → Result ⊤ Refusal
allow test e = if test then Ok tt else Err e

-- the fault that tells a refusal
abbrev pub Reports : {A : Type 0} → QueryFault → Result A Refusal → Type 0
Reports faults.NotJson read = ⊥
Reports faults.UnknownType read = read ≡ Err unknown_type
Reports (faults.Field key) read = read ≡ Err (bad_field key.now)
Reports faults.BadInterval read = read ≡ Err bad_interval
Reports faults.LimitPassed read = read ≡ Err limit_passed
Reports faults.DoubledName read = read ≡ Err doubled_name
-- out of memory only where nothing else is refused
Reports faults.Memory read = IsOk read

-- what a function answered is what reading gives, unless memory was refused
abbrev pub Gives : {A : Type 0} → Result A QueryFault → Result A Refusal → Type 0
Gives (Ok x) read = read ≡ Ok x
Gives (Err e) read = Reports e read

-- the same of a function that only looks whether it reads
abbrev pub Checks : {A : Type 0} → Result ⊤ QueryFault → Result A Refusal → Type 0
Checks (Ok _) read = IsOk read
Checks (Err e) read = Reports e read

-- the same where a search allocates on the way: then out of memory says only that nothing before the search is to be
-- refused
abbrev pub ReportsAfter : {A B : Type 0} → Result B Refusal → QueryFault → Result A Refusal → Type 0
ReportsAfter before faults.Memory read = IsOk before
ReportsAfter before fault read = Reports fault read

abbrev pub GivesAfter : {A B : Type 0} → Result B Refusal → Result A QueryFault → Result A Refusal → Type 0
GivesAfter before (Ok x) read = read ≡ Ok x
GivesAfter before (Err e) read = ReportsAfter before e read

abbrev pub ChecksAfter : {A B : Type 0} → Result B Refusal → Result ⊤ QueryFault → Result A Refusal → Type 0
ChecksAfter before (Ok _) read = IsOk read
ChecksAfter before (Err e) read = ReportsAfter before e read
