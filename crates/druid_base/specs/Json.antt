-- JSON out of bytes.
use Rattle.std.specs.Prelude.{◌≡◌, ℕ, List, IsUtf8, Some, Result, Ok, Err}
use Rattle.serde_json.specs.Data.{Data}
use Rattle.serde_json.specs.Read.{read}
use Rattle.serde_json.specs.View.{view}
use Rattle.serde_json.specs.declared.value.Value.{Value}
use Rattle.druid_base.specs.declared.fault.JsonFault.{JsonFault}
use Rattle.druid_base.specs.declared.fault.JsonFault.TheVariants as faults

-- the bytes are the JSON of d, in UTF-8
abbrev pub ReadsAs : List ℕ → Data → Type 0
ReadsAs bytes d = IsUtf8 bytes × (read bytes ≡ Some d)

-- parsing bytes answers so; memory may run out at any byte of a text
abbrev pub IsParsed : List ℕ → Result Value JsonFault → Type 0
IsParsed bytes (Ok value) = ReadsAs bytes (view value)
IsParsed bytes (Err faults.NotJson) = (d : Data) → ReadsAs bytes d → ⊥
IsParsed bytes (Err faults.Memory) = IsUtf8 bytes
