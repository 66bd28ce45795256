-- What reading a config answers.
use Rattle.std.specs.Prelude.{◌≡◌, ◌⊎◌, ℕ, List, IsUtf8, Option, Some, None, IsSome, Result, Ok, Err}
use Rattle.serde_json.specs.Data.{Data}
use Rattle.druid_base.specs.Json.{ReadsAs}
use Rattle.druid_serve_config.specs.BadFields.{IsWrong}
use Rattle.druid_serve_config.specs.declared.bad_field.BadField.{BadField}
use Rattle.druid_serve_config.specs.declared.bad_field.BadField.TheVariants as bad
use Rattle.druid_serve_config.specs.Configs.{Cluster, Reported, reported_of, config_at}
use Rattle.druid_serve_config.specs.declared.fault.ConfigFault.{ConfigFault}
use Rattle.druid_serve_config.specs.declared.fault.ConfigFault.TheVariants as faults

-- the config that the bytes give, or that none is. out of memory only where nothing else is refused
abbrev pub Gives : Result Cluster ConfigFault → Option Reported → Type 0
Gives (Ok config) reported = reported ≡ Some (reported_of config)
Gives (Err faults.Refused) reported = reported ≡ None
Gives (Err faults.Memory) reported = IsSome reported

-- the same out of bytes, which may be no JSON; reading JSON may run out of memory at any byte of a text
abbrev pub IsReadOf : List ℕ → Result Cluster ConfigFault → Type 0
IsReadOf bytes (Ok config) = (d : Data) × ReadsAs bytes d × (config_at d ≡ Some (reported_of config))
IsReadOf bytes (Err faults.Refused) = (d : Data) → ReadsAs bytes d → config_at d ≡ None
IsReadOf bytes (Err faults.Memory) = IsUtf8 bytes

-- the field of bytes that is wrong, if they are no config: they are no JSON, or JSON of which that field is wrong
abbrev pub IsFoundIn : List ℕ → Option BadField → Type 0
IsFoundIn bytes None = (d : Data) × ReadsAs bytes d × IsSome (config_at d)
IsFoundIn bytes (Some field) =
    ((d : Data) → ReadsAs bytes d → (config_at d ≡ None) × IsWrong field d)
    × ((field ≡ bad.Json) ⊎ ((d : Data) × ReadsAs bytes d))
