-- How a cluster is served.
use Rattle.std.specs.Prelude.{◌≡◌, ◌⊎◌, ℕ, Bool, true, false, List, count_by, option_map, ⊤, Option, Some, None, Result, Ok, Err}
use Rattle.std.specs.Io.KnownBytes.{Appends}
use Rattle.serde_json.specs.Data.{Data}
use Rattle.druid_serve_config.specs.Configs.{Reported, config_at}
use Rattle.druid_serve_config.specs.Parts.{words_of, is_part, has_broker}
use Rattle.druid_base.specs.Json.{ReadsAs}
use Rattle.druid_serve_base.specs.Printed.{ArePrinted, IsPrinted}
use Rattle.druid_link.specs.Links.{Came}
use Rattle.druid_serve_base.specs.declared.serve_fault.ServeFault.{ServeFault}
use Rattle.druid_serve_base.specs.declared.serve_fault.ServeFault.TheVariants.{BadConfig, BadFolder, Device}

-- the servers that a text names, and all where there is none
abbrev pub named : Option (List ℕ) → Option (List (List ℕ))
named text = option_map words_of text

-- each that it names is there
abbrev pub IsPart : Reported → Option (List ℕ) → Type 0
IsPart reported None = ⊤
IsPart reported (Some text) = is_part reported.nodes reported.brokers text ≡ true

-- one that it names is not there, or memory ran out
abbrev pub RefusesPart : ServeFault → Reported → Option (List ℕ) → Type 0
RefusesPart fault reported text = ((fault ≡ BadConfig) × (IsPart reported text → ⊥)) ⊎ (fault ≡ Device)

-- the bytes are a config, and the text is a part of it
abbrev pub IsConfig : List ℕ → Option (List ℕ) → Type 0
IsConfig bytes part = (d : Data) × (reported : Reported) × ReadsAs bytes d × (config_at d ≡ Some reported) × IsPart reported part

-- they are, and of each query to a broker of the part something was printed, in their order
abbrev pub IsServed : List ℕ → Option (List ℕ) → Option (List ℕ) → Option (List ℕ) → Type 0
IsServed bytes part old new =
    (d : Data) × (reported : Reported) × ReadsAs bytes d × (config_at d ≡ Some reported) × IsPart reported part
    × (text : List ℕ) × ArePrinted (count_by (λ q. has_broker (named part) q.broker) reported.queries) text × Appends old new text

-- what is printed of a query where it is posted, and else nothing
abbrev pub PrintsIf : Bool → Option (List ℕ) → Option (List ℕ) → Type 0
PrintsIf true old new = (came : Came) × (text : List ℕ) × IsPrinted came text × Appends old new text
PrintsIf false old new = new ≡ old

-- how the bytes are served as a config: they are refused only where they are none, or the text is no part, and a folder only where
-- they are. A device that fails and out of memory say nothing of the bytes
abbrev pub ServesAs : List ℕ → Option (List ℕ) → Result ⊤ ServeFault → Type 0
ServesAs bytes part (Ok done) = IsConfig bytes part
ServesAs bytes part (Err BadConfig) = IsConfig bytes part → ⊥
ServesAs bytes part (Err BadFolder) = IsConfig bytes part
ServesAs bytes part (Err Device) = ⊤
