-- What is missing of a request, where some bytes of it have come.
use Rattle.std.specs.Prelude.{◌≡◌, ◌⊎◌, ◌≤◌, ◌+◌, ℕ, List, ◌++◌, length, Some}
use Rattle.druid_http_message.specs.Requests.{RequestValue}
use Rattle.druid_http_message.specs.declared.fault.WireFault.{WireFault}
use Rattle.druid_http_wire.specs.Frame.{EndsInHead}
use Rattle.druid_http_wire.specs.Messages.{IsRequest, RequestSays, HasFault}
use Rattle.druid_http_wire.specs.Served.{refusal_text}
use Rattle.druid_http_wire.specs.Limits.{max_head, max_body}
use Rattle.druid_http_wire.specs.declared.missing.Missing.{Missing}
use Rattle.druid_http_wire.specs.declared.missing.Missing.TheVariants.{Nothing, Head, Body}

-- the bytes are a request, and then the rest; or they have a fault that is answered
abbrev pub IsAnswerable : List ℕ → Type 0
IsAnswerable bytes =
    ((request : RequestValue) × (rest : List ℕ) × IsRequest bytes request rest)
    ⊎ ((fault : WireFault) × (text : List ℕ) × (refusal_text fault ≡ Some text) × HasFault RequestSays bytes fault)

-- so many bytes more, one at least, and whatever they are there is a request; all of it is within the limits
pub record LacksMore (bytes : List ℕ) (count : ℕ) : Type 0 where
  pub some : 1 ≤ count
  pub few : length bytes + count ≤ max_head + max_body
  pub whole : (more : List ℕ) → length more ≡ count → IsAnswerable (bytes ++ more)

abbrev pub IsMissing : List ℕ → Missing → Type 0
IsMissing bytes Nothing = IsAnswerable bytes
IsMissing bytes Head = EndsInHead bytes
IsMissing bytes (Body count) = LacksMore bytes count
