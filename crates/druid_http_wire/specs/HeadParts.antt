-- What the code keeps of a head. Only proofs use these words.
use Rattle.std.specs.Prelude.{◌≡◌, ◌<◌, ⊤, ℕ, List, length, Ok}
use Rattle.druid_http_wire.specs.Frame.{EndsInHead, IsLongHead}
use Rattle.druid_http_message.specs.declared.fault.WireFault.{WireFault}
use Rattle.druid_http_message.specs.declared.fault.WireFault.TheVariants.{Cut, Read, Write, BadHead, HeadTooLong, NoLength, BodyTooLong, Connect, Memory}
use Rattle.httparse.specs.Grammar.{RequestHead, ResponseHead, status_code}
use Rattle.httparse.specs.Spans.{IsWithin, span_bytes}
use Rattle.druid_http_wire.specs.Messages.{IsRequestHead, IsResponseHead, request_length, response_length}
use Rattle.druid_http_wire.specs.declared.head.RequestParts.{RequestParts}
use Rattle.druid_http_wire.specs.declared.head.ResponseParts.{ResponseParts}

pub record ReportsRequest (bytes : List ℕ) (parts : RequestParts) : Type 0 where
  pub head : RequestHead
  pub reads : IsRequestHead bytes head
  pub method : span_bytes bytes parts.method ≡ head.method
  pub target : span_bytes bytes parts.target ≡ head.target
  pub method_within : IsWithin (length bytes) parts.method
  pub target_within : IsWithin (length bytes) parts.target
  pub whole : request_length head ≡ Ok parts.length

-- the input is no head, whatever the grammar
abbrev pub LacksHead : List ℕ → WireFault → Type 0
LacksHead input Cut = EndsInHead input
LacksHead input Read = ⊤
LacksHead input Write = ⊥
LacksHead input BadHead = ⊥
LacksHead input HeadTooLong = IsLongHead input
LacksHead input NoLength = ⊥
LacksHead input BodyTooLong = ⊥
LacksHead input Connect = ⊥
LacksHead input Memory = ⊤

-- the input has no body of so many bytes
abbrev pub LacksBody : List ℕ → ℕ → WireFault → Type 0
LacksBody input count Cut = length input < count
LacksBody input count Read = ⊤
LacksBody input count Write = ⊥
LacksBody input count BadHead = ⊥
LacksBody input count HeadTooLong = ⊥
LacksBody input count NoLength = ⊥
LacksBody input count BodyTooLong = ⊥
LacksBody input count Connect = ⊥
LacksBody input count Memory = ⊤

pub record ReportsResponse (bytes : List ℕ) (parts : ResponseParts) : Type 0 where
  pub head : ResponseHead
  pub reads : IsResponseHead bytes head
  pub code : parts.status ≡ status_code head
  pub whole : response_length head ≡ Ok parts.length
