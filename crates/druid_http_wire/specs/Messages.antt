-- What a message says of itself, and what may be wrong with it. Where several things are wrong, any of them is reported.
use Rattle.std.specs.Prelude.{◌≡◌, ◌<◌, ◌≤◌, ◌⊎◌, ⊤, ℕ, Bool, true, false, List, [], ◌++◌, length, map, codes, bytes_eq, if◌then◌else◌, Result, Ok, Err}
use Rattle.httparse.specs.Grammar.{RequestHead, ReadsRequest, ResponseHead, ReadsResponse, status_code}
use Rattle.httparse.specs.Spans.{name_and_value, RequestExceeds, ResponseExceeds}
use Rattle.druid_http_wire.specs.Frame.{IsFramed, EndsInHead, IsLongHead}
use Rattle.druid_http_wire.specs.Heads.{NameAndValue, is_coded, length_in}
use Rattle.druid_http_message.specs.Requests.{RequestValue}
use Rattle.druid_http_message.specs.declared.fault.WireFault.{WireFault}
use Rattle.druid_http_message.specs.declared.fault.WireFault.TheVariants.{Cut, Read, Write, BadHead, HeadTooLong, NoLength, BodyTooLong, Connect, Memory}
use Rattle.druid_http_wire.specs.declared.length.Length.{Length}
use Rattle.druid_http_wire.specs.declared.length.Length.TheVariants.{Unsaid, Unclear, TooLong, Is}
use Rattle.druid_http_wire.specs.Limits.{max_fields}

abbrev pub length_or : Bool → Length → Result ℕ WireFault
length_or true Unsaid = Err NoLength
length_or false Unsaid = Ok 0
length_or needed Unclear = Err BadHead
length_or needed TooLong = Err BodyTooLong
length_or needed (Is n) = Ok n

-- the length of the body; where none is said it is empty, unless the message needs one
abbrev pub body_length : Bool → List NameAndValue → Result ℕ WireFault
body_length needed fields = if is_coded fields then Err NoLength else length_or needed (length_in fields)

-- a `POST` needs a body
abbrev pub request_length : RequestHead → Result ℕ WireFault
request_length head = body_length (bytes_eq head.method (codes "POST")) (map name_and_value head.fields)

abbrev pub response_length : ResponseHead → Result ℕ WireFault
response_length head = body_length true (map name_and_value head.fields)

-- the bytes are that head of a request, and nothing more
pub record IsRequestHead (bytes : List ℕ) (head : RequestHead) : Type 0 where
  pub reads : ReadsRequest bytes head []
  pub few : length head.fields ≤ max_fields

pub record IsResponseHead (bytes : List ℕ) (head : ResponseHead) : Type 0 where
  pub reads : ReadsResponse bytes head []
  pub few : length head.fields ≤ max_fields
  pub status : 100 ≤ status_code head

-- the bytes, from the first line to the empty one, say how long the body is, or have a fault
abbrev pub RequestSays : List ℕ → Result ℕ WireFault → Type 0
RequestSays bytes (Ok n) = (head : RequestHead) × IsRequestHead bytes head × (request_length head ≡ Ok n)
RequestSays bytes (Err fault) =
    ((fault ≡ BadHead) × ((head : RequestHead) → ¬ (ReadsRequest bytes head [])))
    ⊎ ((fault ≡ HeadTooLong) × RequestExceeds max_fields bytes)
    ⊎ ((head : RequestHead) × IsRequestHead bytes head × (request_length head ≡ Err fault))

abbrev pub ResponseSays : List ℕ → Result ℕ WireFault → Type 0
ResponseSays bytes (Ok n) = (head : ResponseHead) × IsResponseHead bytes head × (response_length head ≡ Ok n)
ResponseSays bytes (Err fault) =
    ((fault ≡ BadHead) × ((head : ResponseHead) → ReadsResponse bytes head [] → status_code head < 100))
    ⊎ ((fault ≡ HeadTooLong) × ResponseExceeds max_fields bytes)
    ⊎ ((head : ResponseHead) × IsResponseHead bytes head × (response_length head ≡ Err fault))

-- the head of the input has that fault
abbrev pub HasBadHead : (List ℕ → Result ℕ WireFault → Type 0) → List ℕ → WireFault → Type 0
HasBadHead Says input fault = (head rest : List ℕ) × IsFramed input head rest × Says head (Err fault)

-- the input ends in the body
abbrev pub EndsInBody : (List ℕ → Result ℕ WireFault → Type 0) → List ℕ → Type 0
EndsInBody Says input = (head rest : List ℕ) × (n : ℕ) × IsFramed input head rest × Says head (Ok n) × (length rest < n)

-- the input has that fault; that the reader failed, or memory was refused, is no matter of the input
abbrev pub HasFault : (List ℕ → Result ℕ WireFault → Type 0) → List ℕ → WireFault → Type 0
HasFault Says input Cut = EndsInHead input ⊎ EndsInBody Says input
HasFault Says input Read = ⊤
HasFault Says input Write = ⊥
HasFault Says input BadHead = HasBadHead Says input BadHead
HasFault Says input HeadTooLong = IsLongHead input ⊎ HasBadHead Says input HeadTooLong
HasFault Says input NoLength = HasBadHead Says input NoLength
HasFault Says input BodyTooLong = HasBadHead Says input BodyTooLong
HasFault Says input Connect = ⊥
HasFault Says input Memory = ⊤

-- the input is a request, and then the rest
pub record IsRequest (input : List ℕ) (request : RequestValue) (rest : List ℕ) : Type 0 where
  pub bytes : List ℕ
  pub head : RequestHead
  pub framed : IsFramed input bytes (request.body ++ rest)
  pub reads : IsRequestHead bytes head
  pub method : request.method ≡ head.method
  pub target : request.target ≡ head.target
  pub whole : request_length head ≡ Ok (length request.body)

-- the input is a response with that status and body, and then the rest
pub record IsResponse (input : List ℕ) (status : ℕ) (body rest : List ℕ) : Type 0 where
  pub bytes : List ℕ
  pub head : ResponseHead
  pub framed : IsFramed input bytes (body ++ rest)
  pub reads : IsResponseHead bytes head
  pub code : status ≡ status_code head
  pub whole : response_length head ≡ Ok (length body)

-- a fault of the bytes alone: no device failed, and no memory was refused
abbrev pub IsOfBytes : WireFault → Type 0
IsOfBytes Cut = Unit {0}
IsOfBytes Read = ⊥
IsOfBytes Write = ⊥
IsOfBytes BadHead = Unit {0}
IsOfBytes HeadTooLong = Unit {0}
IsOfBytes NoLength = Unit {0}
IsOfBytes BodyTooLong = Unit {0}
IsOfBytes Connect = ⊥
IsOfBytes Memory = ⊥
