-- What a server writes for what it reads: the words that all servers share.
use Rattle.std.specs.Prelude.{◌≡◌, ◌⊎◌, ℕ, Bool, true, false, List, codes, bytes_eq, length, nat_le, Option, Some, None, IfSome, if◌then◌else◌}
use Rattle.std.specs.Io.KnownBytes.{Appends, Keeps}
use Rattle.druid_stream.specs.Fronts.{AppendsFront}
use Rattle.druid_http_message.specs.Requests.{RequestValue}
use Rattle.druid_http_wire.specs.Messages.{IsRequest, RequestSays, HasFault}
use Rattle.druid_http_wire.specs.Written.{answer_text}
use Rattle.druid_http_message.specs.declared.fault.WireFault.{WireFault}
use Rattle.druid_http_message.specs.declared.fault.WireFault.TheVariants.{Cut, Read, Write, BadHead, HeadTooLong, NoLength, BodyTooLong, Connect, Memory}
use Rattle.druid_http_wire.specs.Limits.{max_body}

-- the answer has this status and this body
pub record Reports (wanted : ℕ) (text : List ℕ) (status : ℕ) (body : List ℕ) : Type 0 where
  pub status_is : status ≡ wanted
  pub body_is : body ≡ text

-- an answer where the method is the one that the path takes
abbrev pub Allows : Bool → (ℕ → List ℕ → Type 0) → ℕ → List ℕ → Type 0
Allows true P status body = P status body
Allows false P status body = Reports 405 (codes "{\"error\":\"Method\"}") status body

-- an answer to a request that gets something
abbrev pub Gets : RequestValue → (ℕ → List ℕ → Type 0) → ℕ → List ℕ → Type 0
Gets request P status body = Allows (bytes_eq request.method (codes "GET")) P status body

-- memory was refused for the answer
abbrev pub IsOutOfMemory : ℕ → List ℕ → Type 0
IsOutOfMemory status body = Reports 500 (codes "{\"error\":\"Memory\"}") status body

-- what is answered to what is no request; where the input is cut off, or was not read, nothing is
abbrev pub refusal_text : WireFault → Option (List ℕ)
refusal_text Cut = None
refusal_text Read = None
refusal_text Write = None
refusal_text BadHead = Some (codes "{\"error\":\"X4\"}")
refusal_text HeadTooLong = Some (codes "{\"error\":\"X5\"}")
refusal_text NoLength = Some (codes "{\"error\":\"X6\"}")
refusal_text BodyTooLong = Some (codes "{\"error\":\"X7\"}")
refusal_text Connect = None
refusal_text Memory = None

-- a body that passes the limit is written as another answer, of status 500
abbrev pub status_sent : ℕ → List ℕ → ℕ
status_sent status body = if nat_le (length body) max_body then status else 500

-- the answer was written, with this status
pub record IsSent (old new : Option (List ℕ)) (status : ℕ) (body : List ℕ) (sent : ℕ) : Type 0 where
  pub written : Appends old new (answer_text status body)
  pub status_is : sent ≡ status_sent status body

-- a failed write
abbrev pub IsWriteFault : WireFault → Type 0
IsWriteFault fault = (fault ≡ Write) ⊎ (fault ≡ Memory)

-- some front of the answer was written, and not the whole
pub record IsCutShort (old new : Option (List ℕ)) (status : ℕ) (body : List ℕ) (fault : WireFault) : Type 0 where
  pub front : AppendsFront old new (answer_text status body)
  pub reported : IsWriteFault fault

-- ---- what was read and answered. Of an input whose bytes are not known, as over a socket, it says that there was some request or
-- some fault; where they are known, these bytes have it

-- a request was read, after which the input is left, and this answers it
pub record IsAnswered (Responds : RequestValue → ℕ → List ℕ → Type 0) (before after : Option (List ℕ)) (status : ℕ) (body : List ℕ) : Type 0 where
  pub request : RequestValue
  pub read : IfSome before (λ input. (rest : List ℕ) × (after ≡ Some rest) × IsRequest input request rest)
  pub answer : Responds request status body

-- no request was read, for a fault that is answered
pub record IsRefused (before : Option (List ℕ)) (status : ℕ) (body : List ℕ) : Type 0 where
  pub fault : WireFault
  pub has : IfSome before (λ input. HasFault RequestSays input fault)
  pub text_is : refusal_text fault ≡ Some body
  pub status_is : status ≡ 400

-- one or the other; where no request was read, what answers draw on stays
abbrev pub Serves : (RequestValue → ℕ → List ℕ → Type 0) → Type 0 → Option (List ℕ) → Option (List ℕ) → ℕ → List ℕ → Type 0
Serves Responds Stays before after status body =
    IsAnswered Responds before after status body ⊎ (IsRefused before status body × Stays)

-- the answer was written
pub record IsServed (Responds : RequestValue → ℕ → List ℕ → Type 0) (Stays : Type 0) (before after old new : Option (List ℕ)) (sent : ℕ) : Type 0 where
  pub status : ℕ
  pub body : List ℕ
  pub served : Serves Responds Stays before after status body
  pub is_sent : IsSent old new status body sent

-- no request was read, and nothing written
pub record IsUnread (before old new : Option (List ℕ)) (fault : WireFault) : Type 0 where
  pub unanswered : refusal_text fault ≡ None
  pub has : IfSome before (λ input. HasFault RequestSays input fault)
  pub kept : Keeps old new

-- an answer was begun
pub record IsUnsent (Responds : RequestValue → ℕ → List ℕ → Type 0) (Stays : Type 0) (before after old new : Option (List ℕ)) (fault : WireFault) : Type 0 where
  pub status : ℕ
  pub body : List ℕ
  pub served : Serves Responds Stays before after status body
  pub cut : IsCutShort old new status body fault

-- why no answer was written, or not the whole
abbrev pub FailsToServe : (RequestValue → ℕ → List ℕ → Type 0) → Type 0 → Option (List ℕ) → Option (List ℕ) → Option (List ℕ) → Option (List ℕ) → WireFault → Type 0
FailsToServe Responds Stays before after old new fault =
    (IsUnread before old new fault × Stays) ⊎ IsUnsent Responds Stays before after old new fault
