-- What is written for what was read.
use Rattle.std.proofs.Common.{◌≡◌, ◌⊎◌, ℕ, List, Option, Some, None, IfSome, refl, inl, inr}
use Rattle.std.specs.Io.KnownBytes.{Keeps}
use Rattle.druid_http_message.specs.Requests.{RequestValue}
use Rattle.druid_http_wire.specs.Messages.{IsRequest, RequestSays, HasFault}
use Rattle.druid_http_wire.specs.Served.{refusal_text, IsSent, IsRefused, IsServed, IsCutShort, FailsToServe}
use Rattle.druid_http_message.specs.declared.fault.WireFault.{WireFault}

-- what is answered to a request
abbrev pub Responding : Type 1
Responding = RequestValue → ℕ → List ℕ → Type 0

-- a request was read
abbrev pub WasRead : Option (List ℕ) → Option (List ℕ) → RequestValue → Type 0
WasRead before after request = IfSome before (λ input. (rest : List ℕ) × (after ≡ Some rest) × IsRequest input request rest)

-- what was sent of an answer to a request
module _ (R : Responding) (Stays : Type 0) (request : RequestValue) (before after old new : Option (List ℕ)) (read : WasRead before after request) where
  pub served : (sent : ℕ) → (status : ℕ) × (body : List ℕ) × R request status body × IsSent old new status body sent → IsServed R Stays before after old new sent
  served sent (status, body, answer, is) =
      record { status = status; body = body; served = inl (record { request = request; read = read; answer = answer }); is_sent = is }

  pub unsent : (fault : WireFault) → (status : ℕ) × (body : List ℕ) × R request status body × IsCutShort old new status body fault → FailsToServe R Stays before after old new fault
  unsent fault (status, body, answer, cut) =
      inr (record { status = status; body = body; served = inl (record { request = request; read = read; answer = answer }); cut = cut })

-- no request was read
module _ (R : Responding) (Stays : Type 0) (before after old new : Option (List ℕ)) (fault : WireFault) (has : IfSome before (λ input. HasFault RequestSays input fault)) (stays : Stays) where
  is_refused : (text : List ℕ) → refusal_text fault ≡ Some text → IsRefused before 400 text
  is_refused text e = record { fault = fault; has = has; text_is = e; status_is = refl }

  pub refused : (sent : ℕ) → (text : List ℕ) × (refusal_text fault ≡ Some text) × IsSent old new 400 text sent → IsServed R Stays before after old new sent
  refused sent (text, e, is) = record { status = 400; body = text; served = inr (is_refused text e, stays); is_sent = is }

  pub unanswered : (given : WireFault)
      → ((given ≡ fault) × (refusal_text fault ≡ None) × Keeps old new) ⊎ ((text : List ℕ) × (refusal_text fault ≡ Some text) × IsCutShort old new 400 text given)
      → FailsToServe R Stays before after old new given
  unanswered given (inl (e, none, kept)) = inl (rw e (record { unanswered = none; has = has; kept = kept }), stays)
  unanswered given (inr (text, e, cut)) = inr (record { status = 400; body = text; served = inr (is_refused text e, stays); cut = cut })
