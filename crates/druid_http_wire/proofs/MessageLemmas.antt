-- A message, out of its head and its body.
use Rattle.std.proofs.Common.{◌≡◌, ℕ, List, Option, None, Some, IfSome, IsTrue, sym, subst, inr, Result, Ok}
use Rattle.std.proofs.lemmas.List.Elements.{All-weaker}
use Rattle.httparse.specs.Grammar.{is_token_byte, IsToken}
use Rattle.http_header.specs.Token as header
use Rattle.druid_http_wire.specs.Frame.{IsFramed}
use Rattle.druid_http_wire.specs.HeadParts.{ReportsRequest, ReportsResponse, LacksBody}
use Rattle.druid_http_wire.specs.Messages.{RequestSays, ResponseSays, HasFault}
use Rattle.druid_http_message.specs.declared.fault.WireFault.{WireFault}
use Rattle.druid_http_message.specs.declared.fault.WireFault.TheVariants.{Cut, Read, Write, BadHead, HeadTooLong, NoLength, BodyTooLong, Connect, Memory}
use Rattle.druid_http_wire.specs.declared.head.RequestParts.{RequestParts}
use Rattle.druid_http_wire.specs.declared.head.ResponseParts.{ResponseParts}

-- ---- methods

same_byte : (b : ℕ) → IsTrue (is_token_byte b) → IsTrue (header.is_token_byte b)
unfolding is_token_byte header.is_token_byte
same_byte b h = h

pub method_token : (bytes method : List ℕ) → bytes ≡ method → IsToken method → header.IsToken bytes
method_token bytes method e t =
    subst header.IsToken (sym e) (t.0, All-weaker (λ b. IsTrue (is_token_byte b)) (λ b. IsTrue (header.is_token_byte b)) same_byte method t.1)

-- ---- a body that is not whole

bodiless_in : (Says : List ℕ → Result ℕ WireFault → Type 0) (input bytes rest : List ℕ) (n : ℕ) (f : WireFault) → IsFramed input bytes rest → Says bytes (Ok n) → LacksBody rest n f → HasFault Says input f
bodiless_in Says input bytes rest n Cut w s l = inr (bytes, rest, n, w, s, l)
bodiless_in Says input bytes rest n Read w s l = tt
bodiless_in Says input bytes rest n Write w s l = l
bodiless_in Says input bytes rest n BadHead w s l = absurd l
bodiless_in Says input bytes rest n HeadTooLong w s l = absurd l
bodiless_in Says input bytes rest n NoLength w s l = absurd l
bodiless_in Says input bytes rest n BodyTooLong w s l = absurd l
bodiless_in Says input bytes rest n Connect w s l = l
bodiless_in Says input bytes rest n Memory w s l = tt

pub bodiless : (Says : List ℕ → Result ℕ WireFault → Type 0) (a b : Option (List ℕ)) (bytes kept : List ℕ) (n : ℕ) (f : WireFault)
    → IfSome a (λ input. (rest : List ℕ) × (b ≡ Some rest) × IsFramed input kept rest) → bytes ≡ kept → Says bytes (Ok n)
    → IfSome b (λ rest. LacksBody rest n f) → IfSome a (λ input. HasFault Says input f)
bodiless Says None b bytes kept n f h e s l = tt
bodiless Says (Some input) b bytes kept n f h e s l =
    bodiless_in Says input bytes h.0 n f (subst (λ (bs : List ℕ). IsFramed input bs h.0) (sym e) h.2) s
    (subst (λ (o : Option (List ℕ)). IfSome o (λ rest. LacksBody rest n f)) h.1 l)

pub request_said : (bytes : List ℕ) (parts : RequestParts) → ReportsRequest bytes parts → RequestSays bytes (Ok parts.length)
request_said bytes parts t = (t.head, t.reads, t.whole)

pub response_said : (bytes : List ℕ) (parts : ResponseParts) → ReportsResponse bytes parts → ResponseSays bytes (Ok parts.length)
response_said bytes parts t = (t.head, t.reads, t.whole)
