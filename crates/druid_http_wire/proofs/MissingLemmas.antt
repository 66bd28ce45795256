-- What is missing of a request whose head was found, or was not.
use Rattle.std.proofs.Common.{◌≡◌, ℕ, ◌-◌, ◌≤◌, ◌<◌, List, ◌++◌, length, take, drop, length-append, append_assoc, inl, inr, Ok, Err, refl, sym, ap, subst, ◌∙◌, arith}
use Rattle.std.proofs.lemmas.List.{take-append-drop, length-take-le}
use Rattle.druid_http_message.specs.declared.fault.WireFault.{WireFault}
use Rattle.druid_http_message.specs.declared.fault.WireFault.TheVariants.{Cut, Read, Write, BadHead, HeadTooLong, NoLength, BodyTooLong, Connect, Memory}
use Rattle.druid_http_wire.specs.Frame.{text_of, IsFramed}
use Rattle.druid_http_wire.specs.HeadParts.{ReportsRequest, LacksHead}
use Rattle.druid_http_wire.specs.Messages.{RequestSays, HasFault, IsOfBytes}
use Rattle.druid_http_wire.specs.Missing.{IsAnswerable, LacksMore}
use Rattle.druid_http_wire.specs.declared.head.RequestParts.{RequestParts}
use Rattle.druid_http_wire.proofs.ResponseLemmas.{IsOfHead, of_request, head_faulty}
use Rattle.druid_http_wire.proofs.TakenLemmas.{request_within}

-- a fault of the head, known by its end
answered : (input : List ℕ) (f : WireFault) → IsOfHead f → HasFault RequestSays input f → IsAnswerable input
answered input Cut is has = absurd is
answered input Read is has = absurd is
answered input Write is has = absurd is
answered input BadHead is has = inr (BadHead, _, refl, has)
answered input HeadTooLong is has = inr (HeadTooLong, _, refl, has)
answered input NoLength is has = inr (NoLength, _, refl, has)
answered input BodyTooLong is has = inr (BodyTooLong, _, refl, has)
answered input Connect is has = absurd is
answered input Memory is has = absurd is

-- the head is there, and has a fault
pub refused : (input head rest : List ℕ) (f : WireFault) → IsFramed input head rest → RequestSays head (Err f) → IsAnswerable input
refused input head rest f framed says =
    let is = of_request head f says in answered input f is (head_faulty RequestSays input head rest f framed says is)

-- no head is there, and not for want of bytes
pub overlong : (input : List ℕ) (f : WireFault) → LacksHead input f → IsOfBytes f → (f ≡ Cut → ⊥) → IsAnswerable input
overlong input Cut lacks is other = absurd (other refl)
overlong input Read lacks is other = absurd is
overlong input Write lacks is other = absurd is
overlong input BadHead lacks is other = absurd lacks
overlong input HeadTooLong lacks is other = inr (HeadTooLong, _, refl, inl lacks)
overlong input NoLength lacks is other = absurd lacks
overlong input BodyTooLong lacks is other = absurd lacks
overlong input Connect lacks is other = absurd is
overlong input Memory lacks is other = absurd is

-- as many bytes follow the head as it says, or more
pub whole : (input head rest : List ℕ) (parts : RequestParts) → IsFramed input head rest → ReportsRequest head parts → parts.length ≤ length rest → IsAnswerable input
whole input head rest parts framed reports enough =
    inl (
      record { method = reports.head.method; target = reports.head.target; body = take parts.length rest },
      drop parts.length rest,
      record {
        bytes = head;
        head = reports.head;
        framed = subst (λ (l : List ℕ). IsFramed input head l) (sym (take-append-drop parts.length rest)) framed;
        reads = reports.reads;
        method = refl;
        target = refl;
        whole = reports.whole ∙ ap (λ (n : ℕ). Ok n) (sym (length-take-le parts.length rest enough));
      },
    )

-- more bytes follow
further : (input head rest more : List ℕ) → IsFramed input head rest → IsFramed (input ++ more) head (rest ++ more)
further input head rest more framed = record {
  blank = framed.blank;
  blanks = framed.blanks;
  is = ap (λ (l : List ℕ). l ++ more) framed.is ∙ append_assoc (text_of framed.blank) (head ++ rest) more
      ∙ ap (λ (l : List ℕ). text_of framed.blank ++ l) (append_assoc head rest more);
  framed = framed.framed;
  short = framed.short;
}

-- fewer do
pub body_lacks : (input head rest : List ℕ) (parts : RequestParts) → IsFramed input head rest → ReportsRequest head parts → length rest < parts.length
    → LacksMore input (parts.length - length rest)
body_lacks input head rest parts framed reports short = record {
  some = omega (arith, short);
  few =
      let fits = request_within head parts reports in
      let is : length input ≡ length (text_of framed.blank ++ (head ++ rest)) = ap length framed.is in
      omega (arith, short, fits, framed.short, is, length-append (text_of framed.blank) (head ++ rest), length-append head rest);
  whole = λ more count.
      whole (input ++ more) head (rest ++ more) parts (further input head rest more framed) reports
      (omega (arith, short, count, length-append rest more));
}
