-- A response in bytes that are at hand, and its faults.
use Rattle.std.proofs.Common.{◌≡◌, ℕ, ◌<◌, Bool, true, false, List, length, map, subst, sym, refl, ◌∙◌, inl, inr, Result, Ok, Err, Option, None, Some, IfSome}
use Rattle.httparse.specs.Spans.{name_and_value}
use Rattle.druid_http_wire.specs.Frame.{IsFramed}
use Rattle.druid_http_wire.specs.Heads.{NameAndValue, is_coded, length_in}
use Rattle.druid_http_wire.specs.HeadParts.{ReportsResponse, LacksHead}
use Rattle.druid_http_wire.specs.Messages.{length_or, body_length, HasFault, IsOfBytes, IsResponse, RequestSays, ResponseSays}
use Rattle.druid_http_message.specs.declared.fault.WireFault.{WireFault}
use Rattle.druid_http_message.specs.declared.fault.WireFault.TheVariants.{Cut, Read, Write, BadHead, HeadTooLong, NoLength, BodyTooLong, Connect, Memory}
use Rattle.druid_http_wire.specs.declared.head.ResponseParts.{ResponseParts}
use Rattle.druid_http_wire.specs.declared.length.Length.{Length}
use Rattle.druid_http_wire.specs.declared.length.Length.TheVariants.{Unsaid, Unclear, TooLong, Is}
use Rattle.druid_http_wire.proofs.MessageLemmas.{response_said}
use Rattle.druid_http_wire.proofs.OnceLemmas.{response_faults}

-- ---- what a head says

-- a fault that a head may have
abbrev pub IsOfHead : WireFault → Type 0
IsOfHead Cut = ⊥
IsOfHead Read = ⊥
IsOfHead Write = ⊥
IsOfHead BadHead = Unit {0}
IsOfHead HeadTooLong = Unit {0}
IsOfHead NoLength = Unit {0}
IsOfHead BodyTooLong = Unit {0}
IsOfHead Connect = ⊥
IsOfHead Memory = ⊥

of_this : (e f : WireFault) → IsOfHead e → ◌≡◌ {A = Result ℕ WireFault} (Err e) (Err f) → IsOfHead f
of_this e f is same = let names : e ≡ f = cc in subst IsOfHead names is

not_said : (n : ℕ) (f : WireFault) → ◌≡◌ {A = Result ℕ WireFault} (Ok n) (Err f) → IsOfHead f
not_said n f e = absurd (cc)

of_length : (needed : Bool) (said : Length) (f : WireFault) → length_or needed said ≡ Err f → IsOfHead f
of_length true Unsaid f e = of_this NoLength f tt e
of_length false Unsaid f e = not_said 0 f e
of_length needed Unclear f e = of_this BadHead f tt e
of_length needed TooLong f e = of_this BodyTooLong f tt e
of_length needed (Is n) f e = not_said n f e

of_body : (coded needed : Bool) (fields : List NameAndValue) (f : WireFault) → is_coded fields ≡ coded → body_length needed fields ≡ Err f → IsOfHead f
of_body true needed fields f c e = of_this NoLength f tt (sym (rw c refl) ∙ e)
of_body false needed fields f c e = of_length needed (length_in fields) f (sym (rw c refl) ∙ e)

of_response : (bytes : List ℕ) (f : WireFault) → ResponseSays bytes (Err f) → IsOfHead f
of_response bytes f says =
    elim says [
      | inl bad ↦ subst IsOfHead (sym bad.0) tt
      | inr other ↦
          elim other [
            | inl over ↦ subst IsOfHead (sym over.0) tt
            | inr lacks ↦ of_body _ true (map name_and_value lacks.0.fields) f refl lacks.2
          ]
    ]

pub of_request : (bytes : List ℕ) (f : WireFault) → RequestSays bytes (Err f) → IsOfHead f
of_request bytes f says =
    elim says [
      | inl bad ↦ subst IsOfHead (sym bad.0) tt
      | inr other ↦
          elim other [
            | inl over ↦ subst IsOfHead (sym over.0) tt
            | inr lacks ↦ of_body _ _ (map name_and_value lacks.0.fields) f refl lacks.2
          ]
    ]

-- ---- faults of the whole

-- a fault of its own head is one of the input
pub head_faulty : (Says : List ℕ → Result ℕ WireFault → Type 0) (input head rest : List ℕ) (f : WireFault) → IsFramed input head rest → Says head (Err f) → IsOfHead f
    → HasFault Says input f
head_faulty Says input head rest Cut framed says is = absurd is
head_faulty Says input head rest Read framed says is = absurd is
head_faulty Says input head rest Write framed says is = absurd is
head_faulty Says input head rest BadHead framed says is = (head, rest, framed, says)
head_faulty Says input head rest HeadTooLong framed says is = inr (head, rest, framed, says)
head_faulty Says input head rest NoLength framed says is = (head, rest, framed, says)
head_faulty Says input head rest BodyTooLong framed says is = (head, rest, framed, says)
head_faulty Says input head rest Connect framed says is = absurd is
head_faulty Says input head rest Memory framed says is = absurd is

-- the same of a request whose head was read off a reader's front
pub request_head_faulty : (a b : Option (List ℕ)) (bytes kept : List ℕ) (f : WireFault) → IfSome a (λ input. (rest : List ℕ) × (b ≡ Some rest) × IsFramed input kept rest)
    → bytes ≡ kept → RequestSays bytes (Err f) → IfSome a (λ input. HasFault RequestSays input f)
request_head_faulty None b bytes kept f h e says = tt
request_head_faulty (Some input) b bytes kept f h e says =
    head_faulty RequestSays input bytes h.0 f (subst (λ (bs : List ℕ). IsFramed input bs h.0) (sym e) h.2) says (of_request bytes f says)

pub response_head_faulty : (input head rest : List ℕ) (f : WireFault) → IsFramed input head rest → ResponseSays head (Err f) → HasFault ResponseSays input f
response_head_faulty input head rest f framed says = head_faulty ResponseSays input head rest f framed says (of_response head f says)

pub body_cut : (input head rest : List ℕ) (parts : ResponseParts) → IsFramed input head rest → ReportsResponse head parts → length rest < parts.length → HasFault ResponseSays input Cut
body_cut input head rest parts framed reports short = inr (head, rest, parts.length, framed, response_said head parts reports, short)

bytes_fault : (f : WireFault) → IsOfHead f → IsOfBytes f
bytes_fault Cut is = tt
bytes_fault Read is = is
bytes_fault Write is = is
bytes_fault BadHead is = tt
bytes_fault HeadTooLong is = tt
bytes_fault NoLength is = tt
bytes_fault BodyTooLong is = tt
bytes_fault Connect is = is
bytes_fault Memory is = is

pub of_bytes : (head : List ℕ) (f : WireFault) → ResponseSays head (Err f) → IsOfBytes f
of_bytes head f says = bytes_fault f (of_response head f says)

pub lacking_head : (input : List ℕ) (f : WireFault) → LacksHead input f → HasFault ResponseSays input f
lacking_head input Cut lacks = inl lacks
lacking_head input Read lacks = tt
lacking_head input Write lacks = lacks
lacking_head input BadHead lacks = absurd lacks
lacking_head input HeadTooLong lacks = inl lacks
lacking_head input NoLength lacks = absurd lacks
lacking_head input BodyTooLong lacks = absurd lacks
lacking_head input Connect lacks = lacks
lacking_head input Memory lacks = tt

-- bytes with a fault of their own are no response
pub no_response_with : (bytes : List ℕ) (f : WireFault) → HasFault ResponseSays bytes f → IsOfBytes f → (status : ℕ) (body rest : List ℕ) → IsResponse bytes status body rest → ⊥
no_response_with bytes f has is status body rest response =
    elim (response_faults bytes status body rest f response has) [
      | inl read ↦ subst IsOfBytes read is
      | inr memory ↦ subst IsOfBytes memory is
    ]
