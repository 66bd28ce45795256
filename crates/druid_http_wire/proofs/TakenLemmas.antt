-- How much is taken of a reader for a message.
use Rattle.std.proofs.Common.{◌≡◌, ℕ, ◌+◌, ◌≤◌, true, List, [], ◌++◌, map, codes, bytes_eq, length-append, append_assoc, Option, None, Some, IfSome, refl, sym, subst, ◌∙◌, arith}
use Rattle.std.specs.Io.KnownBytes.{Consumes}
use Rattle.httparse.specs.Spans.{name_and_value}
use Rattle.druid_stream.specs.Taken.{TakesAtMost}
use Rattle.druid_stream.proofs.TakenLemmas.{takes_more}
use Rattle.druid_http_message.specs.declared.fault.WireFault.{WireFault}
use Rattle.druid_http_message.specs.declared.fault.WireFault.TheVariants.{Cut, Read, Write, BadHead, HeadTooLong, NoLength, BodyTooLong, Connect, Memory}
use Rattle.druid_http_wire.specs.Frame.{text_of, IsFramed}
use Rattle.druid_http_wire.specs.HeadParts.{ReportsRequest, ReportsResponse, LacksBody}
use Rattle.druid_http_wire.specs.Limits.{max_head, max_body, most_taken}
use Rattle.druid_http_wire.specs.declared.head.RequestParts.{RequestParts}
use Rattle.druid_http_wire.specs.declared.head.ResponseParts.{ResponseParts}
use Rattle.druid_http_wire.proofs.LengthLemmas.{body_within}

-- a head was read off the reader's front
abbrev pub TookHead : Option (List ℕ) → Option (List ℕ) → List ℕ → Type 0
TookHead a b head = IfSome a (λ input. (rest : List ℕ) × (b ≡ Some rest) × IsFramed input head rest)

unknown : (n : ℕ) (b : Option (List ℕ)) → TakesAtMost n None b
unknown n b = record { front = []; taken = tt; within = omega arith }

-- a head, and no more than a body
pub message_takes : (n : ℕ) (a b c : Option (List ℕ)) (head : List ℕ) → TookHead a b head → TakesAtMost n b c → n ≤ max_body → TakesAtMost (max_head + max_body) a c
message_takes n None b c head took more fits = unknown (max_head + max_body) c
message_takes n (Some input) b c head took more fits =
    let framed = took.2 in
    takes_more n (max_head + max_body) (Some input) b c (text_of framed.blank ++ head)
    (subst (λ (o : Option (List ℕ)). Consumes (Some input) o (text_of framed.blank ++ head)) (sym took.1) (framed.is ∙ sym (append_assoc (text_of framed.blank) head took.0)))
    more (omega (arith, fits, framed.short, length-append (text_of framed.blank) head))

-- ---- faults

body_most : (rest : List ℕ) (n : ℕ) (f : WireFault) → LacksBody rest n f → most_taken f ≡ max_head + max_body
body_most rest n Cut lacks = refl
body_most rest n Read lacks = refl
body_most rest n Write lacks = refl
body_most rest n BadHead lacks = absurd lacks
body_most rest n HeadTooLong lacks = absurd lacks
body_most rest n NoLength lacks = absurd lacks
body_most rest n BodyTooLong lacks = absurd lacks
body_most rest n Connect lacks = refl
body_most rest n Memory lacks = refl

pub body_refused : (n : ℕ) (f : WireFault) (a b c : Option (List ℕ)) (head : List ℕ) → TookHead a b head → TakesAtMost n b c → n ≤ max_body
    → IfSome b (λ rest. LacksBody rest n f) → TakesAtMost (most_taken f) a c
body_refused n f None b c head took more fits lacks = unknown (most_taken f) c
body_refused n f (Some input) b c head took more fits lacks =
    subst (λ (m : ℕ). TakesAtMost m (Some input) c) (sym (body_most took.0 n f (subst (λ (o : Option (List ℕ)). IfSome o (λ rest. LacksBody rest n f)) took.1 lacks)))
    (message_takes n (Some input) b c head took more fits)

-- memory for the request was refused
pub memory_refused : (n : ℕ) (f : WireFault) (a b c : Option (List ℕ)) (head : List ℕ) → f ≡ Memory → TookHead a b head → TakesAtMost n b c → n ≤ max_body
    → TakesAtMost (most_taken f) a c
memory_refused n f a b c head e took more fits = subst (λ (g : WireFault). TakesAtMost (most_taken g) a c) (sym e) (message_takes n a b c head took more fits)

-- ---- what a head says of the body is within the limit

pub request_within : (bytes : List ℕ) (parts : RequestParts) → ReportsRequest bytes parts → parts.length ≤ max_body
request_within bytes parts reports =
    body_within (bytes_eq reports.head.method (codes "POST")) (map name_and_value reports.head.fields) parts.length reports.whole

pub response_within : (bytes : List ℕ) (parts : ResponseParts) → ReportsResponse bytes parts → parts.length ≤ max_body
response_within bytes parts reports = body_within true (map name_and_value reports.head.fields) parts.length reports.whole
