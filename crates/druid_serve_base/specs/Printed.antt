-- What is printed of an answer to a query that was posted.
use Rattle.std.specs.Prelude.{◌≡◌, ◌⊎◌, ℕ, zero, suc, List, [], ◌∷◌, ◌++◌, codes, decimal, Ok, Err}
use Rattle.druid_http_message.specs.declared.fault.WireFault.{WireFault}
use Rattle.druid_http_message.specs.declared.fault.WireFault.TheVariants.{Cut, Read, Write, BadHead, HeadTooLong, NoLength, BodyTooLong, Connect, Memory}
use Rattle.druid_link.specs.Links.{Came}
use Rattle.druid_http_wire.specs.Messages.{IsResponse, HasFault, ResponseSays}

-- a fault goes by its number
abbrev pub number_of : WireFault → List ℕ
number_of Cut = codes "X1"
number_of Read = codes "X2"
number_of Write = codes "X3"
number_of BadHead = codes "X4"
number_of HeadTooLong = codes "X5"
number_of NoLength = codes "X6"
number_of BodyTooLong = codes "X7"
number_of Connect = codes "X8"
number_of Memory = codes "X9"

-- a line for the status, and a line for the body
abbrev pub answer_lines : ℕ → List ℕ → List ℕ
answer_lines status body = decimal status ++ 10 ∷ (body ++ 10 ∷ [])

-- a line for the number of a fault, and an empty one
abbrev pub fault_lines : WireFault → List ℕ
fault_lines fault = number_of fault ++ 10 ∷ 10 ∷ []

-- bytes that are a response, or that are none
abbrev pub IsPrintedOf : List ℕ → List ℕ → Type 0
IsPrintedOf bytes text =
    ((status : ℕ) × (body rest : List ℕ) × IsResponse bytes status body rest × (text ≡ answer_lines status body))
    ⊎ ((fault : WireFault) × HasFault ResponseSays bytes fault × (text ≡ fault_lines fault))

-- what came over a link, or why nothing did
abbrev pub IsPrinted : Came → List ℕ → Type 0
IsPrinted (Ok bytes) text = IsPrintedOf bytes text
IsPrinted (Err fault) text = text ≡ fault_lines fault

-- what was printed of so many queries, one after another
abbrev pub ArePrinted : ℕ → List ℕ → Type 0
ArePrinted zero text = text ≡ []
ArePrinted (suc count) text =
    (before last : List ℕ) × (came : Came) × ArePrinted count before × IsPrinted came last × (text ≡ before ++ last)
