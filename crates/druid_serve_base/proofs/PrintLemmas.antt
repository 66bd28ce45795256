-- What is printed where the bytes that came are no response.
use Rattle.std.proofs.Common.{◌≡◌, inr, ℕ, List, Option, Result, Ok, Err, OnOk, refl, sym, subst}
use Rattle.std.specs.Io.KnownBytes.{Appends}
use Rattle.druid_http_message.specs.declared.fault.WireFault.{WireFault}
use Rattle.druid_link.specs.Links.{Came}
use Rattle.druid_http_wire.specs.Messages.{HasFault, ResponseSays}
use Rattle.druid_serve_base.specs.Printed.{fault_lines, IsPrinted}

pub fault_printed : {A E : Type 0} (r : Result A E) (old new : Option (List ℕ)) (came : Came) (bytes : List ℕ) (fault : WireFault) → came ≡ Ok bytes → HasFault ResponseSays bytes fault
    → OnOk r (Appends old new (fault_lines fault)) → OnOk r ((text : List ℕ) × IsPrinted came text × Appends old new text)
fault_printed (Ok done) old new came bytes fault is has appended =
    (fault_lines fault, subst (λ c. IsPrinted c (fault_lines fault)) (sym is) (inr (fault, has, refl)), appended)
fault_printed (Err e) old new came bytes fault is has appended = tt
