-- What is reported of an end.
use Rattle.std.proofs.Common.{ℕ, List, [], Bool, true, false, Option, None, Result, Ok, Err, OnOk}
use Rattle.std.specs.Bool.{⊤}
use Rattle.std.proofs.KnownBytes.{Appends-nil}
use Rattle.druid_program.specs.Reasons.{Reports}

-- where there is no fault
pub nothing : (explain : Bool) (old : Option (List ℕ)) → Reports explain old old []
nothing false old = Appends-nil old
nothing true old = (None, Appends-nil old)

-- whether or not something was written
pub nothing_reported : {E : Type 0} (explain : Bool) (old : Option (List ℕ)) (reported : Result ⊤ E) → OnOk reported (Reports explain old old [])
nothing_reported explain old (Ok done) = nothing explain old
nothing_reported explain old (Err fault) = tt
