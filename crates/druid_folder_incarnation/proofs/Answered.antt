-- What holds where a call answered a value.
use Rattle.std.proofs.Common.{◌≡◌, Result, Ok, Err, Some, IfOk, OnOk, subst}
use Rattle.std.specs.Result.{result_ok}

-- what holds of the value of an answer holds of the same value in another
pub answered : {T E : Type 0} (P : T → Type 0) (x : T) (r : Result T E) → Some x ≡ result_ok r → IfOk r P → P x
answered P x (Ok y) is h = subst P (let same : y ≡ x = cc is in same) h
answered P x (Err e) is h = absurd (cc is)

-- what follows from that which holds after a success
pub then_also : {T E P Q : Type 0} (r : Result T E) → (P → Q) → OnOk r P → OnOk r Q
then_also (Ok x) f h = f h
then_also (Err e) f h = tt
