-- Clauses of one outcome: what holds at any rate, and what was given.
use Rattle.std.proofs.Common.{◌≡◌, Option, Some, Result, Ok, Err, OnErr, IfSome, subst}

-- what holds at any rate holds where there is an error
pub always_err : {T E : Type 0} (r : Result T E) (P : Type 0) → P → OnErr r P
always_err (Ok x) P p = tt
always_err (Err e) P p = p

-- what holds of the value, where there is one, holds of this one
pub if_some : {X : Type 0} (P : X → Type 0) (o : Option X) (x : X) → o ≡ Some x → IfSome o P → P x
if_some {X = X} P o x e h = let Q : Option X → Type 0 = λ p. IfSome p P in subst Q e h
