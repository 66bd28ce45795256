-- Steps that may give nothing, one after another, in `do` notation.
use Rattle.std.specs.Prelude.{Option, Some, None}

infixl 10 ◌>>=◌
-- the next step on the value, where there is one
abbrev pub ◌>>=◌ : {A B : Type 0} → Option A → (A → Option B) → Option B
(Some x) >>= f = f x
None >>= f = None
