-- Steps that may give nothing, one after another.
use Rattle.std.proofs.Common.{◌≡◌, Option, Some, None, option_and_then, refl, subst}
use Rattle.std.proofs.lemmas.Option.{same_Some}

-- what a step gives, it gives of a value
pub chained : {A B : Type 0} (f : A → Option B) (o : Option A) (y : B) → option_and_then f o ≡ Some y → (x : A) × (o ≡ Some x) × (f x ≡ Some y)
chained f None y e = absurd cc
chained f (Some x) y e = (x, refl, e)

-- what holds of a value holds of it where it is given
pub given_so : {B : Type 0} (P : B → Type 0) (x : B) → P x → (y : B) → Some x ≡ Some y → P y
given_so P x here y e = subst P (same_Some x y e) here
