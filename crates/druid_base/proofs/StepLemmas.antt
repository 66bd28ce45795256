-- Steps that may give nothing, one after another.
use Rattle.std.proofs.Common.{◌≡◌, Option, Some, None, refl}
use Rattle.druid_base.specs.Options.{◌>>=◌}

-- what a step gives, it gives of a value
pub stepped : {A B : Type 0} (f : A → Option B) (o : Option A) (y : B) → (o >>= f) ≡ Some y → (x : A) × (o ≡ Some x) × (f x ≡ Some y)
stepped f None y e = absurd cc
stepped f (Some x) y e = (x, refl, e)

-- what holds of each outcome of the step on the value holds of the step
pub each_next : {A B : Type 0} (P : B → Type 0) (o : Option A) (f : A → Option B) → ((x : A) → o ≡ Some x → (y : B) → f x ≡ Some y → P y) → (y : B) → (o >>= f) ≡ Some y → P y
each_next P None f each y e = absurd cc
each_next P (Some x) f each y e = each x refl y e
