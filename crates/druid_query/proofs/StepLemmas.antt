-- One refusal after another.
use Rattle.std.proofs.Common.{◌≡◌, Result, Ok, Err, IsOk, refl, ap}
use Rattle.std.specs.Bool.{⊤}
use Rattle.druid_time.specs.Results.{◌>>=◌}
use Rattle.druid_query.specs.Refusal.{Refusal, Reports, Checks}
use Rattle.druid_query.specs.declared.fault.QueryFault.{QueryFault}
use Rattle.druid_query.specs.declared.fault.QueryFault.TheVariants as faults

abbrev refusal_of : {A : Type 0} → Result A Refusal → Refusal → Refusal
refusal_of (Ok x) e = e
refusal_of (Err y) e = y

-- a step is refused
pub stop : {A B : Type 0} (r : Result A Refusal) (f : A → Result B Refusal) (e : QueryFault) → (e ≡ faults.Memory → ⊥) → Reports e r → Reports e (r >>= f)
stop (Ok x) f faults.NotJson other h = absurd h
stop (Ok x) f faults.UnknownType other h = absurd (cc)
stop (Ok x) f (faults.Field key) other h = absurd (cc)
stop (Ok x) f faults.BadInterval other h = absurd (cc)
stop (Ok x) f faults.LimitPassed other h = absurd (cc)
stop (Ok x) f faults.DoubledName other h = absurd (cc)
stop (Ok x) f faults.Memory other h = absurd (other refl)
stop (Err y) f faults.NotJson other h = h
stop (Err y) f faults.UnknownType other h = ap (λ r. Err (refusal_of r y)) h
stop (Err y) f (faults.Field key) other h = ap (λ r. Err (refusal_of r y)) h
stop (Err y) f faults.BadInterval other h = ap (λ r. Err (refusal_of r y)) h
stop (Err y) f faults.LimitPassed other h = ap (λ r. Err (refusal_of r y)) h
stop (Err y) f faults.DoubledName other h = ap (λ r. Err (refusal_of r y)) h
stop (Err y) f faults.Memory other h = absurd (other refl)

-- a step goes on
pub pass : {A B : Type 0} (r : Result A Refusal) (f : A → Result B Refusal) (P : Result B Refusal → Type 0) → IsOk r → ((x : A) → r ≡ Ok x → P (f x)) → P (r >>= f)
pass (Ok x) f P h more = more x refl
pass (Err y) f P h more = absurd (cc)

-- the last step
pub last : {A B : Type 0} (answer : Result ⊤ QueryFault) (r : Result A Refusal) (g : A → B) → (answer ≡ Err faults.Memory → ⊥) → Checks answer r → Checks answer (r >>= λ x. Ok (g x))
last (Ok t) (Ok x) g other h = refl
last (Ok t) (Err y) g other h = absurd (cc)
last (Err e) r g other h = stop r (λ x. Ok (g x)) e (λ same. other (ap Err same)) h

-- what follows a step that went on
pub bound : {A B : Type 0} (r : Result A Refusal) (f : A → Result B Refusal) (y : B) → (r >>= f) ≡ Ok y → (x : A) × (r ≡ Ok x) × (f x ≡ Ok y)
bound (Ok x) f y h = (x, refl, h)
bound (Err e) f y h = absurd (cc)
