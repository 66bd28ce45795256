-- A text of an interval names one.
use Rattle.std.proofs.Common.{◌≡◌, ◌==◌, ℕ, ◌<◌, List, Result, Ok, Err, if◌then◌else◌, true, false, Bool, nat_lt, refl, ap, subst}
use Rattle.std.specs.List.{count_by, before_first, after_first}
use Rattle.std.proofs.lemmas.Bool.{ltb-true}
use Rattle.druid_time.specs.Extent.{Extent, IsExtent}
use Rattle.druid_time.specs.Instant.{IsInstant, instant_count}
use Rattle.druid_time.specs.Civil.{is_civil, instant_of}
use Rattle.druid_time.specs.Results.{◌>>=◌}
use Rattle.druid_time.specs.Texts.{instant_at, extent_at, has_form, civil_parts}
use Rattle.druid_time.specs.declared.fault.TimeFault.{TimeFault}
use Rattle.druid_time.specs.declared.fault.TimeFault.TheVariants.{NotATime, OutOfRange, Empty}
use Rattle.druid_time.proofs.TextLemmas.{is_civil_to}
use Rattle.druid_time.proofs.CivilLemmas.{IsInstant-instant_of}

abbrev value_or : {A : Type 0} → A → Result A TimeFault → A
value_or x (Ok y) = y
value_or x (Err e) = x

picked : (a b : Bool) (n t : ℕ) → (if a then (if b then Ok n else Err OutOfRange) else Err NotATime) ≡ Ok t → (b ≡ true) × (n ≡ t)
picked true true n t h = (refl, ap (value_or n) h)
picked true false n t h = absurd (cc)
picked false b n t h = absurd (cc)

instant_valid : (text : List ℕ) (t : ℕ) → instant_at text ≡ Ok t → IsInstant t
unfolding instant_at
instant_valid text t h =
    let p = picked (has_form text) (is_civil (civil_parts text)) (instant_of (civil_parts text)) t h in
    subst IsInstant p.1 (IsInstant-instant_of (civil_parts text) (is_civil_to (civil_parts text) p.0))

ordered : (s t : ℕ) (b : Bool) (e : Extent) → nat_lt s t ≡ b → t < instant_count → (if b then Ok (record { start = s; end = t }) else Err Empty) ≡ Ok e → IsExtent e
ordered s t true e is last h = subst IsExtent (ap (value_or (record { start = s; end = t })) h) (ltb-true s t is, last)
ordered s t false e is last h = absurd (cc)

joined : (c : Bool) (s t : Result ℕ TimeFault) (e : Extent) → ((n : ℕ) → t ≡ Ok n → IsInstant n)
    → (if c then (s >>= λ start. t >>= λ end. if nat_lt start end then Ok (record { start = start; end = end }) else Err Empty) else Err NotATime) ≡ Ok e → IsExtent e
joined true (Ok s) (Ok t) e valid h = ordered s t (nat_lt s t) e refl (valid t refl) h
joined true (Ok s) (Err y) e valid h = absurd (cc)
joined true (Err x) t e valid h = absurd (cc)
joined false s t e valid h = absurd (cc)

pub extent_valid : (text : List ℕ) (e : Extent) → extent_at text ≡ Ok e → IsExtent e
unfolding extent_at
extent_valid text e h =
    joined (count_by (λ b. b == 47) text == 1) (instant_at (before_first (λ b. b == 47) text)) (instant_at (after_first (λ b. b == 47) text)) e
    (instant_valid (after_first (λ b. b == 47) text)) h
