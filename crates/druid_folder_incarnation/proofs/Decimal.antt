-- Decimal digits with no zero in front, and the number above 0 that they spell.
use Rattle.std.proofs.Common.{◌≡◌, ℕ, ◌^◌, ◌<◌, ◌≤◌, List, None, Some, sym, ◌∙◌, arith}
use Rattle.std.proofs.lemmas.Option.{same_Some, none-some}
use Rattle.std.specs.Fmt.{decimal}
use Rattle.druid_base.specs.Numbers.{number_at}
use Rattle.druid_base.proofs.NumberLemmas.{number_at-found, number_at-to}

-- the bytes spell the number
abbrev pub Spells : List ℕ → ℕ → Type 0
Spells bytes n = (1 ≤ n) × (n < 2 ^ 64) × (bytes ≡ decimal n)

abbrev pub SpellsNone : List ℕ → Type 0
SpellsNone bytes = (n : ℕ) → 1 ≤ n → n < 2 ^ 64 → bytes ≡ decimal n → ⊥

pub spells : (bytes : List ℕ) (n : ℕ) → Some n ≡ number_at bytes → 1 ≤ n → Spells bytes n
spells bytes n is some = let read = number_at-to bytes n (sym is) in (some, read.0, read.1)

pub spells_no_number : (bytes : List ℕ) → None ≡ number_at bytes → SpellsNone bytes
spells_no_number bytes none n some high is = none-some n (none ∙ number_at-found bytes n high (sym is))

pub spells_zero : (bytes : List ℕ) (z : ℕ) → Some z ≡ number_at bytes → z ≡ 0 → SpellsNone bytes
spells_zero bytes z is zero n some high spelled =
    let same : z ≡ n = same_Some z n (is ∙ number_at-found bytes n high (sym spelled)) in
    omega (arith, same, zero, some)
