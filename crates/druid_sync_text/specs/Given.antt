-- How often a parameter is given: only proofs use this.
use Rattle.std.specs.Prelude.{◌≡◌, ℕ, List, [], ◌∷◌}
use Rattle.druid_sync_text.specs.declared.ask.Given.{Given}
use Rattle.druid_sync_text.specs.declared.ask.Given.TheVariants.{Never, Once, Twice}

abbrev pub IsGiven : Given → List (List ℕ) → Type 0
IsGiven Never values = values ≡ []
IsGiven (Once value) values = values ≡ value.now ∷ []
IsGiven Twice values = (a b : List ℕ) × (rest : List (List ℕ)) × (values ≡ a ∷ b ∷ rest)
