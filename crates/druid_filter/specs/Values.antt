-- Values of rows: texts and numbers that may be null.
use Rattle.std.specs.Prelude.{ℕ, ℤ, List, map, All, Option, IfSome, FitsSigned, string_bytes, String}
use Rattle.std.specs.Int.{w64}
use Rattle.std.specs.Global.{Global}
use Rattle.std.specs.Option.{option_map}

-- the bytes of texts that may be null, and that are kept in any way
abbrev pub texts_by : {T : Type 0} → (T → List ℕ) → List (Option T) → List (Option (List ℕ))
texts_by text values = map (option_map text) values

-- the bytes of texts that may be null
abbrev pub nullable_texts_of : List (Option (String Global)) → List (Option (List ℕ))
nullable_texts_of texts = texts_by string_bytes texts

-- each number is of 64 bits
abbrev pub AreWords : List (Option ℤ) → Type 0
AreWords numbers = All (λ number. IfSome number (FitsSigned w64)) numbers
