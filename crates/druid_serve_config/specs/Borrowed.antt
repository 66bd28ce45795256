-- What the reader finds in JSON, borrowed: only proofs use this.
use Rattle.std.specs.Prelude.{ℕ, List, [], map, Option, Some, None}
use Rattle.serde_json.specs.Find.{as_str}
use Rattle.serde_json.specs.View.{view}
use Rattle.serde_json.specs.declared.value.Value.{Value}
use Rattle.druid_serve_config.specs.Configs.{name_at}

abbrev pub text_or : Option (List ℕ) → List ℕ
text_or None = []
text_or (Some text) = text

-- the texts of a list of texts
abbrev pub texts_in : List Value → List (List ℕ)
texts_in vs = map (λ v. text_or (as_str (view v))) vs

-- the names of a list of nodes
abbrev pub names_in : List Value → List (List ℕ)
names_in vs = map (λ v. text_or (name_at (view v))) vs
