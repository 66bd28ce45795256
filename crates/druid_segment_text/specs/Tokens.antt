-- The tokens of JSON as they are written: only proofs use this.
use Rattle.std.specs.Prelude.{List}
use Rattle.json.specs.Token.{Token}
use Rattle.json.specs.Tree.{json_tokens, items_tokens}
use Rattle.serde_json.specs.Data.{Data, Items}
use Rattle.serde_json.specs.Written.{outline, items_outline}

-- what is written of a value
abbrev pub tokens_of : Data → List Token
tokens_of d = json_tokens (outline d)

-- what is written of items that are left of a list, and of its end
abbrev pub rest_of : Items → List Token
rest_of ds = items_tokens (items_outline ds)
