-- What a server answers.
use Rattle.std.specs.Prelude.{ℕ, List, ◌++◌, codes, string_bytes}
use Rattle.serde_json.specs.Data.{Data, object, member, no_members, string}
use Rattle.serde_json.specs.Written.{compact_text}
use Rattle.druid_http_wire.specs.declared.response.Body.{Body}
use Rattle.druid_http_wire.specs.declared.response.Body.TheVariants.{Fixed, Made, Error}

pub record Response : Type 0 where
  pub status : ℕ
  pub body : List ℕ

-- the text that reports a fault with this code
abbrev pub error_text : List ℕ → List ℕ
error_text code = codes "{\"error\":\"" ++ (code ++ codes "\"}")

-- and of a fault in this field
abbrev pub field_data : List ℕ → List ℕ → Data
field_data code field = object (member (codes "error") (string code) (member (codes "field") (string field) no_members))

abbrev pub field_text : List ℕ → List ℕ → List ℕ
field_text code field = compact_text (field_data code field)

abbrev pub text_of : Body → List ℕ
text_of (Fixed text) = text.now
text_of (Made text) = string_bytes text
text_of (Error code) = code.now

abbrev pub body_of : Body → List ℕ
body_of (Fixed text) = text.now
body_of (Made text) = string_bytes text
body_of (Error code) = error_text code.now
