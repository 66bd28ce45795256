-- What a client gets for a query that is refused.
use Rattle.std.specs.Prelude.{ℕ, List, ◌++◌, codes, Option, Some, None}
use Rattle.serde_json.specs.Data.{object, member, no_members, string}
use Rattle.serde_json.specs.Written.{compact_text}
use Rattle.druid_query.specs.declared.fault.QueryFault.{QueryFault}
use Rattle.druid_query.specs.declared.fault.QueryFault.TheVariants.{NotJson, UnknownType, Field, BadInterval, LimitPassed, DoubledName, Memory}

abbrev pub code_of : QueryFault → List ℕ
code_of NotJson = codes "Q1"
code_of UnknownType = codes "Q2"
code_of (Field key) = codes "Q3"
code_of BadInterval = codes "Q4"
code_of LimitPassed = codes "Q5"
code_of DoubledName = codes "Q6"
code_of Memory = codes "Memory"

-- the field of that key has another shape
abbrev pub field_of : QueryFault → Option (List ℕ)
field_of (Field key) = Some key.now
field_of fault = None

-- the code, and the field where one is named
abbrev pub text_with : List ℕ → Option (List ℕ) → List ℕ
text_with code None = codes "{\"error\":\"" ++ (code ++ codes "\"}")
text_with code (Some key) = compact_text (object (member (codes "error") (string code) (member (codes "field") (string key) no_members)))

abbrev pub refusal_text : QueryFault → List ℕ
refusal_text fault = text_with (code_of fault) (field_of fault)
