-- Answers of nodes: their text, and how they are read.
use Rattle.std.specs.Prelude.{IsUtf8, ◌≡◌, ℕ, List, codes, Contains, Option, Some, Result, Ok, Err, option_and_then}
use Rattle.serde_json.specs.Data.{Data, string, array, object, no_members, member}
use Rattle.serde_json.specs.Find.{get, as_array}
use Rattle.serde_json.specs.Written.{compact_text}
use Rattle.druid_base.specs.Json.{ReadsAs}
use Rattle.druid_time.specs.Extent.{IsExtent}
use Rattle.druid_segment_id.specs.Identifier.{IsIdentifier}
use Rattle.druid_base.specs.Each.{each_of}
use Rattle.druid_query.specs.Query.{Query}
use Rattle.druid_query.specs.Asked.{Asked, asked_at}
use Rattle.druid_query.specs.SubQuery.{SubQuery, pieces_data}
use Rattle.druid_partial.specs.Answer.{Answer}
use Rattle.druid_partial.specs.Groups.{Group}
use Rattle.druid_partial.specs.Partials.{kinds_of}
use Rattle.druid_partial_text.specs.Written.{partial_data, result_data}
use Rattle.druid_partial_text.specs.Read.{Lists, ReportsGroups}
use Rattle.druid_partial_text.specs.declared.fault.PartialFault.{PartialFault}
use Rattle.druid_partial_text.specs.declared.fault.PartialFault.TheVariants as faults

-- ---- written

abbrev pub answer_data : List Asked → List Group → Data
answer_data missing groups =
    object (member (codes "missing") (array (pieces_data missing))
    (member (codes "rows") (partial_data groups) no_members))

-- the text of an answer: its JSON, compact
abbrev pub answer_text : Answer → List ℕ
answer_text a = compact_text (answer_data a.missing a.partial.groups)

-- What a client gets where pieces are missing: these pieces, and the rows of a result without them
abbrev pub shortfall_of : List Asked → Data → Data
shortfall_of missing rows =
    object (member (codes "error") (string (codes "SegmentsMissing"))
    (member (codes "missing") (array (pieces_data missing))
    (member (codes "partial") rows no_members)))

abbrev pub shortfall_text : Query → List Asked → List Group → List ℕ
shortfall_text query missing groups = compact_text (shortfall_of missing (result_data query groups))

-- ---- read

-- the pieces that are listed as missing, of segments of the source
abbrev pub missing_at : List ℕ → Data → Option (List Asked)
missing_at source d = option_and_then (each_of (asked_at source)) (option_and_then as_array (get (codes "missing") d))

-- each of them was asked for
abbrev pub WereAsked : SubQuery → List Asked → Type 0
WereAsked sub missing = (a : Asked) → Contains missing a → Contains sub.asked a

-- a value tells these groups for the query, and lists these pieces of those that were asked for as missing
pub record ReportsAnswer (sub : SubQuery) (d : Data) (missing : List Asked) (groups : List Group) : Type 0 where
  pub missed : missing_at sub.query.source d ≡ Some missing
  pub were_asked : WereAsked sub missing
  pub rows : Data
  pub found : get (codes "rows") d ≡ Some rows
  pub reported : ReportsGroups sub.query rows groups

-- a value lists pieces as missing, and rows of the query
pub record ListsAnswer (sub : SubQuery) (d : Data) : Type 0 where
  pub missing : List Asked
  pub missed : missing_at sub.query.source d ≡ Some missing
  pub rows : Data
  pub found : get (codes "rows") d ≡ Some rows
  pub groups : List Group
  pub listed : Lists sub.query rows groups

-- what reading an answer out of JSON answers. Whether each piece was asked for, and whether a key stands twice, shows once
-- pieces and groups are in order, and to put them in order may run out of memory
abbrev pub IsAnswer : SubQuery → Data → Result Answer PartialFault → Type 0
IsAnswer sub d (Ok a) = (a.partial.kinds ≡ kinds_of sub.query) × ReportsAnswer sub d a.missing a.partial.groups
IsAnswer sub d (Err faults.Shape) = (missing : List Asked) (groups : List Group) → ReportsAnswer sub d missing groups → ⊥
IsAnswer sub d (Err faults.Memory) = ListsAnswer sub d
IsAnswer sub d (Err faults.NotJson) = ⊥

-- the same out of bytes, which may be no JSON; reading JSON may run out of memory at any byte of a text
abbrev pub IsAnswerOf : SubQuery → List ℕ → Result Answer PartialFault → Type 0
IsAnswerOf sub bytes (Err faults.NotJson) = (d : Data) → ReadsAs bytes d → ⊥
IsAnswerOf sub bytes (Err faults.Memory) = IsUtf8 bytes
IsAnswerOf sub bytes answer = (d : Data) × ReadsAs bytes d × IsAnswer sub d answer

-- each of them is a piece of a segment of the source
abbrev pub AreOfSource : List ℕ → List Asked → Type 0
AreOfSource source missing = (a : Asked) → Contains missing a → (a.0.source ≡ source) × IsIdentifier a.0 × IsExtent a.1
