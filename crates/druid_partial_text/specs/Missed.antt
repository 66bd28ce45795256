-- The pieces that are listed as missing, as the reader answers them: only proofs use this.
use Rattle.std.specs.Prelude.{◌≡◌, List, Some, IsSome, codes, option_and_then}
use Rattle.serde_json.specs.Data.{Data, Items, array}
use Rattle.serde_json.specs.Find.{get, as_array}
use Rattle.druid_segment_id.specs.Identifier.{IsIdentifier}
use Rattle.druid_base.specs.Each.{each_of}
use Rattle.druid_query.specs.Asked.{Asked, asked_at}
use Rattle.druid_query.specs.SubQuery.{SubQuery}
use Rattle.druid_partial.specs.Groups.{Group}
use Rattle.druid_partial_text.specs.Read.{ReportsGroups}
use Rattle.druid_partial_text.specs.Borrowed.{AreRows}
use Rattle.druid_partial_text.specs.Answers.{WereAsked}

-- each item reads as one of these pieces, all of which were asked for
abbrev pub AreMissed : SubQuery → Items → List Asked → Type 0
AreMissed sub ds missing = (each_of (asked_at sub.query.source) ds ≡ Some missing) × WereAsked sub missing

-- the lists of an answer, whose members read
pub record AreLists (sub : SubQuery) (d : Data) (missing rows : Items) : Type 0 where
  pub missed : option_and_then as_array (get (codes "missing") d) ≡ Some missing
  pub pieces : IsSome (each_of (asked_at sub.query.source) missing)
  pub found : get (codes "rows") d ≡ Some (array rows)
  pub each : AreRows sub.query rows

-- these lists tell these pieces, all of which were asked for, and these groups
abbrev pub BothReport : SubQuery → Items → Items → List Asked → List Group → Type 0
BothReport sub missing rows pieces groups = AreMissed sub missing pieces × ReportsGroups sub.query (array rows) groups

-- the segment of a piece has an identifier
pub record IsOfSegment (a : Asked) : Type 0 where
  pub identified : IsIdentifier a.0
