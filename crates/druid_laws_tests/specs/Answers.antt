-- What a broker that followed two data nodes answers to a query: the headline's answer, with no premise on what was exchanged.
use Rattle.std.specs.Prelude.{◌≡◌, ◌⊎◌, ◌↔◌, ℕ, Bool, List, [], ◌∷◌, Some}
use Rattle.druid_segment_id.specs.Identifier.{Identifier}
use Rattle.druid_timeline.specs.Holding.{Held}
use Rattle.druid_segment_rows.specs.Rows.{Row}
use Rattle.druid_segment_rows.specs.Segment.{Segment}
use Rattle.druid_query.specs.Query.{Query}
use Rattle.druid_query.specs.Asked.{Asked}
use Rattle.druid_partial.specs.Groups.{Group, IsResult}
use Rattle.druid_partial_scan.specs.Once.{segment_named}
use Rattle.druid_partial.specs.Partials.{kinds_of}
use Rattle.druid_partial_text.specs.Written.{result_text}
use Rattle.druid_partial_text.specs.Answers.{shortfall_text}
use Rattle.druid_http_message.specs.Requests.{RequestValue}
use Rattle.druid_http_wire.specs.Messages.{IsRequest}
use Rattle.druid_http_wire.specs.Written.{answer_text}
use Rattle.druid_node.specs.State.{State}
use Rattle.druid_broker_scatter.specs.Exact.{Sees, counted_visible}
use Rattle.druid_broker.specs.Views.{AnswersUnread}
use Rattle.druid_laws_world.specs.World.{Life, IsLife}
use Rattle.druid_laws_headline.specs.Headline.{AreServedAt, IsHeldAt, IsLastOf, IsPosted}
use Rattle.druid_laws_tests.specs.Nodes.{mark_of}

-- what the node holds of the source stands in the list
abbrev pub HoldsAmong : State → List ℕ → List Segment → Type 0
HoldsAmong state source segments =
    (id : Identifier) (s : Segment) → id.source ≡ source → segment_named id state.held ≡ Some s → segment_named id segments ≡ Some s

-- the groups are the result over the rows that are visible at the marks of both nodes, asked for and in no missing piece, each once
pub record IsExactOver (world : List Life) (left right : State) (asked : Query) (status : ℕ) (body : List ℕ) : Type 0 where
  pub missing : List Asked
  pub groups : List Group
  pub whole : (status ≡ 200) ↔ (missing ≡ [])
  pub rows : status ≡ 200 → body ≡ result_text asked groups
  pub short : (status ≡ 200 → ⊥) → (status ≡ 503) × (body ≡ shortfall_text asked missing groups)
  pub exact : (segments : List Segment) (held : List Held) (sees : Segment → Row → Bool)
      → AreServedAt world (mark_of left ∷ mark_of right ∷ []) asked.source segments
      → IsHeldAt world (mark_of left ∷ mark_of right ∷ []) asked.source held → Sees asked held segments sees
      → HoldsAmong left asked.source segments → HoldsAmong right asked.source segments
      → IsResult (kinds_of asked) (counted_visible asked sees missing segments) groups

-- what was written answers the query that these bytes post, whatever lives the two nodes had
abbrev pub AnswersExactly : State → State → List ℕ → List ℕ → Type 0
AnswersExactly left right bytes written =
    (first second : Life) (request : RequestValue) (rest : List ℕ) (asked : Query)
    → IsLife first → IsLife second → IsLastOf first left → IsLastOf second right → IsRequest bytes request rest → IsPosted request asked
    → (status : ℕ) × (body : List ℕ) × (written ≡ answer_text status body)
    × (IsExactOver (first ∷ second ∷ []) left right asked status body ⊎ AnswersUnread status body)
