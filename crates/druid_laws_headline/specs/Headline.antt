-- What a user of a broker relies on: what nodes serve in a world at the marks at which the broker stands, and the rows that are
-- visible there.
use Rattle.std.specs.Prelude.{◌≡◌, ◌<◌, ◌≤◌, ◌^◌, ◌==◌, ⊤, ℕ, Bool, true, false, if◌then◌else◌, List, [], ◌∷◌, ◌++◌, length, slice_get, Some, Ok, Contains, ◌↔◌, codes, bytes_eq}
use Rattle.std.specs.List.{AllByRecursion}
use Rattle.druid_sync_history.specs.Kept.{StandsFor, frozen_count}
use Rattle.druid_segment_descriptor.specs.Described.{Described, IsDescribed}
use Rattle.druid_segment_descriptor.specs.Mark.{Point, IsWord}
use Rattle.druid_segment_descriptor.specs.declared.change.Ask.{Ask}
use Rattle.druid_segment_descriptor.specs.declared.change.Ask.TheVariants.{Whole, Since, Page}
use Rattle.druid_segment_descriptor.specs.declared.reply.Body.{Body}
use Rattle.druid_timeline.specs.Holding.{Held, held_of}
use Rattle.druid_segment_rows.specs.Segment.{Segment}
use Rattle.druid_segment_rows.specs.Rows.{Row}
use Rattle.druid_query.specs.Query.{Query}
use Rattle.druid_query.specs.Asked.{Asked}
use Rattle.druid_query.specs.SubQuery.{IsAsked}
use Rattle.druid_query.specs.Read.{IsReadOf}
use Rattle.druid_partial.specs.Groups.{Group, IsResult}
use Rattle.druid_partial_scan.specs.Once.{HaveOwnSegments, segment_named}
use Rattle.druid_partial.specs.Partials.{kinds_of}
use Rattle.druid_partial_text.specs.Written.{result_text}
use Rattle.druid_partial_text.specs.Answers.{shortfall_text}
use Rattle.druid_link.specs.Exchanged.{Exchanged}
use Rattle.druid_link.specs.Links.{Came}
use Rattle.druid_http_message.specs.Requests.{RequestValue, path_of}
use Rattle.druid_http_wire.specs.Written.{request_text}
use Rattle.druid_node.specs.State.{State}
use Rattle.druid_broker_scatter.specs.Gathered.{Exchange, AreMade, request_for}
use Rattle.druid_broker_scatter.specs.Exact.{IsHonest, Sees, counted_visible}
use Rattle.druid_broker.specs.Routes.{query, route_of}
use Rattle.druid_broker_follow.specs.Turns.{IsAnswerTo, IsReported}
use Rattle.druid_laws_world.specs.World.{Life, eras_of, set_at}
use Rattle.druid_laws_world.specs.World as replies

-- at its mark of this list, the node serves the segment
abbrev pub ServesAt : List Life → List Point → ℕ → Described → Type 0
ServesAt world marks node d =
    (life : Life) × (mark : Point) × (set : List Described)
    × (slice_get world node ≡ Some life) × (slice_get marks node ≡ Some mark) × (set_at (eras_of life) mark ≡ Some set) × Contains set d

-- what is held of the source: all pairs of a node and a descriptor of the source that it serves
abbrev pub IsHeldAt : List Life → List Point → List ℕ → List Held → Type 0
IsHeldAt world marks source held =
    (x : Held) → Contains held x
    ↔ ((node : ℕ) × (d : Described) × ServesAt world marks node d × (d.id.source ≡ source) × (x ≡ held_of node d))

-- these are the segments of the source whose rows nodes serve, one of each identifier, however many nodes serve it: a tombstone
-- has no rows
pub record AreServedAt (world : List Life) (marks : List Point) (source : List ℕ) (segments : List Segment) : Type 0 where
  pub own : HaveOwnSegments segments
  pub each : (s : Segment) → Contains segments s
      → (node : ℕ) × (d : Described) × ServesAt world marks node d × (d.id ≡ s.descriptor.id) × (s.descriptor.id.source ≡ source)
      × (d.tombstone ≡ false)
  pub all : (node : ℕ) (d : Described) → ServesAt world marks node d → d.id.source ≡ source → d.tombstone ≡ false
      → (s : Segment) × Contains segments s × (s.descriptor.id ≡ d.id)

-- of the pieces that are asked for, those of a segment that is held are of a segment of the list: what a node holds besides does
-- not matter
abbrev pub AreAmong : List Asked → List Segment → List Segment → Type 0
AreAmong asked held segments =
    (a : Asked) (s : Segment) → Contains asked a → segment_named a.0 held ≡ Some s → segment_named a.0 segments ≡ Some s

-- ---- what a data node of ours is in a world

-- the node's incarnation and its changes are the last of this life, and the same set is frozen
pub record IsLastOf (life : Life) (state : State) : Type 0 where
  pub incarnation : life.last.incarnation ≡ state.history.incarnation
  pub changes : StandsFor state.history life.last.changes
  pub kept : life.kept ≡ state.history.limit
  pub frozen : life.frozen ≡ frozen_count state.history.frozen

-- ---- what is asked over a link

-- the changes of each incarnation are counted, and the incarnations are numbered, by words of 64 bits
abbrev pub HasWords : Life → Type 0
HasWords life = AllByRecursion (λ era. (era.incarnation < 2 ^ 64) × (length era.changes < 2 ^ 64)) (eras_of life)

-- the numbers of an ask are such as its text has
abbrev pub HasText : Ask → Type 0
HasText Whole = ⊤
HasText (Since m) = IsWord m × (1 ≤ m.incarnation)
HasText (Page m page) = IsWord m × (1 ≤ m.incarnation) × (page ≤ 65_535)

-- exchanges of these requests, one after another, lead from the one state of a link to the other
abbrev pub Leads : {L : Type 0} → (L → List ℕ → Came → L → Type 0) → List (List ℕ) → L → L → Type 0
Leads step [] old new = new ≡ old
Leads {L} step (bytes ∷ rest) old new = (came : Came) × (between : L) × step old bytes came between × Leads step rest between new

-- on the way from this state of a link to that: where a reply comes to an ask, it is honest in this life of a node
abbrev pub AnswersHonestly : {L : Type 0} → (L → List ℕ → Came → L → Type 0) → (Ask → RequestValue) → Life → L → L → Type 0
AnswersHonestly {L} step request life old new =
    (sent later : List (List ℕ)) (ask : Ask) (before after : L) (reply : Body) → Leads step sent old before → HasText ask
    → IsReported step (request ask) before after (Ok reply) → Leads step later after new → replies.IsHonest (eras_of life) reply

-- of the exchanges that a link keeps: where a reply came to an ask, it was honest in this life of a node
abbrev pub WereHonest : (Ask → RequestValue) → Life → List Exchanged → Type 0
WereHonest request life made =
    (ask : Ask) (came : Came) (reply : Body) → HasText ask → Contains made (record { request = request_text (request ask); came = came })
    → IsAnswerTo came (Ok reply) → replies.IsHonest (eras_of life) reply

-- what the link to a node keeps of these exchanges of a query, the newest first
abbrev pub kept_of : Query → ℕ → List Exchange → List Exchanged
kept_of asked node [] = []
kept_of asked node (e ∷ more) =
    kept_of asked node more ++ (if e.node == node then record { request = request_text (request_for asked e.asked); came = e.came } ∷ [] else [])

-- ---- what a broker answers

-- the request posts this query
pub record IsPosted (request : RequestValue) (asked : Query) : Type 0 where
  pub route : route_of (path_of request.target) ≡ query
  pub method : bytes_eq request.method (codes "POST") ≡ true
  pub read : IsReadOf request.body (Ok asked)

-- the answer to a query at these marks of a world. The call made these exchanges, and no others, over the links; where each of them was
-- honest over the segments that nodes serve there, the groups are the result over the rows that are visible there, asked for and in no
-- missing piece, each once. The status is 200 exactly where nothing is missing, and the body is the text of the groups then, and else
-- 503, and what is missing stands beside them
pub record IsExactAt {L : Type 0} (step : L → List ℕ → Came → L → Type 0) (world : List Life) (marks : List Point) (asked : Query) (old new : List L) (status : ℕ) (body : List ℕ) : Type 0 where
  pub exchanges : List Exchange
  pub made : AreMade step asked exchanges old new
  pub missing : List Asked
  pub groups : List Group
  pub whole : (status ≡ 200) ↔ (missing ≡ [])
  pub rows : status ≡ 200 → body ≡ result_text asked groups
  pub short : (status ≡ 200 → ⊥) → (status ≡ 503) × (body ≡ shortfall_text asked missing groups)
  -- each exchange was with a node of the list, for pieces that one request may ask for, as what nodes serve has identifiers
  pub listed : (e : Exchange) → Contains exchanges e → e.node < length marks
  pub may_be_asked : ((node : ℕ) (d : Described) → ServesAt world marks node d → IsDescribed d)
      → (e : Exchange) → Contains exchanges e → IsAsked asked.source e.asked
  pub exact : (segments : List Segment) (held : List Held) (sees : Segment → Row → Bool)
      → AreServedAt world marks asked.source segments → IsHeldAt world marks asked.source held → Sees asked held segments sees
      → ((e : Exchange) → Contains exchanges e → IsHonest asked segments e)
      → IsResult (kinds_of asked) (counted_visible asked sees missing segments) groups
