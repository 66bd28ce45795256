-- How the pages of a snapshot are asked for, page by page: only proofs use this.
use Rattle.std.specs.Prelude.{◌≡◌, ◌⊎◌, ℕ, suc, ◌+◌, List, [], ◌∷◌, ◌++◌, length, map, replicate, Option, Some, None, Ok, Err}
use Rattle.druid_segment_descriptor.specs.Described.{Described}
use Rattle.druid_segment_descriptor.specs.Mark.{Point}
use Rattle.druid_segment_descriptor.specs.declared.change.Ask.{Ask}
use Rattle.druid_segment_descriptor.specs.declared.change.Ask.TheVariants as asks
use Rattle.druid_segment_descriptor.specs.declared.reply.Body.{Body}
use Rattle.druid_segment_descriptor.specs.declared.reply.Body.TheVariants.{Delta, Snapshot, Page, Reset}
use Rattle.druid_sync_pages.specs.Assembly.{Parts}
use Rattle.druid_sync_pages.specs.Assembly as pages
use Rattle.druid_sync_text.specs.Asks.{target_at}
use Rattle.druid_inventory.specs.Assembly.{Gives, PageRefused}
use Rattle.druid_inventory.specs.declared.fault.ApplyFault.{ApplyFault}
use Rattle.druid_inventory.specs.declared.fault.ApplyFault.TheVariants as apply
use Rattle.druid_link.specs.Links.{Came}
use Rattle.druid_http_message.specs.Requests.{RequestValue}
use Rattle.druid_broker_follow.specs.Turns.{get_request, IsReported, Fetches, Exchanges, pages_from, IsPageAt}
use Rattle.druid_broker_follow.specs.declared.fault.TurnFault.{TurnFault}
use Rattle.druid_broker_follow.specs.declared.fault.TurnFault.TheVariants.{PageLost, Apply, Memory}

-- an ask at a path
abbrev pub request_at : List ℕ → Ask → RequestValue
request_at path ask = get_request (target_at path ask)

-- a page that a reply says
abbrev pub as_page : Point → ℕ → ℕ → List Described → pages.Page
as_page at page of segments = record { at = at; page = page; of = of; segments = segments }

-- what a reply says of a page: its mark, its number, and of how many it is
abbrev pub place_of : Body → Option (Point × ℕ × ℕ)
place_of (Delta from to changes) = None
place_of (Snapshot at segments) = None
place_of (Page at page of segments) = Some (at, page, of)
place_of (Reset cause at) = None

-- the segments of a page
abbrev pub segments_of : Body → List Described
segments_of (Page at page of segments) = segments
segments_of reply = []

-- what is reported of a page that is refused
abbrev pub turn_fault : ApplyFault → TurnFault
turn_fault apply.Memory = Memory
turn_fault fault = Apply fault

-- the reply to the ask for a page is that page
abbrev pub GetsPage : {L : Type 0} → (L → List ℕ → Came → L → Type 0) → (Ask → RequestValue) → Point → ℕ → L → L → Body → Type 0
GetsPage step request at page old new reply = IsReported step (request (asks.Page at page)) old new (Ok reply) × IsPageAt at page reply

-- or none comes, or another reply
abbrev pub LosesPage : {L : Type 0} → (L → List ℕ → Came → L → Type 0) → (Ask → RequestValue) → Point → ℕ → L → L → TurnFault → Type 0
LosesPage step request at page old new fault =
    Fetches step (request (asks.Page at page)) old new (Err fault)
    ⊎ ((reply : Body) × IsReported step (request (asks.Page at page)) old new (Ok reply) × (fault ≡ PageLost) × (IsPageAt at page reply → ⊥))

-- the page that is asked for comes, and this is given for it
abbrev pub PutsPage : {L : Type 0} → (L → List ℕ → Came → L → Type 0) → (Ask → RequestValue) → Point → ℕ → Option Parts → Option Parts → L → L → Option Body → Type 0
PutsPage step request at page parts after old new given =
    (of : ℕ) × (segments : List Described) × IsReported step (request (asks.Page at page)) old new (Ok (Page at page of segments))
    × Gives parts (as_page at page of segments) given after

-- or it is refused
abbrev pub RefusesPut : {L : Type 0} → (L → List ℕ → Came → L → Type 0) → (Ask → RequestValue) → Point → ℕ → Option Parts → L → L → TurnFault → Type 0
RefusesPut step request at page parts old new fault =
    (of : ℕ) × (segments : List Described) × (refusal : ApplyFault) × IsReported step (request (asks.Page at page)) old new (Ok (Page at page of segments))
    × PageRefused parts (as_page at page of segments) refusal × (fault ≡ turn_fault refusal)

-- the first pages have come, and so many more have not
abbrev pub first_pages : Point → List (List Described) → ℕ → Parts
first_pages at come left = record { at = at; pages = map Some come ++ replicate left None }

-- the pages before that one have come, and it has not
pub record HaveCome {L : Type 0} (step : L → List ℕ → Came → L → Type 0) (request : Ask → RequestValue) (at : Point) (of : ℕ) (first : List Described) (page : ℕ) (assembly : Option Parts) (old new : L) : Type 0 where
  pub come : List (List Described)
  pub left : ℕ
  pub count : 1 + length come ≡ page
  pub lacking : page + suc left ≡ of
  pub parts : assembly ≡ Some (first_pages at (first ∷ come) (suc left))
  pub asked : Exchanges step (pages_from request at of 1 come) old new
