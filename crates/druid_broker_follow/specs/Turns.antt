-- How a broker follows a node, and how it is seeded by another broker.
use Rattle.std.specs.Prelude.{◌≡◌, ◌≢◌, ◌⊎◌, ℕ, ◌+◌, ◌<◌, ◌++◌, ◌∷◌, List, [], length, map, codes, decimal, slice_get, slice_set, Some, Result, Ok, Err, ⊤, zero, suc}
use mathlib.Core.List.{IsPrefix}
use Rattle.druid_segment_descriptor.specs.Described.{Described}
use Rattle.druid_segment_descriptor.specs.Mark.{Point}
use Rattle.druid_segment_descriptor.specs.Reply.{AreSorted}
use Rattle.druid_segment_descriptor.specs.declared.change.Ask.{Ask}
use Rattle.druid_segment_descriptor.specs.declared.change.Ask.TheVariants.{Whole, Since}
use Rattle.druid_segment_descriptor.specs.declared.change.Ask.TheVariants as asks
use Rattle.druid_segment_descriptor.specs.declared.reply.Body.{Body}
use Rattle.druid_segment_descriptor.specs.declared.reply.Body.TheVariants.{Snapshot, Page, Reset}
use Rattle.druid_sync_text.specs.Asks.{target_at, ask_text}
use Rattle.druid_sync_text.specs.Read.{IsReadOf}
use Rattle.druid_sync_text.specs.declared.fault.SyncFault.TheVariants as sync
use Rattle.druid_sync_pages.specs.Assembly.{whole_of}
use Rattle.druid_inventory.specs.Entry.{Entry, ask_of}
use Rattle.druid_inventory.specs.Step.{StepsAt, RefusedAt}
use Rattle.druid_inventory.specs.declared.fault.ApplyFault.TheVariants.{PageConflict}
use Rattle.druid_inventory.specs.declared.fault.Outcome.{Outcome}
use Rattle.druid_inventory_views.specs.Fold.{Published, PublisherValue, fold_of}
use Rattle.druid_link.specs.Links.{Came}
use Rattle.druid_http_message.specs.Requests.{RequestValue}
use Rattle.druid_http_wire.specs.Messages.{IsResponse, ResponseSays, HasFault, IsOfBytes}
use Rattle.druid_http_wire.specs.Written.{request_text}
use Rattle.druid_http_message.specs.declared.fault.WireFault.{WireFault}
use Rattle.druid_http_message.specs.declared.fault.WireFault.TheVariants as wire
use Rattle.druid_broker_follow.specs.declared.fault.TurnFault.{TurnFault}
use Rattle.druid_broker_follow.specs.declared.fault.TurnFault.TheVariants.{Wire, Status, Reply, PageLost, Apply, NoReading, Memory}
use Rattle.druid_broker_follow.specs.declared.turn_count.TurnCount.{TurnCount}

-- ---- requests

abbrev pub get_request : List ℕ → RequestValue
get_request target = record { method = codes "GET"; target = target; body = [] }

-- asks a node for its changes, or for a page
abbrev pub ask_request : Ask → RequestValue
ask_request ask = get_request (ask_text ask)

-- where a peer tells what it knows of a node
abbrev pub entry_target : ℕ → List ℕ
entry_target node = codes "/druid-internal/v1/inventory/" ++ decimal node

-- asks a peer for what it knows of a node
abbrev pub entry_request : ℕ → Ask → RequestValue
entry_request node ask = get_request (target_at (entry_target node) ask)

-- ---- one exchange

-- the bytes are a response of that status, and its body
abbrev pub Responds : List ℕ → ℕ → List ℕ → Type 0
Responds bytes status body = (rest : List ℕ) × IsResponse bytes status body rest

-- the bytes are no response, and that is reported: by a fault of the bytes, since no device and no memory has a part in it
abbrev pub IsNoResponse : List ℕ → WireFault → Type 0
IsNoResponse bytes fault =
    HasFault ResponseSays bytes fault × IsOfBytes fault × ((status : ℕ) (body rest : List ℕ) → IsResponse bytes status body rest → ⊥)

-- what came back is a reply, or why it is none: the link failed or the bytes are no response, the status is another, or the
-- body does not read. Memory is wanted by the link, or to read a body in UTF-8
abbrev pub IsAnswerTo : Came → Result Body TurnFault → Type 0
IsAnswerTo came (Ok reply) = (bytes body : List ℕ) × (came ≡ Ok bytes) × Responds bytes 200 body × IsReadOf body (Ok reply)
IsAnswerTo came (Err (Wire fault)) =
    ((came ≡ Err fault) × (fault ≢ wire.Memory)) ⊎ ((bytes : List ℕ) × (came ≡ Ok bytes) × IsNoResponse bytes fault)
IsAnswerTo came (Err (Status status)) = (bytes body : List ℕ) × (came ≡ Ok bytes) × Responds bytes status body × (status ≢ 200)
IsAnswerTo came (Err (Reply fault)) =
    (bytes body : List ℕ) × (came ≡ Ok bytes) × Responds bytes 200 body × IsReadOf body (Err fault) × (fault ≢ sync.Memory)
IsAnswerTo came (Err PageLost) = ⊥
IsAnswerTo came (Err (Apply fault)) = ⊥
IsAnswerTo came (Err NoReading) = ⊥
IsAnswerTo came (Err Memory) =
    (came ≡ Err wire.Memory)
    ⊎ ((bytes body : List ℕ) × (came ≡ Ok bytes) × Responds bytes 200 body × IsReadOf body (Err sync.Memory))

-- one exchange leads the link from old to new, and is reported
pub record IsReported {L : Type 0} (step : L → List ℕ → Came → L → Type 0) (request : RequestValue) (old new : L) (answer : Result Body TurnFault) : Type 0 where
  pub came : Came
  pub made : step old (request_text request) came new
  pub reported : IsAnswerTo came answer

-- the same, unless memory was refused for the request, and nothing was sent
abbrev pub Fetches : {L : Type 0} → (L → List ℕ → Came → L → Type 0) → RequestValue → L → L → Result Body TurnFault → Type 0
Fetches step request old new answer = IsReported step request old new answer ⊎ ((answer ≡ Err Memory) × (new ≡ old))

-- exchanges one after another, each of which gives that reply to that request
abbrev pub Exchanges : {L : Type 0} → (L → List ℕ → Came → L → Type 0) → List (RequestValue × Body) → L → L → Type 0
Exchanges step [] old new = new ≡ old
Exchanges {L} step (sent ∷ rest) old new = (between : L) × IsReported step sent.0 old between (Ok sent.1) × Exchanges step rest between new

-- ---- pages

-- the pages of a snapshot from that number on: each is asked for at its mark, and comes
abbrev pub pages_from : (Ask → RequestValue) → Point → ℕ → ℕ → List (List Described) → List (RequestValue × Body)
pages_from request at of page [] = []
pages_from request at of page (segments ∷ rest) = (request (asks.Page at page), Page at page of segments) ∷ pages_from request at of (suc page) rest

-- all pages came, and rise from one to the next: these are their segments
pub record IsWholeOf (of : ℕ) (first : List Described) (rest : List (List Described)) (set : List Described) : Type 0 where
  pub all : length rest + 1 ≡ of
  pub whole : whole_of (map Some (first ∷ rest)) ≡ Some set
  pub sorted : AreSorted set

-- a reply is that page of the snapshot at that mark
abbrev pub IsPageAt : Point → ℕ → Body → Type 0
IsPageAt at page reply = (of : ℕ) × (segments : List Described) × (reply ≡ Page at page of segments)

-- it is of another number of pages than the first, or completes pages that do not rise from one to the next
abbrev pub DiffersFrom : Point → ℕ → List Described → List (List Described) → Body → Type 0
DiffersFrom at of first come reply =
    (other : ℕ) × (segments : List Described) × (reply ≡ Page at (1 + length come) other segments)
    × ((other ≢ of)
    ⊎ ((2 + length come ≡ of) × (set : List Described) × (whole_of (map Some (first ∷ come ++ segments ∷ [])) ≡ Some set) × (AreSorted set → ⊥)))

-- why a reply to the ask for the page after these is not taken: it is not that page, or tells of another snapshot; memory is wanted
-- only to take that page where it does not
abbrev pub RefusesPage : Point → ℕ → List Described → List (List Described) → Body → TurnFault → Type 0
RefusesPage at of first come reply PageLost = IsPageAt at (1 + length come) reply → ⊥
RefusesPage at of first come reply (Apply PageConflict) = DiffersFrom at of first come reply
RefusesPage at of first come reply Memory = IsPageAt at (1 + length come) reply × (DiffersFrom at of first come reply → ⊥)
RefusesPage at of first come reply fault = ⊥

-- what is answered once page 0 came: the snapshot that the others complete; or some of them came, and the next does not come or is not
-- taken
abbrev pub Completes : {L : Type 0} → (L → List ℕ → Came → L → Type 0) → (Ask → RequestValue) → Point → ℕ → List Described → L → L → Result Body TurnFault → Type 0
Completes step request at of first old new (Ok reply) =
    (rest : List (List Described)) × (set : List Described) × IsWholeOf of first rest set
    × Exchanges step (pages_from request at of 1 rest) old new × (reply ≡ Snapshot at set)
Completes {L} step request at of first old new (Err fault) =
    (come : List (List Described)) × (between : L) × (1 + length come < of) × Exchanges step (pages_from request at of 1 come) old between
    × (Fetches step (request (asks.Page at (1 + length come))) between new (Err fault)
    ⊎ ((reply : Body) × IsReported step (request (asks.Page at (1 + length come))) between new (Ok reply) × RefusesPage at of first come reply fault))

-- what the reply to an ask for all, or for changes, leads to: page 0 is followed by the others, and another page was not asked for
abbrev pub FollowsPages : {L : Type 0} → (L → List ℕ → Came → L → Type 0) → (Ask → RequestValue) → Body → L → L → Result Body TurnFault → Type 0
FollowsPages step request (Page at zero of segments) old new answer = Completes step request at of segments old new answer
FollowsPages step request (Page at (suc page) of segments) old new answer = (answer ≡ Err PageLost) × (new ≡ old)
FollowsPages step request first old new answer = (answer ≡ Ok first) × (new ≡ old)

-- an ask and what it leads to
abbrev pub IsAsked : {L : Type 0} → (L → List ℕ → Came → L → Type 0) → (Ask → RequestValue) → Ask → L → L → Result Body TurnFault → Type 0
IsAsked {L} step request ask old new answer =
    ((fault : TurnFault) × (answer ≡ Err fault) × Fetches step (request ask) old new (Err fault))
    ⊎ ((between : L) × (first : Body) × IsReported step (request ask) old between (Ok first) × FollowsPages step request first between new answer)

-- ---- a node's changes

-- a reset that answers an ask for what comes after a mark: then all is asked for
abbrev pub StartsAgain : Ask → Result Body TurnFault → Type 0
StartsAgain (Since m) (Ok (Reset cause at)) = ⊤
StartsAgain ask answer = ⊥

-- an ask and what it leads to; where the reply has to start again, all is asked for, once
abbrev pub IsFetched : {L : Type 0} → (L → List ℕ → Came → L → Type 0) → Ask → L → L → Result Body TurnFault → Type 0
IsFetched {L} step ask old new answer =
    ((fault : TurnFault) × (answer ≡ Err fault) × Fetches step (ask_request ask) old new (Err fault))
    ⊎ ((between : L) × (first : Body) × IsReported step (ask_request ask) old between (Ok first)
    × (StartsAgain ask (Ok first) → ⊥) × FollowsPages step ask_request first between new answer)
    ⊎ ((between : L) × (first : Body) × IsReported step (ask_request ask) old between (Ok first)
    × StartsAgain ask (Ok first) × IsAsked step ask_request Whole between new answer)

-- the node is asked for what comes after its mark in the inventory
abbrev pub IsFetchedFrom : {L : Type 0} → (L → List ℕ → Came → L → Type 0) → List Entry → ℕ → L → L → Result Body TurnFault → Type 0
IsFetchedFrom step inventory node old new answer =
    (e : Entry) × (slice_get inventory node ≡ Some e) × IsFetched step (ask_of e.mark) old new answer

-- ---- turns

-- the reply of a node is published: it stands at the end of the list, and the inventory makes its step
abbrev pub Publishes : PublisherValue → ℕ → Body → Outcome → PublisherValue → Type 0
Publishes old node reply outcome new =
    (entry : Entry) × StepsAt old.inventory node reply outcome entry
    × (new.published ≡ old.published ++ (node, reply) ∷ []) × (new.inventory ≡ slice_set old.inventory node entry)

-- the reply that was fetched is published
abbrev pub TakesTurn : (Result Body TurnFault → Type 0) → PublisherValue → ℕ → Outcome → PublisherValue → Type 0
TakesTurn Fetched old node outcome new = (reply : Body) × Fetched (Ok reply) × Publishes old node reply outcome new

-- what was fetched is no reply, or one that is not applied; a fault of applying comes of either, as of pages that differ, and so
-- does out of memory
abbrev pub FailsTurn : (Result Body TurnFault → Type 0) → List Entry → ℕ → TurnFault → Type 0
FailsTurn Fetched inventory node (Apply fault) =
    Fetched (Err (Apply fault)) ⊎ ((reply : Body) × Fetched (Ok reply) × RefusedAt inventory node reply fault)
FailsTurn Fetched inventory node Memory =
    Fetched (Err Memory) ⊎ ((reply : Body) × (outcome : Outcome) × (entry : Entry) × Fetched (Ok reply) × StepsAt inventory node reply outcome entry)
FailsTurn Fetched inventory node fault = Fetched (Err fault)

-- ---- a turn of one of the threads that share a publisher

-- a view read a list, by which a reply was fetched; the reply was published after a list that another thread may have made longer;
-- and then the view has seen both lists
pub record TakesSharedTurn {L : Type 0} (step : L → List ℕ → Came → L → Type 0) (opening : List Entry) (node : ℕ) (old new : Published) (link after : L) (outcome : Outcome) : Type 0 where
  pub read : Published
  pub goes_on : IsPrefix old read
  pub reply : Body
  pub fetched : IsFetchedFrom step (fold_of opening read) node link after (Ok reply)
  pub before : Published
  pub entry : Entry
  pub steps : StepsAt (fold_of opening before) node reply outcome entry
  pub has_read : IsPrefix read new
  pub has_reply : IsPrefix (before ++ (node, reply) ∷ []) new
  pub one : (new ≡ read) ⊎ (new ≡ before ++ (node, reply) ∷ [])

-- why a view has no reading: it was given none, or memory ran out
abbrev pub IsUnread : TurnFault → Type 0
IsUnread fault = (fault ≡ NoReading) ⊎ (fault ≡ Memory)

-- the turn fails by a list that the view read, with an inventory that another list made, and then the view has seen both lists
pub record FailsBy {L : Type 0} (step : L → List ℕ → Came → L → Type 0) (opening : List Entry) (node : ℕ) (old new : Published) (link after : L) (fault : TurnFault) : Type 0 where
  pub read : Published
  pub goes_on : IsPrefix old read
  pub before : Published
  pub fails : FailsTurn (IsFetchedFrom step (fold_of opening read) node link after) (fold_of opening before) node fault
  pub has_read : IsPrefix read new
  pub has_before : IsPrefix before new
  pub one : (new ≡ read) ⊎ (new ≡ before)

-- nothing was read, and no link is used; or the turn fails by what was read
abbrev pub FailsSharedTurn : {L : Type 0} → (L → List ℕ → Came → L → Type 0) → List Entry → ℕ → Published → Published → L → L → TurnFault → Type 0
FailsSharedTurn step opening node old new link after fault =
    (IsUnread fault × (new ≡ old) × (after ≡ link)) ⊎ FailsBy step opening node old new link after fault

-- what a turn gives
abbrev pub Turn : Type 0
Turn = Result Outcome TurnFault

abbrev pub IsSharedTurn : {L : Type 0} → (L → List ℕ → Came → L → Type 0) → List Entry → ℕ → Published → Published → L → L → Turn → Type 0
IsSharedTurn step opening node old new link after (Ok outcome) = TakesSharedTurn step opening node old new link after outcome
IsSharedTurn step opening node old new link after (Err fault) = FailsSharedTurn step opening node old new link after fault

-- turns, one after another, each as it ends; these are what they gave, the last first
abbrev pub MakesTurns : {L : Type 0} → (L → List ℕ → Came → L → Type 0) → List Entry → ℕ → List Turn → Published → Published → L → L → Type 0
MakesTurns step opening node [] old new link after = (new ≡ old) × (after ≡ link)
MakesTurns {L} step opening node (turn ∷ earlier) old new link after =
    (seen : Published) × (between : L)
    × MakesTurns step opening node earlier old seen link between × IsSharedTurn step opening node seen new between after turn

-- one more, where a turn failed
abbrev pub failures_after : Turn → ℕ → ℕ
failures_after (Ok outcome) failed = failed
failures_after (Err fault) failed = failed + 1

abbrev pub failures : List Turn → ℕ
failures [] = 0
failures (turn ∷ earlier) = failures_after turn (failures earlier)

-- how many turns were made, and how many of them failed
abbrev pub count_of : List Turn → TurnCount
count_of turns = record { made = length turns; failed = failures turns }
