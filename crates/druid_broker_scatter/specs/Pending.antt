-- Pieces that no answer gave yet, and what a round asks for: only proofs use this.
use Rattle.std.specs.Prelude.{◌≡◌, ◌==◌, ◌+◌, ◌<◌, ◌≤◌, ◌⊎◌, ◌↔◌, ℕ, Bool, true, false, cond, IsTrue, List, [], ◌∷◌, ◌++◌, length, map, filter, slice_get, Option, Some, None, Ok, Err, Result, Contains, Any, IfSome}
use Rattle.std.specs.declared.cmp.Ordering.{Ordering}
use Rattle.std.specs.Ordering.{nat_cmp, ordering_then}
use Rattle.std.specs.List.Sorted.{IsPermutation, IsStrictlyIncreasing, IsStrictlySortedBy}
use Rattle.druid_query.specs.Asked.{Asked}
use Rattle.druid_query.specs.Query.{Query}
use Rattle.druid_base.specs.Json.{ReadsAs}
use Rattle.druid_query.specs.SubQuery.{SubQuery}
use Rattle.druid_partial_text.specs.Answers.{ReportsAnswer, IsAnswerOf}
use Rattle.druid_partial_text.specs.declared.fault.PartialFault.TheVariants as faults
use Rattle.druid_partial.specs.Groups.{Group, IsResult}
use Rattle.druid_partial.specs.Partials.{Partial, IsPartialFor, kinds_of}
use Rattle.druid_link.specs.Links.{Came}
use Rattle.druid_http_message.specs.declared.fault.WireFault.TheVariants as wire
use Rattle.druid_http_wire.specs.Messages.{IsResponse}
use Rattle.druid_http_wire.specs.Written.{request_text}
use Rattle.serde_json.specs.Data.{Data}
use Rattle.druid_broker_scatter.specs.Plan.{Pair, place_cmp}
use Rattle.druid_broker_scatter.specs.Gathered.{Exchange, AtOnePlace, Asks, Answers, IsLost, Gives, Leads, AllReport, AreAsked, request_for}

-- a piece, and the order in which its replicas are asked
pub record PendingSlice : Type 0 where
  pub asked : Asked
  pub order : List ℕ

abbrev pub pieces_of : List PendingSlice → List Asked
pieces_of waits = map (λ w. w.asked) waits

abbrev pub is_node : Option ℕ → ℕ → Bool
is_node None node = false
is_node (Some n) node = n == node

-- the round asks the node for it
abbrev pub has_turn : ℕ → ℕ → PendingSlice → Bool
has_turn round node w = is_node (slice_get w.order round) node

-- what a round asks a node for
abbrev pub wanted_of : ℕ → List PendingSlice → ℕ → List Asked
wanted_of round left node = pieces_of (filter (has_turn round node) left)

-- what a node is asked for
abbrev pub Ask : Type 0
Ask = ℕ × List Asked

abbrev pub ask_of : Exchange → Ask
ask_of e = (e.node, e.asked)

-- what a link gets for a subquery
abbrev pub sub_request : SubQuery → List ℕ
sub_request sub = request_text (request_for sub.query sub.asked)

-- an exchange with a node
abbrev pub exchange_of : SubQuery → Came → ℕ → Exchange
exchange_of sub came node = record { node = node; asked = sub.asked; came = came }

-- the bytes are a response of status 200, whose body tells these groups, and lists these pieces as missing
pub record Reports (sub : SubQuery) (bytes : List ℕ) (missing : List Asked) (groups : List Group) : Type 0 where
  pub body : List ℕ
  pub rest : List ℕ
  pub response : IsResponse bytes 200 body rest
  pub json : Data
  pub reads : ReadsAs body json
  pub reported : ReportsAnswer sub json missing groups

-- reading them may lack memory: they are a response of status 200, whose body is read
abbrev pub ReadingLacksMemory : SubQuery → List ℕ → Type 0
ReadingLacksMemory sub bytes = (body rest : List ℕ) × IsResponse bytes 200 body rest × IsAnswerOf sub body (Err faults.Memory)

-- memory was refused: to the link, or to the one who reads what came
abbrev pub LacksMemory : SubQuery → Came → Type 0
LacksMemory sub came = (came ≡ Err wire.Memory) ⊎ ((bytes : List ℕ) × (came ≡ Ok bytes) × ReadingLacksMemory sub bytes)

-- memory may have run out: the link lacked it, or a response of status 200 came
abbrev pub MayLackMemory : Came → Type 0
MayLackMemory came = (came ≡ Err wire.Memory) ⊎ ((bytes body rest : List ℕ) × (came ≡ Ok bytes) × IsResponse bytes 200 body rest)

-- they tell no groups
abbrev pub ReportsNothing : SubQuery → List ℕ → Type 0
ReportsNothing sub bytes = (missing : List Asked) (groups : List Group) → Reports sub bytes missing groups → ⊥

-- a node stands once in the order
abbrev pub StandsOnce : List ℕ → Type 0
StandsOnce order = (i j n : ℕ) → slice_get order i ≡ Some n → slice_get order j ≡ Some n → i ≡ j

-- a piece of the pairs, with its nodes in their order
pub record IsOrdered (order : List ℕ → List ℕ) (pairs : List Pair) (w : PendingSlice) : Type 0 where
  pub pair : Pair
  pub in_plan : Contains pairs pair
  pub of : pair.asked ≡ w.asked
  pub ordered : w.order ≡ order pair.nodes
  pub moved : IsPermutation pair.nodes w.order
  pub once : StandsOnce w.order

-- the pieces of a plan, each with its nodes in their order
pub record AreOrdered (order : List ℕ → List ℕ) (pairs : List Pair) (waits : List PendingSlice) : Type 0 where
  pub whole : pieces_of waits ≡ map (λ p. p.asked) pairs
  pub sorted : IsStrictlySortedBy place_cmp (pieces_of waits)
  pub each : (w : PendingSlice) → Contains waits w → IsOrdered order pairs w
  pub own : (v w : PendingSlice) → Contains waits v → Contains waits w → v.asked ≡ w.asked → v ≡ w

-- the exchange asks for the piece, of the node that stands there in its order
abbrev pub AsksAt : Exchange → PendingSlice → ℕ → Type 0
AsksAt e w round = Contains e.asked w.asked × (slice_get w.order round ≡ Some e.node)

-- of each node the pieces that a round wants of it: of rising nodes, each of which is asked for something, and of all
pub record IsRound (round : ℕ) (left : List PendingSlice) (asks : List Ask) : Type 0 where
  pub rising : IsStrictlyIncreasing (map (λ ask. ask.0) asks)
  pub each : (ask : Ask) → Contains asks ask → (ask.1 ≡ wanted_of round left ask.0) × (a : Asked) × Contains ask.1 a
  pub all : (w : PendingSlice) (node : ℕ) → Contains left w → slice_get w.order round ≡ Some node → Contains (map (λ ask. ask.0) asks) node

-- each node in an order has its link
abbrev pub AreBelow : ℕ → List PendingSlice → Type 0
AreBelow count waits = (w : PendingSlice) (node : ℕ) → Contains waits w → Contains w.order node → node < count

-- what was asked before a round
pub record AreAskedBefore (query : Query) (waits : List PendingSlice) (round : ℕ) (exchanges : List Exchange) : Type 0 where
  pub planned : (e : Exchange) (a : Asked) → Contains exchanges e → Contains e.asked a
      → (w : PendingSlice) × (r : ℕ) × Contains waits w × (w.asked ≡ a) × (slice_get w.order r ≡ Some e.node) × (r < round)
  pub asks : (e : Exchange) → Contains exchanges e → (a : Asked) × Contains e.asked a
  pub in_order : (e : Exchange) → Contains exchanges e → IsStrictlySortedBy place_cmp e.asked
  pub asked_once : (a : Asked) (n : ℕ) → AtOnePlace exchanges (λ x y. Asks x a n × Asks y a n)
  pub by_round : (i j : ℕ) (x y : Exchange) (v w : PendingSlice) (r s : ℕ) → i < j → slice_get exchanges i ≡ Some x → slice_get exchanges j ≡ Some y
      → Contains waits v → Contains waits w → AsksAt x v r → AsksAt y w s → (r < s) ⊎ ((r ≡ s) × (x.node < y.node))
  pub in_turn : (i : ℕ) (e : Exchange) (w : PendingSlice) (r s n : ℕ) → slice_get exchanges i ≡ Some e → Contains waits w → AsksAt e w r → s < r → slice_get w.order s ≡ Some n
      → (j : ℕ) × (d : Exchange) × (j < i) × (slice_get exchanges j ≡ Some d) × Asks d w.asked n × (Gives query d w.asked → ⊥)

-- and what is still open then
pub record Holds (query : Query) (waits left : List PendingSlice) (round : ℕ) (exchanges : List Exchange) : Type 0 where
  pub asked : AreAskedBefore query waits round exchanges
  pub left_are : (w : PendingSlice) → Contains left w ↔ (Contains waits w × ((e : Exchange) → Contains exchanges e → Gives query e w.asked → ⊥))
  pub ordered : IsStrictlySortedBy place_cmp (pieces_of left)
  pub done : (w : PendingSlice) (r n : ℕ) → Contains left w → slice_get w.order r ≡ Some n → r < round
      → (e : Exchange) × Contains exchanges e × Asks e w.asked n
  pub given_once : (a : Asked) → AtOnePlace exchanges (λ x y. Gives query x a × Gives query y a)

-- what waits, and what was answered so far
pub record State : Type 0 where
  pub waiting : List PendingSlice
  pub partial : Partial

-- where a piece stands in a plan, which has one piece there
abbrev pub place_of : Asked → ℕ × ℕ
place_of a = (a.1.start, a.0.partition)

abbrev pub at_cmp : ℕ × ℕ → ℕ × ℕ → Ordering
at_cmp p q = ordering_then (nat_cmp p.0 q.0) (nat_cmp p.1 q.1)

-- one of the pieces stands there
abbrev pub StandsIn : List Asked → ℕ × ℕ → Type 0
StandsIn asked p = (a : Asked) × Contains asked a × (place_of a ≡ p)

-- whether a piece at a place is among those that an answer misses
abbrev pub Found : Type 0
Found = ℕ × ℕ → Bool

-- it tells where these pieces stand
abbrev pub ReportsPlaces : Found → List Asked → Type 0
ReportsPlaces found asked = (p : ℕ × ℕ) → IsTrue (found p) ↔ StandsIn asked p

-- with which node, and where the pieces stand that its answer misses, where it gave one
abbrev pub Missed : Type 0
Missed = ℕ × Option Found

-- the same of a node among several
abbrev pub missed_of : List Missed → ℕ → Option Found
missed_of [] node = None
missed_of (m ∷ missed) node = cond (m.0 == node) m.1 (missed_of missed node)

-- a piece waits on, of a node that did not answer, or whose answer misses it
abbrev pub is_missed : Option Found → ℕ × ℕ → Bool
is_missed None place = true
is_missed (Some found) place = found place

-- the same by what a round's answers miss; of no node too
abbrev pub stays_at : Option ℕ → List Missed → ℕ × ℕ → Bool
stays_at None missed place = true
stays_at (Some node) missed place = is_missed (missed_of missed node) place

abbrev pub stays : ℕ → List Missed → PendingSlice → Bool
stays round missed w = stays_at (slice_get w.order round) missed (place_of w.asked)

-- ---- what was read of what came, whoever read it and whenever

-- an exchange: it is lost, or it is an answer that tells these rows, and misses what stands at these places
abbrev pub IsRead : Query → Exchange → Option Found → List Group → Type 0
IsRead query e None rows = IsLost query e × (rows ≡ [])
IsRead query e (Some found) rows = (missing : List Asked) × Answers query e missing rows × ReportsPlaces found missing

-- exchanges, one after another
abbrev pub AreRead : Query → List Exchange → List Missed → List Group → Type 0
AreRead query [] [] rows = rows ≡ []
AreRead query (e ∷ made) (m ∷ missed) rows =
    (one back : List Group) × (m.0 ≡ e.node) × IsRead query e m.1 one × AreRead query made missed back × (rows ≡ one ++ back)
AreRead query _ _ rows = ⊥

-- a partial tells what these rows tell; without one there are no rows
abbrev pub ReportsIf : Query → List Group → Option Partial → Type 0
ReportsIf query rows None = rows ≡ []
ReportsIf query rows (Some p) = IsResult (kinds_of query) rows p.groups

-- the partial is what all that was read tells. Where there is one, something came; and where there is none for want of memory, memory may
-- have run out at one of the answers
abbrev pub Reads : {F : Type 0} → Query → List Exchange → List Missed → Result (Option Partial) F → Type 0
Reads query made missed (Ok read_partial) =
    ((rows : List Group) × AreRead query made missed rows × ReportsIf query rows read_partial)
    × IfSome read_partial (λ p. IsPartialFor query p × Any (λ e. MayLackMemory e.came) made)
Reads query made missed (Err fault) = Any (λ e. MayLackMemory e.came) made

-- what is read of both halves is what is read of both together
abbrev pub BothRead : {F : Type 0} → Query → Result (Option Partial) F → Result (Option Partial) F → Result (Option Partial) F → Type 0
BothRead query left right result =
    (s t : List Exchange) (m n : List Missed) → Reads query s m left → Reads query t n right → Reads query (s ++ t) (m ++ n) result

-- ---- over links

-- the nodes that are asked rise, and each has its link among so many, of which the first is that of this node
pub record HaveLinks (first count : ℕ) (asks : List Ask) : Type 0 where
  pub rising : IsStrictlyIncreasing (map (λ ask. ask.0) asks)
  pub each : (ask : Ask) → Contains asks ask → (first ≤ ask.0) × (ask.0 < first + count)

-- the exchanges led the links so, of which the first is that of this node
pub record AreLed {L : Type 0} (step : L → List ℕ → Came → L → Type 0) (query : Query) (first : ℕ) (made : List Exchange) (old new : List L) : Type 0 where
  pub count : length new ≡ length old
  pub each : (i : ℕ) (a b : L) → slice_get old i ≡ Some a → slice_get new i ≡ Some b → Leads step query (first + i) made a b

-- these asks were sent over the links, of which the first is that of this node, and read
pub record AreSent {L F : Type 0} (step : L → List ℕ → Came → L → Type 0) (query : Query) (first : ℕ) (asks : List Ask) (old new : List L) (missed : List Missed) (result : Result (Option Partial) F) : Type 0 where
  pub made : List Exchange
  pub of : map ask_of made ≡ asks
  pub led : AreLed step query first made old new
  pub read : Reads query made missed result

-- ---- round after round

-- the state after these exchanges
pub record IsState (query : Query) (waits : List PendingSlice) (state : State) (round : ℕ) (exchanges : List Exchange) : Type 0 where
  pub holds : Holds query waits state.waiting round exchanges
  pub rows : List Group
  pub reported : AllReport query exchanges rows
  pub merged : IsResult (kinds_of query) rows state.partial.groups

-- by these exchanges, those of a round, one state became the other, whatever came before
abbrev pub Goes : Query → ℕ → State → State → List Exchange → Type 0
Goes query round old new more =
    (order : List ℕ → List ℕ) (pairs : List Pair) (waits : List PendingSlice) (exchanges : List Exchange) → AreOrdered order pairs waits
    → IsState query waits old round exchanges → IsState query waits new (round + 1) (exchanges ++ more)

-- these exchanges ask for what a round asks for in that state, whatever came before
abbrev pub AsksOn : Query → ℕ → State → List Exchange → Type 0
AsksOn query round old more =
    (order : List ℕ → List ℕ) (pairs : List Pair) (waits : List PendingSlice) (exchanges : List Exchange) → AreOrdered order pairs waits
    → IsState query waits old round exchanges → AreAsked order query pairs (exchanges ++ more)
