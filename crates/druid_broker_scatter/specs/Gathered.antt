-- What nodes were asked for, what came back, and what of it counts.
use Rattle.std.specs.Prelude.{◌≡◌, ◌≢◌, ◌<◌, ◌⊎◌, ℕ, List, [], ◌∷◌, ◌++◌, length, codes, slice_get, Some, Ok, Err, Contains, ◌↔◌}
use Rattle.std.specs.List.Sorted.{IsStrictlySortedBy}
use Rattle.druid_query.specs.Query.{Query}
use Rattle.druid_query.specs.Asked.{Asked}
use Rattle.druid_base.specs.Json.{ReadsAs}
use Rattle.druid_query.specs.SubQuery.{SubQuery, subquery_text}
use Rattle.druid_partial_text.specs.Answers.{ReportsAnswer}
use Rattle.druid_partial.specs.Groups.{Group, IsResult}
use Rattle.druid_partial.specs.Partials.{kinds_of}
use Rattle.druid_link.specs.Links.{Came}
use Rattle.druid_http_message.specs.Requests.{RequestValue}
use Rattle.druid_http_message.specs.declared.fault.WireFault.TheVariants.{Memory}
use Rattle.druid_http_wire.specs.Messages.{IsResponse}
use Rattle.druid_http_wire.specs.Written.{request_text}
use Rattle.serde_json.specs.Data.{Data}
use Rattle.druid_broker_scatter.specs.Plan.{Pair, asked_of, place_cmp}

-- one exchange of a call: with which node, which pieces were asked for, and what came back
pub record Exchange : Type 0 where
  pub node : ℕ
  pub asked : List Asked
  pub came : Came

-- what a node was asked
abbrev pub sub_of : Query → List Asked → SubQuery
sub_of query asked = record { query = query; asked = asked }

abbrev pub request_for : Query → List Asked → RequestValue
request_for query asked = record { method = codes "POST"; target = codes "/druid/v2/"; body = subquery_text (sub_of query asked) }

-- ---- the exchanges of a call over links

-- the exchanges with one node lead its link from one state to another
abbrev pub Leads : {L : Type 0} → (L → List ℕ → Came → L → Type 0) → Query → ℕ → List Exchange → L → L → Type 0
Leads step query node [] old new = old ≡ new
Leads {L} step query node (e ∷ more) old new =
    ((e.node ≡ node) × (next : L) × step old (request_text (request_for query e.asked)) e.came next × Leads step query node more next new)
    ⊎ ((e.node ≢ node) × Leads step query node more old new)

-- link k is that of node k, and all links were led so, each exchange over one of them
pub record AreMade {L : Type 0} (step : L → List ℕ → Came → L → Type 0) (query : Query) (exchanges : List Exchange) (old new : List L) : Type 0 where
  pub count : length new ≡ length old
  pub each : (node : ℕ) (a b : L) → slice_get old node ≡ Some a → slice_get new node ≡ Some b → Leads step query node exchanges a b

-- ---- answers

-- what came back is a response of status 200, whose body tells these groups, and lists these pieces as missing
pub record Answers (query : Query) (e : Exchange) (missing : List Asked) (groups : List Group) : Type 0 where
  pub bytes : List ℕ
  pub came : e.came ≡ Ok bytes
  pub body : List ℕ
  pub rest : List ℕ
  pub response : IsResponse bytes 200 body rest
  pub json : Data
  pub reads : ReadsAs body json
  pub reported : ReportsAnswer (sub_of query e.asked) json missing groups

-- it is no answer, and the link did not lack memory: it failed otherwise, or the bytes are no response, or its status is another,
-- or its body does not read
pub record IsLost (query : Query) (e : Exchange) : Type 0 where
  pub had_memory : e.came ≢ Err Memory
  pub no_answer : (missing : List Asked) (groups : List Group) → Answers query e missing groups → ⊥

-- the exchange gave the piece: it was asked for, and the answer does not list it as missing
abbrev pub Gives : Query → Exchange → Asked → Type 0
Gives query e a =
    Contains e.asked a × (missing : List Asked) × (groups : List Group) × Answers query e missing groups × (Contains missing a → ⊥)

-- what all answers tell, in their order
abbrev pub AllReport : Query → List Exchange → List Group → Type 0
AllReport query [] rows = rows ≡ []
AllReport query (e ∷ more) rows =
    ((missing : List Asked) × (groups back : List Group) × Answers query e missing groups × AllReport query more back × (rows ≡ groups ++ back))
    ⊎ (IsLost query e × AllReport query more rows)

-- ---- gathering

-- two exchanges, by their places, are one
abbrev pub AtOnePlace : List Exchange → (Exchange → Exchange → Type 0) → Type 0
AtOnePlace exchanges P =
    (i j : ℕ) (x y : Exchange) → slice_get exchanges i ≡ Some x → slice_get exchanges j ≡ Some y → P x y → i ≡ j

-- the pair was asked of the node
abbrev pub Asks : Exchange → Asked → ℕ → Type 0
Asks e a node = (e.node ≡ node) × Contains e.asked a

-- the exchange asks for the pair's piece, and its node stands at that place in the order of the pair's nodes
abbrev pub AsksInRound : (List ℕ → List ℕ) → Exchange → Pair → ℕ → Type 0
AsksInRound order e p round = Contains e.asked p.asked × (slice_get (order p.nodes) round ≡ Some e.node)

-- what was asked, whether or not it came to an answer: each piece was asked of its replicas, of each once at most, and in their
-- order, of one only after those before it did not give it; and a round asked a node in one exchange
pub record AreAsked (order : List ℕ → List ℕ) (query : Query) (pairs : List Pair) (exchanges : List Exchange) : Type 0 where
  pub planned : (e : Exchange) (a : Asked) → Contains exchanges e → Contains e.asked a
      → (p : Pair) × (round : ℕ) × Contains pairs p × (p.asked ≡ a) × Contains p.nodes e.node × AsksInRound order e p round
  pub asks : (e : Exchange) → Contains exchanges e → (a : Asked) × Contains e.asked a
  pub in_order : (e : Exchange) → Contains exchanges e → IsStrictlySortedBy place_cmp e.asked
  pub asked_once : (a : Asked) (node : ℕ) → AtOnePlace exchanges (λ x y. Asks x a node × Asks y a node)
  pub by_round : (i j : ℕ) (x y : Exchange) (p q : Pair) (r s : ℕ) → i < j → slice_get exchanges i ≡ Some x → slice_get exchanges j ≡ Some y
      → Contains pairs p → Contains pairs q → AsksInRound order x p r → AsksInRound order y q s → (r < s) ⊎ ((r ≡ s) × (x.node < y.node))
  pub in_turn : (i : ℕ) (e : Exchange) (p : Pair) (round sooner node : ℕ) → slice_get exchanges i ≡ Some e → Contains pairs p → AsksInRound order e p round
      → sooner < round → slice_get (order p.nodes) sooner ≡ Some node
      → (j : ℕ) × (d : Exchange) × (j < i) × (slice_get exchanges j ≡ Some d) × Asks d p.asked node × (Gives query d p.asked → ⊥)

-- some exchange gave each pair, and only one; or it is missing, and then it was asked of each of its replicas, and none gave it. The
-- groups are the merge of all answers
pub record IsGathered (order : List ℕ → List ℕ) (query : Query) (pairs : List Pair) (exchanges : List Exchange) (missing : List Asked) (groups : List Group) : Type 0 where
  pub asked : AreAsked order query pairs exchanges
  pub given_once : (a : Asked) → AtOnePlace exchanges (λ x y. Gives query x a × Gives query y a)
  pub missing_is : (a : Asked) → Contains missing a
      ↔ (Contains (asked_of pairs) a × ((e : Exchange) → Contains exchanges e → Gives query e a → ⊥))
  pub missing_asked : (p : Pair) (node : ℕ) → Contains pairs p → Contains missing p.asked → Contains p.nodes node
      → (e : Exchange) × Contains exchanges e × Asks e p.asked node
  pub ordered : IsStrictlySortedBy place_cmp missing
  pub rows : List Group
  pub reported : AllReport query exchanges rows
  pub merged : IsResult (kinds_of query) rows groups
