-- Round after round, up to the answer.
use Rattle.std.proofs.Common.{◌≡◌, ◌⊎◌, ℕ, ◌+◌, ◌<◌, ◌≤◌, List, [], ◌++◌, length, All, Any, Contains, Result, Ok, Err, refl, sym, subst, arith}
use Rattle.std.specs.List.Sorted.{IsStrictlySortedBy}
use Rattle.std.specs.Result.{IfOk, OnErr}
use Rattle.std.proofs.lemmas.List.Elements.{All-contains}
use Rattle.std.proofs.lemmas.List.Sorted.{Contains-permutation, IsPermutation-sym}
use Rattle.druid_query.specs.Asked.{Asked}
use Rattle.druid_query.specs.Query.{Query}
use Rattle.druid_partial.specs.Groups.{IsResult}
use Rattle.druid_partial.specs.Partials.{Partial, kinds_of}
use Rattle.druid_link.specs.Links.{Came}
use Rattle.druid_broker_scatter.specs.declared.fault.GatherFault.{GatherFault}
use Rattle.druid_broker_scatter.specs.Plan.{Pair, place_cmp}
use Rattle.druid_broker_scatter.specs.Gathered.{Exchange, AreMade, AreAsked, IsGathered}
use Rattle.druid_partial.specs.Answer.{Answer}
use Rattle.druid_broker_scatter.specs.Rounds.{AreLinked}
use Rattle.druid_broker_scatter.specs.Pending.{PendingSlice, State, AreBelow, AreOrdered, IsState, Goes, AsksOn, MayLackMemory, pieces_of}
use Rattle.druid_broker_scatter.proofs.AskedLemmas.{IsOver, are_asked, missing_are, missing_were_asked, no_asks, start}
use Rattle.druid_broker_scatter.proofs.MadeLemmas.{made_append, none_made}

-- what led to a state
abbrev pub Leading : {L : Type 0} → (L → List ℕ → Came → L → Type 0) → (List ℕ → List ℕ) → Query → List Pair → State → ℕ → State → List L → List L → Type 0
Leading step order query pairs first round state old new =
    (exchanges : List Exchange) × AreMade step query exchanges old new
    × ((waits : List PendingSlice) → AreOrdered order pairs waits → IsState query waits first 0 [] → IsState query waits state round exchanges)

pub leading_none : {L : Type 0} (step : L → List ℕ → Came → L → Type 0) (order : List ℕ → List ℕ) (query : Query) (pairs : List Pair) (first : State) (links : List L) → Leading step order query pairs first 0 first links links
leading_none step order query pairs first links = ([], none_made step query links, λ waits o s. s)

-- each node in an order has its link
pub below : (order : List ℕ → List ℕ) (count : ℕ) (pairs : List Pair) (waits : List PendingSlice) → AreLinked count pairs → AreOrdered order pairs waits → AreBelow count waits
below order count pairs waits linked o w node c in_it =
    let is = o.each w c in
    let of = All-contains (λ p. All (λ node. node < count) p.nodes) pairs is.pair linked is.in_plan in
    All-contains (λ node. node < count) is.pair.nodes node of (Contains-permutation w.order is.pair.nodes node (IsPermutation-sym is.pair.nodes w.order is.moved) in_it)

pub leading_more : {L : Type 0} (step : L → List ℕ → Came → L → Type 0) (order : List ℕ → List ℕ) (query : Query) (pairs : List Pair) (first state after : State) (round : ℕ) (old mid new : List L)
    → Leading step order query pairs first round state old mid → (more : List Exchange) × AreMade step query more mid new × Goes query round state after more
    → Leading step order query pairs first (round + 1) after old new
leading_more step order query pairs first state after round old mid new l m =
    (l.0 ++ m.0, made_append step query l.0 m.0 old mid new l.1 m.1, λ waits o s. m.2 order pairs waits l.0 o (l.2 waits o s))

-- nothing was asked yet
opened : (query : Query) (waits : List PendingSlice) (partial : Partial) → IsStrictlySortedBy place_cmp (pieces_of waits) → IsResult (kinds_of query) [] partial.groups
    → IsState query waits (record { waiting = waits; partial = partial }) 0 []
opened query waits partial s r = record { holds = start query waits s; rows = []; reported = refl; merged = r }

-- what was asked up to a state
asked_so_far : (query : Query) (order : List ℕ → List ℕ) (pairs : List Pair) (waits : List PendingSlice) (state : State) (round : ℕ) (exchanges : List Exchange) → AreOrdered order pairs waits
    → IsState query waits state round exchanges → AreAsked order query pairs exchanges
asked_so_far query order pairs waits state round exchanges o s =
    are_asked query order pairs waits round exchanges o s.holds.asked

gathered : (query : Query) (order : List ℕ → List ℕ) (pairs : List Pair) (waits : List PendingSlice) (state : State) (round : ℕ) (exchanges : List Exchange) → AreOrdered order pairs waits
    → IsState query waits state round exchanges → IsOver state.waiting round → IsGathered order query pairs exchanges (pieces_of state.waiting) state.partial.groups
gathered query order pairs waits state round exchanges o s over = record {
  asked = asked_so_far query order pairs waits state round exchanges o s;
  given_once = s.holds.given_once;
  missing_is = missing_are query order pairs waits state.waiting round exchanges o s.holds;
  missing_asked = missing_were_asked query order pairs waits state.waiting round exchanges o s.holds over;
  ordered = s.holds.ordered;
  rows = s.rows;
  reported = s.reported;
  merged = s.merged;
}

-- the state before the first round
begun : (query : Query) (order : List ℕ → List ℕ) (pairs : List Pair) (waits : List PendingSlice) (partial : Partial) (first : State) → first ≡ record { waiting = waits; partial = partial } → AreOrdered order pairs waits
    → IsResult (kinds_of query) [] partial.groups → IsState query waits first 0 []
begun query order pairs waits partial first e o none = subst (λ (x : State). IsState query waits x 0 []) (sym e) (opened query waits partial o.sorted none)

pub gathered_all : {L : Type 0} (step : L → List ℕ → Came → L → Type 0) (order : List ℕ → List ℕ) (query : Query) (pairs : List Pair) (waits seen : List PendingSlice) (partial : Partial) (first state : State) (rounds round : ℕ) (old new : List L) (r : Result Answer GatherFault)
    → first ≡ record { waiting = waits; partial = partial } → AreOrdered order pairs waits → IsResult (kinds_of query) [] partial.groups → seen ≡ waits
    → ((w : PendingSlice) → Contains seen w → length w.order ≤ rounds) → rounds ≤ round → Leading step order query pairs first round state old new
    → IfOk r (λ answer. answer.missing ≡ pieces_of state.waiting) → IfOk r (λ answer. answer.partial ≡ state.partial)
    → IfOk r (λ answer. (exchanges : List Exchange) × AreMade step query exchanges old new × IsGathered order query pairs exchanges answer.missing answer.partial.groups)
gathered_all step order query pairs waits seen partial first state rounds round old new (Err f) e o none same most over l missing reported = tt
gathered_all step order query pairs waits seen partial first state rounds round old new (Ok answer) e o none same most over l missing reported =
    let s = l.2 waits o (begun query order pairs waits partial first e o none) in
    let ended : IsOver state.waiting round = record {
      each = λ w c.
          let there = ((s.holds.left_are w).0 c).0 in
          let m = most w (subst (λ (ws : _). Contains ws w) (sym same) there) in
          omega arith;
    } in
    let g = gathered query order pairs waits state round l.0 o s ended in (
      l.0,
      l.1,
      subst (λ (p : Partial). IsGathered order query pairs l.0 answer.missing p.groups) (sym reported)
          (subst (λ (m : List Asked). IsGathered order query pairs l.0 m state.partial.groups) (sym missing) g),
    )

-- ---- where memory was refused

-- nothing was asked
pub none_asked : {L : Type 0} (step : L → List ℕ → Came → L → Type 0) (order : List ℕ → List ℕ) (query : Query) (pairs : List Pair) (links : List L)
    → (exchanges : List Exchange) × AreMade step query exchanges links links × AreAsked order query pairs exchanges
none_asked step order query pairs links = ([], none_made step query links, no_asks order query pairs)

pub leading_err : {L : Type 0} (step : L → List ℕ → Came → L → Type 0) (order : List ℕ → List ℕ) (query : Query) (pairs : List Pair) (waits : List PendingSlice) (partial : Partial) (first state : State) (round : ℕ) (old mid new : List L)
    → first ≡ record { waiting = waits; partial = partial } → AreOrdered order pairs waits → IsResult (kinds_of query) [] partial.groups
    → Leading step order query pairs first round state old mid → (more : List Exchange) × AreMade step query more mid new × AsksOn query round state more × ((more ≡ []) ⊎ Any (λ e. MayLackMemory e.came) more)
    → (exchanges : List Exchange) × AreMade step query exchanges old new × AreAsked order query pairs exchanges
leading_err step order query pairs waits partial first state round old mid new e o none l m =
    (l.0 ++ m.0, made_append step query l.0 m.0 old mid new l.1 m.1, m.2 order pairs waits l.0 o (l.2 waits o (begun query order pairs waits partial first e o none)))

pub leading_made : {L : Type 0} (step : L → List ℕ → Came → L → Type 0) (order : List ℕ → List ℕ) (query : Query) (pairs : List Pair) (waits : List PendingSlice) (partial : Partial) (first state : State) (round : ℕ) (old new : List L)
    (r : Result Answer GatherFault) → first ≡ record { waiting = waits; partial = partial } → AreOrdered order pairs waits → IsResult (kinds_of query) [] partial.groups → Leading step order query pairs first round state old new
    → OnErr r ((exchanges : List Exchange) × AreMade step query exchanges old new × AreAsked order query pairs exchanges)
leading_made step order query pairs waits partial first state round old new (Ok x) e o none l = tt
leading_made step order query pairs waits partial first state round old new (Err f) e o none l =
    (l.0, l.1, asked_so_far query order pairs waits state round l.0 o (l.2 waits o (begun query order pairs waits partial first e o none)))
