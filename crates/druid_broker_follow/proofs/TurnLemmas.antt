-- What was fetched, where it is no reply.
use Rattle.std.proofs.Common.{◌≡◌, ◌≢◌, ◌⊎◌, ℕ, List, [], ◌∷◌, ◌++◌, slice_get, None, Result, Ok, Err, IfOk, IfErr, length, inl, inr, refl, sym, ap, ◌∙◌, ◌<◌, subst, arith}
use Rattle.std.proofs.lemmas.List.{length-map}
use mathlib.Core.List.{IsPrefix}
use Rattle.druid_segment_descriptor.specs.declared.change.Ask.{Ask}
use Rattle.druid_segment_descriptor.specs.declared.change.Ask.TheVariants.{Whole}
use Rattle.druid_segment_descriptor.specs.declared.reply.Body.{Body}
use Rattle.druid_inventory.specs.Entry.{Entry}
use Rattle.druid_inventory.specs.Step.{StepsAt, Reports, RefusedAt}
use Rattle.druid_inventory.specs.declared.fault.Outcome.{Outcome}
use Rattle.druid_inventory.specs.declared.fault.ApplyFault.{ApplyFault}
use Rattle.druid_inventory.specs.declared.fault.ApplyFault.TheVariants as apply
use Rattle.druid_link.specs.Links.{Came}
use Rattle.druid_http_message.specs.Requests.{RequestValue}
use Rattle.druid_inventory_views.specs.Fold.{Published, PublisherValue, fold_of}
use Rattle.druid_inventory_views.proofs.FoldLemmas.{fold_names}
use Rattle.druid_inventory_views.proofs.Beginnings.{prefix_self, prefix_trans}
use Rattle.druid_broker_follow.specs.Refused.{RefusesTurn}
use Rattle.druid_broker_follow.specs.Turns.{IsReported, Fetches, ask_request, FollowsPages, IsAsked, StartsAgain, IsFetched, IsFetchedFrom, TakesTurn, FailsTurn, Publishes, TakesSharedTurn, FailsSharedTurn, IsSharedTurn, MakesTurns, Turn}
use Rattle.druid_broker_follow.specs.declared.fault.TurnFault.{TurnFault}
use Rattle.druid_broker_follow.specs.declared.fault.TurnFault.TheVariants as turn

-- what holds, holds where a turn did not fail
pub given_ok : {A B : Type 0} (P : Type 0) (r : Result A B) → P → IfOk r (λ _. P)
given_ok P (Ok x) p = p
given_ok P (Err e) p = tt

-- what was fetched is a fault
pub turn_lacks : (Fetched : Result Body TurnFault → Type 0) (inventory : List Entry) (node : ℕ) (fault : TurnFault) → Fetched (Err fault) → FailsTurn Fetched inventory node fault
turn_lacks Fetched inventory node (turn.Apply fault) fetched = inl fetched
turn_lacks Fetched inventory node turn.Memory fetched = inl fetched
turn_lacks Fetched inventory node (turn.Wire fault) fetched = fetched
turn_lacks Fetched inventory node (turn.Status status) fetched = fetched
turn_lacks Fetched inventory node (turn.Reply fault) fetched = fetched
turn_lacks Fetched inventory node turn.PageLost fetched = fetched
turn_lacks Fetched inventory node turn.NoReading fetched = fetched

-- and why a reply is not published
pub turn_refused : (Fetched : Result Body TurnFault → Type 0) (inventory : List Entry) (node : ℕ) (reply : Body) (fault : TurnFault) → Fetched (Ok reply)
    → RefusesTurn inventory node reply fault → FailsTurn Fetched inventory node fault
turn_refused Fetched inventory node reply (turn.Apply fault) fetched r = inr (reply, fetched, r)
turn_refused Fetched inventory node reply turn.Memory fetched r = inr (reply, r.0, r.1, fetched, r.2)
turn_refused Fetched inventory node reply (turn.Wire fault) fetched r = absurd r
turn_refused Fetched inventory node reply (turn.Status status) fetched r = absurd r
turn_refused Fetched inventory node reply (turn.Reply fault) fetched r = absurd r
turn_refused Fetched inventory node reply turn.PageLost fetched r = absurd r
turn_refused Fetched inventory node reply turn.NoReading fetched r = absurd r

module _ {X : Type 0} (Fetched : Result Body TurnFault → Type 0) (node : ℕ) (reply : Body) (fetched : Fetched (Ok reply)) where
  pub takes_turn : (old new : PublisherValue) (r : Result (Outcome × X) TurnFault) → IfOk r (λ x. Publishes old node reply x.0 new) → IfOk r (λ x. TakesTurn Fetched old node x.0 new)
  takes_turn old new (Ok x) publishes = (reply, fetched, publishes)
  takes_turn old new (Err fault) publishes = tt

  pub fails_turn : (inventory : List Entry) (r : Result (Outcome × X) TurnFault) → IfErr r (RefusesTurn inventory node reply) → IfErr r (FailsTurn Fetched inventory node)
  fails_turn inventory (Ok x) refuses = tt
  fails_turn inventory (Err fault) refuses = turn_refused Fetched inventory node reply fault fetched refuses

-- ---- what a node is asked for

module _ {L : Type 0} (step : L → List ℕ → Came → L → Type 0) where
  -- a reply comes of an exchange
  pub by_exchange : (request : RequestValue) (old new : L) (reply : Body) → Fetches step request old new (Ok reply) → IsReported step request old new (Ok reply)
  by_exchange request old new reply (inl exchange) = exchange
  by_exchange request old new reply (inr (wants, same)) = absurd (cc)

  pub fetched_first : (ask : Ask) (old between new : L) (first : Body) (answer : Result Body TurnFault) → Fetches step (ask_request ask) old between (Ok first) → (StartsAgain ask (Ok first) → ⊥)
      → FollowsPages step ask_request first between new answer → IsFetched step ask old new answer
  fetched_first ask old between new first answer fetches stays follows = inr (inl (between, first, by_exchange (ask_request ask) old between first fetches, stays, follows))

  pub fetched_again : (ask : Ask) (old between new : L) (first : Body) (answer : Result Body TurnFault) → Fetches step (ask_request ask) old between (Ok first) → StartsAgain ask (Ok first)
      → IsAsked step ask_request Whole between new answer → IsFetched step ask old new answer
  fetched_again ask old between new first answer fetches again asked = inr (inr (between, first, by_exchange (ask_request ask) old between first fetches, again, asked))

-- a reply that is not applied, of a node that is there, is refused
pub refused_at : (inventory : List Entry) (node : ℕ) (body : Body) (fault : ApplyFault) → (slice_get inventory node ≡ None → ⊥) → fault ≢ apply.Memory
    → Reports inventory node body fault → RefusedAt inventory node body fault
refused_at inventory node body apply.UnknownNode there other reported = absurd (there reported)
refused_at inventory node body apply.OtherIncarnation there other reported = reported
refused_at inventory node body apply.Gap there other reported = reported
refused_at inventory node body (apply.NotStrict index) there other reported = reported
refused_at inventory node body apply.TooMany there other reported = reported
refused_at inventory node body apply.Conflict there other reported = reported
refused_at inventory node body apply.PageConflict there other reported = reported
refused_at inventory node body apply.Memory there other reported = absurd (other refl)

-- ---- turns of threads that share a publisher

module _ {L : Type 0} (step : L → List ℕ → Came → L → Type 0) (opening : List Entry) (node : ℕ) where
  pub turn_ends : (old new : Published) (link after : L) (result : Result Outcome TurnFault) → IfOk result (TakesSharedTurn step opening node old new link after)
      → IfErr result (FailsSharedTurn step opening node old new link after) → IsSharedTurn step opening node old new link after result
  turn_ends old new link after (Ok outcome) takes fails = takes
  turn_ends old new link after (Err fault) takes fails = fails

  turn_goes_on : (old new : Published) (link after : L) (result : Result Outcome TurnFault) → IsSharedTurn step opening node old new link after result → IsPrefix old new
  turn_goes_on old new link after (Ok outcome) takes = prefix_trans old takes.read new takes.goes_on takes.has_read
  turn_goes_on old new link after (Err fault) (inl (memory, same, unused)) = subst (λ (l : Published). IsPrefix old l) (sym same) (prefix_self old)
  turn_goes_on old new link after (Err fault) (inr fails) = prefix_trans old fails.read new fails.goes_on fails.has_read

  pub turns_go_on : (gave : List Turn) (old new : Published) (link after : L) → MakesTurns step opening node gave old new link after → IsPrefix old new
  turns_go_on [] old new link after (same, unused) = subst (λ (l : Published). IsPrefix old l) (sym same) (prefix_self old)
  turns_go_on (turn ∷ earlier) old new link after (seen, between, makes, made) =
      prefix_trans old seen new (turns_go_on earlier old seen link between makes) (turn_goes_on seen new between after turn made)

  -- a turn that fetched no reply
  pub unfetched : (old read : Published) (link after : L) (fault : TurnFault) → IsPrefix old read → IsFetchedFrom step (fold_of opening read) node link after (Err fault)
      → FailsSharedTurn step opening node old read link after fault
  unfetched old read link after fault goes fetched = inr (record {
    read = read;
    goes_on = goes;
    before = read;
    fails = turn_lacks (IsFetchedFrom step (fold_of opening read) node link after) (fold_of opening read) node fault fetched;
    has_read = prefix_self read;
    has_before = prefix_self read;
    one = inl refl;
  })

  -- one that fetched a reply, and then has seen what is published
  module _ (old read noted new : Published) (link after : L) (reply : Body) (goes : IsPrefix old read) (fetched : IsFetchedFrom step (fold_of opening read) node link after (Ok reply))
      (has_read : IsPrefix read new) (has_noted : IsPrefix noted new) (one : (new ≡ read) ⊎ (new ≡ noted)) where
    pub published : (r : Result Outcome TurnFault) → IfOk r (λ outcome. (before : Published) × (entry : Entry) × StepsAt (fold_of opening before) node reply outcome entry × (noted ≡ before ++ (node, reply) ∷ []))
        → IfOk r (TakesSharedTurn step opening node old new link after)
    published (Ok outcome) (before, entry, steps, is) = record {
      read = read;
      goes_on = goes;
      reply = reply;
      fetched = fetched;
      before = before;
      entry = entry;
      steps = steps;
      has_read = has_read;
      has_reply = subst (λ (l : Published). IsPrefix l new) is has_noted;
      one = subst (λ (l : Published). (new ≡ read) ⊎ (new ≡ l)) is one;
    }
    published (Err fault) so = tt

    pub unpublished : (r : Result Outcome TurnFault) → IfErr r (RefusesTurn (fold_of opening noted) node reply) → IfErr r (FailsSharedTurn step opening node old new link after)
    unpublished (Ok outcome) refused = tt
    unpublished (Err fault) refused = inr (record {
      read = read;
      goes_on = goes;
      before = noted;
      fails = turn_refused (IsFetchedFrom step (fold_of opening read) node link after) (fold_of opening noted) node reply fault fetched refused;
      has_read = has_read;
      has_before = has_noted;
      one = one;
    })

-- ---- what is published under a lock

fold_nodes : (opening : List Entry) (published : Published) → length (fold_of opening published) ≡ length opening
fold_nodes opening published =
    sym (length-map (fold_of opening published) (λ (e : Entry). e.name)) ∙ ap length (fold_names opening published) ∙ length-map opening (λ (e : Entry). e.name)

pub there_in_fold : (opening inventory : List Entry) (published : Published) (node : ℕ) → inventory ≡ fold_of opening published → node < length opening → node < length inventory
there_in_fold opening inventory published node folds there = let same = ap length folds ∙ fold_nodes opening published in omega (arith, same, there)
