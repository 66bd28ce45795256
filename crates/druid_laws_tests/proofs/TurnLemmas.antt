-- What a turn with a data node that was never synced fetches is the node's answer to an ask for all that it serves.
use Rattle.std.proofs.Common.{◌≡◌, inl, inr, ℕ, List, Some, Result, Ok, Err, sym, ap, ◌∙◌, subst}
use Rattle.std.specs.Prelude.{IfOk, slice_get}
use Rattle.std.proofs.lemmas.Option.{same_Some}
use Rattle.druid_segment_descriptor.specs.Described.{Described}
use Rattle.druid_segment_descriptor.specs.Mark.{Point, never}
use Rattle.druid_segment_descriptor.specs.declared.change.Ask.{Ask}
use Rattle.druid_segment_descriptor.specs.declared.change.Ask.TheVariants.{Whole}
use Rattle.druid_segment_descriptor.specs.declared.reply.Body.{Body}
use Rattle.druid_segment_descriptor.specs.declared.reply.Body.TheVariants.{Snapshot}
use Rattle.druid_sync_text.specs.Asks.{ask_at, parameters_of}
use Rattle.druid_inventory.specs.Entry.{Entry, ask_of}
use Rattle.druid_link.specs.Links.{Came}
use Rattle.druid_http_message.specs.Requests.{RequestValue}
use Rattle.druid_http_message.specs.declared.fault.WireFault.{WireFault}
use Rattle.druid_http_wire.specs.Written.{request_text}
use Rattle.druid_node.specs.State.{State}
use Rattle.druid_node.specs.Routes.{RespondsInTurn}
use Rattle.druid_broker_follow.specs.Turns.{ask_request, IsAnswerTo, Fetches, FollowsPages, IsFetched, IsFetchedFrom}
use Rattle.druid_broker_follow.specs.declared.fault.TurnFault.{TurnFault}
use Rattle.druid_laws_tests.specs.Exchanges.{IsAnswered, ExchangesWithNode}
use Rattle.druid_laws_headline.proofs.AskLemmas.{answer_of_history}
use Rattle.druid_laws_headline.proofs.HonestLemmas.{same_ok}
use Rattle.druid_laws_tests.specs.FollowedNodes.{IsFirstReply}
use Rattle.druid_laws_tests.specs.Nodes.{IsNode}
use Rattle.druid_laws_tests.proofs.NodeLemmas.{snapshot_of, snapshot_reported}
use Rattle.druid_laws_tests.proofs.RequestLemmas.{ask_read}

no_bytes : (fault : WireFault) (bytes : List ℕ) → Path Came (Err fault) (Ok bytes) → ⊥
no_bytes fault bytes e = cc

no_reply : (fault : TurnFault) (reply : Body) → Path (Result Body TurnFault) (Ok reply) (Err fault) → ⊥
no_reply fault reply e = cc

reported_by : (old : State) (came : Came) (reply : Body) → IfOk came (IsAnswered old (request_text (ask_request Whole))) → IsAnswerTo came (Ok reply) → IsFirstReply old reply
reported_by old (Err fault) reply is reported = absurd (no_bytes fault reported.0 reported.2)
reported_by old (Ok text) reply is reported = record {
  status = is.status;
  body = is.body;
  responds = subst (λ (r : RequestValue). RespondsInTurn old old r is.status is.body) (ask_read Whole is.request is.rest tt is.read) is.responds;
  reported = subst (λ (bytes : List ℕ). IsAnswerTo (Ok bytes) (Ok reply)) is.written reported;
}

-- one exchange
fetched_once : (old new : State) (reply : Body) → Fetches ExchangesWithNode (ask_request Whole) old new (Ok reply) → (new ≡ old) × IsFirstReply old reply
fetched_once old new reply (inl one) = (one.made.0, reported_by old one.came reply one.made.1 one.reported)
fetched_once old new reply (inr none) = absurd (no_reply _ reply none.0)

-- what is written of an ask for all is read as that
abbrev pub IsReadBack : Type 0
IsReadBack = ask_at (parameters_of Whole) ≡ Some Whole

-- what a node answers first is the snapshot
first_snapshot : IsReadBack → (state : State) (reply : Body) → IsNode state → IsFirstReply state reply → reply ≡ snapshot_of state
first_snapshot back state reply is first =
    snapshot_reported state state reply is.kept is.small (answer_of_history state state Whole first.status first.body reply back first.responds first.reported)

-- a snapshot is not followed by pages
ends_there : (between new : State) (first reply : Body) (at : Point) (set : List Described) → first ≡ Snapshot at set
    → FollowsPages ExchangesWithNode ask_request first between new (Ok reply) → (first ≡ reply) × (new ≡ between)
ends_there between new first reply at set is follows =
    let ends = subst (λ (b : Body). FollowsPages ExchangesWithNode ask_request b between new (Ok reply)) is follows in
    (is ∙ sym (same_ok ends.0), ends.1)

-- an ask for all is not followed by another
fetched_whole : IsReadBack → (old new : State) (reply : Body) → IsNode old → IsFetched ExchangesWithNode Whole old new (Ok reply) → (new ≡ old) × IsFirstReply old reply
fetched_whole back old new reply is (inl failed) = absurd (no_reply failed.0 reply failed.1)
fetched_whole back old new reply is (inr (inl (between, first, came, again, follows))) =
    let once = fetched_once old between first (inl came) in
    let ends = ends_there between new first reply _ _ (first_snapshot back old first is once.1) follows in
    (ends.1 ∙ once.0, subst (IsFirstReply old) ends.0 once.1)
fetched_whole back old new reply is (inr (inr (between, first, came, again, rest))) = absurd again

pub fetched_first : IsReadBack → (inventory : List Entry) (node : ℕ) (e : Entry) (old new : State) (reply : Body) → IsNode old → slice_get inventory node ≡ Some e → e.mark ≡ never
    → IsFetchedFrom ExchangesWithNode inventory node old new (Ok reply) → (new ≡ old) × IsFirstReply old reply
fetched_first back inventory node e old new reply is at unsynced fetched =
    let same : fetched.0.mark ≡ never = ap (λ (x : Entry). x.mark) (same_Some _ _ (sym fetched.1 ∙ at)) ∙ unsynced in
    fetched_whole back old new reply is (subst (λ (ask : Ask). IsFetched ExchangesWithNode ask old new (Ok reply)) (ap ask_of same) fetched.2)
