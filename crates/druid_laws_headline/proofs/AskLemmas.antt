-- What a data node of ours answers to an ask is the answer of its history.
use Rattle.std.proofs.Common.{◌≡◌, inl, inr, ℕ, List, Option, Some, None, Ok, sym, ap, ◌∙◌, subst, arith}
use Rattle.std.proofs.lemmas.Option.{same_Some}
use Rattle.druid_segment_descriptor.specs.ReplyBody.{IsReply}
use Rattle.druid_segment_descriptor.specs.declared.change.Ask.{Ask}
use Rattle.druid_segment_descriptor.specs.declared.change.Ask.TheVariants.{Whole, Since}
use Rattle.druid_segment_descriptor.specs.declared.change.Ask.TheVariants as asks
use Rattle.druid_segment_descriptor.specs.declared.change.Change.{Change}
use Rattle.druid_segment_descriptor.specs.declared.reply.Body.{Body}
use Rattle.druid_segment_descriptor.specs.declared.reply.Body.TheVariants.{Delta, Snapshot, Page, Reset}
use Rattle.druid_sync_history.specs.Kept.{Frozen, StandsFrozen, frozen_count}
use Rattle.druid_sync_text.specs.Asks.{ask_at, parameters_of}
use Rattle.druid_sync_text.specs.Back.{IsReadBack}
use Rattle.druid_sync_text.specs.Written.{reply_data, reply_text}
use Rattle.druid_sync_text.specs.Read.{Form, form_at, form_of, Answers, IsReadOf}
use Rattle.druid_inventory.proofs.EntryLemmas.{snapshot_is}
use Rattle.druid_http_wire.specs.Messages.{IsResponse}
use Rattle.druid_http_wire.specs.Written as wire
use Rattle.druid_node.specs.State.{State}
use Rattle.druid_node.specs.Routes.{IsReplyTo, AnswersFound, AnswersAsk, Responds, RespondsInTurn}
use Rattle.druid_broker_follow.specs.Turns.{ask_request, IsAnswerTo}
use Rattle.druid_sync_history.specs.Answer.{answer}
use Rattle.druid_laws_world.specs.World.{Life, IsLife, IsHonest, eras_of}
use Rattle.druid_laws_world.proofs.WorldLemmas.{HasFrozen, answer_true}
use Rattle.druid_laws_headline.specs.Headline.{IsLastOf}
use Rattle.druid_laws_headline.proofs.HonestLemmas.{same_ok, written_is}

-- a request for what an ask asks is answered by the history
asked_of : (state next : State) (ask : Ask) (status : ℕ) (body : List ℕ) → Responds state next (ask_request ask) status body → AnswersAsk state next (parameters_of ask) status body
asked_of state next Whole status body answer = answer
asked_of state next (Since m) status body answer = answer
asked_of state next (asks.Page m page) status body answer = answer

-- what is read of the text of a reply is the reply
answered : (reported reply : Body) → IsReply reported → Answers (Some (form_of reported)) (Ok reply) → reply ≡ reported
answered (Delta from to changes) reply valid read = read.0
answered (Snapshot at segments) reply valid read = snapshot_is at segments reply valid.sorted read
answered (Page at page of segments) reply valid read = read.0
answered (Reset cause at) reply valid read = same_ok read

read_is : (reported reply : Body) → IsReadBack reported → IsReadOf (reply_text reported) (Ok reply) → reply ≡ reported
read_is reported reply back read =
    let json : read.0 ≡ reply_data reported = same_Some _ _ (sym read.1.1 ∙ back.text) in
    answered reported reply back.valid (subst (λ (f : Option Form). Answers f (Ok reply)) (ap form_at json ∙ back.form) read.2)

-- a response that is read is what was written of a reply
of_history : (state next : State) (ask : Ask) (status : ℕ) (body b rest : List ℕ) (reply : Body) → AnswersFound state next (Some ask) status body → IsResponse (wire.answer_text status body) 200 b rest → IsReadOf b (Ok reply)
    → IsReplyTo state.history next.history ask reply
of_history state next ask status body b rest reply found response read =
    let is = found.3.status_is in
    let written = written_is status body b rest (omega (arith, is)) (omega (arith, is)) response in
    let same : reply ≡ found.0 = read_is found.0 reply found.2 (subst (λ (text : List ℕ). IsReadOf text (Ok reply)) (sym written.1 ∙ found.3.body_is) read) in
    subst (IsReplyTo state.history next.history ask) (sym same) found.1

pub answer_of_history : (state next : State) (ask : Ask) (status : ℕ) (body : List ℕ) (reply : Body) → ask_at (parameters_of ask) ≡ Some ask → RespondsInTurn state next (ask_request ask) status body
    → IsAnswerTo (Ok (wire.answer_text status body)) (Ok reply) → IsReplyTo state.history next.history ask reply
answer_of_history state next ask status body reply back (inl responds) reported =
    let found = subst (λ (o : Option Ask). AnswersFound state next o status body) back (asked_of state next ask status body responds) in
    let response = subst (λ (text : List ℕ). IsResponse text 200 reported.1 reported.3.0) (sym (same_ok reported.2)) reported.3.1 in
    of_history state next ask status body reported.1 reported.3.0 reply found response reported.4
answer_of_history state next ask status body reply back (inr memory) reported =
    let is = memory.1.status_is in
    let response = subst (λ (text : List ℕ). IsResponse text 200 reported.1 reported.3.0) (sym (same_ok reported.2)) reported.3.1 in
    let no = (written_is status body reported.1 reported.3.0 (omega (arith, is)) (omega (arith, is)) response).0 in
    absurd (omega (arith, is, no))

-- a set that is kept for its pages is that of the life
has_frozen : (limit : ℕ) (changes : List Change) (frozen : Option Frozen) → StandsFrozen limit changes frozen → HasFrozen changes (frozen_count frozen)
has_frozen limit changes None h = tt
has_frozen limit changes (Some f) h = record { within = h.within; set = f.set; there = h.set; many = h.many }

pub honest_answer : (life : Life) (state next : State) (ask : Ask) (status : ℕ) (body : List ℕ) (reply : Body) → IsLife life → IsLastOf life state
    → ask_at (parameters_of ask) ≡ Some ask → RespondsInTurn state next (ask_request ask) status body
    → IsAnswerTo (Ok (wire.answer_text status body)) (Ok reply) → IsHonest (eras_of life) reply
honest_answer life state next ask status body reply valid last back responds reported =
    let is = answer_of_history state next ask status body reply back responds reported life.last.changes last.changes in
    let frozen = subst (HasFrozen life.last.changes) (sym last.frozen) (has_frozen state.history.limit life.last.changes state.history.frozen last.changes.frozen) in
    (answer_true life ask reply (frozen_count next.history.frozen) valid frozen
    (ap (λ (i : ℕ). answer i life.last.changes life.kept life.frozen ask) last.incarnation
    ∙ ap (λ (k : ℕ). answer state.history.incarnation life.last.changes k life.frozen ask) last.kept
    ∙ ap (λ (f : Option ℕ). answer state.history.incarnation life.last.changes state.history.limit f ask) last.frozen ∙ is)).0
