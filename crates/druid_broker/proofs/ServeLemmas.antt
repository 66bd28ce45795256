-- Which requests use links, and which take the inventory.
use Rattle.std.proofs.Common.{◌≡◌, ◌≢◌, ◌⊎◌, ℕ, Bool, true, false, List, IsSome, codes, bytes_eq, Option, Some, Result, Ok, Err, IfOk, IfErr, refl, sym, subst, ◌∙◌, inl, inr}
use mathlib.Core.List.{IsPrefix}
use Rattle.druid_inventory.specs.Entry.{Entry}
use Rattle.druid_link.specs.Links.{Came}
use Rattle.druid_http_message.specs.Requests.{RequestValue, parameters_of}
use Rattle.druid_http_wire.specs.Served.{Reports, Gets, Allows, IsSent, IsServed, IsCutShort, FailsToServe, IsOutOfMemory}
use Rattle.druid_http_message.specs.declared.fault.WireFault.{WireFault}
use Rattle.druid_http_wire.proofs.ServeLemmas.{WasRead, served, unsent}
use Rattle.druid_query.specs.Query.{Query}
use Rattle.druid_base.specs.Json.{ReadsAs}
use Rattle.druid_query.specs.Read.{IsReadOf, query_at}
use Rattle.druid_query.specs.Refusal.{Refusal}
use Rattle.druid_query.specs.Refused.{refusal_text}
use Rattle.druid_query.specs.declared.fault.QueryFault.{QueryFault}
use Rattle.druid_query.specs.declared.fault.QueryFault.TheVariants.{NotJson, UnknownType, Field, BadInterval, LimitPassed, DoubledName, Memory}
use Rattle.druid_inventory_views.specs.Fold.{Published, fold_of}
use Rattle.druid_inventory_views.proofs.Beginnings.{prefix_self}
use Rattle.serde_json.specs.Data.{Data}
use Rattle.druid_broker.specs.Queries.{NamesField}
use Rattle.druid_broker.specs.Routes.{Route, health, query, sources, load_status, entry, nowhere, OrOutOfMemory, AnswersSources, AnswersNumber, AnswersEntry, AnswersPost, AnswersAt, loaded_text, is_loaded}
use Rattle.druid_broker.specs.Questions.{Asks, RefusesBody, Settles, Answers}
use Rattle.druid_broker.specs.declared.question.Question.{Question}
use Rattle.druid_broker.specs.declared.question.Question.TheVariants as asks
use Rattle.druid_base.specs.Numbers.{number_at}
use Rattle.druid_segment_descriptor.specs.declared.change.Ask.{Ask}
use Rattle.druid_sync_text.specs.Asks.{ask_at}
use Rattle.std.proofs.lemmas.Bool.{false≢true}
use Rattle.druid_broker.specs.Views.{TakesInventory, AnswersUnread, RespondsAt, RespondsBy}

-- bytes that read as a query are not refused as one
pub one_reading : (bytes : List ℕ) (asked : Query) (fault : QueryFault) → fault ≢ Memory → IsReadOf bytes (Ok asked) → IsReadOf bytes (Err fault) → ⊥
one_reading bytes asked fault had_memory reads refused = by_fault fault had_memory refused
  where
    same_data : (d : Data) → ReadsAs bytes d → query_at d ≡ Ok asked
    same_data d r = let one : reads.0 ≡ d = same_Some (sym reads.1.1 ∙ r.1) in subst (λ (e : Data). query_at e ≡ Ok asked) one reads.2
      where
        same_Some : {A : Type 0} {x y : A} → Some x ≡ Some y → x ≡ y
        same_Some e = cc

    not_refused : (d : Data) (e : Refusal) → ReadsAs bytes d → query_at d ≡ Err e → ⊥
    not_refused d e r is = apart (sym (same_data d r) ∙ is)
      where
        apart : Path (Result Query Refusal) (Ok asked) (Err e) → ⊥
        apart h = cc

    by_fault : (fault : QueryFault) → fault ≢ Memory → IsReadOf bytes (Err fault) → ⊥
    by_fault NotJson had none = none reads.0 reads.1
    by_fault UnknownType had r = not_refused r.0 _ r.1 r.2
    by_fault (Field key) had r = not_refused r.0 _ r.1 r.2
    by_fault BadInterval had r = not_refused r.0 _ r.1 r.2
    by_fault LimitPassed had r = not_refused r.0 _ r.1 r.2
    by_fault DoubledName had r = not_refused r.0 _ r.1 r.2
    by_fault Memory had r = had refl

prefix_same : (seen now : Published) → now ≡ seen → IsPrefix seen now
prefix_same seen now same = subst (λ (l : Published). IsPrefix seen l) (sym same) (prefix_self seen)

-- what was sent of an answer
module _ (R : RequestValue → ℕ → List ℕ → Type 0) (Stays : Type 0) (request : RequestValue) (before after old new : Option (List ℕ)) (status : ℕ) (body : List ℕ) where
  pub sent : (r : Result ℕ WireFault) → WasRead before after request → R request status body
      → IfOk r (IsSent old new status body) → IfOk r (IsServed R Stays before after old new)
  sent (Ok s) read answer is = served R Stays request before after old new read s (status, body, answer, is)
  sent (Err fault) read answer is = tt

  pub cut_short : (r : Result ℕ WireFault) → WasRead before after request → R request status body
      → IfErr r (IsCutShort old new status body) → IfErr r (FailsToServe R Stays before after old new)
  cut_short (Ok s) read answer is = tt
  cut_short (Err fault) read answer is = unsent R Stays request before after old new read fault (status, body, answer, is)

-- an answer by way of a view
module _ {L : Type 0} (step : L → List ℕ → Came → L → Type 0) (order : List ℕ → List ℕ) (opening : List Entry) (seen now : Published) (old new : List L) where
  pub goes_on : (request : RequestValue) (status : ℕ) (body : List ℕ) → RespondsBy step order opening seen now old new request status body → IsPrefix seen now
  goes_on request status body (inl (takes, prefix, answer)) = prefix
  goes_on request status body (inr (inl (memory, answer, same, links))) = prefix_same seen now same
  goes_on request status body (inr (inr (takes, unread, same, links))) = prefix_same seen now same

  -- it is taken, and was read
  pub known : (route : Route) (request : RequestValue) (status : ℕ) (body : List ℕ) (inventory found : List Entry) → found ≡ inventory → TakesInventory route request
      → IsPrefix seen now → inventory ≡ fold_of opening now
      → AnswersAt step order route found old new request status body → RespondsAt step order opening route seen now old new request status body
  known route request status body inventory found same takes prefix folds answer =
      inl (takes, prefix, subst (λ (i : List Entry). AnswersAt step order route i old new request status body) (same ∙ folds) answer)

  -- where nothing is read, that is reported
  pub unread : (route : Route) (request : RequestValue) (status : ℕ) (body : List ℕ) → TakesInventory route request
      → AnswersUnread status body → now ≡ seen → new ≡ old → RespondsAt step order opening route seen now old new request status body
  unread route request status body takes reported same links = inr (inr (takes, reported, same, links))

  module _ (request : RequestValue) (status : ℕ) (body : List ℕ) (posted : bytes_eq request.method (codes "POST") ≡ true) (same : now ≡ seen) (links : new ≡ old) where
    -- the same whatever is known
    whatever : (TakesInventory query request → IsOutOfMemory status body) → ((inventory : List Entry) → AnswersPost step order true inventory request.body old new status body)
        → RespondsAt step order opening query seen now old new request status body
    whatever memory answer = inr (inl (memory, λ inventory. subst (λ (b : Bool). AnswersPost step order b inventory request.body old new status body) (sym posted) (answer inventory), same, links))

    refused_as : (fault : QueryFault) → fault ≢ Memory → IsReadOf request.body (Err fault) → Reports 400 (refusal_text fault) status body ⊎ (NamesField fault × IsOutOfMemory status body)
        → RespondsAt step order opening query seen now old new request status body
    refused_as fault had read (inl reported) =
        whatever (λ takes. absurd (one_reading request.body takes.1.0 fault had takes.1.1 read)) (λ inventory. inl (inr (fault, had, read, reported, links)))
    refused_as fault had read (inr lacks) =
        whatever (λ takes. lacks.1) (λ inventory. inr (inr (inl (fault, lacks.0, read, links)), lacks.1))

    -- what was posted is no query, or memory was refused to read it
    refused : (fault : QueryFault) → IsReadOf request.body (Err fault) → (fault ≢ Memory → Reports 400 (refusal_text fault) status body ⊎ (NamesField fault × IsOutOfMemory status body))
        → (fault ≡ Memory → IsOutOfMemory status body) → RespondsAt step order opening query seen now old new request status body
    refused NotJson read reported memory = let had : NotJson ≢ Memory = λ e. cc in refused_as NotJson had read (reported had)
    refused UnknownType read reported memory = let had : UnknownType ≢ Memory = λ e. cc in refused_as UnknownType had read (reported had)
    refused (Field key) read reported memory = let had : Field key ≢ Memory = λ e. cc in refused_as (Field key) had read (reported had)
    refused BadInterval read reported memory = let had : BadInterval ≢ Memory = λ e. cc in refused_as BadInterval had read (reported had)
    refused LimitPassed read reported memory = let had : LimitPassed ≢ Memory = λ e. cc in refused_as LimitPassed had read (reported had)
    refused DoubledName read reported memory = let had : DoubledName ≢ Memory = λ e. cc in refused_as DoubledName had read (reported had)
    refused Memory read reported memory = whatever (λ takes. memory refl) (λ inventory. inr (inl (read, links), memory refl))

    refused_body : RefusesBody request.body status body → RespondsAt step order opening query seen now old new request status body
    refused_body (inl (fault, read, reported, memory)) = refused fault read reported memory
    refused_body (inr (asked, read, memory)) = unread query request status body (posted, (asked, read)) (inr memory) same links

  module _ (request : RequestValue) (status : ℕ) (body : List ℕ) (same : now ≡ seen) (links : new ≡ old) where
    settled_post : (posts : Bool) → bytes_eq request.method (codes "POST") ≡ posts → Allows posts (RefusesBody request.body) status body
        → RespondsAt step order opening query seen now old new request status body
    settled_post true is refuses = refused_body request status body is same links refuses
    settled_post false is reported =
        inr (inl (
          λ takes. absurd (false≢true (sym is ∙ takes.0)),
          λ inventory. subst (λ (b : Bool). AnswersPost step order b inventory request.body old new status body) (sym is) (reported, links),
          same,
          links,
        ))

    -- a request that puts no question is answered whatever is known
    pub settled : (route : Route) → Settles route request status body → RespondsAt step order opening route seen now old new request status body
    settled health (never, reported) = inr (inl (λ takes. absurd (never takes), λ inventory. (reported inventory, links), same, links))
    settled query refuses = settled_post (bytes_eq request.method (codes "POST")) refl refuses
    settled sources (never, reported) = inr (inl (λ takes. absurd (never takes), λ inventory. (reported inventory, links), same, links))
    settled load_status (never, reported) = inr (inl (λ takes. absurd (never takes), λ inventory. (reported inventory, links), same, links))
    settled (entry node) (never, reported) = inr (inl (λ takes. absurd (never takes), λ inventory. (reported inventory, links), same, links))
    settled nowhere (never, reported) = inr (inl (λ takes. absurd (never takes), λ inventory. (reported inventory, links), same, links))

some_is : {A : Type 0} (o : Option A) (x : A) → o ≡ Some x → IsSome o
some_is o x is = subst IsSome (sym is) refl

-- a question takes the inventory
pub takes_of : (route : Route) (request : RequestValue) (question : Question) → Asks route request question → TakesInventory route request
takes_of health request question asked = absurd asked
takes_of query request asks.Sources asked = absurd asked
takes_of query request asks.LoadStatus asked = absurd asked
takes_of query request (asks.Entry number ask) asked = absurd asked
takes_of query request (asks.Rows rows timeout) asked = (asked.0, (rows, asked.1))
takes_of sources request asks.Sources asked = asked
takes_of sources request asks.LoadStatus asked = absurd asked
takes_of sources request (asks.Entry number ask) asked = absurd asked
takes_of sources request (asks.Rows rows timeout) asked = absurd asked
takes_of load_status request asks.Sources asked = absurd asked
takes_of load_status request asks.LoadStatus asked = asked
takes_of load_status request (asks.Entry number ask) asked = absurd asked
takes_of load_status request (asks.Rows rows timeout) asked = absurd asked
takes_of (entry node) request asks.Sources asked = absurd asked
takes_of (entry node) request asks.LoadStatus asked = absurd asked
takes_of (entry node) request (asks.Entry number ask) asked =
    (asked.0, some_is (number_at node) number asked.1, some_is (ask_at (parameters_of request.target)) ask asked.2)
takes_of (entry node) request (asks.Rows rows timeout) asked = absurd asked
takes_of nowhere request question asked = absurd asked

module _ {L : Type 0} (step : L → List ℕ → Came → L → Type 0) (order : List ℕ → List ℕ) (inventory : List Entry) (old new : List L) (request : RequestValue) (status : ℕ) (body : List ℕ) where
  gets : (P : ℕ → List ℕ → Type 0) → bytes_eq request.method (codes "GET") ≡ true → P status body → Gets request P status body
  gets P is answer = subst (λ (b : Bool). Allows b P status body) (sym is) answer

  -- what an inventory answers to the question of a request is what it answers to the request
  pub of_question : (route : Route) (question : Question) → Asks route request question → Answers step order question inventory old new status body
      → AnswersAt step order route inventory old new request status body
  of_question health question asked answer = absurd asked
  of_question query asks.Sources asked answer = absurd asked
  of_question query asks.LoadStatus asked answer = absurd asked
  of_question query (asks.Entry number ask) asked answer = absurd asked
  of_question query (asks.Rows rows timeout) asked answer =
      subst (λ (b : Bool). AnswersPost step order b inventory request.body old new status body) (sym asked.0) (answer request.body asked.1)
  of_question sources asks.Sources asked answer = (gets (OrOutOfMemory (AnswersSources inventory)) asked answer.0, answer.1)
  of_question sources asks.LoadStatus asked answer = absurd asked
  of_question sources (asks.Entry number ask) asked answer = absurd asked
  of_question sources (asks.Rows rows timeout) asked answer = absurd asked
  of_question load_status asks.Sources asked answer = absurd asked
  of_question load_status asks.LoadStatus asked answer = (gets (Reports 200 (loaded_text (is_loaded inventory))) asked answer.0, answer.1)
  of_question load_status (asks.Entry number ask) asked answer = absurd asked
  of_question load_status (asks.Rows rows timeout) asked answer = absurd asked
  of_question (entry node) asks.Sources asked answer = absurd asked
  of_question (entry node) asks.LoadStatus asked answer = absurd asked
  of_question (entry node) (asks.Entry number ask) asked answer =
      let entry_reported : AnswersEntry inventory (number_at node) (ask_at (parameters_of request.target)) status body =
      subst (λ (o : Option Ask). AnswersEntry inventory (number_at node) o status body) (sym asked.2)
      (subst (λ (n : Option ℕ). AnswersNumber inventory n ask status body) (sym asked.1) answer.0) in
      (gets (AnswersEntry inventory (number_at node) (ask_at (parameters_of request.target))) asked.0 entry_reported, answer.1)
  of_question (entry node) (asks.Rows rows timeout) asked answer = absurd asked
  of_question nowhere question asked answer = absurd asked
