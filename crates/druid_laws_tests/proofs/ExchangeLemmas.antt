-- What comes back from a data node over a link is the node's answer to what was sent, and so the exchanges of a query are honest.
use Rattle.std.proofs.Common.{◌≡◌, ◌⊎◌, inl, inr, ℕ, zero, suc, ◌<◌, List, [], ◌∷◌, Ok, Err, refl, sym, ap, ◌∙◌, subst, arith}
use Rattle.std.specs.Prelude.{Contains, IfOk}
use Rattle.druid_base.proofs.MemberLemmas.{Contains-cons, Contains-nil}
use Rattle.druid_segment_rows.specs.Segment.{Segment}
use Rattle.druid_query.specs.Query.{Query}
use Rattle.druid_query.specs.Asked.{Asked}
use Rattle.druid_query.specs.SubQuery.{subquery_text}
use Rattle.druid_link.specs.Links.{Came}
use Rattle.druid_http_message.specs.Requests.{RequestValue}
use Rattle.druid_http_message.specs.declared.fault.WireFault.{WireFault}
use Rattle.druid_http_wire.specs.Written.{request_text, answer_text}
use Rattle.druid_node.specs.State.{State}
use Rattle.druid_node.specs.Routes.{RespondsInTurn}
use Rattle.druid_broker_scatter.specs.Gathered.{Exchange, sub_of, request_for, Leads, AreMade}
use Rattle.druid_broker_scatter.specs.Exact.{IsHonest}
use Rattle.druid_laws_tests.specs.Exchanges.{IsAnswered, ExchangesWithNode}
use Rattle.druid_laws_tests.proofs.RequestLemmas.{post_read}

no_text : (fault : WireFault) (bytes : List ℕ) → Path Came (Err fault) (Ok bytes) → ⊥
no_text fault bytes e = cc

-- ---- one exchange

-- the node's answers to a request for pieces are honest
abbrev pub AnswersHonestly : State → Query → List Asked → ℕ → List Segment → Type 0
AnswersHonestly state query asked node segments =
    (status : ℕ) (body : List ℕ) → RespondsInTurn state state (request_for query asked) status body
    → IsHonest query segments (record { node = node; asked = asked; came = Ok (answer_text status body) })

-- and so is what comes back over a link, where it asked for them
honest_came : (state : State) (query : Query) (asked : List Asked) (node : ℕ) (segments : List Segment) (came : Came)
    → IfOk came (IsAnswered state (request_text (request_for query asked))) → AnswersHonestly state query asked node segments
    → IsHonest query segments (record { node = node; asked = asked; came = came })
honest_came state query asked node segments (Err fault) is honest = λ missing groups answers. absurd (no_text fault answers.bytes answers.came)
honest_came state query asked node segments (Ok text) is honest =
    let same : is.request ≡ request_for query asked = post_read (subquery_text (sub_of query asked)) is.request is.rest is.short is.read in
    subst (λ (bytes : List ℕ). IsHonest query segments (record { node = node; asked = asked; came = Ok bytes })) (sym is.written)
    (honest is.status is.body (subst (λ (r : RequestValue). RespondsInTurn state state r is.status is.body) same is.responds))

-- ---- the exchanges of a query

abbrev IsOfNode : State → Query → Exchange → Type 0
IsOfNode state query e = IfOk e.came (IsAnswered state (request_text (request_for query e.asked)))

-- what came of an exchange with the node is its answer
led : (query : Query) (node : ℕ) (exchanges : List Exchange) (old new : State) → Leads ExchangesWithNode query node exchanges old new
    → (e : Exchange) → Contains exchanges e → e.node ≡ node → IsOfNode old query e
led query node [] old new leads e there same = absurd (Contains-nil e there)
led query node (x ∷ more) old new leads e there same = by leads (Contains-cons x more e there) (λ at rest later. led query node more at new rest e later same)
  where
    by : Leads ExchangesWithNode query node (x ∷ more) old new → (x ≡ e) ⊎ Contains more e
        → ((at : State) → Leads ExchangesWithNode query node more at new → Contains more e → IsOfNode at query e) → IsOfNode old query e
    by (inl (is, next, step, rest)) (inl this) others = subst (λ (y : Exchange). IsOfNode old query y) this step.1
    by (inl (is, next, step, rest)) (inr later) others = subst (λ (s : State). IsOfNode s query e) step.0 (others next rest later)
    by (inr (other, rest)) (inl this) others = absurd (other (ap (λ (y : Exchange). y.node) this ∙ same))
    by (inr (other, rest)) (inr later) others = others old rest later

-- over links to two nodes
pub of_two : (query : Query) (exchanges : List Exchange) (left right : State) (new : List State) → AreMade ExchangesWithNode query exchanges (left ∷ right ∷ []) new
    → (e : Exchange) → Contains exchanges e → e.node < 2 → IsOfNode left query e ⊎ IsOfNode right query e
of_two query exchanges left right [] made e there low = absurd (omega (arith, made.count))
of_two query exchanges left right (a ∷ []) made e there low = absurd (omega (arith, made.count))
of_two query exchanges left right (a ∷ b ∷ c ∷ new) made e there low = absurd (omega (arith, made.count))
of_two query exchanges left right (a ∷ b ∷ []) made e there low = by e.node refl low
  where
    by : (node : ℕ) → e.node ≡ node → node < 2 → IsOfNode left query e ⊎ IsOfNode right query e
    by zero is low = inl (led query 0 exchanges left a (made.each 0 left a refl refl) e there is)
    by (suc zero) is low = inr (led query 1 exchanges right b (made.each 1 right b refl refl) e there is)
    by (suc (suc n)) is low = absurd (omega (arith, low))

-- where both nodes' answers are honest, so is each exchange
pub honest_of_two : (query : Query) (exchanges : List Exchange) (left right : State) (new : List State) (segments : List Segment)
    → AreMade ExchangesWithNode query exchanges (left ∷ right ∷ []) new
    → (e : Exchange) → Contains exchanges e → e.node < 2
    → AnswersHonestly left query e.asked e.node segments → AnswersHonestly right query e.asked e.node segments → IsHonest query segments e
honest_of_two query exchanges left right new segments made e there low at_left at_right = by (of_two query exchanges left right new made e there low)
  where
    by : IsOfNode left query e ⊎ IsOfNode right query e → IsHonest query segments e
    by (inl of_left) = honest_came left query e.asked e.node segments e.came of_left at_left
    by (inr of_right) = honest_came right query e.asked e.node segments e.came of_right at_right
