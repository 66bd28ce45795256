-- What was written for the bytes of a request.
use Rattle.std.proofs.Common.{◌≡◌, ◌⊎◌, inl, inr, ℕ, List, [], ◌∷◌, ◌++◌, length, length-append, append_assoc, append-nil, map, Option, Some, None, sym, ap, ◌∙◌, subst, arith}
use mathlib.Core.List.{IsPrefix}
use Rattle.druid_inventory.specs.Entry.{Entry, fresh}
use Rattle.druid_http_message.specs.Requests.{RequestValue}
use Rattle.druid_http_message.specs.declared.fault.WireFault.TheVariants.{Read, Memory}
use Rattle.druid_http_wire.specs.Messages.{IsRequest}
use Rattle.druid_http_wire.specs.Served.{IsServed, Serves, IsRefused, refusal_text}
use Rattle.druid_http_wire.specs.Written.{answer_text}
use Rattle.druid_http_wire.proofs.OnceLemmas.{one_request, request_faults}
use Rattle.druid_node.specs.State.{State}
use Rattle.druid_inventory_views.specs.Fold.{Published}
use Rattle.druid_broker.specs.Views.{RespondsBy, AnswersUnread}
use Rattle.druid_laws_tests.specs.Nodes.{IsNode}
use Rattle.druid_laws_tests.specs.Exchanges.{ExchangesWithNode}
use Rattle.druid_laws_tests.specs.FollowedNodes.{AreFollowed}
use Rattle.druid_laws_tests.specs.Answers.{IsExactOver, AnswersExactly}
use Rattle.druid_laws_tests.proofs.LawLemmas.{ExactOverTwo}

-- ---- lists of what was published

prefix_then : (a b c : Published) → IsPrefix a b → IsPrefix b c → IsPrefix a c
prefix_then a b c (m, e) (n, f) = (m ++ n, sym (append_assoc a m n) ∙ ap (λ (l : Published). l ++ n) e ∙ f)

-- lists of one length, of which one begins the other, are one
same_length : (short long : Published) → IsPrefix short long → length long ≡ length short → long ≡ short
same_length short long (more, e) same = by more e
  where
    by : (rest : Published) → short ++ rest ≡ long → long ≡ short
    by [] e = sym e ∙ append-nil short
    by (x ∷ rest) e = absurd (omega (arith, ap length e, length-append short (x ∷ rest), same))

-- ---- the bytes of a request

no_text : (text : List ℕ) → Path (Option (List ℕ)) None (Some text) → ⊥
no_text text e = cc

-- bytes that are a request are not refused
not_refused : (bytes : List ℕ) (request : RequestValue) (rest : List ℕ) (status : ℕ) (body : List ℕ) → IsRequest bytes request rest → IsRefused (Some bytes) status body → ⊥
not_refused bytes request rest status body is refused = by (request_faults bytes request rest refused.fault is refused.has)
  where
    by : (refused.fault ≡ Read) ⊎ (refused.fault ≡ Memory) → ⊥
    by (inl read) = no_text body (sym (ap refusal_text read) ∙ refused.text_is)
    by (inr memory) = no_text body (sym (ap refusal_text memory) ∙ refused.text_is)

served : (law : ExactOverTwo) (order : List ℕ → List ℕ) (names : List (List ℕ)) (seen now : Published) (left right : State) (new : List State)
    (bytes written : List ℕ) (after : Option (List ℕ)) (sent : ℕ) (Stays : Type 0)
    → length names ≡ 2 → IsNode left → IsNode right → AreFollowed left right now
    → IsServed (RespondsBy ExchangesWithNode order (map fresh names) seen now (left ∷ right ∷ []) new) Stays (Some bytes) after (Some []) (Some written) sent
    → AnswersExactly left right bytes written
served law order names seen now left right new bytes written after sent Stays two is_left is_right followed done first second request rest asked
    valid_first valid_second last_first last_second is posted = by done.served
  where
    by : Serves (RespondsBy ExchangesWithNode order (map fresh names) seen now (left ∷ right ∷ []) new) Stays (Some bytes) after done.status done.body
        → (status : ℕ) × (body : List ℕ) × (written ≡ answer_text status body) × (IsExactOver (first ∷ second ∷ []) left right asked status body ⊎ AnswersUnread status body)
    by (inl answered) =
        let same : answered.request ≡ request = (one_request bytes answered.request request answered.read.0 rest answered.read.2 is).0 in
        let answer = subst (λ (r : RequestValue). RespondsBy ExchangesWithNode order (map fresh names) seen now (left ∷ right ∷ []) new r done.status done.body) same answered.answer in (
          done.status,
          done.body,
          done.is_sent.written,
          law order names seen now left right new first second request asked done.status done.body two is_left is_right followed valid_first valid_second last_first last_second posted answer,
        )
    by (inr (refused, stays)) = absurd (not_refused bytes request rest done.status done.body is refused)

-- a view that has seen no more than two replies, of which it learned
pub served_exactly : (law : ExactOverTwo) (order : List ℕ → List ℕ) (opening : List Entry) (names : List (List ℕ)) (reported seen now : Published) (left right : State) (links new : List State)
    (bytes start written : List ℕ) (after : Option (List ℕ)) (sent : ℕ) (Stays : Type 0)
    → length names ≡ 2 → opening ≡ map fresh names → IsPrefix reported seen → IsPrefix seen now → length now ≡ 2 → start ≡ []
    → IsServed (RespondsBy ExchangesWithNode order opening seen now links new) Stays (Some bytes) after (Some start) (Some written) sent
    → links ≡ left ∷ right ∷ [] → IsNode left → IsNode right → AreFollowed left right reported → AnswersExactly left right bytes written
served_exactly law order opening names reported seen now left right links new bytes start written after sent Stays two begins learned read count empty done are is_left is_right followed =
    let same : now ≡ reported = same_length reported now (prefix_then reported seen now learned read) (count ∙ sym (ap length followed.are)) in
    served law order names seen now left right new bytes written after sent Stays two is_left is_right (subst (AreFollowed left right) (sym same) followed)
    (subst (λ (l : List State). IsServed (RespondsBy ExchangesWithNode order (map fresh names) seen now l new) Stays (Some bytes) after (Some []) (Some written) sent) are
    (subst (λ (o : List Entry). IsServed (RespondsBy ExchangesWithNode order o seen now links new) Stays (Some bytes) after (Some []) (Some written) sent) begins
    (subst (λ (text : List ℕ). IsServed (RespondsBy ExchangesWithNode order opening seen now links new) Stays (Some bytes) after (Some text) (Some written) sent) empty done)))
