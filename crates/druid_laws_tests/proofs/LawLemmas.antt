-- The laws of the headline, given the replies and the answers of two nodes.
use Rattle.std.proofs.Common.{◌≡◌, ◌⊎◌, ℕ, List, [], ◌∷◌, length, map, Ok, refl, sym, ap, ◌∙◌, subst, arith}
use Rattle.druid_segment_descriptor.specs.declared.change.Ask.TheVariants.{Whole}
use Rattle.druid_segment_descriptor.specs.declared.reply.Body.{Body}
use Rattle.druid_inventory.specs.Entry.{fresh}
use Rattle.druid_segment_rows.specs.Segment.{Segment}
use Rattle.druid_query.specs.Query.{Query}
use Rattle.druid_query.specs.Read.{IsQuery}
use Rattle.druid_query.specs.Asked.{Asked}
use Rattle.druid_query.specs.SubQuery.{IsAsked}
use Rattle.druid_http_message.specs.Requests.{RequestValue}
use Rattle.druid_http_wire.specs.Written.{answer_text}
use Rattle.druid_node.specs.State.{State, IsState}
use Rattle.druid_node.specs.Routes.{RespondsInTurn, IsReplyTo}
use Rattle.druid_inventory_views.specs.Fold.{Published, fold_of}
use Rattle.druid_broker_scatter.specs.Gathered.{request_for}
use Rattle.druid_broker_scatter.specs.Exact as pieces
use Rattle.druid_broker_follow.specs.Turns.{ask_request, IsAnswerTo}
use Rattle.druid_broker.specs.Views.{RespondsBy, AnswersUnread}
use Rattle.druid_laws_world.specs.World.{Life, IsLife, IsWorld, IsHonest, eras_of, marks_of}
use Rattle.druid_laws_world.specs.Run.{AreHonest}
use Rattle.druid_laws_headline.specs.Headline.{AreAmong, IsLastOf, IsPosted, IsExactAt}
use Rattle.druid_laws_tests.specs.Nodes.{IsNode}
use Rattle.druid_laws_tests.specs.Exchanges.{ExchangesWithNode}
use Rattle.druid_laws_tests.specs.FollowedNodes.{IsFirstReply, AreFollowed}
use Rattle.druid_laws_tests.specs.Answers.{IsExactOver}
use Rattle.druid_laws_tests.proofs.NodeLemmas.{snapshot_of, snapshot_reported}
use Rattle.druid_laws_tests.proofs.WholeLemmas.{NodesAreHonest, both_honest, whole}

-- the laws, of an ask for all
abbrev pub Reported : Type 0
Reported =
    (state : State) (status : ℕ) (body : List ℕ) (reply : Body) → RespondsInTurn state state (ask_request Whole) status body
    → IsAnswerTo (Ok (answer_text status body)) (Ok reply) → IsReplyTo state.history state.history Whole reply

abbrev pub Honest : Type 0
Honest =
    (life : Life) (state : State) (status : ℕ) (body : List ℕ) (reply : Body) → IsLife life → IsLastOf life state → RespondsInTurn state state (ask_request Whole) status body
    → IsAnswerTo (Ok (answer_text status body)) (Ok reply) → IsHonest (eras_of life) reply

-- of requests for pieces
abbrev pub HonestPieces : Type 0
HonestPieces =
    (state : State) (query : Query) (asked : List Asked) (node : ℕ) (status : ℕ) (body : List ℕ) (segments : List Segment)
    → IsState state → IsQuery query → IsAsked query.source asked → RespondsInTurn state state (request_for query asked) status body
    → AreAmong asked state.held segments → pieces.IsHonest query segments (record { node = node; asked = asked; came = Ok (answer_text status body) })

-- and of what a broker answers
abbrev pub Exact : Type 0
Exact =
    (order : List ℕ → List ℕ) (world : List Life) (names : List (List ℕ)) (seen now : Published) (request : RequestValue) (asked : Query)
    (old new : List State) (status : ℕ) (body : List ℕ)
    → IsWorld world → length names ≡ length world → AreHonest world now → IsPosted request asked
    → RespondsBy ExchangesWithNode order (map fresh names) seen now old new request status body
    → IsExactAt ExchangesWithNode world (marks_of (fold_of (map fresh names) now)) asked old new status body ⊎ AnswersUnread status body

query_of : (request : RequestValue) (asked : Query) → IsPosted request asked → IsQuery asked
query_of request asked posted = (posted.read.0, posted.read.2)

nodes_honest : (law : HonestPieces) (asked : Query) → IsQuery asked → NodesAreHonest asked
nodes_honest law asked is state pieces node segments kept may among status body responds =
    law state asked pieces node status body segments kept.holds is may responds among

first_is : (reported : Reported) (state : State) (reply : Body) → IsNode state → IsFirstReply state reply → reply ≡ snapshot_of state
first_is reported state reply is first = snapshot_reported state state reply is.kept is.small (reported state first.status first.body reply first.responds first.reported)

first_honest : (reported : Reported) (honest : Honest) (life : Life) (state : State) (reply : Body) → IsNode state → IsFirstReply state reply → IsLife life → IsLastOf life state
    → IsHonest (eras_of life) (snapshot_of state)
first_honest reported honest life state reply is first valid last =
    subst (IsHonest (eras_of life)) (first_is reported state reply is first) (honest life state first.status first.body reply valid last first.responds first.reported)

published_is : (reported : Reported) (left right : State) (now : Published) → IsNode left → IsNode right → AreFollowed left right now
    → now ≡ (0, snapshot_of left) ∷ (1, snapshot_of right) ∷ []
published_is reported left right now is_left is_right f =
    f.are ∙ ap (λ (r : Body). (0, r) ∷ (1, f.second) ∷ []) (first_is reported left f.first is_left f.of_left)
    ∙ ap (λ (r : Body). (0, snapshot_of left) ∷ (1, r) ∷ []) (first_is reported right f.second is_right f.of_right)

-- what a broker answers over two nodes
abbrev pub ExactOverTwo : Type 0
ExactOverTwo =
    (order : List ℕ → List ℕ) (names : List (List ℕ)) (seen now : Published) (left right : State) (new : List State)
    (first second : Life) (request : RequestValue) (asked : Query) (status : ℕ) (body : List ℕ)
    → length names ≡ 2 → IsNode left → IsNode right → AreFollowed left right now
    → IsLife first → IsLife second → IsLastOf first left → IsLastOf second right → IsPosted request asked
    → RespondsBy ExchangesWithNode order (map fresh names) seen now (left ∷ right ∷ []) new request status body
    → IsExactOver (first ∷ second ∷ []) left right asked status body ⊎ AnswersUnread status body

pub exact_answer : (reported : Reported) (honest : Honest) (honest_pieces : HonestPieces) (exact : Exact) → ExactOverTwo
exact_answer reported honest honest_pieces exact order [] seen now left right new first second request asked status body two is_left is_right followed
    valid_first valid_second last_first last_second posted responds = absurd (omega (arith, two))
exact_answer reported honest honest_pieces exact order (x ∷ []) seen now left right new first second request asked status body two is_left is_right followed
    valid_first valid_second last_first last_second posted responds = absurd (omega (arith, two))
exact_answer reported honest honest_pieces exact order (x ∷ y ∷ z ∷ names) seen now left right new first second request asked status body two is_left is_right followed
    valid_first valid_second last_first last_second posted responds = absurd (omega (arith, two))
exact_answer reported honest honest_pieces exact order (x ∷ y ∷ []) seen now left right new first second request asked status body two is_left is_right followed
    valid_first valid_second last_first last_second posted responds =
    let now_is = published_is reported left right now is_left is_right followed in
    let at_left = first_honest reported honest first left followed.first is_left followed.of_left valid_first last_first in
    let at_right = first_honest reported honest second right followed.second is_right followed.of_right valid_second last_second in
    let are_honest = subst (AreHonest (first ∷ second ∷ [])) (sym now_is) (both_honest first second (snapshot_of left) (snapshot_of right) at_left at_right) in
    let answer = exact order (first ∷ second ∷ []) (x ∷ y ∷ []) seen now request asked (left ∷ right ∷ []) new status body (valid_first, (valid_second, tt)) refl are_honest posted responds in
    whole first second left right x y asked new status body (AnswersUnread status body) is_left is_right at_left at_right
    (nodes_honest honest_pieces asked (query_of request asked posted))
    (subst (λ (p : Published). IsExactAt ExchangesWithNode (first ∷ second ∷ []) (marks_of (fold_of (fresh x ∷ fresh y ∷ []) p)) asked (left ∷ right ∷ []) new status body
    ⊎ AnswersUnread status body) now_is answer)
