-- Two data nodes, each asked once for all that it serves.
use Rattle.std.specs.Prelude.{◌≡◌, ℕ, List, [], ◌∷◌, Ok}
use Rattle.druid_segment_descriptor.specs.declared.change.Ask.TheVariants.{Whole}
use Rattle.druid_segment_descriptor.specs.declared.reply.Body.{Body}
use Rattle.druid_http_wire.specs.Written.{answer_text}
use Rattle.druid_node.specs.State.{State}
use Rattle.druid_node.specs.Routes.{RespondsInTurn}
use Rattle.druid_inventory_views.specs.Fold.{Published}
use Rattle.druid_broker_follow.specs.Turns.{ask_request, IsAnswerTo}

-- the node answered so to an ask for all, and a broker reads this reply of it
pub record IsFirstReply (state : State) (reply : Body) : Type 0 where
  pub status : ℕ
  pub body : List ℕ
  pub responds : RespondsInTurn state state (ask_request Whole) status body
  pub reported : IsAnswerTo (Ok (answer_text status body)) (Ok reply)

-- what was published is the first reply of each of the two
pub record AreFollowed (left right : State) (published : Published) : Type 0 where
  pub first : Body
  pub second : Body
  pub are : published ≡ (0, first) ∷ (1, second) ∷ []
  pub of_left : IsFirstReply left first
  pub of_right : IsFirstReply right second
