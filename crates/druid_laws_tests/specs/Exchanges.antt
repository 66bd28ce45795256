-- What comes back over a link to a data node.
use Rattle.std.specs.Prelude.{◌≡◌, ◌≤◌, ℕ, List, length, IfOk}
use Rattle.druid_link.specs.Links.{Came}
use Rattle.druid_http_message.specs.Requests.{RequestValue}
use Rattle.druid_http_wire.specs.Messages.{IsRequest}
use Rattle.druid_http_wire.specs.Written.{answer_text}
use Rattle.druid_http_wire.specs.Limits.{max_body}
use Rattle.druid_node.specs.State.{State}
use Rattle.druid_node.specs.Routes.{RespondsInTurn}

-- the bytes begin with a request, and the text is that of the node's answer to it
pub record IsAnswered (state : State) (bytes text : List ℕ) : Type 0 where
  pub short : length bytes ≤ max_body
  pub request : RequestValue
  pub rest : List ℕ
  pub read : IsRequest bytes request rest
  pub status : ℕ
  pub body : List ℕ
  pub responds : RespondsInTurn state state request status body
  pub written : text ≡ answer_text status body

-- an exchange leaves the node as it is, and what comes back, if anything does, is its answer
abbrev pub ExchangesWithNode : State → List ℕ → Came → State → Type 0
ExchangesWithNode old bytes came new = (new ≡ old) × IfOk came (IsAnswered old bytes)
