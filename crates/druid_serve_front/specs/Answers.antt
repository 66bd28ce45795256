-- What is handed to a client.
use Rattle.std.specs.Prelude.{◌≡◌, ℕ, List}
use Rattle.druid_http_wire.specs.Written.{answer_text}
use Rattle.druid_http_wire.specs.Served.{status_sent}

-- the bytes are the text of one response, which is sent with that status
pub record IsAnswer (sent : ℕ) (bytes : List ℕ) : Type 0 where
  pub status : ℕ
  pub body : List ℕ
  pub text : bytes ≡ answer_text status body
  pub status_is : sent ≡ status_sent status body

-- an answer: the status that it is sent with, and its bytes
pub record AnswerValue : Type 0 where
  pub sent : ℕ
  pub bytes : List ℕ
