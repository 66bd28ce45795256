-- What a request asks of a node's state, and what an answer is made of. Only proofs and private functions use this.
use Rattle.std.specs.Prelude.{◌≡◌, ◌⊎◌, ⊤, ℕ, List, Some}
use Rattle.std.specs.Arc.{arc_value}
use Rattle.druid_segment_descriptor.specs.Mark.{Point}
use Rattle.druid_sync_text.specs.Back.{IsReadBack}
use Rattle.druid_sync_text.specs.Written.{reply_text}
use Rattle.druid_http_wire.specs.Served.{Reports, IsOutOfMemory}
use Rattle.druid_node.specs.State.{State}
use Rattle.druid_node.specs.Routes.{AnswersFound, AnswersSub}
use Rattle.druid_node.specs.Seen.{AreAtMark}
use Rattle.druid_node.specs.declared.question.Question.{Question}
use Rattle.druid_node.specs.declared.question.Question.TheVariants as asks
use Rattle.druid_node.specs.declared.basis.Basis.{Basis}
use Rattle.druid_node.specs.declared.basis.Basis.TheVariants as rests

-- what a state answers to a question, and what state there is then
abbrev pub Gives : State → State → Question → ℕ → List ℕ → Type 0
Gives old new (asks.Settled response) status body = (new ≡ old) × Reports response.status response.body status body
Gives old new (asks.Reply ask) status body = AnswersFound old new (Some ask) status body
Gives old new (asks.Answer sub) status body = (new ≡ old) × AnswersSub old.held sub status body

-- what a state answers to the question is such an answer
abbrev pub Asks : Question → (State → State → ℕ → List ℕ → Type 0) → Type 0
Asks question Answers = (old new : State) (status : ℕ) (body : List ℕ) → Gives old new question status body → Answers old new status body

-- the answer that is made of this
abbrev pub IsMadeOf : Basis → ℕ → List ℕ → Type 0
IsMadeOf (rests.Settled response) status body = Reports response.status response.body status body
IsMadeOf (rests.Reply reply) status body = IsReadBack reply × Reports 200 (reply_text reply) status body
IsMadeOf (rests.Held held sub) status body = AnswersSub (arc_value held) sub status body

-- what is made of this is what the state answers to the question
abbrev pub IsBasisOf : State → State → Question → Basis → Type 0
IsBasisOf old new question basis = (status : ℕ) (body : List ℕ) → IsMadeOf basis status body → Gives old new question status body

-- the answer to a question takes memory, unless it is settled
abbrev pub IsOpen : Question → Type 0
IsOpen (asks.Settled response) = ⊥
IsOpen (asks.Reply ask) = ⊤
IsOpen (asks.Answer sub) = ⊤

-- what is made of this takes memory
abbrev pub IsUnmade : Basis → Type 0
IsUnmade (rests.Settled response) = ⊥
IsUnmade (rests.Reply reply) = ⊤
IsUnmade (rests.Held held sub) = ⊤

-- the same, where out of memory may stand in the place of an answer that takes some
abbrev pub IsBasisInTurn : State → State → Question → Basis → Type 0
IsBasisInTurn old new question basis =
    ((status : ℕ) (body : List ℕ) → IsMadeOf basis status body
    → Gives old new question status body ⊎ (IsOpen question × IsOutOfMemory status body))
    × (IsUnmade basis → IsOpen question)

-- a state of that incarnation gave this, whose mark is the second and not below the first
abbrev pub IsBasisFrom : ℕ → Point → Point → Question → Basis → Type 0
IsBasisFrom incarnation before after question basis =
    (state next : State) × AreAtMark incarnation before after state next × IsBasisInTurn state next question basis

-- the answer that is made of this, where out of memory may stand in its place
abbrev pub IsMadeInTurn : Basis → ℕ → List ℕ → Type 0
IsMadeInTurn basis status body = IsMadeOf basis status body ⊎ (IsUnmade basis × IsOutOfMemory status body)
