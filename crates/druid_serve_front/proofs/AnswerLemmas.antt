-- What a worker wrote into memory is an answer: for its callers.
use Rattle.std.proofs.Common.{◌≡◌, ℕ, List, [], ◌++◌, Option, Some, ap, subst, ◌∙◌}
use Rattle.std.specs.Io.KnownBytes.{Appends}
use Rattle.druid_http_message.specs.Requests.{RequestValue}
use Rattle.druid_http_wire.specs.Served.{IsSent, IsServed}
use Rattle.druid_http_wire.specs.Written.{answer_text}
use Rattle.druid_serve_front.specs.Answers.{IsAnswer}

-- a response was written where nothing stood
pub sent_is_answer : (old new : List ℕ) (status : ℕ) (body : List ℕ) (sent : ℕ) → old ≡ [] → IsSent (Some old) (Some new) status body sent → IsAnswer sent new
sent_is_answer old new status body sent empty is = record {
  status = status;
  body = body;
  text = is.written ∙ ap (λ (l : List ℕ). l ++ answer_text status body) empty;
  status_is = is.status_is;
}

-- a request was served so
pub served_is_answer : (Responds : RequestValue → ℕ → List ℕ → Type 0) (Stays : Type 0) (before after : Option (List ℕ)) (old new : List ℕ) (sent : ℕ) → old ≡ []
    → IsServed Responds Stays before after (Some old) (Some new) sent → IsAnswer sent new
served_is_answer Responds Stays before after old new sent empty is = sent_is_answer old new is.status is.body sent empty is.is_sent
