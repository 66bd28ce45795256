-- Messages in the words of the grammar alone, which says nothing of lines.
use Rattle.std.specs.Prelude.{◌≡◌, ◌≤◌, ℕ, List, [], ◌++◌, length, Ok}
use Rattle.httparse.specs.Grammar.{RequestHead, ReadsRequest, print_request, ResponseHead, ReadsResponse, print_response, status_code}
use Rattle.druid_http_message.specs.Requests.{RequestValue}
use Rattle.druid_http_wire.specs.Messages.{request_length, response_length}
use Rattle.druid_http_wire.specs.Limits.{max_head, max_fields}

-- the head without the blank lines before it
abbrev pub bare_request : RequestHead → RequestHead
bare_request head = record head { blank = [] }

abbrev pub bare_response : ResponseHead → ResponseHead
bare_response head = record head { blank = [] }

-- the input is a head of the grammar, a body as long as it says, and then the rest; and the head, with the blank lines before it,
-- is within its limits
pub record IsGrammarRequest (input : List ℕ) (request : RequestValue) (rest : List ℕ) : Type 0 where
  pub head : RequestHead
  pub reads : ReadsRequest input head (request.body ++ rest)
  pub short : length (print_request head) ≤ max_head
  pub few : length head.fields ≤ max_fields
  pub method : request.method ≡ head.method
  pub target : request.target ≡ head.target
  pub whole : request_length head ≡ Ok (length request.body)

pub record IsGrammarResponse (input : List ℕ) (status : ℕ) (body rest : List ℕ) : Type 0 where
  pub head : ResponseHead
  pub reads : ReadsResponse input head (body ++ rest)
  pub short : length (print_response head) ≤ max_head
  pub few : length head.fields ≤ max_fields
  pub high : 100 ≤ status
  pub code : status ≡ status_code head
  pub whole : response_length head ≡ Ok (length body)
