-- The texts of messages, and what a writer got of them.
use Rattle.std.specs.Prelude.{◌<◌, ◌≤◌, ℕ, List, [], ◌++◌, length, codes, decimal, nat_le, unwrap_or, if◌then◌else◌, Option}
use Rattle.std.specs.List.{flat_map}
use Rattle.std.specs.Borrow.{Bor}
use Rattle.std.specs.Io.KnownBytes.{Keeps}
use Rattle.http.specs.StatusCode.{reason_phrase}
use Rattle.druid_stream.specs.Fronts.{AppendsFront}
use Rattle.druid_http_message.specs.Requests.{RequestValue}
use Rattle.druid_http_message.specs.declared.fault.WireFault.{WireFault}
use Rattle.druid_http_message.specs.declared.fault.WireFault.TheVariants.{Cut, Read, Write, BadHead, HeadTooLong, NoLength, BodyTooLong, Connect, Memory}
use Rattle.druid_http_wire.specs.Limits.{max_body}

-- the fields that each message has, for a body of so many bytes, and the empty line
abbrev pub fields_text : ℕ → List ℕ
fields_text n =
    codes "Content-Type: application/json\r\nContent-Length: " ++ (decimal n ++ codes "\r\nConnection: close\r\n\r\n")

unfoldable pub request_head : RequestValue → List ℕ
request_head request =
    request.method ++ (codes " " ++ (request.target ++ (codes " HTTP/1.1\r\nHost: localhost\r\n" ++ fields_text (length request.body))))

abbrev pub request_text : RequestValue → List ℕ
request_text request = request_head request ++ request.body

-- the phrase of a status, which is empty where it has none
abbrev pub phrase_of : ℕ → List ℕ
phrase_of status = unwrap_or (reason_phrase status) []

unfoldable pub response_head : ℕ → ℕ → List ℕ
response_head status n =
    codes "HTTP/1.1 " ++ (decimal status ++ (codes " " ++ (phrase_of status ++ (codes "\r\n" ++ fields_text n))))

abbrev pub response_text : ℕ → List ℕ → List ℕ
response_text status body = response_head status (length body) ++ body

-- a body that is too long is answered by another message
abbrev pub answer_text : ℕ → List ℕ → List ℕ
answer_text status body =
    if nat_le (length body) max_body then response_text status body
    else response_text 500 (codes "{\"error\":\"TooLarge\"}")

-- pieces, one after another
abbrev pub joined : List (Bor (List ℕ)) → List ℕ
joined pieces = flat_map (λ piece. piece.now) pieces

-- why a request was not written, and what the writer got of it
abbrev pub LacksRequest : RequestValue → Option (List ℕ) → Option (List ℕ) → WireFault → Type 0
LacksRequest request old new Cut = ⊥
LacksRequest request old new Read = ⊥
LacksRequest request old new Write = (length request.body ≤ max_body) × AppendsFront old new (request_text request)
LacksRequest request old new BadHead = ⊥
LacksRequest request old new HeadTooLong = ⊥
LacksRequest request old new NoLength = ⊥
LacksRequest request old new BodyTooLong = (max_body < length request.body) × Keeps old new
LacksRequest request old new Connect = ⊥
LacksRequest request old new Memory = (length request.body ≤ max_body) × AppendsFront old new (request_text request)
