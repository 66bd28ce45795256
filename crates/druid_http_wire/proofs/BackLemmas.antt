-- What is written is read back.
use Rattle.std.proofs.Common.{◌≡◌, ℕ, zero, suc, ◌<◌, ◌≤◌, ◌^◌, Bool, true, ◌&&◌, nat_le, List, [], ◌∷◌, ◌++◌, All, map, codes, bytes_eq, decimal, length, length-append, append_assoc, append-nil, Some, IsUtf8, refl, sym, ap, subst, ◌∙◌, arith, Ok}
use Rattle.std.specs.List.{list_all}
use Rattle.std.proofs.lemmas.Bool.{and_parts, leb-true}
use Rattle.std.proofs.lemmas.Bool.Decides.{Decides-below_and}
use Rattle.std.proofs.lemmas.List.Elements.{All-nil, All-cons}
use Rattle.std.proofs.lemmas.Fmt.{decimal_is_IsNumeral}
use Rattle.http_header.proofs.TokenLemmas.{AllPass-from_test}
use Rattle.httparse.specs.Grammar.{AllPass, IsToken, is_token_byte, is_uri_byte, is_value_byte, crlf, Field, IsField, print_section, RequestHead, print_request, IsRequestHead, ReadsRequest, ResponseHead, print_response, IsResponseHead, ReadsResponse, status_code}
use Rattle.httparse.specs.Spans.{name_and_value}
use Rattle.httparse.proofs.GrammarLemmas.{print_request-append, print_response-append}
use Rattle.druid_http_wire.specs.Frame.{IsFramed}
use Rattle.druid_http_message.specs.Requests.{RequestValue}
use Rattle.druid_http_wire.specs.Messages.{IsRequest, IsResponse, request_length, response_length, body_length, length_or}
use Rattle.druid_http_wire.specs.Heads.{length_value}
use Rattle.druid_http_wire.specs.Written.{fields_text, request_head, request_text, phrase_of, response_head, response_text}
use Rattle.druid_http_wire.specs.Limits.{max_head, max_body}
use Rattle.druid_http_wire.proofs.GrammarLines.{request_framed, response_framed}
use Rattle.druid_http_wire.proofs.DecimalLemmas.{decimal_values, decimal_trimmed, decimal_digits, decimal_code, short_decimal, length_value_again}

-- ---- the fields of each message

abbrev field : List ℕ → List ℕ → Field
field name raw = record { name = name; raw = raw; end = crlf }

abbrev shared : List ℕ → List Field
shared digits =
    field (codes "Content-Type") (codes " application/json") ∷ field (codes "Content-Length") (32 ∷ digits) ∷ field (codes "Connection") (codes " close") ∷ []

beyond_digits : (digits : List ℕ) → ((digits ++ codes "\r\n") ++ codes "Connection: close\r\n") ++ codes "\r\n" ≡ digits ++ codes "\r\nConnection: close\r\n\r\n"
beyond_digits digits =
    append_assoc (digits ++ codes "\r\n") (codes "Connection: close\r\n") (codes "\r\n") ∙ append_assoc digits (codes "\r\n") (codes "Connection: close\r\n\r\n")

shared_text : (n : ℕ) → print_section (shared (decimal n)) crlf ≡ fields_text n
shared_text n = ap (λ (l : List ℕ). codes "Content-Type: application/json\r\nContent-Length: " ++ l) (beyond_digits (decimal n))

literal_field : (name raw : List ℕ) → 0 < length name → list_all is_token_byte name ≡ true → list_all is_value_byte raw ≡ true → IsField (field name raw)
literal_field name raw some token value = record {
  name = (some, AllPass-from_test is_token_byte name token);
  raw = AllPass-from_test is_value_byte raw value;
}

length_field : (n : ℕ) → n < 2 ^ 64 → IsField (field (codes "Content-Length") (32 ∷ decimal n))
unfolding is_token_byte
length_field n low = record {
  name = (omega arith, AllPass-from_test is_token_byte (codes "Content-Length") refl);
  raw = decimal_values n low;
}

shared_fields : (n : ℕ) → n < 2 ^ 64 → All IsField (shared (decimal n))
unfolding is_token_byte
shared_fields n low =
    All-cons IsField (field (codes "Content-Type") (codes " application/json"))
    (field (codes "Content-Length") (32 ∷ decimal n) ∷ field (codes "Connection") (codes " close") ∷ []) (literal_field (codes "Content-Type") (codes " application/json") (omega arith) refl refl)
    (All-cons IsField (field (codes "Content-Length") (32 ∷ decimal n)) (field (codes "Connection") (codes " close") ∷ []) (length_field n low)
    (All-cons IsField (field (codes "Connection") (codes " close")) [] (literal_field (codes "Connection") (codes " close") (omega arith) refl refl) (All-nil IsField)))

-- the length is given once, and is read back
said : (needed : Bool) (n : ℕ) → n ≤ max_body → body_length needed (map name_and_value (shared (decimal n))) ≡ Ok n
said needed n low = ap (λ (l : List ℕ). length_or needed (length_value l)) (decimal_trimmed n (omega arith)) ∙ ap (length_or needed) (length_value_again n low)

-- ---- requests

abbrev written_request : RequestValue → RequestHead
written_request request = record {
  blank = [];
  method = request.method;
  target = request.target;
  minor = 1;
  line_end = crlf;
  fields = field (codes "Host") (codes " localhost") ∷ shared (decimal (length request.body));
  last = crlf;
}

request_printed : (request : RequestValue) → print_request (written_request request) ≡ request_head request
unfolding request_head
request_printed request =
    sym (append-nil (print_request (written_request request))) ∙ print_request-append (written_request request) []
    ∙ ap (λ (l : List ℕ). request.method ++ 32 ∷ (request.target ++ (codes " HTTP/1.1\r\nHost: localhost\r\n" ++ l)))
    (append-nil (print_section (shared (decimal (length request.body))) crlf) ∙ shared_text (length request.body))

written_is_request : (request : RequestValue) → IsToken request.method → 0 < length request.target → AllPass is_uri_byte request.target → IsUtf8 request.target
    → length request.body ≤ max_body → IsRequestHead (written_request request)
unfolding is_token_byte
written_is_request request token some bytes text short = record {
  method = token;
  target = (some, bytes);
  target_text = text;
  minor = omega arith;
  fields = All-cons IsField (field (codes "Host") (codes " localhost")) (shared (decimal (length request.body)))
      (literal_field (codes "Host") (codes " localhost") (omega arith) refl refl) (shared_fields (length request.body) (omega (arith, short)));
}

request_said : (request : RequestValue) → length request.body ≤ max_body → request_length (written_request request) ≡ Ok (length request.body)
request_said request short = said (bytes_eq request.method (codes "POST")) (length request.body) short

pub request_back : (request : RequestValue) (rest : List ℕ) → IsToken request.method → 0 < length request.target → AllPass is_uri_byte request.target
    → IsUtf8 request.target → length request.body ≤ max_body → length (request_head request) ≤ max_head → IsRequest (request_text request ++ rest) request rest
request_back request rest token some bytes text short fits =
    let head = written_request request in
    let printed = request_printed request in
    let is = written_is_request request token some bytes text short in
    let reads : ReadsRequest (request_text request ++ rest) head (request.body ++ rest) =
    (is, append_assoc (request_head request) request.body rest ∙ ap (λ (l : List ℕ). l ++ (request.body ++ rest)) (sym printed)) in
    let framed = request_framed (request_text request ++ rest) (request.body ++ rest) head reads (subst (λ (l : List ℕ). length l ≤ max_head) (sym printed) fits) in
    record {
      bytes = request_head request;
      head = head;
      framed = subst (λ (l : List ℕ). IsFramed (request_text request ++ rest) l (request.body ++ rest)) printed framed;
      reads = record { reads = (is, sym printed ∙ sym (append-nil (print_request head))); few = omega arith };
      method = refl;
      target = refl;
      whole = request_said request short;
    }

-- ---- phrases

abbrev is_phrase : ℕ → Bool
is_phrase n = list_all is_value_byte (phrase_of n) && nat_le (length (phrase_of n)) 40

abbrev phrases_below : ℕ → Bool
phrases_below zero = true
phrases_below (suc n) = is_phrase n && phrases_below n

phrase_is : (n : ℕ) → n < 1000 → is_phrase n ≡ true
phrase_is n low = (Decides-below_and is_phrase (λ k. is_phrase k ≡ true) phrases_below (λ k. (λ x. x, λ x. x)) refl (λ _. refl) 1000).0 refl n low

phrase_values : (n : ℕ) → n < 1000 → AllPass is_value_byte (phrase_of n)
phrase_values n low = AllPass-from_test is_value_byte (phrase_of n) (and_parts _ _ (phrase_is n low)).0

phrase_short : (n : ℕ) → n < 1000 → length (phrase_of n) ≤ 40
phrase_short n low = leb-true (length (phrase_of n)) 40 (and_parts _ _ (phrase_is n low)).1

-- ---- responses

abbrev written_response : ℕ → ℕ → ResponseHead
written_response status n = record {
  blank = [];
  minor = 1;
  digits = decimal status;
  reason = Some (phrase_of status);
  line_end = crlf;
  fields = shared (decimal n);
  last = crlf;
}

abbrev around_phrase : List ℕ → List ℕ → List ℕ → List ℕ
around_phrase digits phrase fields = codes "HTTP/1.1 " ++ (digits ++ (32 ∷ (phrase ++ (codes "\r\n" ++ fields))))

response_printed_as : (digits phrase : List ℕ) (fields : List Field) (text : List ℕ) → print_section fields crlf ≡ text
    → print_response (record { blank = []; minor = 1; digits = digits; reason = Some phrase; line_end = crlf; fields = fields; last = crlf }) ≡ around_phrase digits phrase text
response_printed_as digits phrase fields text e =
    let head : ResponseHead = record { blank = []; minor = 1; digits = digits; reason = Some phrase; line_end = crlf; fields = fields; last = crlf } in
    sym (append-nil (print_response head)) ∙ print_response-append head []
    ∙ ap (around_phrase digits phrase) (append-nil (print_section fields crlf) ∙ e)

response_printed : (status n : ℕ) → print_response (written_response status n) ≡ response_head status n
unfolding response_head
response_printed status n = response_printed_as (decimal status) (phrase_of status) (shared (decimal n)) (fields_text n) (shared_text n)

three_digits : (status : ℕ) → 100 ≤ status → status < 1000 → length (decimal status) ≡ 3
three_digits status low high = ap length (decimal_code status low high)

written_is_response : (status n : ℕ) → 100 ≤ status → status < 1000 → n ≤ max_body → IsResponseHead (written_response status n)
written_is_response status n low high short = record {
  minor = omega arith;
  digits = (three_digits status low high, decimal_digits status (omega (arith, high)));
  reason = phrase_values status high;
  fields = shared_fields n (omega (arith, short));
}

response_short : (status n : ℕ) → 100 ≤ status → status < 1000 → n ≤ max_body → length (response_head status n) ≤ max_head
unfolding response_head
response_short status n low high short =
    omega (
      arith,
      three_digits status low high,
      phrase_short status high,
      short_decimal n short,
      length-append (decimal status) (codes " " ++ (phrase_of status ++ (codes "\r\n" ++ fields_text n))),
      length-append (phrase_of status) (codes "\r\n" ++ fields_text n),
      length-append (decimal n) (codes "\r\nConnection: close\r\n\r\n"),
    )

response_said : (status n : ℕ) → n ≤ max_body → response_length (written_response status n) ≡ Ok n
response_said status n short = said true n short

status_again : (status : ℕ) → status < 1000 → (n : ℕ) → status_code (written_response status n) ≡ status
status_again status high n = (decimal_is_IsNumeral status (omega (arith, high))).1

pub response_back : (status : ℕ) (body rest : List ℕ) → 100 ≤ status → status < 1000 → length body ≤ max_body
    → IsResponse (response_text status body ++ rest) status body rest
response_back status body rest low high short =
    let head = written_response status (length body) in
    let printed = response_printed status (length body) in
    let is = written_is_response status (length body) low high short in
    let code = status_again status high (length body) in
    let reads : ReadsResponse (response_text status body ++ rest) head (body ++ rest) =
    (is, append_assoc (response_head status (length body)) body rest ∙ ap (λ (l : List ℕ). l ++ (body ++ rest)) (sym printed)) in
    let framed = response_framed (response_text status body ++ rest) (body ++ rest) head reads
    (subst (λ (l : List ℕ). length l ≤ max_head) (sym printed) (response_short status (length body) low high short)) in
    record {
      bytes = response_head status (length body);
      head = head;
      framed = subst (λ (l : List ℕ). IsFramed (response_text status body ++ rest) l (body ++ rest)) printed framed;
      reads = record { reads = (is, sym printed ∙ sym (append-nil (print_response head))); few = omega arith; status = omega (arith, code, low) };
      code = sym code;
      whole = response_said status (length body) short;
    }
