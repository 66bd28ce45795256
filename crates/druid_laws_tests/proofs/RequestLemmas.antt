-- The requests of a broker are read by a node as they were sent.
use Rattle.std.proofs.Common.{◌≡◌, ℕ, ◌<◌, ◌≤◌, ◌^◌, Bool, true, ◌&&◌, nat_lt, List, [], ◌++◌, All, length, length-append, append-nil, codes, decimal, IsUtf8, refl, subst, arith}
use Rattle.std.specs.Prelude.{IsTrue}
use Rattle.std.specs.Char.{is_ascii_digit}
use Rattle.std.specs.List.{list_all}
use Rattle.std.proofs.lemmas.Bool.{ltb-true}
use Rattle.std.proofs.lemmas.Bool.Decides.{nat_tests}
use Rattle.std.proofs.lemmas.Fmt.{length-decimal-le}
use Rattle.std.proofs.lemmas.List.Elements.{All-append, All-weaker}
use Rattle.std.proofs.lemmas.Str.{IsUtf8-from_ascii}
use Rattle.std.proofs.lemmas.Str.Ascii.{IsAscii-from_all}
use Rattle.http_header.proofs.TokenLemmas.{AllPass-from_test}
use Rattle.httparse.specs.Grammar.{AllPass, IsToken, is_token_byte, is_uri_byte}
use Rattle.druid_segment_descriptor.specs.Mark.{Point, IsWord}
use Rattle.druid_segment_descriptor.specs.declared.change.Ask.{Ask}
use Rattle.druid_segment_descriptor.specs.declared.change.Ask.TheVariants.{Whole, Since, Page}
use Rattle.druid_sync_text.specs.Asks.{ask_text, query_text, page_query}
use Rattle.druid_http_message.specs.Requests.{RequestValue}
use Rattle.druid_http_wire.specs.Messages.{IsRequest}
use Rattle.druid_http_wire.specs.Written.{fields_text, request_head, request_text}
use Rattle.druid_http_wire.specs.Limits.{max_body, max_head}
use Rattle.druid_http_wire.proofs.BackLemmas.{request_back}
use Rattle.druid_http_wire.proofs.DecimalLemmas.{decimal_digits, short_decimal}
use Rattle.druid_http_wire.proofs.OnceLemmas.{one_request}
use Rattle.druid_broker_follow.specs.Turns.{ask_request, get_request}
use Rattle.druid_laws_headline.specs.Headline.{HasText}

abbrev is_low : ℕ → Bool
is_low b = nat_lt b 128

ascii_text : (text : List ℕ) → list_all is_low text ≡ true → IsUtf8 text
ascii_text text low =
    IsUtf8-from_ascii text (IsAscii-from_all text (All-weaker (λ b. IsTrue (is_low b)) (λ b. b < 128) (λ b h. ltb-true b 128 h) text (AllPass-from_test is_low text low)))

-- a text has one reading
read_once : (request read : RequestValue) (rest : List ℕ) → IsToken request.method → 0 < length request.target → AllPass is_uri_byte request.target → IsUtf8 request.target
    → length request.body ≤ max_body → length (request_head request) ≤ max_head → IsRequest (request_text request) read rest → read ≡ request
read_once request read rest token some bytes text short fits is =
    let back = subst (λ (l : List ℕ). IsRequest l request []) (append-nil (request_text request)) (request_back request [] token some bytes text short fits) in
    (one_request (request_text request) read request rest [] is back).0

-- ---- queries

abbrev post : List ℕ → RequestValue
post body = record { method = codes "POST"; target = codes "/druid/v2/"; body = body }

post_token : IsToken (codes "POST")
unfolding is_token_byte
post_token = (omega arith, AllPass-from_test is_token_byte (codes "POST") refl)

post_fits : (body : List ℕ) → length body ≤ max_body → length (request_head (post body)) ≤ max_head
unfolding request_head
post_fits body short =
    omega (arith, short_decimal (length body) short, length-append (decimal (length body)) (codes "\r\nConnection: close\r\n\r\n"))

pub post_read : (body : List ℕ) (read : RequestValue) (rest : List ℕ) → length (request_text (post body)) ≤ max_body → IsRequest (request_text (post body)) read rest → read ≡ post body
post_read body read rest short is =
    let body_short : length body ≤ max_body = omega (arith, short, length-append (request_head (post body)) body) in
    read_once (post body) read rest post_token (omega arith) (AllPass-from_test is_uri_byte (codes "/druid/v2/") refl) (ascii_text (codes "/druid/v2/") refl) body_short (post_fits body body_short) is

-- ---- asks

get_token : IsToken (codes "GET")
unfolding is_token_byte
get_token = (omega arith, AllPass-from_test is_token_byte (codes "GET") refl)

-- bytes of ASCII that may stand in a target
abbrev IsPlain : ℕ → Type 0
IsPlain b = IsTrue (is_uri_byte b && is_low b)

abbrev is_plain : ℕ → Bool
is_plain b = is_uri_byte b && is_low b

plain : (text : List ℕ) → list_all is_plain text ≡ true → All IsPlain text
plain text low = AllPass-from_test is_plain text low

plain_digit : (b : ℕ) → is_ascii_digit b ≡ true → is_plain b ≡ true
plain_digit b is = grind (arith, nat_tests, is)

plain_number : (n : ℕ) → n < 2 ^ 64 → All IsPlain (decimal n)
plain_number n low = All-weaker (λ b. IsTrue (is_ascii_digit b)) IsPlain plain_digit (decimal n) (decimal_digits n low)

long_number : (n : ℕ) → n < 2 ^ 64 → length (decimal n) ≤ 20
long_number n low = length-decimal-le 20 n (omega arith) (omega (arith, low)) low

-- what is asked of a mark
abbrev number_part : List ℕ → ℕ → List ℕ
number_part name n = name ++ decimal n

plain_part : (name : List ℕ) (n : ℕ) → list_all is_plain name ≡ true → n < 2 ^ 64 → All IsPlain (number_part name n)
plain_part name n low small = All-append IsPlain name (decimal n) (plain name low) (plain_number n small)

plain_joined : (front back : List ℕ) → All IsPlain front → All IsPlain back → All IsPlain (front ++ back)
plain_joined front back a b = All-append IsPlain front back a b

query_plain : (m : Point) → IsWord m → All IsPlain (query_text m)
query_plain m word =
    plain_joined (codes "counter=") _ (plain (codes "counter=") refl)
    (plain_joined (decimal m.count) _ (plain_number m.count word.count) (plain_part (codes "&hash=") m.incarnation refl word.incarnation))

page_plain : (m : Point) (page : ℕ) → IsWord m → page ≤ 65_535 → All IsPlain (page_query m page)
page_plain m page word low =
    plain_joined (codes "counter=") _ (plain (codes "counter=") refl)
    (plain_joined (decimal m.count) _ (plain_number m.count word.count)
    (plain_joined (codes "&hash=") _ (plain (codes "&hash=") refl)
    (plain_joined (decimal m.incarnation) _ (plain_number m.incarnation word.incarnation) (plain_part (codes "&page=") page refl (omega (arith, low))))))

abbrev path : List ℕ
path = codes "/druid-internal/v1/segments"

target_plain : (ask : Ask) → HasText ask → All IsPlain (ask_text ask)
target_plain Whole text = plain path refl
target_plain (Since m) text =
    plain_joined path (codes "?" ++ query_text m) (plain path refl) (plain_joined (codes "?") (query_text m) (plain (codes "?") refl) (query_plain m text.0))
target_plain (Page m page) text =
    plain_joined path (codes "?" ++ page_query m page) (plain path refl) (plain_joined (codes "?") (page_query m page) (plain (codes "?") refl) (page_plain m page text.0 text.2))

query_short : (m : Point) → IsWord m → length (query_text m) ≤ 54
query_short m word =
    let hash = codes "&hash=" ++ decimal m.incarnation in
    omega (
      arith,
      long_number m.count word.count,
      long_number m.incarnation word.incarnation,
      length-append (codes "counter=") (decimal m.count ++ hash),
      length-append (decimal m.count) hash,
      length-append (codes "&hash=") (decimal m.incarnation),
    )

page_short : (m : Point) (page : ℕ) → IsWord m → page ≤ 65_535 → length (page_query m page) ≤ 80
page_short m page word low =
    let last = codes "&page=" ++ decimal page in
    let hash = codes "&hash=" ++ (decimal m.incarnation ++ last) in
    omega (
      arith,
      long_number m.count word.count,
      long_number m.incarnation word.incarnation,
      long_number page (omega (arith, low)),
      length-append (codes "counter=") (decimal m.count ++ hash),
      length-append (decimal m.count) hash,
      length-append (codes "&hash=") (decimal m.incarnation ++ last),
      length-append (decimal m.incarnation) last,
      length-append (codes "&page=") (decimal page),
    )

target_short : (ask : Ask) → HasText ask → (0 < length (ask_text ask)) × (length (ask_text ask) ≤ 120)
target_short Whole text = (omega arith, omega arith)
target_short (Since m) text =
    let few = query_short m text.0 in
    let all = length-append path (codes "?" ++ query_text m) in
    let last = length-append (codes "?") (query_text m) in
    (omega (arith, all), omega (arith, few, all, last))
target_short (Page m page) text =
    let few = page_short m page text.0 text.2 in
    let all = length-append path (codes "?" ++ page_query m page) in
    let last = length-append (codes "?") (page_query m page) in
    (omega (arith, all), omega (arith, few, all, last))

ask_fits : (target : List ℕ) → length target ≤ 120 → length (request_head (get_request target)) ≤ max_head
unfolding request_head
ask_fits target short =
    let rest = codes " HTTP/1.1\r\nHost: localhost\r\n" ++ fields_text 0 in
    omega (arith, short, short_decimal 0 (omega arith), length-append target rest, length-append (decimal 0) (codes "\r\nConnection: close\r\n\r\n"))

low_text : (text : List ℕ) → All IsPlain text → IsUtf8 text
low_text text all =
    IsUtf8-from_ascii text (IsAscii-from_all text (All-weaker IsPlain (λ b. b < 128) (λ b is. grind (arith, nat_tests, is)) text all))

uri_text : (text : List ℕ) → All IsPlain text → AllPass is_uri_byte text
uri_text text all = All-weaker IsPlain (λ b. IsTrue (is_uri_byte b)) (λ b is. grind (arith, nat_tests, is)) text all

pub ask_read : (ask : Ask) (read : RequestValue) (rest : List ℕ) → HasText ask → IsRequest (request_text (ask_request ask)) read rest → read ≡ ask_request ask
ask_read ask read rest text is =
    let all = target_plain ask text in
    let short = target_short ask text in
    read_once (ask_request ask) read rest get_token short.0 (uri_text (ask_text ask) all) (low_text (ask_text ask) all) (omega arith) (ask_fits (ask_text ask) short.1) is
