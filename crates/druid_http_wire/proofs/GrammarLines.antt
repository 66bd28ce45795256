-- A head of the grammar, line by line: it is framed.
use Rattle.std.proofs.Common.{◌≡◌, ◌≢◌, ℕ, ◌+◌, ◌≤◌, Bool, false, IsTrue, not, ◌==◌, List, [], ◌∷◌, ◌++◌, All, map, codes, length, length-append, append_assoc, append-nil, Option, None, Some, refl, sym, ap, ◌∙◌, arith, inl, inr}
use Rattle.std.proofs.lemmas.Bool.{false≢true}
use Rattle.std.proofs.lemmas.List.{append_cancel_right, length-map}
use Rattle.std.proofs.lemmas.List.Elements.{All-nil, All-cons, All-head, All-tail, All-append, All-weaker}
use Rattle.std.specs.List.{flat_map}
use Rattle.std.specs.Char.{is_ascii_digit}
use Rattle.http_header.proofs.TokenLemmas.{AllPass-from_test}
use Rattle.httparse.specs.Grammar.{AllPass, is_token_byte, is_uri_byte, is_value_byte, LineEnd, crlf, lf, print_end, print_blank, print_version, Field, IsField, print_field, print_section, RequestHead, print_request, IsRequestHead, ReadsRequest, ResponseHead, print_response, IsResponseHead, ReadsResponse, print_reason, reason_phrase}
use Rattle.httparse.specs.Spans.{RequestExceeds, ResponseExceeds}
use Rattle.httparse.proofs.GrammarLemmas.{print_request-append, print_response-append}
use Rattle.druid_http_wire.specs.Frame.{IsPlain, IsBlank, IsTextLine, text_of, IsHead, IsFramed}
use Rattle.druid_http_wire.specs.Grammar.{bare_request, bare_response}
use Rattle.druid_http_wire.specs.Limits.{max_head, max_fields}
use Rattle.druid_http_wire.proofs.FramedLemmas.{first_line, blank_short, text_not_blank, line_once, same_blanks, blank_plain}

-- ---- line ends

abbrev pub before_feed : LineEnd → List ℕ
before_feed crlf = 13 ∷ []
before_feed lf = []

end_parts : (end : LineEnd) → print_end end ≡ before_feed end ++ 10 ∷ []
end_parts crlf = refl
end_parts lf = refl

pub end_blank : (end : LineEnd) → IsBlank (before_feed end)
end_blank crlf = inr refl
end_blank lf = inl refl

pub blank_lines : (ends : List LineEnd) → print_blank ends ≡ text_of (map before_feed ends)
blank_lines [] = refl
blank_lines (crlf ∷ ends) = ap (λ (l : List ℕ). 13 ∷ 10 ∷ l) (blank_lines ends)
blank_lines (lf ∷ ends) = ap (λ (l : List ℕ). 10 ∷ l) (blank_lines ends)

all_blank : (ends : List LineEnd) → All IsBlank (map before_feed ends)
all_blank [] = All-nil IsBlank
all_blank (end ∷ ends) = All-cons IsBlank (before_feed end) (map before_feed ends) (end_blank end) (all_blank ends)

-- ---- bytes that are no line feed

no_feed : (test : ℕ → Bool) → test 10 ≡ false → (b : ℕ) → IsTrue (test b) → b ≢ 10
no_feed test fails b pass e = false≢true (sym fails ∙ ap test (sym e) ∙ pass)

pass_plain : (test : ℕ → Bool) (bytes : List ℕ) → test 10 ≡ false → AllPass test bytes → IsPlain bytes
pass_plain test bytes fails pass = All-weaker (λ b. IsTrue (test b)) (λ b. b ≢ 10) (no_feed test fails) bytes pass

token_plain : (bytes : List ℕ) → AllPass is_token_byte bytes → IsPlain bytes
unfolding is_token_byte
token_plain bytes pass = pass_plain is_token_byte bytes refl pass

one_plain : (b : ℕ) → b ≢ 10 → IsPlain (b ∷ [])
one_plain b other = All-cons (λ n. n ≢ 10) b [] other (All-nil (λ n. n ≢ 10))

space_plain : IsPlain (32 ∷ [])
space_plain = one_plain 32 (λ e. omega arith)

joined_plain : (a b : List ℕ) → IsPlain a → IsPlain b → IsPlain (a ++ b)
joined_plain a b p q = All-append (λ n. n ≢ 10) a b p q

version_plain : (minor : ℕ) → IsPlain (print_version minor)
version_plain minor =
    joined_plain (codes "HTTP/1.") ((48 + minor) ∷ [])
    (pass_plain (λ b. not (b == 10)) (codes "HTTP/1.") refl (AllPass-from_test (λ b. not (b == 10)) (codes "HTTP/1.") refl))
    (one_plain (48 + minor) (λ e. omega arith))

long_text : (line : List ℕ) → IsPlain line → 2 ≤ length line → IsTextLine line
long_text line plain long = (plain, λ blank. let short = blank_short line blank in omega (arith, long, short))

-- ---- field lines

abbrev field_line : Field → List ℕ
field_line f = f.name ++ 58 ∷ (f.raw ++ before_feed f.end)

field_again : (name raw end : List ℕ) → (name ++ 58 ∷ raw) ++ (end ++ 10 ∷ []) ≡ (name ++ 58 ∷ (raw ++ end)) ++ 10 ∷ []
field_again name raw end =
    append_assoc name (58 ∷ raw) (end ++ 10 ∷ []) ∙ ap (λ (l : List ℕ). name ++ 58 ∷ l) (sym (append_assoc raw end (10 ∷ [])))
    ∙ sym (append_assoc name (58 ∷ (raw ++ end)) (10 ∷ []))

field_parts : (f : Field) → print_field f ≡ field_line f ++ 10 ∷ []
field_parts f = ap (λ (l : List ℕ). (f.name ++ 58 ∷ f.raw) ++ l) (end_parts f.end) ∙ field_again f.name f.raw (before_feed f.end)

field_lines : (fields : List Field) → flat_map print_field fields ≡ text_of (map field_line fields)
field_lines [] = refl
field_lines (f ∷ fields) =
    ap (λ (l : List ℕ). l ++ flat_map print_field fields) (field_parts f) ∙ ap (λ (l : List ℕ). (field_line f ++ 10 ∷ []) ++ l) (field_lines fields)

end_plain : (end : LineEnd) → IsPlain (before_feed end)
end_plain end = blank_plain (before_feed end) (end_blank end)

field_text : (f : Field) → IsField f → IsTextLine (field_line f)
field_text f is =
    long_text (field_line f)
    (joined_plain f.name (58 ∷ (f.raw ++ before_feed f.end)) (token_plain f.name is.name.1)
    (joined_plain (58 ∷ []) (f.raw ++ before_feed f.end) (one_plain 58 (λ e. omega arith))
    (joined_plain f.raw (before_feed f.end) (pass_plain is_value_byte f.raw refl is.raw) (end_plain f.end))))
    (omega (arith, is.name.0, length-append f.name (58 ∷ (f.raw ++ before_feed f.end))))

field_lines_text : (fields : List Field) → All IsField fields → All IsTextLine (map field_line fields)
field_lines_text [] all = All-nil IsTextLine
field_lines_text (f ∷ fields) all =
    All-cons IsTextLine (field_line f) (map field_line fields) (field_text f (All-head IsField f fields all)) (field_lines_text fields (All-tail IsField f fields all))

-- ---- a start line, fields, and the empty line

abbrev pub lines_of : List ℕ → List Field → List (List ℕ)
lines_of start fields = start ∷ map field_line fields

texts : (start : List ℕ) (fields : List Field) → IsTextLine start → All IsField fields → All IsTextLine (lines_of start fields)
texts start fields text all = All-cons IsTextLine start (map field_line fields) text (field_lines_text fields all)

-- the end of a start line, a section, and what is after it
section_lines : (start : List ℕ) (end : LineEnd) (fields : List Field) (last : LineEnd) (rest : List ℕ)
    → start ++ (print_end end ++ (print_section fields last ++ rest)) ≡ text_of (lines_of (start ++ before_feed end) fields) ++ (before_feed last ++ 10 ∷ rest)
section_lines start end fields last rest =
    let section : print_section fields last ++ rest ≡ text_of (map field_line fields) ++ (before_feed last ++ 10 ∷ rest) =
    append_assoc (flat_map print_field fields) (print_end last) rest ∙ ap (λ (l : List ℕ). l ++ (print_end last ++ rest)) (field_lines fields)
    ∙ ap (λ (l : List ℕ). text_of (map field_line fields) ++ l) (ap (λ (l : List ℕ). l ++ rest) (end_parts last) ∙ append_assoc (before_feed last) (10 ∷ []) rest) in
    ap (λ (l : List ℕ). start ++ (print_end end ++ l)) section
    ∙ ap (λ (l : List ℕ). start ++ (l ++ (text_of (map field_line fields) ++ (before_feed last ++ 10 ∷ rest)))) (end_parts end)
    ∙ ap (λ (l : List ℕ). start ++ l) (append_assoc (before_feed end) (10 ∷ []) (text_of (map field_line fields) ++ (before_feed last ++ 10 ∷ rest)))
    ∙ sym (append_assoc start (before_feed end) (10 ∷ (text_of (map field_line fields) ++ (before_feed last ++ 10 ∷ rest))))
    ∙ sym (first_line (start ++ before_feed end) (map field_line fields) (before_feed last ++ 10 ∷ rest))

-- such lines are a head
lines_head : (head start : List ℕ) (fields : List Field) (last : LineEnd) → IsTextLine start → All IsField fields
    → head ≡ text_of (lines_of start fields) ++ (before_feed last ++ 10 ∷ []) → IsHead head
lines_head head start fields last text all is = record {
  lines = lines_of start fields;
  last = before_feed last;
  some = omega arith;
  each = texts start fields text all;
  empty = end_blank last;
  is = is;
}

-- ---- lines that stand in a head are no more than its lines

no_more : (xs ys : List (List ℕ)) (y a b : List ℕ) → All IsTextLine xs → All IsTextLine ys → IsBlank y
    → text_of xs ++ a ≡ text_of ys ++ (y ++ 10 ∷ b) → length xs ≤ length ys
no_more [] ys y a b tx ty p e = omega arith
no_more (l ∷ xs) [] y a b tx ty p e = absurd (text_not_blank (l ∷ xs) y b a tx (omega arith) p e)
no_more (l ∷ xs) (m ∷ ys) y a b tx ty p e =
    let first = line_once l m (text_of xs ++ a) (text_of ys ++ (y ++ 10 ∷ b)) (All-head IsTextLine l xs tx).0 (All-head IsTextLine m ys ty).0
    (sym (first_line l xs a) ∙ e ∙ first_line m ys (y ++ 10 ∷ b)) in
    let later = no_more xs ys y a b (All-tail IsTextLine l xs tx) (All-tail IsTextLine m ys ty) p first.1 in
    omega (arith, later)

-- a head of which these bytes begin with so many fields has as many
fields_within : (bytes front rest start top : List ℕ) (some all : List Field) (last end : LineEnd) (before above : List LineEnd) → IsTextLine start → IsTextLine top
    → All IsField some → All IsField all → front ++ 10 ∷ [] ≡ print_blank before ++ (text_of (lines_of start some) ++ (before_feed last ++ 10 ∷ []))
    → bytes ≡ front ++ rest → bytes ≡ print_blank above ++ (text_of (lines_of top all) ++ (before_feed end ++ 10 ∷ [])) → length some ≤ length all
fields_within bytes front rest start top some all last end before above ta tb ps pa f e g =
    let cut : front ≡ print_blank before ++ (text_of (lines_of start some) ++ before_feed last) =
    append_cancel_right front (print_blank before ++ (text_of (lines_of start some) ++ before_feed last)) (10 ∷ [])
    (f ∙ ap (λ (l : List ℕ). print_blank before ++ l) (sym (append_assoc (text_of (lines_of start some)) (before_feed last) (10 ∷ [])))
    ∙ sym (append_assoc (print_blank before) (text_of (lines_of start some) ++ before_feed last) (10 ∷ []))) in
    let more : bytes ≡ text_of (map before_feed before) ++ (text_of (lines_of start some) ++ (before_feed last ++ rest)) =
    e ∙ ap (λ (l : List ℕ). l ++ rest) cut ∙ append_assoc (print_blank before) (text_of (lines_of start some) ++ before_feed last) rest
    ∙ ap (λ (l : List ℕ). print_blank before ++ l) (append_assoc (text_of (lines_of start some)) (before_feed last) rest)
    ∙ ap (λ (l : List ℕ). l ++ (text_of (lines_of start some) ++ (before_feed last ++ rest))) (blank_lines before) in
    let whole : bytes ≡ text_of (map before_feed above) ++ (text_of (lines_of top all) ++ (before_feed end ++ 10 ∷ [])) =
    g ∙ ap (λ (l : List ℕ). l ++ (text_of (lines_of top all) ++ (before_feed end ++ 10 ∷ []))) (blank_lines above) in
    let beyond = same_blanks (map before_feed before) (map before_feed above) (lines_of start some) (lines_of top all) (before_feed last ++ rest) (before_feed end ++ 10 ∷ [])
    (all_blank before) (all_blank above) (texts start some ta ps) (texts top all tb pa) (omega arith) (omega arith) (sym more ∙ whole) in
    let count = no_more (lines_of start some) (lines_of top all) (before_feed end) (before_feed last ++ rest) [] (texts start some ta ps) (texts top all tb pa) (end_blank end) beyond in
    omega (arith, count, length-map some field_line, length-map all field_line)

-- ---- requests

abbrev pub request_start : RequestHead → List ℕ
request_start h = h.method ++ 32 ∷ (h.target ++ 32 ∷ print_version h.minor)

start_again : (a b c d : List ℕ) → a ++ 32 ∷ (b ++ 32 ∷ (c ++ d)) ≡ (a ++ 32 ∷ (b ++ 32 ∷ c)) ++ d
start_again a b c d =
    ap (λ (l : List ℕ). a ++ 32 ∷ l) (sym (append_assoc b (32 ∷ c) d)) ∙ sym (append_assoc a (32 ∷ (b ++ 32 ∷ c)) d)

-- a request's head, line by line
pub request_lines : (h : RequestHead) (rest : List ℕ) → print_request h ++ rest
    ≡ print_blank h.blank ++ (text_of (lines_of (request_start h ++ before_feed h.line_end) h.fields) ++ (before_feed h.last ++ 10 ∷ rest))
request_lines h rest =
    print_request-append h rest
    ∙ ap (λ (l : List ℕ). print_blank h.blank ++ l)
    (start_again h.method h.target (print_version h.minor) (print_end h.line_end ++ (print_section h.fields h.last ++ rest))
    ∙ section_lines (request_start h) h.line_end h.fields h.last rest)

request_start_plain : (h : RequestHead) → IsRequestHead h → IsPlain (request_start h)
request_start_plain h is =
    joined_plain h.method (32 ∷ (h.target ++ 32 ∷ print_version h.minor)) (token_plain h.method is.method.1)
    (joined_plain (32 ∷ []) (h.target ++ 32 ∷ print_version h.minor) space_plain
    (joined_plain h.target (32 ∷ print_version h.minor) (pass_plain is_uri_byte h.target refl is.target.1)
    (joined_plain (32 ∷ []) (print_version h.minor) space_plain (version_plain h.minor))))

request_start_text : (h : RequestHead) → IsRequestHead h → IsTextLine (request_start h ++ before_feed h.line_end)
request_start_text h is =
    long_text (request_start h ++ before_feed h.line_end)
    (joined_plain (request_start h) (before_feed h.line_end) (request_start_plain h is) (end_plain h.line_end))
    (omega (
      arith,
      is.method.0,
      length-append (request_start h) (before_feed h.line_end),
      length-append h.method (32 ∷ (h.target ++ 32 ∷ print_version h.minor)),
      length-append h.target (32 ∷ print_version h.minor),
    ))

bare_is_request : (h : RequestHead) → IsRequestHead h → IsRequestHead (bare_request h)
bare_is_request h is = record { method = is.method; target = is.target; target_text = is.target_text; minor = is.minor; fields = is.fields }

-- the blank lines before it, and the head
pub request_whole : (h : RequestHead) → print_request h ≡ print_blank h.blank ++ print_request (bare_request h)
request_whole h =
    sym (append-nil (print_request h)) ∙ request_lines h []
    ∙ ap (λ (l : List ℕ). print_blank h.blank ++ l) (sym (request_lines (bare_request h) []) ∙ append-nil (print_request (bare_request h)))

pub request_framed : (input rest : List ℕ) (h : RequestHead) → ReadsRequest input h rest → length (print_request h) ≤ max_head
    → IsFramed input (print_request (bare_request h)) rest
request_framed input rest h reads short = record {
  blank = map before_feed h.blank;
  blanks = all_blank h.blank;
  is = reads.1 ∙ request_lines h rest
      ∙ ap (λ (l : List ℕ). l ++ (text_of (lines_of (request_start h ++ before_feed h.line_end) h.fields) ++ (before_feed h.last ++ 10 ∷ rest))) (blank_lines h.blank)
      ∙ ap (λ (l : List ℕ). text_of (map before_feed h.blank) ++ l) (sym (request_lines (bare_request h) rest));
  framed = lines_head (print_request (bare_request h)) (request_start h ++ before_feed h.line_end) h.fields h.last (request_start_text h reads.0) reads.0.fields
      (sym (append-nil (print_request (bare_request h))) ∙ request_lines (bare_request h) []);
  short = omega (arith, short, ap length (request_whole h), length-append (print_blank h.blank) (print_request (bare_request h)), ap length (blank_lines h.blank));
}

pub request_bare : (input rest : List ℕ) (h : RequestHead) → ReadsRequest input h rest → length (print_request h) ≤ max_head
    → IsFramed input (print_request (bare_request h)) rest × ReadsRequest (print_request (bare_request h)) (bare_request h) []
request_bare input rest h reads short = (request_framed input rest h reads short, (bare_is_request h reads.0, sym (append-nil (print_request (bare_request h)))))

pub request_stays : (bytes : List ℕ) (h : RequestHead) → ReadsRequest bytes h [] → length h.fields ≤ max_fields → ¬ (RequestExceeds max_fields bytes)
request_stays bytes h reads few over =
    let g = over.3 in
    let count = fields_within bytes over.0 over.1 (request_start g ++ before_feed g.line_end) (request_start h ++ before_feed h.line_end) g.fields h.fields g.last h.last g.blank h.blank
    (request_start_text g over.4.0) (request_start_text h reads.0) over.4.0.fields reads.0.fields (over.4.1 ∙ request_lines g []) over.2 (reads.1 ∙ request_lines h []) in
    omega (arith, few, count, over.5)

-- ---- responses

abbrev pub response_start : ResponseHead → List ℕ
response_start h = print_version h.minor ++ 32 ∷ (h.digits ++ print_reason h.reason)

response_again : (a b c d : List ℕ) → a ++ 32 ∷ (b ++ (c ++ d)) ≡ (a ++ 32 ∷ (b ++ c)) ++ d
response_again a b c d = ap (λ (l : List ℕ). a ++ 32 ∷ l) (sym (append_assoc b c d)) ∙ sym (append_assoc a (32 ∷ (b ++ c)) d)

pub response_lines : (h : ResponseHead) (rest : List ℕ) → print_response h ++ rest
    ≡ print_blank h.blank ++ (text_of (lines_of (response_start h ++ before_feed h.line_end) h.fields) ++ (before_feed h.last ++ 10 ∷ rest))
response_lines h rest =
    print_response-append h rest
    ∙ ap (λ (l : List ℕ). print_blank h.blank ++ l)
    (response_again (print_version h.minor) h.digits (print_reason h.reason) (print_end h.line_end ++ (print_section h.fields h.last ++ rest))
    ∙ section_lines (response_start h) h.line_end h.fields h.last rest)

reason_plain : (reason : Option (List ℕ)) → AllPass is_value_byte (reason_phrase reason) → IsPlain (print_reason reason)
reason_plain None pass = All-nil (λ n. n ≢ 10)
reason_plain (Some phrase) pass = joined_plain (32 ∷ []) phrase space_plain (pass_plain is_value_byte phrase refl pass)

response_start_plain : (h : ResponseHead) → IsResponseHead h → IsPlain (response_start h)
response_start_plain h is =
    joined_plain (print_version h.minor) (32 ∷ (h.digits ++ print_reason h.reason)) (version_plain h.minor)
    (joined_plain (32 ∷ []) (h.digits ++ print_reason h.reason) space_plain
    (joined_plain h.digits (print_reason h.reason) (pass_plain is_ascii_digit h.digits refl is.digits.1) (reason_plain h.reason is.reason)))

response_start_text : (h : ResponseHead) → IsResponseHead h → IsTextLine (response_start h ++ before_feed h.line_end)
response_start_text h is =
    long_text (response_start h ++ before_feed h.line_end)
    (joined_plain (response_start h) (before_feed h.line_end) (response_start_plain h is) (end_plain h.line_end))
    (omega arith)

bare_is_response : (h : ResponseHead) → IsResponseHead h → IsResponseHead (bare_response h)
bare_is_response h is = record { minor = is.minor; digits = is.digits; reason = is.reason; fields = is.fields }

pub response_whole : (h : ResponseHead) → print_response h ≡ print_blank h.blank ++ print_response (bare_response h)
response_whole h =
    sym (append-nil (print_response h)) ∙ response_lines h []
    ∙ ap (λ (l : List ℕ). print_blank h.blank ++ l) (sym (response_lines (bare_response h) []) ∙ append-nil (print_response (bare_response h)))

pub response_framed : (input rest : List ℕ) (h : ResponseHead) → ReadsResponse input h rest → length (print_response h) ≤ max_head
    → IsFramed input (print_response (bare_response h)) rest
response_framed input rest h reads short = record {
  blank = map before_feed h.blank;
  blanks = all_blank h.blank;
  is = reads.1 ∙ response_lines h rest
      ∙ ap (λ (l : List ℕ). l ++ (text_of (lines_of (response_start h ++ before_feed h.line_end) h.fields) ++ (before_feed h.last ++ 10 ∷ rest))) (blank_lines h.blank)
      ∙ ap (λ (l : List ℕ). text_of (map before_feed h.blank) ++ l) (sym (response_lines (bare_response h) rest));
  framed = lines_head (print_response (bare_response h)) (response_start h ++ before_feed h.line_end) h.fields h.last (response_start_text h reads.0) reads.0.fields
      (sym (append-nil (print_response (bare_response h))) ∙ response_lines (bare_response h) []);
  short = omega (arith, short, ap length (response_whole h), length-append (print_blank h.blank) (print_response (bare_response h)), ap length (blank_lines h.blank));
}

pub response_bare : (input rest : List ℕ) (h : ResponseHead) → ReadsResponse input h rest → length (print_response h) ≤ max_head
    → IsFramed input (print_response (bare_response h)) rest × ReadsResponse (print_response (bare_response h)) (bare_response h) []
response_bare input rest h reads short = (response_framed input rest h reads short, (bare_is_response h reads.0, sym (append-nil (print_response (bare_response h)))))

pub response_stays : (bytes : List ℕ) (h : ResponseHead) → ReadsResponse bytes h [] → length h.fields ≤ max_fields → ¬ (ResponseExceeds max_fields bytes)
response_stays bytes h reads few over =
    let g = over.3 in
    let count = fields_within bytes over.0 over.1 (response_start g ++ before_feed g.line_end) (response_start h ++ before_feed h.line_end) g.fields h.fields g.last h.last g.blank h.blank
    (response_start_text g over.4.0) (response_start_text h reads.0) over.4.0.fields reads.0.fields (over.4.1 ∙ response_lines g []) over.2 (reads.1 ∙ response_lines h []) in
    omega (arith, few, count, over.5)
