-- A message that is read is one of the grammar, and the other way round.
use Rattle.std.proofs.Common.{◌≡◌, ◌↔◌, ℕ, ◌<◌, List, [], ◌∷◌, ◌++◌, All, map, length, length-append, append_assoc, append-nil, refl, sym, ap, subst, ◌∙◌, arith, inl, inr}
use Rattle.std.proofs.lemmas.List.Elements.{All-head, All-tail}
use Rattle.httparse.specs.Grammar.{LineEnd, crlf, lf, print_end, print_blank, Field, RequestHead, print_request, IsRequestHead, ResponseHead, print_response, IsResponseHead}
use Rattle.druid_http_wire.specs.Frame.{IsBlank, IsTextLine, text_of, IsFramed}
use Rattle.druid_http_wire.specs.Grammar.{bare_request, bare_response, IsGrammarRequest, IsGrammarResponse}
use Rattle.druid_http_message.specs.Requests.{RequestValue}
use Rattle.druid_http_wire.specs.Messages.{IsRequest, IsResponse}
use Rattle.druid_http_wire.proofs.FramedLemmas.{first_line, text_not_blank}
use Rattle.druid_http_wire.proofs.GrammarLines.{before_feed, blank_lines, end_blank, lines_of, request_start, request_lines, request_whole, request_bare, response_start, response_lines, response_whole, response_bare}

-- ---- blank lines

abbrev end_of : List ℕ → LineEnd
end_of [] = lf
end_of (c ∷ line) = crlf

blank_ends : (blank : List (List ℕ)) → All IsBlank blank → text_of blank ≡ print_blank (map end_of blank)
blank_ends [] all = refl
blank_ends (b ∷ bs) all =
    let later = blank_ends bs (All-tail IsBlank b bs all) in
    elim (All-head IsBlank b bs all) [
      | inl e ↦ subst (λ (l : List ℕ). (l ++ 10 ∷ []) ++ text_of bs ≡ print_end (end_of l) ++ print_blank (map end_of bs)) (sym e) (ap (λ (l : List ℕ). 10 ∷ l) later)
      | inr e ↦ subst (λ (l : List ℕ). (l ++ 10 ∷ []) ++ text_of bs ≡ print_end (end_of l) ++ print_blank (map end_of bs)) (sym e) (ap (λ (l : List ℕ). 13 ∷ 10 ∷ l) later)
    ]

-- where the first line is not blank there are no blank lines
none_blank : (ends : List LineEnd) (lines : List (List ℕ)) (a b : List ℕ) → All IsTextLine lines → 0 < length lines → text_of lines ++ a ≡ print_blank ends ++ b → ends ≡ []
none_blank [] lines a b texts some e = refl
none_blank (end ∷ ends) lines a b texts some e =
    absurd (text_not_blank lines (before_feed end) (text_of (map before_feed ends) ++ b) a texts some (end_blank end)
    (e ∙ ap (λ (l : List ℕ). l ++ b) (blank_lines (end ∷ ends)) ∙ first_line (before_feed end) (map before_feed ends) b))

-- ---- framed heads

-- a head that is framed has no blank lines before it
bytes_lines : (input bytes rest start : List ℕ) (fields : List Field) (last : LineEnd) (ends : List LineEnd) → IsFramed input bytes rest
    → bytes ≡ print_blank ends ++ (text_of (lines_of start fields) ++ (before_feed last ++ 10 ∷ [])) → bytes ≡ text_of (lines_of start fields) ++ (before_feed last ++ 10 ∷ [])
bytes_lines input bytes rest start fields last ends f e =
    e ∙ ap (λ (l : List LineEnd). print_blank l ++ (text_of (lines_of start fields) ++ (before_feed last ++ 10 ∷ [])))
    (none_blank ends f.framed.lines (f.framed.last ++ 10 ∷ []) (text_of (lines_of start fields) ++ (before_feed last ++ 10 ∷ [])) f.framed.each f.framed.some
    (sym f.framed.is ∙ e))

-- the blank lines of the input, and its head line by line
input_lines : (input bytes rest start : List ℕ) (fields : List Field) (last : LineEnd) (f : IsFramed input bytes rest)
    → bytes ≡ text_of (lines_of start fields) ++ (before_feed last ++ 10 ∷ [])
    → input ≡ print_blank (map end_of f.blank) ++ (text_of (lines_of start fields) ++ (before_feed last ++ 10 ∷ rest))
input_lines input bytes rest start fields last f e =
    f.is ∙ ap (λ (l : List ℕ). l ++ (bytes ++ rest)) (blank_ends f.blank f.blanks)
    ∙ ap (λ (l : List ℕ). print_blank (map end_of f.blank) ++ l)
    (ap (λ (l : List ℕ). l ++ rest) e ∙ append_assoc (text_of (lines_of start fields)) (before_feed last ++ 10 ∷ []) rest
    ∙ ap (λ (l : List ℕ). text_of (lines_of start fields) ++ l) (append_assoc (before_feed last) (10 ∷ []) rest))

-- ---- requests

beyond_request : List (List ℕ) → RequestHead → RequestHead
beyond_request blank h = record h { blank = map end_of blank }

to_grammar_request : (input : List ℕ) (request : RequestValue) (rest : List ℕ) → IsRequest input request rest → IsGrammarRequest input request rest
unfolding beyond_request
to_grammar_request input request rest p =
    let h = p.head in
    let start = request_start h ++ before_feed h.line_end in
    let valid = p.reads.reads.0 in
    let bytes = bytes_lines input p.bytes (request.body ++ rest) start h.fields h.last h.blank p.framed (p.reads.reads.1 ∙ request_lines h []) in
    let same = bytes ∙ sym (request_lines (bare_request h) []) ∙ append-nil (print_request (bare_request h)) in
    let whole : print_request (beyond_request p.framed.blank h) ≡ print_blank (map end_of p.framed.blank) ++ print_request (bare_request h) =
    request_whole (beyond_request p.framed.blank h) in
    let is : IsRequestHead (beyond_request p.framed.blank h) =
    record { method = valid.method; target = valid.target; target_text = valid.target_text; minor = valid.minor; fields = valid.fields } in
    record {
      head = beyond_request p.framed.blank h;
      reads = (is, input_lines input p.bytes (request.body ++ rest) start h.fields h.last p.framed bytes ∙ sym (request_lines (beyond_request p.framed.blank h) (request.body ++ rest)));
      short = omega (arith, p.framed.short, ap length same, ap length (blank_ends p.framed.blank p.framed.blanks), ap length whole, length-append (print_blank (map end_of p.framed.blank)) (print_request (bare_request h)));
      few = p.reads.few;
      method = p.method;
      target = p.target;
      whole = p.whole;
    }

from_grammar_request : (input : List ℕ) (request : RequestValue) (rest : List ℕ) → IsGrammarRequest input request rest → IsRequest input request rest
from_grammar_request input request rest g =
    let bare = request_bare input (request.body ++ rest) g.head g.reads g.short in
    record {
      bytes = print_request (bare_request g.head);
      head = bare_request g.head;
      framed = bare.0;
      reads = record { reads = bare.1; few = g.few };
      method = g.method;
      target = g.target;
      whole = g.whole;
    }

pub grammar_request : (input : List ℕ) (request : RequestValue) (rest : List ℕ) → IsRequest input request rest ↔ IsGrammarRequest input request rest
grammar_request input request rest = (to_grammar_request input request rest, from_grammar_request input request rest)

-- ---- responses

beyond_response : List (List ℕ) → ResponseHead → ResponseHead
beyond_response blank h = record h { blank = map end_of blank }

to_grammar_response : (input : List ℕ) (status : ℕ) (body rest : List ℕ) → IsResponse input status body rest → IsGrammarResponse input status body rest
unfolding beyond_response
to_grammar_response input status body rest p =
    let h = p.head in
    let start = response_start h ++ before_feed h.line_end in
    let valid = p.reads.reads.0 in
    let bytes = bytes_lines input p.bytes (body ++ rest) start h.fields h.last h.blank p.framed (p.reads.reads.1 ∙ response_lines h []) in
    let same = bytes ∙ sym (response_lines (bare_response h) []) ∙ append-nil (print_response (bare_response h)) in
    let whole : print_response (beyond_response p.framed.blank h) ≡ print_blank (map end_of p.framed.blank) ++ print_response (bare_response h) =
    response_whole (beyond_response p.framed.blank h) in
    let is : IsResponseHead (beyond_response p.framed.blank h) =
    record { minor = valid.minor; digits = valid.digits; reason = valid.reason; fields = valid.fields } in
    record {
      head = beyond_response p.framed.blank h;
      reads = (is, input_lines input p.bytes (body ++ rest) start h.fields h.last p.framed bytes ∙ sym (response_lines (beyond_response p.framed.blank h) (body ++ rest)));
      short = omega (arith, p.framed.short, ap length same, ap length (blank_ends p.framed.blank p.framed.blanks), ap length whole, length-append (print_blank (map end_of p.framed.blank)) (print_response (bare_response h)));
      few = p.reads.few;
      high = omega (arith, p.reads.status, p.code);
      code = p.code;
      whole = p.whole;
    }

from_grammar_response : (input : List ℕ) (status : ℕ) (body rest : List ℕ) → IsGrammarResponse input status body rest → IsResponse input status body rest
from_grammar_response input status body rest g =
    let bare = response_bare input (body ++ rest) g.head g.reads g.short in
    record {
      bytes = print_response (bare_response g.head);
      head = bare_response g.head;
      framed = bare.0;
      reads = record { reads = bare.1; few = g.few; status = omega (arith, g.high, g.code) };
      code = g.code;
      whole = g.whole;
    }

pub grammar_response : (input : List ℕ) (status : ℕ) (body rest : List ℕ) → IsResponse input status body rest ↔ IsGrammarResponse input status body rest
grammar_response input status body rest = (to_grammar_response input status body rest, from_grammar_response input status body rest)
