-- Heads, as the parser answers them.
use Rattle.std.proofs.lemmas.Bool.{cases_Bool, ltb-true, ltb-false}
use Rattle.std.proofs.Common.{nat_lt, ◌≡◌, ℕ, ◌<◌, ◌≤◌, Bool, true, List, [], length, take, drop, map, codes, bytes_eq, refl, sym, ap, subst, ◌∙◌, arith, inl, inr, Result, Err}
use Rattle.std.proofs.lemmas.List.{length-map, length-take, length-drop, drop_all}
use Rattle.httparse.specs.Grammar.{RequestHead, ReadsRequest, ResponseHead, ReadsResponse, status_code}
use Rattle.httparse.specs.Spans.{IsRequestAt, IsResponseAt, header_bytes, name_and_value, span_bytes}
use Rattle.httparse.specs.declared.spans.HeaderSpan.{HeaderSpan}
use Rattle.httparse.specs.declared.spans.RequestSpans.{RequestSpans}
use Rattle.httparse.specs.declared.spans.ResponseSpans.{ResponseSpans}
use Rattle.httparse.proofs.GrammarLemmas.{request_unique, response_unique}
use Rattle.druid_http_wire.specs.Messages.{IsRequestHead, IsResponseHead, request_length, response_length, body_length, RequestSays, ResponseSays}
use Rattle.druid_http_message.specs.declared.fault.WireFault.{WireFault}
use Rattle.druid_http_message.specs.declared.fault.WireFault.TheVariants.{BadHead}
use Rattle.druid_http_wire.specs.Limits.{max_fields}

whole : (bytes : List ℕ) (n : ℕ) → n ≤ length bytes → drop n bytes ≡ [] → n ≡ length bytes
whole bytes n fits e = omega (arith, fits, ap length e, length-drop n bytes)

at_end : (bytes : List ℕ) (n : ℕ) → n ≡ length bytes → drop n bytes ≡ []
at_end bytes n e = drop_all n bytes (omega (arith, e))

few_fields : {X Y Z : Type 0} (f : X → Z) (g : Y → Z) (xs : List X) (ys : List Y) (n : ℕ) → n ≤ length xs → map f (take n xs) ≡ map g ys → length ys ≡ n
few_fields f g xs ys n fits e = omega (arith, fits, ap length e, length-map (take n xs) f, length-map ys g, length-take n xs)

-- ---- requests

pub no_request : (bytes : List ℕ) (spans : List HeaderSpan) (r : RequestSpans) (h : RequestHead) → IsRequestAt bytes spans r h → r.len ≤ length bytes
    → (r.len ≡ length bytes → ⊥) → RequestSays bytes (Err BadHead)
no_request bytes spans r h at fits other =
    inl (refl, λ g reads. other (whole bytes r.len fits (request_unique bytes h g (drop r.len bytes) [] at.reads reads).1))

pub some_request : (bytes : List ℕ) (spans : List HeaderSpan) (r : RequestSpans) (h : RequestHead) → IsRequestAt bytes spans r h → r.headers ≤ length spans
    → length spans ≤ max_fields → r.len ≡ length bytes → IsRequestHead bytes h
some_request bytes spans r h at fits room end = record {
  reads = subst (ReadsRequest bytes h) (at_end bytes r.len end) at.reads;
  few = omega (arith, fits, room, few_fields (header_bytes bytes) name_and_value spans h.fields r.headers fits at.fields);
}

pub request_says : (bytes : List ℕ) (spans : List HeaderSpan) (r : RequestSpans) (h : RequestHead) (needed : Bool) (said : Result ℕ WireFault)
    → IsRequestAt bytes spans r h → needed ≡ bytes_eq (span_bytes bytes r.method) (codes "POST")
    → said ≡ body_length needed (map (header_bytes bytes) (take r.headers spans)) → request_length h ≡ said
request_says bytes spans r h needed said at post is =
    sym (is ∙ ap (λ (l : List (List ℕ × List ℕ)). body_length needed l) at.fields
    ∙ ap (λ (b : Bool). body_length b (map name_and_value h.fields)) (post ∙ ap (λ (l : List ℕ). bytes_eq l (codes "POST")) at.method))

-- ---- responses

pub no_response : (bytes : List ℕ) (spans : List HeaderSpan) (r : ResponseSpans) (h : ResponseHead) → IsResponseAt bytes spans r h → r.len ≤ length bytes
    → (r.len ≡ length bytes → ⊥) → ResponseSays bytes (Err BadHead)
no_response bytes spans r h at fits other =
    inl (refl, λ g reads. absurd (other (whole bytes r.len fits (response_unique bytes h g (drop r.len bytes) [] at.reads reads).1)))

pub low_response : (bytes : List ℕ) (spans : List HeaderSpan) (r : ResponseSpans) (h : ResponseHead) → IsResponseAt bytes spans r h
    → r.code < 100 → ResponseSays bytes (Err BadHead)
low_response bytes spans r h at low =
    inl (refl, λ g reads. subst (λ (t : ResponseHead). status_code t < 100) (response_unique bytes h g (drop r.len bytes) [] at.reads reads).0 (omega (arith, low, at.code)))

pub some_response : (bytes : List ℕ) (spans : List HeaderSpan) (r : ResponseSpans) (h : ResponseHead) → IsResponseAt bytes spans r h → r.headers ≤ length spans
    → length spans ≤ max_fields → r.len ≡ length bytes → 100 ≤ r.code → IsResponseHead bytes h
some_response bytes spans r h at fits room end high = record {
  reads = subst (ReadsResponse bytes h) (at_end bytes r.len end) at.reads;
  few = omega (arith, fits, room, few_fields (header_bytes bytes) name_and_value spans h.fields r.headers fits at.fields);
  status = omega (arith, high, at.code);
}

pub response_says : (bytes : List ℕ) (spans : List HeaderSpan) (r : ResponseSpans) (h : ResponseHead) (said : Result ℕ WireFault)
    → IsResponseAt bytes spans r h → said ≡ body_length true (map (header_bytes bytes) (take r.headers spans)) → response_length h ≡ said
response_says bytes spans r h said at is =
    sym (is ∙ ap (λ (l : List (List ℕ × List ℕ)). body_length true l) at.fields)

pub low_code : (n : ℕ) → n < 1000 → ((100 ≤ n) × (n < 1000) → ⊥) → n < 100
low_code n high bad =
    elim (cases_Bool (nat_lt n 100)) [
      | inl low ↦ ltb-true n 100 low
      | inr not ↦ absurd (bad (ltb-false n 100 not, high))
    ]

pub needs_body : (needed : Bool) (method bytes wanted : List ℕ) → needed ≡ bytes_eq method wanted → method ≡ bytes → wanted ≡ codes "POST" → needed ≡ bytes_eq bytes (codes "POST")
needs_body needed method bytes wanted e f g = e ∙ ap (λ (l : List ℕ). bytes_eq l wanted) f ∙ ap (λ (l : List ℕ). bytes_eq bytes l) g
