-- The texts of messages, out of their pieces, and what a writer got of them.
use Rattle.std.proofs.Common.{◌≡◌, ℕ, ◌+◌, min, ap, ◌∙◌, arith, length-append, ◌<◌, ◌≤◌, ◌⊎◌, inl, inr, ◌-◌, ◌^◌, nat_le, if◌then◌else◌, codes, List, [], ◌++◌, decimal, length, drop, get_or, Bor, append_assoc, append-nil, Option, refl, sym, subst, Result, Ok, Err, OnOk, OnErr}
use Rattle.std.specs.Io.KnownBytes.{Appends}
use Rattle.std.proofs.lemmas.Bool.{cases_lt, le-leb, lt-leb}
use Rattle.std.proofs.lemmas.List.{at_drop_more, at_drop_all}
use Rattle.druid_http_message.specs.Requests.{RequestValue}
use Rattle.druid_stream.specs.Fronts.{AppendsFront}
use Rattle.druid_stream.proofs.WriteLemmas.{IsUnderWay, begins, goes_on, stops_inside, ends}
use Rattle.druid_http_wire.specs.Written.{joined, LacksRequest, phrase_of, request_head, request_text, response_head, response_text, answer_text}
use Rattle.druid_http_message.specs.declared.fault.WireFault.{WireFault}
use Rattle.druid_http_message.specs.declared.fault.WireFault.TheVariants.{Write, Memory}
use Rattle.druid_http_wire.specs.Limits.{max_body}
use Rattle.druid_http_wire.specs.Served.{status_sent}

-- the text is given by an equation
pub front_as : (a b : Option (List ℕ)) (text whole : List ℕ) → whole ≡ text → AppendsFront a b text → AppendsFront a b whole
front_as a b text whole e h = subst (AppendsFront a b) (sym e) h

pub lacks_request : (request : RequestValue) (a b : Option (List ℕ)) (f : WireFault) → length request.body ≤ max_body
    → (f ≡ Write) ⊎ (f ≡ Memory) → AppendsFront a b (request_text request) → LacksRequest request a b f
lacks_request request a b f short reported front =
    elim reported [
      | inl w ↦ subst (LacksRequest request a b) (sym w) (short, front)
      | inr m ↦ subst (LacksRequest request a b) (sym m) (short, front)
    ]

pub answer_short : (status : ℕ) (body : List ℕ) → length body ≤ max_body → answer_text status body ≡ response_text status body
answer_short status body short = rw (le-leb (length body) max_body short) refl

pub answer_long : (status : ℕ) (body : List ℕ) → max_body < length body → answer_text status body ≡ response_text 500 (codes "{\"error\":\"TooLarge\"}")
answer_long status body long = rw (lt-leb (length body) max_body long) refl

-- whether a body passes the limit is seen of its length where that ends at the most that a number can be
within_as : (n count : ℕ) → count ≡ min n (2 ^ 64 - 1) → nat_le count max_body ≡ nat_le n max_body
within_as n count e =
    elim (cases_lt max_body n) [
      | inl long ↦ lt-leb count max_body (omega (arith, e, long)) ∙ sym (lt-leb n max_body long)
      | inr short ↦ le-leb count max_body (omega (arith, e, short)) ∙ sym (le-leb n max_body short)
    ]

pub sent_as : (status count : ℕ) (body : List ℕ) → count ≡ min (length body) (2 ^ 64 - 1) → (if nat_le count max_body then status else 500) ≡ status_sent status body
sent_as status count body e = ap (λ b. if b then status else 500) (within_as (length body) count e)

-- ---- texts out of their pieces

pub joined_more : (pieces : List (Bor (List ℕ))) (i : ℕ) (d : Bor (List ℕ)) → i < length pieces → joined (drop i pieces) ≡ (get_or pieces i d).now ++ joined (drop (i + 1) pieces)
joined_more pieces i d inside = at_drop_more joined pieces i d inside

pub joined_all : (pieces : List (Bor (List ℕ))) (i : ℕ) → length pieces ≤ i → joined (drop i pieces) ≡ []
joined_all pieces i past = at_drop_all joined pieces i past

request_again : (method target digits body a b c d : List ℕ)
    → method ++ (a ++ (target ++ (b ++ (c ++ (digits ++ (d ++ (body ++ []))))))) ≡ (method ++ (a ++ (target ++ (b ++ (c ++ (digits ++ d)))))) ++ body
request_again method target digits body a b c d = simp (append_assoc, append-nil)

pub request_joined : (method target digits body : List ℕ) (request : RequestValue) → method ≡ request.method → target ≡ request.target
    → digits ≡ decimal (length request.body) → body ≡ request.body
    → method ++ (codes " " ++ (target ++ (codes " HTTP/1.1\r\nHost: localhost\r\n" ++ (codes "Content-Type: application/json\r\nContent-Length: " ++ (digits ++ (codes "\r\nConnection: close\r\n\r\n" ++ (body ++ [])))))))
    ≡ request_text request
unfolding request_head
request_joined method target digits body request e f g h =
    rw (e, f, g, h) (request_again request.method request.target (decimal (length request.body)) request.body (codes " ")
    (codes " HTTP/1.1\r\nHost: localhost\r\n") (codes "Content-Type: application/json\r\nContent-Length: ") (codes "\r\nConnection: close\r\n\r\n"))

head_again : (code phrase digits a b c d e : List ℕ)
    → a ++ (code ++ (b ++ (phrase ++ (c ++ (d ++ (digits ++ (e ++ []))))))) ≡ a ++ (code ++ (b ++ (phrase ++ (c ++ (d ++ (digits ++ e))))))
head_again code phrase digits a b c d e = simp append-nil

pub head_joined : (code phrase digits : List ℕ) (status n : ℕ) → code ≡ decimal status → phrase ≡ phrase_of status → digits ≡ decimal n
    → codes "HTTP/1.1 " ++ (code ++ (codes " " ++ (phrase ++ (codes "\r\n" ++ (codes "Content-Type: application/json\r\nContent-Length: " ++ (digits ++ (codes "\r\nConnection: close\r\n\r\n" ++ [])))))))
    ≡ response_head status n
unfolding response_head
head_joined code phrase digits status n e f g =
    rw (e, f, g) (head_again (decimal status) (phrase_of status) (decimal n) (codes "HTTP/1.1 ") (codes " ") (codes "\r\n")
    (codes "Content-Type: application/json\r\nContent-Length: ") (codes "\r\nConnection: close\r\n\r\n"))

-- a text as it is known by another name
pub same_end : {T E : Type 0} (r : Result T E) (a b : Option (List ℕ)) (got wanted : List ℕ) → got ≡ wanted → OnOk r (Appends a b got) → OnOk r (Appends a b wanted)
same_end r a b got wanted e h = subst (λ (l : List ℕ). OnOk r (Appends a b l)) e h

pub same_fail : {T E : Type 0} (r : Result T E) (a b : Option (List ℕ)) (got wanted : List ℕ) → got ≡ wanted → OnErr r (AppendsFront a b got) → OnErr r (AppendsFront a b wanted)
same_fail r a b got wanted e h = subst (λ (l : List ℕ). OnErr r (AppendsFront a b l)) e h

-- ---- how long pieces are together, where a count ends at its limit

count_more : (l p r total n m : ℕ) → m ≡ p + r → min (l + m) n ≡ min total n → min (min (l + p) n + r) n ≡ min total n
count_more l p r total n m e h = omega (arith, e, h)

pub length_more : (pieces : List (Bor (List ℕ))) (i l n : ℕ) (d : Bor (List ℕ)) → i < length pieces
    → min (l + length (joined (drop i pieces))) n ≡ min (length (joined pieces)) n
    → min (min (l + length (get_or pieces i d).now) n + length (joined (drop (i + 1) pieces))) n ≡ min (length (joined pieces)) n
length_more pieces i l n d inside h =
    let piece = (get_or pieces i d).now in
    let rest = joined (drop (i + 1) pieces) in
    count_more l (length piece) (length rest) (length (joined pieces)) n (length (joined (drop i pieces)))
    (ap length (joined_more pieces i d inside) ∙ length-append piece rest) h

pub length_all : (pieces : List (Bor (List ℕ))) (i l n : ℕ) → length pieces ≤ i → l ≤ n
    → min (l + length (joined (drop i pieces))) n ≡ min (length (joined pieces)) n → l ≡ min (length (joined pieces)) n
length_all pieces i l n past low h = omega (arith, low, ap length (joined_all pieces i past), h)

-- ---- a text in two parts: a head of pieces, and a body

module _ (old : Option (List ℕ)) (head got rest whole : List ℕ) (is : head ++ rest ≡ whole) (same : got ≡ head) where
  way : (mid : Option (List ℕ)) → Appends old mid got → IsUnderWay whole rest old mid
  way mid grown = goes_on whole whole got rest old old mid (begins whole old) (sym (ap (λ (l : List ℕ). l ++ rest) same ∙ is)) grown

  pub both_written : {T E : Type 0} (r : Result T E) (mid new : Option (List ℕ)) → Appends old mid got → OnOk r (Appends mid new rest) → OnOk r (Appends old new whole)
  both_written (Ok x) mid new first second = ends whole rest old mid new (way mid first) second
  both_written (Err e) mid new first second = tt

  pub first_fails : (new : Option (List ℕ)) → AppendsFront old new got → AppendsFront old new whole
  first_fails new fails = stops_inside whole whole got rest old old new (begins whole old) (sym (ap (λ (l : List ℕ). l ++ rest) same ∙ is)) fails

  pub second_fails : {T E : Type 0} (r : Result T E) (mid new : Option (List ℕ)) → Appends old mid got → OnErr r (AppendsFront mid new rest) → OnErr r (AppendsFront old new whole)
  second_fails (Ok x) mid new first second = tt
  second_fails (Err e) mid new first second = stops_inside whole rest rest [] old mid new (way mid first) (sym (append-nil rest)) second
