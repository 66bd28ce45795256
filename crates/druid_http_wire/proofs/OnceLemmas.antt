-- A message is read in one way, and has no fault.
use Rattle.std.proofs.Common.{◌≡◌, ℕ, ◌⊎◌, List, [], ◌++◌, length, length-append, refl, sym, ap, subst, ◌∙◌, arith, inl, inr, Result, Ok, Err}
use Rattle.httparse.specs.Grammar.{RequestHead, ResponseHead, ReadsResponse, status_code}
use Rattle.httparse.proofs.GrammarLemmas.{request_unique, response_unique}
use Rattle.druid_base.proofs.ListLemmas.{append-fronts}
use Rattle.druid_http_message.specs.Requests.{RequestValue}
use Rattle.druid_http_wire.specs.Messages.{IsRequestHead, IsResponseHead, RequestSays, ResponseSays, request_length, response_length, HasBadHead, HasFault, EndsInBody, IsRequest, IsResponse}
use Rattle.druid_http_message.specs.declared.fault.WireFault.{WireFault}
use Rattle.druid_http_message.specs.declared.fault.WireFault.TheVariants.{Cut, Read, Write, BadHead, HeadTooLong, NoLength, BodyTooLong, Connect, Memory}
use Rattle.druid_http_wire.proofs.FramedLemmas.{one_head, not_cut, not_long}
use Rattle.druid_http_wire.proofs.GrammarLines.{request_stays, response_stays}

same_count : (m n : ℕ) → ◌≡◌ {A = Result ℕ WireFault} (Ok m) (Ok n) → m ≡ n
same_count m n e = cc

no_count : (n : ℕ) (f : WireFault) → ◌≡◌ {A = Result ℕ WireFault} (Ok n) (Err f) → ⊥
no_count n f e = cc

-- ---- requests

same_request_head : (bytes : List ℕ) (h k : RequestHead) → IsRequestHead bytes h → IsRequestHead bytes k → h ≡ k
same_request_head bytes h k a b = (request_unique bytes h k _ _ a.reads b.reads).0

pub one_request : (input : List ℕ) (a b : RequestValue) (r s : List ℕ) → IsRequest input a r → IsRequest input b s → (a ≡ b) × (r ≡ s)
one_request input a b r s p q =
    let heads = one_head input p.bytes q.bytes (a.body ++ r) (b.body ++ s) p.framed q.framed in
    let same = same_request_head q.bytes p.head q.head (subst (λ (l : List ℕ). IsRequestHead l p.head) heads.0 p.reads) q.reads in
    let count = same_count (length a.body) (length b.body) (sym p.whole ∙ ap request_length same ∙ q.whole) in
    let bodies = append-fronts a.body b.body r s count heads.1 in
    let method = p.method ∙ ap (λ (h : RequestHead). h.method) same ∙ sym q.method in
    let target = p.target ∙ ap (λ (h : RequestHead). h.target) same ∙ sym q.target in
    (λ i. record { method = method i; target = target i; body = bodies.0 i }, bodies.1)

-- what the head of a request says
request_says_it : (bytes : List ℕ) (h : RequestHead) (n m : ℕ) → IsRequestHead bytes h → request_length h ≡ Ok n → RequestSays bytes (Ok m) → m ≡ n
request_says_it bytes h n m reads whole says =
    same_count m n (sym says.2 ∙ ap request_length (same_request_head bytes says.0 h says.1 reads) ∙ whole)

request_says_none : (bytes : List ℕ) (h : RequestHead) (n : ℕ) (f : WireFault) → IsRequestHead bytes h → request_length h ≡ Ok n → RequestSays bytes (Err f) → ⊥
request_says_none bytes h n f reads whole says =
    elim says [
      | inl bad ↦ bad.1 h reads.reads
      | inr other ↦
          elim other [
            | inl over ↦ request_stays bytes h reads.reads reads.few over.1
            | inr lacks ↦ no_count n f (sym whole ∙ ap request_length (same_request_head bytes h lacks.0 reads lacks.1) ∙ lacks.2)
          ]
    ]

request_head_is_good : (input : List ℕ) (request : RequestValue) (rest : List ℕ) (f : WireFault) → IsRequest input request rest → HasBadHead RequestSays input f → ⊥
request_head_is_good input request rest f p bad =
    let same = one_head input bad.0 p.bytes bad.1 (request.body ++ rest) bad.2 p.framed in
    request_says_none p.bytes p.head (length request.body) f p.reads p.whole (subst (λ (l : List ℕ). RequestSays l (Err f)) same.0 bad.3)

request_is_whole : (input : List ℕ) (request : RequestValue) (rest : List ℕ) → IsRequest input request rest → EndsInBody RequestSays input → ⊥
request_is_whole input request rest p ends =
    let same = one_head input ends.0 p.bytes ends.1 (request.body ++ rest) ends.3 p.framed in
    let count = request_says_it p.bytes p.head (length request.body) ends.2 p.reads p.whole (subst (λ (l : List ℕ). RequestSays l (Ok ends.2)) same.0 ends.4) in
    omega (arith, ends.5, count, ap length same.1, length-append request.body rest)

pub request_faults : (input : List ℕ) (request : RequestValue) (rest : List ℕ) (f : WireFault) → IsRequest input request rest → HasFault RequestSays input f
    → (f ≡ Read) ⊎ (f ≡ Memory)
request_faults input request rest Cut p has =
    elim has [
      | inl ends ↦ absurd (not_cut input p.bytes (request.body ++ rest) p.framed ends)
      | inr ends ↦ absurd (request_is_whole input request rest p ends)
    ]
request_faults input request rest Read p has = inl refl
request_faults input request rest Write p has = absurd has
request_faults input request rest BadHead p has = absurd (request_head_is_good input request rest BadHead p has)
request_faults input request rest HeadTooLong p has =
    elim has [
      | inl long ↦ absurd (not_long input p.bytes (request.body ++ rest) p.framed long)
      | inr bad ↦ absurd (request_head_is_good input request rest HeadTooLong p bad)
    ]
request_faults input request rest NoLength p has = absurd (request_head_is_good input request rest NoLength p has)
request_faults input request rest BodyTooLong p has = absurd (request_head_is_good input request rest BodyTooLong p has)
request_faults input request rest Connect p has = absurd has
request_faults input request rest Memory p has = inr refl

-- ---- responses

same_response_head : (bytes : List ℕ) (h k : ResponseHead) → ReadsResponse bytes h [] → ReadsResponse bytes k [] → h ≡ k
same_response_head bytes h k a b = (response_unique bytes h k _ _ a b).0

pub one_response : (input : List ℕ) (m n : ℕ) (a b r s : List ℕ) → IsResponse input m a r → IsResponse input n b s → (m ≡ n) × (a ≡ b) × (r ≡ s)
one_response input m n a b r s p q =
    let heads = one_head input p.bytes q.bytes (a ++ r) (b ++ s) p.framed q.framed in
    let same = same_response_head q.bytes p.head q.head (subst (λ (l : List ℕ). ReadsResponse l p.head []) heads.0 p.reads.reads) q.reads.reads in
    let count = same_count (length a) (length b) (sym p.whole ∙ ap response_length same ∙ q.whole) in
    let bodies = append-fronts a b r s count heads.1 in
    (p.code ∙ ap status_code same ∙ sym q.code, bodies.0, bodies.1)

response_says_it : (bytes : List ℕ) (h : ResponseHead) (n m : ℕ) → IsResponseHead bytes h → response_length h ≡ Ok n → ResponseSays bytes (Ok m) → m ≡ n
response_says_it bytes h n m reads whole says =
    same_count m n (sym says.2 ∙ ap response_length (same_response_head bytes says.0 h says.1.reads reads.reads) ∙ whole)

response_says_none : (bytes : List ℕ) (h : ResponseHead) (n : ℕ) (f : WireFault) → IsResponseHead bytes h → response_length h ≡ Ok n → ResponseSays bytes (Err f) → ⊥
response_says_none bytes h n f reads whole says =
    elim says [
      | inl bad ↦ let low = bad.1 h reads.reads in omega (arith, low, reads.status)
      | inr other ↦
          elim other [
            | inl over ↦ response_stays bytes h reads.reads reads.few over.1
            | inr lacks ↦ no_count n f (sym whole ∙ ap response_length (same_response_head bytes h lacks.0 reads.reads lacks.1.reads) ∙ lacks.2)
          ]
    ]

response_head_is_good : (input : List ℕ) (status : ℕ) (body rest : List ℕ) (f : WireFault) → IsResponse input status body rest → HasBadHead ResponseSays input f → ⊥
response_head_is_good input status body rest f p bad =
    let same = one_head input bad.0 p.bytes bad.1 (body ++ rest) bad.2 p.framed in
    response_says_none p.bytes p.head (length body) f p.reads p.whole (subst (λ (l : List ℕ). ResponseSays l (Err f)) same.0 bad.3)

response_is_whole : (input : List ℕ) (status : ℕ) (body rest : List ℕ) → IsResponse input status body rest → EndsInBody ResponseSays input → ⊥
response_is_whole input status body rest p ends =
    let same = one_head input ends.0 p.bytes ends.1 (body ++ rest) ends.3 p.framed in
    let count = response_says_it p.bytes p.head (length body) ends.2 p.reads p.whole (subst (λ (l : List ℕ). ResponseSays l (Ok ends.2)) same.0 ends.4) in
    omega (arith, ends.5, count, ap length same.1, length-append body rest)

pub response_faults : (input : List ℕ) (status : ℕ) (body rest : List ℕ) (f : WireFault) → IsResponse input status body rest → HasFault ResponseSays input f
    → (f ≡ Read) ⊎ (f ≡ Memory)
response_faults input status body rest Cut p has =
    elim has [
      | inl ends ↦ absurd (not_cut input p.bytes (body ++ rest) p.framed ends)
      | inr ends ↦ absurd (response_is_whole input status body rest p ends)
    ]
response_faults input status body rest Read p has = inl refl
response_faults input status body rest Write p has = absurd has
response_faults input status body rest BadHead p has = absurd (response_head_is_good input status body rest BadHead p has)
response_faults input status body rest HeadTooLong p has =
    elim has [
      | inl long ↦ absurd (not_long input p.bytes (body ++ rest) p.framed long)
      | inr bad ↦ absurd (response_head_is_good input status body rest HeadTooLong p bad)
    ]
response_faults input status body rest NoLength p has = absurd (response_head_is_good input status body rest NoLength p has)
response_faults input status body rest BodyTooLong p has = absurd (response_head_is_good input status body rest BodyTooLong p has)
response_faults input status body rest Connect p has = absurd has
response_faults input status body rest Memory p has = inr refl
