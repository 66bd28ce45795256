-- What a data node of ours answers is honest.
use Rattle.std.proofs.Common.{◌≡◌, ◌⊎◌, inl, inr, ℕ, ◌<◌, ◌≤◌, Bool, true, false, not, cond, nat_le, List, [], ◌∷◌, length, All, Option, Some, None, Result, Ok, codes, refl, sym, ap, ◌∙◌, subst, arith, append-nil}
use Rattle.std.specs.Prelude.{Contains, filter, is_some}
use Rattle.std.specs.List.{flat_map, list_any}
use Rattle.std.proofs.lemmas.Bool.{false≢true, leb-true}
use Rattle.std.proofs.lemmas.Option.{same_Some}
use Rattle.serde_json.specs.Data.{Data}
use Rattle.serde_json.specs.Read.{read}
use Rattle.druid_base.proofs.MemberLemmas.{Contains-later}
use Rattle.druid_timeline.proofs.HoldingLemmas.{from_filter, in_filter}
use Rattle.druid_segment_rows.specs.Segment.{Segment, HaveWords}
use Rattle.druid_query.specs.Query.{Query}
use Rattle.druid_query.specs.Read.{IsQuery}
use Rattle.druid_query.specs.Asked.{Asked}
use Rattle.druid_query.specs.AskedOrder.{same_asked, same_asked-equiv}
use Rattle.druid_query.specs.SubQuery.{SubQuery, IsAsked, subquery_data, subquery_at, subquery_text}
use Rattle.druid_query.proofs.AskedLemmas.{all_of_each}
use Rattle.druid_query_text.proofs.SubBackLemmas.{sub_back}
use Rattle.druid_partial.specs.Groups.{Group, IsResult}
use Rattle.druid_partial.specs.Partials.{kinds_of}
use Rattle.druid_partial_scan.specs.Once.{segment_named, counted_in, counted_of, counted_groups}
use Rattle.druid_partial_text.specs.Read.{ReportsGroups}
use Rattle.druid_query.specs.PieceOrder.{same_asked-true}
use Rattle.druid_partial.specs.Answer.{Answer}
use Rattle.druid_partial_text.specs.Answers.{ReportsAnswer, WereAsked, answer_data, answer_text}
use Rattle.druid_partial_text.specs.Missed.{IsOfSegment}
use Rattle.druid_partial_text.proofs.ReadBackLemmas.{answer_back, one_reading}
use Rattle.druid_http_wire.specs.Messages.{IsResponse}
use Rattle.druid_http_wire.specs.Written.{response_text}
use Rattle.druid_http_wire.specs.Written as wire
use Rattle.druid_http_wire.specs.declared.limits.TheConstants.{MAX_BODY}
use Rattle.druid_http_wire.proofs.BackLemmas.{response_back}
use Rattle.druid_http_wire.proofs.OnceLemmas.{one_response}
use Rattle.druid_node.specs.State.{State}
use Rattle.druid_node.specs.Answers.{is_missing, missing, IsAnswerOf}
use Rattle.druid_node.specs.Routes.{Responds, RespondsInTurn, AnswersQuery}
use Rattle.druid_broker_scatter.specs.Gathered.{sub_of, request_for}
use Rattle.druid_broker_scatter.specs.Exact.{without, IsHonest}
use Rattle.druid_broker_scatter.proofs.ExactLemmas.{any_found, any_counted}
use Rattle.druid_laws_headline.specs.Headline.{AreAmong}
use Rattle.druid_laws_headline.proofs.TextLemmas.{subquery_read, answer_text_read}
use Rattle.druid_laws_headline.proofs.WordLemmas.{groups_held}

-- ---- the request

-- a request for pieces is a query
routed : (state next : State) (query : Query) (asked : List Asked) (status : ℕ) (body : List ℕ) → Responds state next (request_for query asked) status body
    → AnswersQuery state.held (subquery_text (sub_of query asked)) status body
routed state next query asked status body answer = answer.1

pub same_ok : {A E : Type 0} {x y : A} → Path (Result A E) (Ok x) (Ok y) → x ≡ y
same_ok e = cc

-- where the status is 200, the body is the text of an answer to that subquery
answered : (held : List Segment) (sub : SubQuery) (status : ℕ) (body : List ℕ) → IsQuery sub.query → IsAsked sub.query.source sub.asked → status ≡ 200
    → AnswersQuery held (subquery_text sub) status body → (a : Answer) × IsAnswerOf held sub a × (body ≡ answer_text a)
answered held sub status body is asked ok (inl t) =
    let d : t.1.0 ≡ subquery_data sub = same_Some _ _ (sym t.1.1.1 ∙ subquery_read sub is asked) in
    let same : t.0 ≡ sub = same_ok (sym t.1.2 ∙ ap subquery_at d ∙ sub_back sub is asked) in
    (t.2.0, subst (λ (s : SubQuery). IsAnswerOf held s t.2.0) same t.2.1, t.2.2.body_is)
answered held sub status body is asked ok (inr t) = let no : 200 ≡ 400 = sym ok ∙ t.3.status_is in absurd (omega (arith, no))

-- ---- the response

response_is : (status n : ℕ) (body b rest : List ℕ) → 100 ≤ status → status < 1000 → length body ≤ MAX_BODY → IsResponse (response_text status body) n b rest → (status ≡ n) × (body ≡ b)
response_is status n body b rest low high short response =
    let back = response_back status body [] low high short in
    let whole = subst (λ (text : List ℕ). IsResponse text status body []) (append-nil (response_text status body)) back in
    let one = one_response (response_text status body) status n body b [] rest whole response in
    (one.0, one.1)

-- a response of status 200 has the status and the body that were written
pub written_is : (status : ℕ) (body b rest : List ℕ) → 100 ≤ status → status < 1000 → IsResponse (wire.answer_text status body) 200 b rest → (status ≡ 200) × (body ≡ b)
written_is status body b rest low high response = by (nat_le (length body) MAX_BODY) refl response
  where
    by : (short : Bool) → nat_le (length body) MAX_BODY ≡ short → IsResponse (cond short (response_text status body) (response_text 500 (codes "{\"error\":\"TooLarge\"}"))) 200 b rest
        → (status ≡ 200) × (body ≡ b)
    by true short response = response_is status 200 body b rest low high (leb-true (length body) MAX_BODY short) response
    by false long response =
        let other = response_is 500 200 (codes "{\"error\":\"TooLarge\"}") b rest (omega arith) (omega arith) (omega arith) response in
        absurd (omega (arith, other.0))

-- the status of any answer to a query
status_fits : (held : List Segment) (bytes : List ℕ) (status : ℕ) (body : List ℕ) → AnswersQuery held bytes status body → (100 ≤ status) × (status < 1000)
status_fits held bytes status body (inl t) = let is = t.2.2.status_is in (omega (arith, is), omega (arith, is))
status_fits held bytes status body (inr t) = let is = t.3.status_is in (omega (arith, is), omega (arith, is))

-- ---- what is reported

-- what an answer tells is what was written of it
reported_is : (sub : SubQuery) (held : List Segment) (a : Answer) (json : Data) (missed : List Asked) (groups : List Group)
    → IsQuery sub.query → IsAsked sub.query.source sub.asked → All HaveWords held → IsAnswerOf held sub a
    → read (answer_text a) ≡ Some json → ReportsAnswer sub json missed groups → (a.missing ≡ missed) × (a.partial.groups ≡ groups)
reported_is sub held a json missed groups is asked words answer reads reports =
    let was_asked : WereAsked sub a.missing = λ x there.
    (from_filter (is_missing held) sub.asked x (subst (λ (xs : List Asked). Contains xs x) answer.missed there)).0 in
    let kept = groups_held sub.query held sub.asked a.partial.groups is (λ x there. (asked.valid x there).1) words answer.result in
    let of_segments = all_of_each IsOfSegment a.missing (λ x there. record { identified = (asked.valid x (was_asked x there)).0 }) in
    let same : answer_data a.missing a.partial.groups ≡ json = same_Some _ _ (sym (answer_text_read a.missing a.partial.groups of_segments kept) ∙ reads) in
    let back = answer_back sub a.missing a.partial.groups was_asked
    (λ x there. let v = asked.valid x (was_asked x there) in (asked.sources x (was_asked x there), v.0, v.1)) answer.result.ordered answer.of_query.each kept in
    let mine = subst (λ (d : Data). ReportsAnswer sub d a.missing a.partial.groups) same back in
    let rows : mine.rows ≡ reports.rows = same_Some _ _ (sym mine.found ∙ reports.found) in (
      same_Some _ _ (sym mine.missed ∙ reports.missed),
      one_reading sub.query reports.rows a.partial.groups groups (subst (λ (d : Data). ReportsGroups sub.query d a.partial.groups) rows mine.reported) reports.reported,
    )

-- ---- the pieces that were given

-- each piece tells the same of the segments, where it is given, and else nothing
piece_counted : (query : Query) (held segments : List Segment) (asked : List Asked) (a : Asked) → Contains asked a → AreAmong asked held segments
    → ((not (list_any (same_asked a) (missing held asked)) ≡ true) × (counted_of query held a ≡ counted_of query segments a))
    ⊎ ((not (list_any (same_asked a) (missing held asked)) ≡ false) × (counted_of query held a ≡ []))
piece_counted query held segments asked a there among = by (segment_named a.0 held) refl
  where
    given : (s : Segment) → segment_named a.0 held ≡ Some s → (b : Bool) → list_any (same_asked a) (missing held asked) ≡ b → not b ≡ true
    given s found false e = refl
    given s found true e =
        let other = any_found (same_asked a) (missing held asked) e in
        let absent : is_missing held a ≡ true = ap (is_missing held) (same_asked-true a other.0 other.2) ∙ (from_filter (is_missing held) asked other.0 other.1).1 in
        absurd (false≢true (sym (ap (λ (o : Option Segment). not (is_some o)) found) ∙ absent))

    by : (o : Option Segment) → segment_named a.0 held ≡ o
        → ((not (list_any (same_asked a) (missing held asked)) ≡ true) × (counted_of query held a ≡ counted_of query segments a))
        ⊎ ((not (list_any (same_asked a) (missing held asked)) ≡ false) × (counted_of query held a ≡ []))
    by None e =
        let absent : is_missing held a ≡ true = ap (λ (o : Option Segment). not (is_some o)) e in
        inr (ap not (any_counted (same_asked a) (missing held asked) a (in_filter (is_missing held) asked a there absent) (same_asked-equiv.refl a)), ap (counted_in query a.1) e)
    by (Some s) e =
        inl (given s e (list_any (same_asked a) (missing held asked)) refl, ap (counted_in query a.1) (e ∙ sym (among a s there e)))

flat_same : {A B : Type 0} (f g : A → List B) (p : A → Bool) (xs : List A) → ((x : A) → Contains xs x → ((p x ≡ true) × (f x ≡ g x)) ⊎ ((p x ≡ false) × (f x ≡ [])))
    → flat_map f xs ≡ flat_map g (filter p xs)
flat_same f g p [] each = refl
flat_same f g p (x ∷ xs) each =
    by (each x (0, omega arith, refl)) (flat_same f g p xs (λ y there. each y (Contains-later x xs y there)))
  where
    by : ((p x ≡ true) × (f x ≡ g x)) ⊎ ((p x ≡ false) × (f x ≡ [])) → flat_map f xs ≡ flat_map g (filter p xs) → flat_map f (x ∷ xs) ≡ flat_map g (filter p (x ∷ xs))
    by (inl h) rest = rw (h.0, h.1, rest) refl
    by (inr h) rest = rw (h.0, h.1, rest) refl

pieces_counted : (query : Query) (held segments : List Segment) (asked : List Asked) → AreAmong asked held segments
    → counted_groups query held asked ≡ counted_groups query segments (without (missing held asked) asked)
pieces_counted query held segments asked among =
    flat_same (counted_of query held) (counted_of query segments) (λ a. not (list_any (same_asked a) (missing held asked))) asked
    (λ a there. piece_counted query held segments asked a there among)

-- ---- the whole

pub honest : (state next : State) (query : Query) (asked : List Asked) (node status : ℕ) (body : List ℕ) (segments : List Segment)
    → IsQuery query → IsAsked query.source asked → All HaveWords state.held → Responds state next (request_for query asked) status body
    → AreAmong asked state.held segments
    → IsHonest query segments (record { node = node; asked = asked; came = Ok (wire.answer_text status body) })
honest state next query asked node status body segments is pieces words responds among missed groups reported_so =
    let answer = routed state next query asked status body responds in
    let fits = status_fits state.held (subquery_text (sub_of query asked)) status body answer in
    let bytes : wire.answer_text status body ≡ reported_so.bytes = same_ok reported_so.came in
    let sent = subst (λ (text : List ℕ). IsResponse text 200 reported_so.body reported_so.rest) (sym bytes) reported_so.response in
    let written = written_is status body reported_so.body reported_so.rest fits.0 fits.1 sent in
    let a = answered state.held (sub_of query asked) status body is pieces written.0 answer in
    let reads : read (answer_text a.0) ≡ Some reported_so.json = ap read (sym a.2 ∙ written.1) ∙ reported_so.reads.1 in
    let same = reported_is (sub_of query asked) state.held a.0 reported_so.json missed groups is pieces words a.1 reads reported_so.reported in
    let listed : missing state.held asked ≡ missed = sym a.1.missed ∙ same.0 in
    let rows : counted_groups query state.held asked ≡ counted_groups query segments (without missed asked) =
    pieces_counted query state.held segments asked among ∙ ap (λ (m : List Asked). counted_groups query segments (without m asked)) listed in
    subst (λ (rows : List Group). IsResult (kinds_of query) rows groups) rows
    (subst (λ (gs : List Group). IsResult (kinds_of query) (counted_groups query state.held asked) gs) same.1 a.1.result)

-- an answer of another status is honest: it tells nothing
pub other_status : (query : Query) (asked : List Asked) (node status : ℕ) (body : List ℕ) (segments : List Segment) → 100 ≤ status → status < 1000 → (status ≡ 200 → ⊥)
    → IsHonest query segments (record { node = node; asked = asked; came = Ok (wire.answer_text status body) })
other_status query asked node status body segments low high other missed groups reported_so =
    let bytes : wire.answer_text status body ≡ reported_so.bytes = same_ok reported_so.came in
    let sent = subst (λ (text : List ℕ). IsResponse text 200 reported_so.body reported_so.rest) (sym bytes) reported_so.response in
    absurd (other (written_is status body reported_so.body reported_so.rest low high sent).0)

-- and so is one that may tell out of memory in the place of the answer
pub honest_in_turn : (state next : State) (query : Query) (asked : List Asked) (node status : ℕ) (body : List ℕ) (segments : List Segment)
    → IsQuery query → IsAsked query.source asked → All HaveWords state.held → RespondsInTurn state next (request_for query asked) status body
    → AreAmong asked state.held segments
    → IsHonest query segments (record { node = node; asked = asked; came = Ok (wire.answer_text status body) })
honest_in_turn state next query asked node status body segments is pieces words (inl responds) among = honest state next query asked node status body segments is pieces words responds among
honest_in_turn state next query asked node status body segments is pieces words (inr memory) among =
    let reported_500 = memory.1.status_is in
    other_status query asked node status body segments (omega (arith, reported_500)) (omega (arith, reported_500)) (λ ok. omega (arith, reported_500, ok))
