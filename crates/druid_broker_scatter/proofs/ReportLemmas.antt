-- What an answer tells is one, and what is no answer tells nothing.
use Rattle.std.proofs.Common.{◌≡◌, ◌∙◌, inr, ℕ, List, Option, Some, None, Ok, Err, Result, true, not, eqb, refl, sym, ap, subst}
use Rattle.std.specs.Option.{IfNone}
use Rattle.std.specs.Result.{IfOk, OnErr}
use Rattle.std.proofs.lemmas.Bool.{false≢true, eq-eqb}
use Rattle.std.proofs.lemmas.Option.{same_Some}
use Rattle.serde_json.specs.Data.{Data}
use Rattle.druid_query.specs.Asked.{Asked}
use Rattle.druid_base.specs.Json.{ReadsAs}
use Rattle.druid_query.specs.Query.{Query}
use Rattle.druid_query.specs.SubQuery.{SubQuery}
use Rattle.druid_partial_text.specs.Answers.{IsAnswerOf, ReportsAnswer}
use Rattle.druid_partial_text.specs.declared.fault.PartialFault.{PartialFault}
use Rattle.druid_partial_text.specs.declared.fault.PartialFault.TheVariants.{NotJson, Shape}
use Rattle.druid_partial.specs.declared.answer.Answer.{Answer}
use Rattle.druid_partial.specs.Groups.{Group}
use Rattle.druid_partial_text.specs.Read.{ReportsGroups}
use Rattle.druid_partial_text.proofs.ReadBackLemmas as back
use Rattle.druid_link.specs.Links.{Came}
use Rattle.druid_http_wire.specs.Messages.{IsResponse}
use Rattle.druid_http_wire.proofs.OnceLemmas.{one_response}
use Rattle.druid_broker_scatter.specs.declared.fault.GatherFault.{GatherFault}
use Rattle.druid_broker_scatter.specs.Gathered.{Answers, IsLost, Exchange}
use Rattle.druid_broker_scatter.specs.Pending.{Reports, ReportsNothing, ReadingLacksMemory, LacksMemory, exchange_of}

-- ---- bytes

pub no_response : (sub : SubQuery) (bytes : List ℕ) → ((status : ℕ) (body rest : List ℕ) → IsResponse bytes status body rest → ⊥) → ReportsNothing sub bytes
no_response sub bytes none m g t = none 200 t.body t.rest t.response

pub other_status : (sub : SubQuery) (bytes : List ℕ) (status : ℕ) (body rest : List ℕ) → IsResponse bytes status body rest → (status ≡ 200 → ⊥) → ReportsNothing sub bytes
other_status sub bytes status body rest r other m g t = other (one_response bytes status 200 body t.body rest t.rest r t.response).0

body_same : (sub : SubQuery) (bytes : List ℕ) (status : ℕ) (body rest : List ℕ) (m : List Asked) (g : List Group) → IsResponse bytes status body rest → (t : Reports sub bytes m g) → t.body ≡ body
body_same sub bytes status body rest m g r t = (one_response bytes 200 status t.body body t.rest rest t.response r).1

pub not_ok : (sub : SubQuery) (bytes : List ℕ) (status : ℕ) (body rest : List ℕ) → IsResponse bytes status body rest → not (eqb status 200) ≡ true → ReportsNothing sub bytes
not_ok sub bytes status body rest r differs =
    other_status sub bytes status body rest r (λ same. false≢true (ap not (sym (eq-eqb status 200 same)) ∙ differs))

pub no_json : (sub : SubQuery) (bytes : List ℕ) (status : ℕ) (body rest : List ℕ) → IsResponse bytes status body rest → ((d : Data) → ReadsAs body d → ⊥) → ReportsNothing sub bytes
no_json sub bytes status body rest r none m g t = none t.json (subst (λ (b : List ℕ). ReadsAs b t.json) (body_same sub bytes status body rest m g r t) t.reads)

data_same : (body : List ℕ) (d e : Data) → ReadsAs body d → ReadsAs body e → d ≡ e
data_same body d e r s = same_Some d e (sym r.1 ∙ s.1)

pub other_shape : (sub : SubQuery) (bytes : List ℕ) (status : ℕ) (body rest : List ℕ) (d : Data) → IsResponse bytes status body rest → ReadsAs body d
    → ((m : List Asked) (g : List Group) → ReportsAnswer sub d m g → ⊥) → ReportsNothing sub bytes
other_shape sub bytes status body rest d r reads none m g t =
    let there = subst (λ (b : List ℕ). ReadsAs b t.json) (body_same sub bytes status body rest m g r t) t.reads in
    none m g (subst (λ (e : Data). ReportsAnswer sub e m g) (data_same body t.json d there reads) t.reported)

pub reported_no_json : (sub : SubQuery) (bytes : List ℕ) (status : ℕ) (body rest : List ℕ) (fault : PartialFault) → IsResponse bytes status body rest → IsAnswerOf sub body (Err fault) → fault ≡ NotJson → ReportsNothing sub bytes
reported_no_json sub bytes status body rest fault r a e = no_json sub bytes status body rest r (subst (λ (f : PartialFault). IsAnswerOf sub body (Err f)) e a)

pub reported_other_shape : (sub : SubQuery) (bytes : List ℕ) (status : ℕ) (body rest : List ℕ) (fault : PartialFault) → IsResponse bytes status body rest → IsAnswerOf sub body (Err fault) → fault ≡ Shape → ReportsNothing sub bytes
reported_other_shape sub bytes status body rest fault r a e =
    let b = subst (λ (f : PartialFault). IsAnswerOf sub body (Err f)) e a in
    other_shape sub bytes status body rest b.0 r b.1 b.2

reported_same : (sub : SubQuery) (d : Data) (m n : List Asked) (g h : List Group) → ReportsAnswer sub d m g → ReportsAnswer sub d n h → (m ≡ n) × (g ≡ h)
reported_same sub d m n g h t u =
    let rows : t.rows ≡ u.rows = same_Some t.rows u.rows (sym t.found ∙ u.found) in
    (same_Some m n (sym t.missed ∙ u.missed), back.one_reading sub.query u.rows g h (subst (λ (r : Data). ReportsGroups sub.query r g) rows t.reported) u.reported)

pub reports_same : (sub : SubQuery) (bytes : List ℕ) (m n : List Asked) (g h : List Group) → Reports sub bytes m g → Reports sub bytes n h → (m ≡ n) × (g ≡ h)
reports_same sub bytes m n g h t u =
    let there = subst (λ (b : List ℕ). ReadsAs b u.json) (body_same sub bytes 200 t.body t.rest n h t.response u) u.reads in
    reported_same sub t.json m n g h t.reported (subst (λ (e : Data). ReportsAnswer sub e n h) (data_same t.body u.json t.json there t.reads) u.reported)

-- ---- exchanges

same_bytes : (a b : List ℕ) (came : Came) → came ≡ Ok a → came ≡ Ok b → a ≡ b
same_bytes a b came e f = cc

pub answer_reports : (query : Query) (e : Exchange) (bytes : List ℕ) (m : List Asked) (g : List Group) → e.came ≡ Ok bytes → Answers query e m g → Reports (record { query = query; asked = e.asked }) bytes m g
answer_reports query e bytes m g came a =
    let same : a.bytes ≡ bytes = same_bytes a.bytes bytes e.came a.came came in
    record { body = a.body; rest = a.rest; response = subst (λ (b : List ℕ). IsResponse b 200 a.body a.rest) same a.response; json = a.json; reads = a.reads; reported = a.reported }

pub answers_same : (query : Query) (e : Exchange) (m n : List Asked) (g h : List Group) → Answers query e m g → Answers query e n h → (m ≡ n) × (g ≡ h)
answers_same query e m n g h a b =
    reports_same (record { query = query; asked = e.asked }) a.bytes m n g h (answer_reports query e a.bytes m g a.came a) (answer_reports query e a.bytes n h a.came b)

pub reports_nothing : (sub : SubQuery) (bytes : List ℕ) → ReportsNothing sub bytes → (node : ℕ) → IsLost sub.query (exchange_of sub (Ok bytes) node)
reports_nothing sub bytes none node = record {
  had_memory = λ e. cc;
  no_answer = λ m g a. none m g (answer_reports sub.query (exchange_of sub (Ok bytes) node) bytes m g refl a);
}

-- bytes that tell nothing are lost
pub lost_of : (sub : SubQuery) (bytes there : List ℕ) (came : Came) (r : Result (Option Answer) GatherFault) → there ≡ bytes → came ≡ Ok bytes → IfOk r (λ read. IfNone read (ReportsNothing sub there))
    → IfOk r (λ read. IfNone read ((node : ℕ) → IsLost sub.query (exchange_of sub came node)))
lost_of sub bytes there came (Ok None) same is none =
    λ node. subst (λ (c : Came). IsLost sub.query (exchange_of sub c node)) (sym is) (reports_nothing sub bytes (subst (ReportsNothing sub) same none) node)
lost_of sub bytes there came (Ok (Some a)) same is none = tt
lost_of sub bytes there came (Err f) same is none = tt

-- ---- out of memory

pub lacks_of : (sub : SubQuery) (bytes there : List ℕ) (came : Came) (r : Result (Option Answer) GatherFault) → there ≡ bytes → came ≡ Ok bytes → OnErr r (ReadingLacksMemory sub there) → OnErr r (LacksMemory sub came)
lacks_of sub bytes there came (Ok a) same is lacks = tt
lacks_of sub bytes there came (Err f) same is lacks = inr (bytes, is, subst (ReadingLacksMemory sub) same lacks)
