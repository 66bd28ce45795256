-- The exchanges of rounds lead each link from one state to another.
use Rattle.std.proofs.Common.{◌≡◌, ◌≢◌, ◌∙◌, ◌⊎◌, inl, inr, ℕ, zero, suc, ◌+◌, ◌<◌, ◌≤◌, List, [], ◌∷◌, ◌++◌, length, get_or, set, Contains, Some, refl, sym, ap, subst, arith}
use Rattle.std.specs.List.{slice_get}
use Rattle.std.proofs.lemmas.List.{length-append}
use Rattle.std.proofs.lemmas.Option.{same_Some, slice_get_within, slice_get-get_or}
use Rattle.std.proofs.Math.ListN.{length-set}
use Rattle.druid_base.proofs.ListLemmas.{Contains-here}
use Rattle.druid_base.proofs.MemberLemmas.{Contains-later}
use Rattle.druid_query.specs.Query.{Query}
use Rattle.druid_link.specs.Links.{Came}
use Rattle.druid_http_wire.specs.Written.{request_text}
use Rattle.druid_broker_scatter.specs.Gathered.{Exchange, Leads, AreMade, request_for}
use Rattle.druid_broker_scatter.specs.Pending.{AreLed}
use Rattle.druid_broker_scatter.proofs.AskedLemmas.{get_append}

-- exchanges with other nodes leave a link alone
others : {L : Type 0} (step : L → List ℕ → Came → L → Type 0) (query : Query) (node : ℕ) (made : List Exchange) (a : L) → ((e : Exchange) → Contains made e → e.node ≢ node) → Leads step query node made a a
others step query node [] a apart = refl
others step query node (e ∷ made) a apart = inr (apart e (Contains-here e made), others step query node made a (λ x c. apart x (Contains-later e made x c)))

leads_append : {L : Type 0} (step : L → List ℕ → Came → L → Type 0) (query : Query) (node : ℕ) (es fs : List Exchange) (a b c : L) → Leads step query node es a b → Leads step query node fs b c → Leads step query node (es ++ fs) a c
leads_append {L} step query node [] fs a b c h k = subst (λ (x : L). Leads step query node fs x c) (sym h) k
leads_append step query node (e ∷ es) fs a b c (inl h) k = inl (h.0, h.1, h.2, leads_append step query node es fs h.1 b c h.3 k)
leads_append step query node (e ∷ es) fs a b c (inr h) k = inr (h.0, leads_append step query node es fs a b c h.1 k)

-- ---- one round

pub none_led : {L : Type 0} (step : L → List ℕ → Came → L → Type 0) (query : Query) (first : ℕ) (links : List L) → AreLed step query first [] links links
none_led step query first links = record { count = refl; each = λ i a b e f. same_Some a b (sym e ∙ f) }

-- a link that was written, and the others
written_at : {L : Type 0} (old : List L) (place : ℕ) (a b : L) → a ≡ get_or old place a → place < length old → (i : ℕ) (x y : L) → slice_get old i ≡ Some x → slice_get (set old place b) i ≡ Some y
    → ((i ≡ place) × (x ≡ a) × (y ≡ b)) ⊎ ((i ≢ place) × (x ≡ y))
written_at [] place a b is within i x y e f = absurd (omega arith)
written_at (z ∷ old) zero a b is within zero x y e f = inl (refl, sym (same_Some z x e) ∙ sym is, sym (same_Some b y f))
written_at (z ∷ old) zero a b is within (suc i) x y e f = inr (λ same. omega arith, same_Some x y (sym e ∙ f))
written_at (z ∷ old) (suc place) a b is within zero x y e f = inr (λ same. omega arith, same_Some x y (sym e ∙ f))
written_at (z ∷ old) (suc place) a b is within (suc i) x y e f = elim (written_at old place a b is (omega arith) i x y e f) [
  | inl here ↦ inl (ap suc here.0, here.1, here.2)
  | inr other ↦ inr (λ same. other.0 (omega arith), other.1)
]

-- an exchange, over the link of its node
pub one_led : {L : Type 0} (step : L → List ℕ → Came → L → Type 0) (query : Query) (first place : ℕ) (e : Exchange) (old : List L) (a b : L) → e.node ≡ first + place → a ≡ get_or old place a → place < length old
    → step a (request_text (request_for query e.asked)) e.came b → AreLed step query first (e ∷ []) old (set old place b)
one_led {L} step query first place e old a b node is within stepped = record {
  count = length-set old place b;
  each = λ i x y at there. elim (written_at old place a b is within i x y at there) [
    | inl here ↦ inl (
      node ∙ ap (λ (n : ℕ). first + n) (sym here.0),
      b,
      subst (λ (z : L). step z (request_text (request_for query e.asked)) e.came b) (sym here.1) stepped,
      sym here.2,
    )
    | inr other ↦ inr (λ same. other.0 (omega (arith, node, same)), other.1)
  ];
}

-- the links of both halves
pub both_led : {L : Type 0} (step : L → List ℕ → Came → L → Type 0) (query : Query) (first next : ℕ) (made made' : List Exchange) (front new back new' : List L) → next ≡ first + length front
    → ((e : Exchange) → Contains made e → e.node < next) → ((e : Exchange) → Contains made' e → next ≤ e.node) → AreLed step query first made front new → AreLed step query next made' back new'
    → AreLed step query first (made ++ made') (front ++ back) (new ++ new')
both_led {L} step query first next made made' front new back new' cut below above h k = record {
  count = length-append new new' ∙ (λ i. h.count i + k.count i) ∙ sym (length-append front back);
  each = λ i a b at there. elim (get_append front back i a at) [
    | inl here ↦ elim (get_append new new' i b there) [
      | inl also ↦
          let inside = slice_get_within front i a here in
          leads_append step query (first + i) made made' a b b (h.each i a b here also)
          (others step query (first + i) made' b (λ e c same. let past = above e c in omega (arith, inside, cut, past, same)))
      | inr beyond ↦ let inside = slice_get_within front i a here in absurd (omega (arith, inside, beyond.1, h.count))
    ]
    | inr there' ↦ elim (get_append new new' i b there) [
      | inl early ↦ let inside = slice_get_within new i b early in absurd (omega (arith, inside, there'.1, h.count))
      | inr also ↦
          let one : also.0 ≡ there'.0 = omega (arith, also.1, there'.1, h.count) in
          let node : next + there'.0 ≡ first + i = omega (arith, cut, there'.1) in
          leads_append step query (first + i) made made' a a b
          (others step query (first + i) made a (λ e c same. let early = below e c in omega (arith, early, node, same)))
          (subst (λ (n : ℕ). Leads step query n made' a b) node (k.each there'.0 a b there'.2 (subst (λ (n : ℕ). slice_get new' n ≡ Some b) one also.2)))
    ]
  ];
}

-- link k is that of node k
pub made_of_led : {L : Type 0} (step : L → List ℕ → Came → L → Type 0) (query : Query) (made : List Exchange) (old new : List L) → AreLed step query 0 made old new → AreMade step query made old new
made_of_led step query made old new h = record {
  count = h.count;
  each = λ node a b e f. let at : 0 + node ≡ node = omega arith in subst (λ (n : ℕ). Leads step query n made a b) at (h.each node a b e f);
}

-- ---- round after round

pub none_made : {L : Type 0} (step : L → List ℕ → Came → L → Type 0) (query : Query) (links : List L) → AreMade step query [] links links
none_made step query links = made_of_led step query [] links links (none_led step query 0 links)

pub made_append : {L : Type 0} (step : L → List ℕ → Came → L → Type 0) (query : Query) (es fs : List Exchange) (old mid new : List L) → AreMade step query es old mid → AreMade step query fs mid new → AreMade step query (es ++ fs) old new
made_append step query es fs old mid new h k = record {
  count = k.count ∙ h.count;
  each = λ node a c e f.
      let within = slice_get_within new node c f in
      let below : node < length mid = subst (λ (n : ℕ). node < n) k.count within in
      let b = get_or mid node a in
      let at : slice_get mid node ≡ Some b = slice_get-get_or mid node a below in
      leads_append step query node es fs a b c (h.each node a b e at) (k.each node b c at f);
}
