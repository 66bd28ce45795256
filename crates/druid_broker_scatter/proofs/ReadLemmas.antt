-- What was read of a round's answers: whose they are, and what they tell in all.
use Rattle.std.proofs.Common.{◌≡◌, ◌∙◌, ◌⊎◌, ◌==◌, inl, inr, ℕ, zero, suc, ◌+◌, ◌<◌, ◌≤◌, Bool, true, false, List, [], ◌∷◌, ◌++◌, length, map, get_or, set, All, Any, IsSome, Contains, Option, Some, None, Result, Ok, Err, OnErr, append_assoc, refl, sym, ap, subst, arith}
use Rattle.std.specs.List.Sorted.{IsStrictlyIncreasing}
use Rattle.std.specs.Option.{IfSome, IfNone}
use Rattle.std.specs.Result.{IfOk}
use Rattle.std.proofs.lemmas.Bool.{false≢true}
use Rattle.std.proofs.lemmas.Bool.Decides.{Decides-eqb}
use Rattle.std.proofs.lemmas.List.{append-nil, get_or-map, length-append, length-map, map-append, get_or_append_left, get_or-append-add}
use Rattle.std.proofs.lemmas.List.Elements.{Contains-append_left, Contains-append_right, Contains-get_or}
use Rattle.std.proofs.lemmas.List.Kept.{AllPairs-from_increasing}
use Rattle.std.proofs.lemmas.Option.{same_Some}
use Rattle.druid_base.proofs.ListLemmas.{Contains-here, IsStrictlyIncreasing-first, IsStrictlyIncreasing-tail}
use Rattle.druid_base.proofs.MemberLemmas.{Contains-cons, Contains-later, Contains-map_back, Contains-nil}
use Rattle.druid_query.specs.Asked.{Asked}
use Rattle.druid_query.specs.Query.{Query}
use Rattle.druid_query.specs.SubQuery.{SubQuery}
use Rattle.druid_query.specs.declared.aggregator.AggregatorKind.{AggregatorKind}
use Rattle.druid_partial.specs.Groups.{Group, IsMerge, IsResult}
use Rattle.druid_partial.specs.Partials.{Partial, IsPartial, IsPartialFor, kinds_of}
use Rattle.druid_partial.proofs.GroupLemmas.{merge_of_results}
use Rattle.druid_link.specs.Links.{Came}
use Rattle.druid_http_wire.specs.Written.{request_text}
use Rattle.druid_broker_scatter.specs.Gathered.{Exchange, Answers, IsLost, AllReport, request_for}
use Rattle.druid_broker_scatter.specs.Pending.{Ask, AreRead, AreSent, BothRead, Found, HaveLinks, IsRead, MayLackMemory, Missed, Reads, ReportsIf, ReportsPlaces, ask_of, exchange_of, missed_of, sub_request}
use Rattle.druid_broker_scatter.proofs.MadeLemmas.{both_led, none_led, one_led}
use Rattle.druid_broker_scatter.proofs.StateLemmas.{reports_itself}
use Rattle.druid_broker_scatter.proofs.WaitLemmas.{head_missed, tail_missed}

-- ---- of the exchanges of a round

-- all of them tell these rows
pub read_reports : (query : Query) (made : List Exchange) (missed : List Missed) (rows : List Group) → AreRead query made missed rows → AllReport query made rows
read_reports query [] [] rows h = h
read_reports query [] (m ∷ missed) rows h = absurd h
read_reports query (e ∷ made) [] rows h = absurd h
read_reports query (e ∷ made) (m ∷ missed) rows h = one m.1 h.3 (read_reports query made missed h.1 h.4)
  where
    one : (found : Option Found) → IsRead query e found h.0 → AllReport query made h.1 → AllReport query (e ∷ made) rows
    one None lost rest = inr (lost.0, subst (AllReport query made) (sym (h.5 ∙ ap (λ (rows : List Group). rows ++ h.1) lost.1)) rest)
    one (Some found) answer rest = inl (answer.0, h.0, h.1, answer.1, rest, h.5)

-- they are with the same nodes
pub read_nodes : (query : Query) (made : List Exchange) (missed : List Missed) (rows : List Group) → AreRead query made missed rows → map (λ (m : Missed). m.0) missed ≡ map (λ (ask : Ask). ask.0) (map ask_of made)
read_nodes query [] [] rows h = refl
read_nodes query [] (m ∷ missed) rows h = absurd h
read_nodes query (e ∷ made) [] rows h = absurd h
read_nodes query (e ∷ made) (m ∷ missed) rows h = λ i. h.2 i ∷ read_nodes query made missed h.1 h.4 i

-- what one of them was read as
pub read_at : (query : Query) (made : List Exchange) (missed : List Missed) (rows : List Group) → AreRead query made missed rows → IsStrictlyIncreasing (map (λ (ask : Ask). ask.0) (map ask_of made))
    → (e : Exchange) → Contains made e → (one : List Group) × IsRead query e (missed_of missed e.node) one
read_at query [] missed rows h up e c = absurd (Contains-nil e c)
read_at query (x ∷ made) [] rows h up e c = absurd h
read_at query (x ∷ made) (m ∷ missed) rows h up e c = elim (Contains-cons x made e c) [
  | inl same ↦ (
    h.0,
    subst (λ (f : Option Found). IsRead query e f h.0) (sym (head_missed m missed e.node (h.2 ∙ ap (λ (y : Exchange). y.node) same))) (subst (λ (y : Exchange). IsRead query y m.1 h.0) same h.3),
  )
  | inr there ↦
      let r = read_at query made missed h.1 h.4 (IsStrictlyIncreasing-tail x.node _ up) e there in
      let in_nodes = Contains-map_back (λ (ask : Ask). ask.0) (map ask_of made) (ask_of e) (Contains-map_back ask_of made e there) in
      let above = IsStrictlyIncreasing-first x.node _ e.node up in_nodes in
      (r.0, subst (λ (f : Option Found). IsRead query e f r.0) (sym (tail_missed m missed e.node (λ same. omega (arith, h.2, above, same)))) r.1)
]

-- the answer of the node that misses what stands at these places
abbrev pub AnsweredBy : Query → List Exchange → ℕ → Found → Type 0
AnsweredBy query made node found =
    (e : Exchange) × (missing : List Asked) × (one : List Group) × Contains made e × (e.node ≡ node) × Answers query e missing one × ReportsPlaces found missing

pub answered_by : (query : Query) (made : List Exchange) (missed : List Missed) (rows : List Group) → AreRead query made missed rows → (node : ℕ) (found : Found) → missed_of missed node ≡ Some found
    → AnsweredBy query made node found
answered_by query [] [] rows h node found is = absurd (cc)
answered_by query [] (m ∷ missed) rows h node found is = absurd h
answered_by query (e ∷ made) [] rows h node found is = absurd h
answered_by query (e ∷ made) (m ∷ missed) rows h node found is = at (m.0 == node) refl (answered_by query made missed h.1 h.4 node found)
  where
    here : (f : Option Found) → f ≡ Some found → IsRead query e f h.0 → (missing : List Asked) × Answers query e missing h.0 × ReportsPlaces found missing
    here None same r = absurd (cc)
    here (Some g) same r = (r.0, r.1, subst (λ (f : Found). ReportsPlaces f r.0) (same_Some g found same) r.2)

    at : (b : Bool) → (m.0 == node) ≡ b → (missed_of missed node ≡ Some found → AnsweredBy query made node found) → AnsweredBy query (e ∷ made) node found
    at true b rest =
        let same = (Decides-eqb m.0 node).0 b in
        let r = here m.1 (sym (head_missed m missed node same) ∙ is) h.3 in
        (e, r.0, h.0, Contains-here e made, sym h.2 ∙ same, r.1, r.2)
    at false b rest =
        let r = rest (sym (tail_missed m missed node (λ same. false≢true (sym b ∙ (Decides-eqb m.0 node).1 same))) ∙ is) in
        (r.0, r.1, r.2, Contains-later e made r.0 r.3, r.4, r.5, r.6)

-- ---- of halves

-- what was read of both halves
read_both : (query : Query) (s t : List Exchange) (m n : List Missed) (a b : List Group) → AreRead query s m a → AreRead query t n b → AreRead query (s ++ t) (m ++ n) (a ++ b)
read_both query [] t [] n a b h k = subst (AreRead query t n) (sym (ap (λ (r : List Group). r ++ b) h)) k
read_both query [] t (y ∷ m) n a b h k = absurd h
read_both query (e ∷ s) t [] n a b h k = absurd h
read_both query (e ∷ s) t (y ∷ m) n a b h k = (h.0, h.1 ++ b, h.2, h.3, read_both query s t m n h.1 b h.4 k, ap (λ (r : List Group). r ++ b) h.5 ∙ append_assoc h.0 h.1 b)

any_left : {X : Type 0} (P : X → Type 0) (xs ys : List X) → Any P xs → Any P (xs ++ ys)
any_left P xs ys h = (h.0, h.1, omega (arith, length-append xs ys, h.2), get_or_append_left xs ys h.1 h.0 h.2 ∙ h.3, h.4)

any_right : {X : Type 0} (P : X → Type 0) (xs ys : List X) → Any P ys → Any P (xs ++ ys)
any_right P xs ys h = (length xs + h.0, h.1, omega (arith, length-append xs ys, h.2), get_or-append-add xs ys h.0 h.1 ∙ h.3, h.4)

-- memory may have run out at one of the exchanges
abbrev pub MayLack : Exchange → Type 0
MayLack e = MayLackMemory e.came

-- a half that lacked memory
pub right_lacks : {F : Type 0} (query : Query) (left right result : Result (Option Partial) F) (fault : F) → right ≡ Err fault → result ≡ Err fault → BothRead query left right result
right_lacks {F} query left right result fault e is s t m n h k =
    subst (λ (r : Result (Option Partial) F). Reads query (s ++ t) (m ++ n) r) (sym is) (any_right MayLack s t (subst (λ (r : Result (Option Partial) F). Reads query t n r) e k))

some_came : (query : Query) (made : List Exchange) (reported : Option Partial) → IfSome reported (λ p. IsPartialFor query p × Any MayLack made) → IsSome reported → Any MayLack made
some_came query made None h some = absurd (false≢true some)
some_came query made (Some p) h some = h.1

-- both halves, merged
pub both_read : {F : Type 0} (query : Query) (left right : Option Partial) (l r result : Result (Option Partial) F) → l ≡ Ok left → r ≡ Ok right
    → IfOk result (λ both. (a b : List Group) → ReportsIf query a left → ReportsIf query b right → ReportsIf query (a ++ b) both) → IfOk result (λ both. IfSome both (λ p. IsPartialFor query p × (IsSome left ⊎ IsSome right)))
    → OnErr result (IsSome left) → BothRead query l r result
both_read {F} query left right l r result el er reported some err s t m n h k =
    at result reported some err (subst (λ (x : Result (Option Partial) F). Reads query s m x) el h) (subst (λ (x : Result (Option Partial) F). Reads query t n x) er k)
  where
    at : (result : Result (Option Partial) F) → IfOk result (λ both. (a b : List Group) → ReportsIf query a left → ReportsIf query b right → ReportsIf query (a ++ b) both)
        → IfOk result (λ both. IfSome both (λ p. IsPartialFor query p × (IsSome left ⊎ IsSome right))) → OnErr result (IsSome left)
        → Reads {F = F} query s m (Ok left) → Reads {F = F} query t n (Ok right) → Reads {F = F} query (s ++ t) (m ++ n) result
    at (Err fault) reported some err h k = any_left MayLack s t (some_came query s left h.1 err)
    at (Ok None) reported some err h k = ((h.0.0 ++ k.0.0, read_both query s t m n h.0.0 k.0.0 h.0.1 k.0.1, reported h.0.0 k.0.0 h.0.2 k.0.2), tt)
    at (Ok (Some p)) reported some err h k = (
      (h.0.0 ++ k.0.0, read_both query s t m n h.0.0 k.0.0 h.0.1 k.0.1, reported h.0.0 k.0.0 h.0.2 k.0.2),
      (some.0, elim some.1 [ inl one ↦ any_left MayLack s t (some_came query s left h.1 one) | inr other ↦ any_right MayLack s t (some_came query t right k.1 other) ]),
    )

-- ---- merges

pub empty_left : (left right : Partial) → left.groups ≡ [] → left.kinds ≡ right.kinds → IsPartial right → IsMerge left.kinds left.groups right.groups right.groups
empty_left left right none same valid =
    subst (λ (gs : List Group). IsResult left.kinds gs right.groups) (sym (ap (λ (gs : List Group). gs ++ right.groups) none))
    (subst (λ (ks : List AggregatorKind). IsResult ks right.groups right.groups) (sym same) (reports_itself right valid))

pub empty_right : (left right : Partial) → right.groups ≡ [] → IsPartial left → IsMerge left.kinds left.groups right.groups left.groups
empty_right left right none valid =
    subst (λ (gs : List Group). IsResult left.kinds gs left.groups) (sym (ap (λ (gs : List Group). left.groups ++ gs) none ∙ append-nil left.groups)) (reports_itself left valid)

pub nothing : {X : Type 0} (xs : List X) → length xs ≡ 0 → xs ≡ []
nothing [] e = refl
nothing (x ∷ xs) e = absurd (omega arith)

-- a partial, and what is told beside it
pub reported_beside : (query : Query) (r : Option Partial) (left right both : Partial) → r ≡ Some right → left.kinds ≡ kinds_of query → IsMerge left.kinds left.groups right.groups both.groups
    → (a b : List Group) → IsResult (kinds_of query) a left.groups → ReportsIf query b r → IsResult (kinds_of query) (a ++ b) both.groups
reported_beside query r left right both there kinds merge a b h k =
    merge_of_results (kinds_of query) a b left.groups right.groups both.groups h (subst (ReportsIf query b) there k)
    (subst (λ (ks : List AggregatorKind). IsMerge ks left.groups right.groups both.groups) kinds merge)

pub reported_both : (query : Query) (l r : Option Partial) (left right both : Partial) → l ≡ Some left → r ≡ Some right → IfSome l (IsPartialFor query) → IsMerge left.kinds left.groups right.groups both.groups
    → (a b : List Group) → ReportsIf query a l → ReportsIf query b r → IsResult (kinds_of query) (a ++ b) both.groups
reported_both query l r left right both here there of merge a b h k =
    let of_left : IsPartialFor query left = subst (λ (o : Option Partial). IfSome o (IsPartialFor query)) here of in
    reported_beside query r left right both there of_left.kinds merge a b (subst (ReportsIf query a) here h) k

-- ---- what one node gives

-- the bytes that were sent ask the subquery
pub stepped : {L : Type 0} (step : L → List ℕ → Came → L → Type 0) (sub : SubQuery) (bytes there : List ℕ) (came : Came) (old new : L) → bytes ≡ sub_request sub → there ≡ bytes → step old there came new → step old (sub_request sub) came new
stepped step sub bytes there came old new asks same h = subst (λ (bs : List ℕ). step old bs came new) (same ∙ asks) h

pub at_some : {X : Type 0} (o : Option X) (x : X) (P : X → Type 0) → o ≡ Some x → IfSome o P → P x
at_some o x P e h = subst (λ (r : Option _). IfSome r P) e h

pub at_none : {X : Type 0} (o : Option X) (P : Type 0) → o ≡ None → IfNone o P → P
at_none o P e h = subst (λ (r : Option _). IfNone r P) e h

pub answer_lacks : (sub : SubQuery) (came : Came) (missing : List Asked) (rows : List Group) → ((node : ℕ) → Answers sub.query (exchange_of sub came node) missing rows) → MayLackMemory came
answer_lacks sub came missing rows a = let x = a 0 in inr (x.bytes, x.body, x.rest, x.came, x.response)

pub one_lacks : (sub : SubQuery) (came : Came) (node : ℕ) → MayLackMemory came → Any MayLack (exchange_of sub came node ∷ [])
one_lacks sub came node lacks = (0, exchange_of sub came node, omega arith, refl, lacks)

pub one_lost : (query : Query) (sub : SubQuery) (came : Came) (node : ℕ) → sub.query ≡ query → ((node : ℕ) → IsLost sub.query (exchange_of sub came node))
    → Reads {F = Unit {0}} query (exchange_of sub came node ∷ []) ((node, None) ∷ []) (Ok None)
one_lost query sub came node of lost = (([], ([], [], refl, (subst (λ (q : Query). IsLost q (exchange_of sub came node)) of (lost node), refl), refl, refl), refl), tt)

pub one_reported : (query : Query) (sub : SubQuery) (came : Came) (node : ℕ) (found : Found) (p : Partial) → sub.query ≡ query
    → (missing : List Asked) × ((node : ℕ) → Answers sub.query (exchange_of sub came node) missing p.groups) × ReportsPlaces found missing → IsPartialFor sub.query p → IsPartial p
    → Reads {F = Unit {0}} query (exchange_of sub came node ∷ []) ((node, Some found) ∷ []) (Ok (Some p))
one_reported query sub came node found p of answer for valid =
    let mine : IsPartialFor query p = subst (λ (q : Query). IsPartialFor q p) of for in
    let whole : IsResult (kinds_of query) p.groups p.groups = subst (λ (ks : List AggregatorKind). IsResult ks p.groups p.groups) mine.kinds (reports_itself p valid) in
    let reported = subst (λ (q : Query). Answers q (exchange_of sub came node) answer.0 p.groups) of (answer.1 node) in (
      (p.groups, (p.groups, [], refl, (answer.0, reported, answer.2), refl, sym (append-nil p.groups)), whole),
      (mine, one_lacks sub came node (answer_lacks sub came answer.0 p.groups answer.1)),
    )

-- ---- of links

-- no exchange
pub none_sent : {L F : Type 0} (step : L → List ℕ → Came → L → Type 0) (query : Query) (first : ℕ) (asks : List Ask) (links : List L) (missed : List Missed) → asks ≡ [] → missed ≡ [] → AreSent {F = F} step query first asks links links missed (Ok None)
none_sent step query first asks links missed none also = rw (none, also) (record { made = []; of = refl; led = none_led step query first links; read = (([], refl, refl), tt) })

-- one exchange
pub one_sent : {L F : Type 0} (step : L → List ℕ → Came → L → Type 0) (query : Query) (first place node : ℕ) (sub : SubQuery) (asks : List Ask) (old new : List L) (a b : L) (missed : List Missed) (m : Missed) (r : Result (Option Partial) F)
    → asks ≡ (node, sub.asked) ∷ [] → missed ≡ m ∷ [] → new ≡ set old place b → node ≡ first + place → a ≡ get_or old place a → place < length old → sub.query ≡ query
    → (came : Came) × step a (sub_request sub) came b × Reads query (exchange_of sub came node ∷ []) (m ∷ []) r → AreSent step query first asks old new missed r
one_sent step query first place node sub asks old new a b missed m r of also is at there within same h =
    let stepped = subst (λ (q : Query). step a (request_text (request_for q sub.asked)) h.0 b) same h.1 in
    rw (of, also, is) (record { made = exchange_of sub h.0 node ∷ []; of = refl; led = one_led step query first place (exchange_of sub h.0 node) old a b at there within stepped; read = h.2 })

-- ---- halves of them

rise_front : (xs ys : List ℕ) → IsStrictlyIncreasing (xs ++ ys) → IsStrictlyIncreasing xs
rise_front xs ys up k within = omega (arith, up k (omega (arith, length-append xs ys)), get_or_append_left xs ys 0 k (omega arith), get_or_append_left xs ys 0 (k + 1) within)

rise_back : (xs ys : List ℕ) → IsStrictlyIncreasing (xs ++ ys) → IsStrictlyIncreasing ys
rise_back xs ys up k within =
    let below = AllPairs-from_increasing (xs ++ ys) up (length xs + k) (length xs + (k + 1)) 0 (omega arith) (omega (arith, length-append xs ys, within)) in
    omega (arith, below, get_or-append-add xs ys k 0, get_or-append-add xs ys (k + 1) 0)

front_below : (xs ys : List ℕ) → IsStrictlyIncreasing (xs ++ ys) → (x y : ℕ) → Contains xs x → Contains ys y → x < y
front_below xs ys up x y c d =
    let below = AllPairs-from_increasing (xs ++ ys) up c.0 (length xs + d.0) x (omega (arith, c.1)) (omega (arith, length-append xs ys, d.1)) in
    let same = get_or_append_left xs ys x c.0 c.1 in
    let also = get_or-append-add xs ys d.0 x in
    let last = get_or_any ys d.0 x y d.1 in
    omega (arith, below, same, also, last, c.2, d.2)
  where
    get_or_any : (ys : List ℕ) (k x y : ℕ) → k < length ys → get_or ys k x ≡ get_or ys k y
    get_or_any [] k x y within = absurd (omega arith)
    get_or_any (z ∷ ys) zero x y within = refl
    get_or_any (z ∷ ys) (suc k) x y within = get_or_any ys k x y (omega arith)

first_is_least : (asks : List Ask) (next : ℕ) (d : Ask) → 0 < length asks → next ≡ (get_or asks 0 d).0 → IsStrictlyIncreasing (map (λ (ask : Ask). ask.0) asks) → (ask : Ask) → Contains asks ask → next ≤ ask.0
first_is_least [] next d some is up ask c = absurd (omega arith)
first_is_least (a ∷ asks) next d some is up ask c = elim (Contains-cons a asks ask c) [
  | inl same ↦ let one = ap (λ (x : Ask). x.0) same in omega (arith, is, one)
  | inr there ↦
      let above = IsStrictlyIncreasing-first a.0 (map (λ (x : Ask). x.0) asks) ask.0 up (Contains-map_back (λ (x : Ask). x.0) asks ask there) in
      omega (arith, is, above)
]

-- the nodes of the halves of asks that have their links have theirs in the halves of the links
halves : (first next m n : ℕ) (front back : List Ask) (d : Ask) → 0 < length back → next ≡ (get_or back 0 d).0 → next ≡ first + m → HaveLinks first (m + n) (front ++ back) → HaveLinks first m front × HaveLinks next n back
halves first next m n front back d some is cut linked = (
  record {
    rising = rise_front (map node front) (map node back) up;
    each = λ ask c.
        let whole = linked.each ask (Contains-append_left front back ask c) in
        let less = front_below (map node front) (map node back) up ask.0 next (Contains-map_back node front ask c) in_back in
        (whole.0, omega (arith, less, cut));
  },
  record {
    rising = rise_back (map node front) (map node back) up;
    each = λ ask c.
        let whole = linked.each ask (Contains-append_right front back ask c) in
        (first_is_least back next d some is (rise_back (map node front) (map node back) up) ask c, omega (arith, whole.1, cut));
  },
)
  where
    node : Ask → ℕ
    node ask = ask.0

    up : IsStrictlyIncreasing (map node front ++ map node back)
    up = subst IsStrictlyIncreasing (map-append node front back) linked.rising

    in_back : Contains (map node back) next
    in_back = subst (Contains (map node back)) (sym is) (Contains-map_back node back (get_or back 0 d) (Contains-get_or back 0 d some))

-- the same of what is asked so
pub halves_in : {X : Type 0} (g : X → Ask) (first next m n count : ℕ) (xs front back : List X) (d : X) → xs ≡ front ++ back → 0 < length back → next ≡ (g (get_or back 0 d)).0 → next ≡ first + m → count ≡ m + n → HaveLinks first count (map g xs)
    → HaveLinks first m (map g front) × HaveLinks next n (map g back)
halves_in g first next m n count xs front back d e some is cut parts linked =
    halves first next m n (map g front) (map g back) (g d) (omega (arith, some, length-map back g)) (is ∙ sym (ap (λ (ask : Ask). ask.0) (get_or-map g back 0 d (g d) some))) cut
    (subst (λ (k : ℕ). HaveLinks first k (map g front ++ map g back)) parts (subst (HaveLinks first count) (ap (map g) e ∙ map-append g front back) linked))

pub first_in : {X : Type 0} (g : X → Ask) (first count : ℕ) (xs front back : List X) (d : X) → xs ≡ front ++ back → 0 < length back → HaveLinks first count (map g xs)
    → (first ≤ (g (get_or back 0 d)).0) × ((g (get_or back 0 d)).0 < first + count)
first_in {X} g first count xs front back d e some linked =
    linked.each (g (get_or back 0 d)) (Contains-map_back g xs (get_or back 0 d)
    (subst (λ (ys : List X). Contains ys (get_or back 0 d)) (sym e) (Contains-append_right front back (get_or back 0 d) (Contains-get_or back 0 d some))))

pub all_halves : {X : Type 0} (P : X → Type 0) (xs front back : List X) → xs ≡ front ++ back → All P xs → All P front × All P back
all_halves P xs front back e whole = (
  λ k d within. subst P (get_or_append_left front back d k within) (subst (All P) e whole k d (omega (arith, within, length-append front back))),
  λ k d within. subst P (get_or-append-add front back k d) (subst (All P) e whole (length front + k) d (omega (arith, within, length-append front back))),
)

pub only_one : {X : Type 0} (xs : List X) (x d : X) → length xs ≡ 1 → x ≡ get_or xs 0 d → xs ≡ x ∷ []
only_one [] x d one is = absurd (omega arith)
only_one (y ∷ z ∷ xs) x d one is = absurd (omega arith)
only_one (y ∷ []) x d one is = λ i. sym is i ∷ []

-- what was sent to a node of these has its link
with_link : (first count : ℕ) (asks : List Ask) (made : List Exchange) → HaveLinks first count asks → map ask_of made ≡ asks → (e : Exchange) → Contains made e → (first ≤ e.node) × (e.node < first + count)
with_link first count asks made linked of e c = linked.each (ask_of e) (subst (λ (xs : List Ask). Contains xs (ask_of e)) of (Contains-map_back ask_of made e c))

-- the links of both halves
pub both_sent : {L F : Type 0} (step : L → List ℕ → Came → L → Type 0) (query : Query) (first next count : ℕ) (asks ask ask' : List Ask) (old front back new new' : List L) (missed missed' all : List Missed) (left right result : Result (Option Partial) F)
    → old ≡ front ++ back → asks ≡ ask ++ ask' → all ≡ missed ++ missed' → next ≡ first + length front → HaveLinks first (length front) ask → HaveLinks next count ask' → AreSent step query first ask front new missed left
    → AreSent step query next ask' back new' missed' right → BothRead query left right result → AreSent step query first asks old (new ++ new') all result
both_sent step query first next count asks ask ask' old front back new new' missed missed' all left right result of_links of_asks of_missed cut in_front in_back h k merge = record {
  made = h.made ++ k.made;
  of = map-append ask_of h.made k.made ∙ (λ i. h.of i ++ k.of i) ∙ sym of_asks;
  led = rw of_links (both_led step query first next h.made k.made front new back new' cut
      (λ e c. let link = with_link first (length front) ask h.made in_front h.of e c in omega (arith, link.1, cut))
      (λ e c. (with_link next count ask' k.made in_back k.of e c).0) h.led k.led);
  read = rw of_missed (merge h.made k.made missed missed' h.read k.read);
}

-- ---- what is told beside a partial

pub reported_beside_if : {F : Type 0} (query : Query) (o : Option Partial) (left right : Partial) (r : Result Partial F) → o ≡ Some right → left.kinds ≡ kinds_of query → IfOk r (λ both. IsMerge left.kinds left.groups right.groups both.groups)
    → IfOk r (λ new. (a b : List Group) → IsResult (kinds_of query) a left.groups → ReportsIf query b o → IsResult (kinds_of query) (a ++ b) new.groups)
reported_beside_if query o left right (Ok both) there kinds merge = reported_beside query o left right both there kinds merge
reported_beside_if query o left right (Err fault) there kinds merge = tt

pub nothing_beside : (query : Query) (o : Option Partial) (p : Partial) → o ≡ None → (a b : List Group) → IsResult (kinds_of query) a p.groups → ReportsIf query b o → IsResult (kinds_of query) (a ++ b) p.groups
nothing_beside query o p e a b h k =
    let none : b ≡ [] = subst (ReportsIf query b) e k in
    subst (λ (rows : List Group). IsResult (kinds_of query) rows p.groups) (sym (ap (λ (xs : List Group). a ++ xs) none ∙ append-nil a)) h
