-- A round as a whole: what waits on afterwards, and what was gathered.
use Rattle.std.proofs.Common.{◌≡◌, ◌∙◌, ◌⊎◌, inl, inr, ℕ, ◌+◌, ◌<◌, Bool, true, false, List, [], ◌++◌, length, take, drop, map, filter, Any, IsSome, Contains, Option, Some, None, Result, Ok, Err, refl, sym, ap, subst, arith}
use Rattle.std.specs.List.{slice_get}
use Rattle.std.specs.List.Sorted.{IsStrictlyIncreasing, IsStrictlySortedBy}
use Rattle.std.proofs.lemmas.Bool.{false≢true}
use Rattle.std.proofs.lemmas.List.{append-nil, length-map}
use Rattle.std.proofs.lemmas.List.Elements.{Contains-append_cases, Contains-append_left, Contains-append_right}
use Rattle.std.proofs.lemmas.Option.{same_Some}
use Rattle.druid_timeline.proofs.HoldingLemmas.{in_filter, from_filter}
use Rattle.druid_query.specs.Asked.{Asked}
use Rattle.druid_query.specs.Query.{Query}
use Rattle.druid_partial.specs.Groups.{Group, IsResult}
use Rattle.druid_partial.specs.Partials.{Partial, kinds_of}
use Rattle.druid_link.specs.Links.{Came}
use Rattle.druid_broker_scatter.specs.Plan.{Pair, place_cmp}
use Rattle.druid_broker_scatter.specs.Gathered.{Exchange, AtOnePlace, Gives, AreMade, AreAsked}
use Rattle.druid_broker_scatter.specs.Pending.{PendingSlice, State, Ask, AreBelow, AreOrdered, AreRead, AreSent, AsksOn, Found, Goes, HaveLinks, Holds, IsRead, IsRound, IsState, MayLackMemory, Missed, ReportsIf, ask_of, is_missed, missed_of, pieces_of, place_of, stays, stays_at}
use Rattle.druid_broker_scatter.proofs.AskedLemmas.{are_asked, get_append, get_contains, wanted_back, wanted_by}
use Rattle.druid_broker_scatter.proofs.MadeLemmas.{made_of_led, none_made}
use Rattle.druid_broker_scatter.proofs.ReadLemmas.{answered_by, read_at, read_nodes, read_reports}
use Rattle.druid_broker_scatter.proofs.RequestLemmas.{written_all}
use Rattle.druid_broker_scatter.proofs.RoundLemmas as asked
use Rattle.druid_broker_scatter.proofs.StateLemmas.{one_piece, sorted_filter, report_both}
use Rattle.druid_broker_scatter.proofs.ReportLemmas.{answers_same}

module _ (query : Query) (round : ℕ) (old new : State) (more : List Exchange) (missed : List Missed) (rows : List Group) (r : IsRound round old.waiting (map ask_of more)) (read : AreRead query more missed rows)
    (kept : new.waiting ≡ filter (stays round missed) old.waiting) (merged : (a : List Group) → IsResult (kinds_of query) a old.partial.groups → IsResult (kinds_of query) (a ++ rows) new.partial.groups)
    (order : List ℕ → List ℕ) (pairs : List Pair) (waits : List PendingSlice) (exchanges : List Exchange) (o : AreOrdered order pairs waits) (s : IsState query waits old round exchanges) where
  abbrev left : List PendingSlice
  left = old.waiting

  abbrev h : Holds query waits left round exchanges
  h = s.holds

  in_order : (e : Exchange) → Contains more e → IsStrictlySortedBy place_cmp e.asked
  in_order e c = (asked.asked_more query order pairs waits left round exchanges more o h r).in_order e (Contains-append_right exchanges more e c)

  -- what waits on was not given
  ungiven : (w : PendingSlice) → Contains left w → stays round missed w ≡ true → (e : Exchange) → Contains more e → Gives query e w.asked → ⊥
  ungiven w in_left t e in_it g = by_answer (missed_of missed e.node) (read_at query more missed rows read r.rising e in_it) here
    where
      here : is_missed (missed_of missed e.node) (place_of w.asked) ≡ true
      here = subst (λ (node : Option ℕ). stays_at node missed (place_of w.asked) ≡ true)
          (asked.has_turn_now query order pairs waits left round exchanges more o h r e w in_it (asked.in_waits query order pairs waits left round exchanges more o h r w in_left) g.0).1 t

      by_answer : (found : Option Found) → (one : List Group) × IsRead query e found one → is_missed found (place_of w.asked) ≡ true → ⊥
      by_answer None lost is = lost.1.0.no_answer g.1 g.2 g.3
      by_answer (Some found) answer is =
          let stands = (answer.1.2 (place_of w.asked)).0 is in
          let piece : stands.0 ≡ w.asked = one_piece e.asked (in_order e in_it) stands.0 w.asked (answer.1.1.reported.were_asked stands.0 stands.1) g.0 stands.2 in
          let same : answer.1.0 ≡ g.1 = (answers_same query e answer.1.0 g.1 answer.0 g.2 answer.1.1 g.3).0 in
          g.4 (subst (λ (m : List Asked). Contains m w.asked) same (subst (Contains answer.1.0) piece stands.1))

  -- what was not given waits on
  waits_on : (w : PendingSlice) → Contains left w → ((e : Exchange) → Contains more e → Gives query e w.asked → ⊥) → stays round missed w ≡ true
  waits_on w in_left none = of_node (slice_get w.order round) refl
    where
      of_answer : (node : ℕ) (found : Found) → slice_get w.order round ≡ Some node → missed_of missed node ≡ Some found → (b : Bool) → found (place_of w.asked) ≡ b → found (place_of w.asked) ≡ true
      of_answer node found at there true is = is
      of_answer node found at there false is =
          let a = answered_by query more missed rows read node found there in
          let wanted = wanted_back round a.0.node left w in_left (at ∙ ap Some (sym a.4)) in
          let asks = subst (λ (xs : List Asked). Contains xs w.asked) (sym (asked.of_node query order pairs waits left round exchanges more o h r a.0 a.3)) wanted in
          absurd (none a.0 a.3 (asks, a.1, a.2, a.5, λ m. false≢true (sym is ∙ (a.6 (place_of w.asked)).1 (w.asked, m, refl))))

      of_place : (node : ℕ) → slice_get w.order round ≡ Some node → (found : Option Found) → missed_of missed node ≡ found → is_missed found (place_of w.asked) ≡ true
      of_place node at None there = refl
      of_place node at (Some found) there = of_answer node found at there (found (place_of w.asked)) refl

      of_node : (node : Option ℕ) → slice_get w.order round ≡ node → stays_at node missed (place_of w.asked) ≡ true
      of_node None at = refl
      of_node (Some node) at = of_place node at (missed_of missed node) refl

  -- no piece was given twice
  given_once : (a : Asked) → AtOnePlace (exchanges ++ more) (λ x y. Gives query x a × Gives query y a)
  given_once a i j x y at there both =
      elim (get_append exchanges more i x at) [
        | inl old ↦ elim (get_append exchanges more j y there) [
          | inl older ↦ h.given_once a i j x y old older both
          | inr new ↦ absurd (apart x y (get_contains exchanges i x old) (get_contains more new.0 y new.2) both.0 both.1)
        ]
        | inr new ↦ elim (get_append exchanges more j y there) [
          | inl old ↦ absurd (apart y x (get_contains exchanges j y old) (get_contains more new.0 x new.2) both.1 both.0)
          | inr newer ↦
              let one = one_node x y (get_contains more new.0 x new.2) (get_contains more newer.0 y newer.2) both.0.0 both.1.0 in
              (asked.asked_more query order pairs waits left round exchanges more o h r).asked_once a x.node i j x y at there ((refl, both.0.0), (one, both.1.0))
        ]
      ]
    where
      waits_for : (e : Exchange) → Contains more e → Contains e.asked a → (w : PendingSlice) × Contains left w × (w.asked ≡ a) × (slice_get w.order round ≡ Some e.node)
      waits_for e c asks = asked.waits_for query order pairs waits left round exchanges more o h r e a c asks

      apart : (x y : Exchange) → Contains exchanges x → Contains more y → Gives query x a → Gives query y a → ⊥
      apart x y old new g k =
          let w = waits_for y new k.0 in
          ((h.left_are w.0).0 w.1).1 x old (subst (Gives query x) (sym w.2) g)

      one_node : (x y : Exchange) → Contains more x → Contains more y → Contains x.asked a → Contains y.asked a → y.node ≡ x.node
      one_node x y c d asks also =
          let v = waits_for x c asks in
          let now = asked.has_turn_now query order pairs waits left round exchanges more o h r y v.0 d ((h.left_are v.0).0 v.1).0 (subst (Contains y.asked) (sym v.2) also) in
          same_Some y.node x.node (sym now.1 ∙ v.3)

  settled_holds : Holds query waits new.waiting (round + 1) (exchanges ++ more)
  settled_holds = record {
    asked = asked.asked_more query order pairs waits left round exchanges more o h r;
    left_are = λ w. (
      λ c. let is = was_left w c in (
        ((h.left_are w).0 is.0).0,
        λ e in_it g. elim (Contains-append_cases exchanges more e in_it) [
          | inl before ↦ ((h.left_are w).0 is.0).1 e before g
          | inr now ↦ ungiven w is.0 is.1 e now g
        ],
      ),
      λ c.
          let in_left = (h.left_are w).1 (c.0, λ e in_it g. c.1 e (Contains-append_left exchanges more e in_it) g) in
          subst (λ (ws : List PendingSlice). Contains ws w) (sym kept)
          (in_filter (stays round missed) left w in_left (waits_on w in_left (λ e in_it g. c.1 e (Contains-append_right exchanges more e in_it) g))),
    );
    ordered = subst (λ (ws : List PendingSlice). IsStrictlySortedBy place_cmp (pieces_of ws)) (sym kept) (sorted_filter place_cmp (λ (w : PendingSlice). w.asked) (stays round missed) left h.ordered);
    done = λ w t n c at before. elim (earlier t before) [
      | inl less ↦ let d = h.done w t n (was_left w c).0 at less in (d.0, Contains-append_left exchanges more d.0 d.1, d.2)
      | inr now ↦
          let there : slice_get w.order round ≡ Some n = subst (λ (k : ℕ). slice_get w.order k ≡ Some n) now at in
          let e = asked.asked_now query order pairs waits left round exchanges more o h r w n (was_left w c).0 there in
          (e.0, Contains-append_right exchanges more e.0 e.1, e.2)
    ];
    given_once = given_once;
  }
    where
      was_left : (w : PendingSlice) → Contains new.waiting w → Contains left w × (stays round missed w ≡ true)
      was_left w c = from_filter (stays round missed) left w (subst (λ (ws : List PendingSlice). Contains ws w) kept c)

      earlier : (t : ℕ) → t < round + 1 → (t < round) ⊎ (t ≡ round)
      earlier t before = grind arith

  settled_state : IsState query waits new (round + 1) (exchanges ++ more)
  settled_state = record {
    holds = settled_holds;
    rows = s.rows ++ rows;
    reported = report_both query exchanges more s.rows rows s.reported (read_reports query more missed rows read);
    merged = merged s.rows s.merged;
  }

-- ---- over links

-- a round whose exchanges are lent
pub round_borrowed : {X : Type 0} (f : X → Ask) (round : ℕ) (waits seen : List PendingSlice) (own borrowed : List X) → seen ≡ waits → borrowed ≡ own → IsRound round seen (map f own) → IsRound round waits (map f borrowed)
round_borrowed f round waits seen own borrowed same is r = subst (λ (ws : List PendingSlice). IsRound round ws (map f borrowed)) same (subst (λ (xs : List _). IsRound round seen (map f xs)) (sym is) r)

-- each node that a round asks has its link
pub have_links : (round count : ℕ) (waits : List PendingSlice) (asks : List Ask) → IsRound round waits asks → AreBelow count waits → HaveLinks 0 count asks
have_links round count waits asks r below = record {
  rising = r.rising;
  each = λ ask c.
      let some = r.each ask c in
      let w = wanted_by round ask.0 waits some.1 (subst (λ (xs : List Asked). Contains xs some.1) some.0 some.2) in
      let link = below w.0 ask.0 w.1 (get_contains w.0.order round ask.0 w.3) in
      (omega arith, omega (arith, link));
}

-- what waits on had its links before
pub still_below : (count count' : ℕ) (waits after : List PendingSlice) (test : PendingSlice → Bool) → AreBelow count waits → after ≡ filter test waits → count' ≡ count → AreBelow count' after
still_below count count' waits after test below kept same w node c at =
    subst (λ (n : ℕ). node < n) (sym same) (below w node (from_filter test waits w (subst (λ (ws : List PendingSlice). Contains ws w) kept c)).0 at)

-- after a round that was read
pub round_ok : {L F : Type 0} (step : L → List ℕ → Came → L → Type 0) (query : Query) (round : ℕ) (old new : List L) (state after : State) (asks : List Ask) (missed : List Missed) (read_partial : Option Partial) → IsRound round state.waiting asks
    → AreSent {F = F} step query 0 asks old new missed (Ok read_partial) → after.waiting ≡ filter (stays round missed) state.waiting
    → ((a b : List Group) → IsResult (kinds_of query) a state.partial.groups → ReportsIf query b read_partial → IsResult (kinds_of query) (a ++ b) after.partial.groups)
    → (more : List Exchange) × AreMade step query more old new × Goes query round state after more
round_ok step query round old new state after asks missed read_partial r sent kept merged = (
  sent.made,
  made_of_led step query sent.made old new sent.led,
  settled_state query round state after sent.made missed sent.read.0.0 (subst (IsRound round state.waiting) (sym sent.of) r) sent.read.0.1 kept (λ a is. merged a sent.read.0.0 is sent.read.0.2),
)

-- what its answers miss is of the nodes that it asks
missed_nodes : {L F : Type 0} (step : L → List ℕ → Came → L → Type 0) (query : Query) (old new : List L) (asks : List Ask) (missed : List Missed) (read_partial : Option Partial) → AreSent {F = F} step query 0 asks old new missed (Ok read_partial)
    → map (λ (m : Missed). m.0) missed ≡ map (λ (ask : Ask). ask.0) asks
missed_nodes step query old new asks missed read_partial sent = read_nodes query sent.made missed sent.read.0.0 sent.read.0.1 ∙ ap (map (λ (ask : Ask). ask.0)) sent.of

-- the exchanges that were written in place, where a vector has them
pub written_in : {L F X : Type 0} (step : L → List ℕ → Came → L → Type 0) (query : Query) (f : X → Ask) (g : X → Missed) (old new : List L) (n : ℕ) (own borrowed after there : List X) (read_partial : Option Partial)
    → AreSent {F = F} step query 0 (map f borrowed) old new (map g after) (Ok read_partial) → length own ≡ n → borrowed ≡ own → there ≡ take n (after ++ drop (length after) own) → there ≡ after
written_in step query f g old new n own borrowed after there read_partial sent long is e =
    let nodes = ap length (missed_nodes step query old new (map f borrowed) (map g after) read_partial sent) in
    let as_many : length after ≡ length borrowed =
    omega (arith, nodes, length-map (map g after) (λ (m : Missed). m.0), length-map after g, length-map (map f borrowed) (λ (ask : Ask). ask.0), length-map borrowed f) in
    e ∙ written_all n own after long (as_many ∙ ap length is)

-- what was kept, by what they miss
pub kept_by : {X : Type 0} (g : X → Missed) (round : ℕ) (waits before kept : List PendingSlice) (after there : List X) → before ≡ waits → there ≡ after → kept ≡ filter (stays round (map g there)) before → kept ≡ filter (stays round (map g after)) waits
kept_by g round waits before kept after there same is e = e ∙ (λ i. filter (stays round (map g (is i))) (same i))

-- the nodes of what it misses rise
pub missed_rise : {L F : Type 0} (step : L → List ℕ → Came → L → Type 0) (query : Query) (round : ℕ) (old new : List L) (waits : List PendingSlice) (asks : List Ask) (missed : List Missed) (read_partial : Option Partial) → IsRound round waits asks
    → AreSent {F = F} step query 0 asks old new missed (Ok read_partial) → IsStrictlyIncreasing (map (λ (m : Missed). m.0) missed)
missed_rise step query round old new waits asks missed read_partial r sent = subst IsStrictlyIncreasing (sym (missed_nodes step query old new asks missed read_partial sent)) r.rising

-- where memory ran out
abbrev pub RanOut : {L : Type 0} → (L → List ℕ → Came → L → Type 0) → Query → ℕ → State → List L → List L → Type 0
RanOut step query round state old new =
    (more : List Exchange) × AreMade step query more old new × AsksOn query round state more × ((more ≡ []) ⊎ Any (λ e. MayLackMemory e.came) more)

-- before anything was sent
pub unsent : {L : Type 0} (step : L → List ℕ → Came → L → Type 0) (query : Query) (round : ℕ) (state : State) (links : List L) → RanOut step query round state links links
unsent step query round state links = (
  [],
  none_made step query links,
  λ order pairs waits exchanges o s. subst (AreAsked order query pairs) (sym (append-nil exchanges)) (are_asked query order pairs waits round exchanges o s.holds.asked),
  inl refl,
)

ran_out : {L F : Type 0} (step : L → List ℕ → Came → L → Type 0) (query : Query) (round : ℕ) (old new : List L) (state : State) (asks : List Ask) (missed : List Missed) (result : Result (Option Partial) F) → IsRound round state.waiting asks
    → (sent : AreSent step query 0 asks old new missed result) → Any (λ e. MayLackMemory e.came) sent.made → RanOut step query round state old new
ran_out step query round old new state asks missed result r sent lacks = (
  sent.made,
  made_of_led step query sent.made old new sent.led,
  λ order pairs waits exchanges o s.
      are_asked query order pairs waits (round + 1) (exchanges ++ sent.made) o
      (asked.asked_more query order pairs waits state.waiting round exchanges sent.made o s.holds (subst (IsRound round state.waiting) (sym sent.of) r)),
  inr lacks,
)

-- while answers were read
pub round_lacks : {L F : Type 0} (step : L → List ℕ → Came → L → Type 0) (query : Query) (round : ℕ) (old new : List L) (state : State) (asks : List Ask) (missed : List Missed) (fault : F) → IsRound round state.waiting asks
    → AreSent step query 0 asks old new missed (Err fault) → RanOut step query round state old new
round_lacks step query round old new state asks missed fault r sent = ran_out step query round old new state asks missed (Err fault) r sent sent.read

-- when what they tell was merged
pub merge_lacks : {L F : Type 0} (step : L → List ℕ → Came → L → Type 0) (query : Query) (round : ℕ) (old new : List L) (state : State) (asks : List Ask) (missed : List Missed) (read_partial : Option Partial) → IsRound round state.waiting asks
    → AreSent {F = F} step query 0 asks old new missed (Ok read_partial) → IsSome read_partial → RanOut step query round state old new
merge_lacks step query round old new state asks missed None r sent some = absurd (false≢true some)
merge_lacks step query round old new state asks missed (Some p) r sent some = ran_out step query round old new state asks missed (Ok (Some p)) r sent sent.read.1.1
