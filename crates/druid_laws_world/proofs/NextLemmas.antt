-- An event leads to one state, or it is refused; and no mark falls.
use Rattle.std.proofs.Common.{◌≡◌, ◌≢◌, ℕ, Bool, true, false, cond, List, length, set, Option, Some, None, refl, sym, ap, ◌∙◌, subst, inl, inr, arith, ◌<◌, nat_lt, [], ◌∷◌}
use Rattle.std.specs.List.{AllZip, slice_get}
use Rattle.std.specs.Ordering.{ordering_reverse}
use Rattle.std.specs.declared.cmp.Ordering.{Ordering}
use Rattle.std.specs.declared.cmp.Ordering.TheVariants.{Less, Equal, Greater}
use Rattle.std.specs.Option.{option_and_then}
use Rattle.std.proofs.lemmas.Option.{same_Some, none-some}
use Rattle.druid_segment_descriptor.specs.Orders.{mark_cmp-total}
use Rattle.druid_segment_descriptor.specs.Mark.{Point, never, same_mark, mark_cmp}
use Rattle.druid_segment_descriptor.specs.declared.change.Ask.{Ask}
use Rattle.druid_segment_descriptor.specs.declared.change.Ask.TheVariants as asks
use Rattle.druid_segment_descriptor.specs.declared.change.Cause.TheVariants.{Ahead}
use Rattle.druid_segment_descriptor.specs.declared.reply.Body.{Body}
use Rattle.druid_segment_descriptor.specs.declared.reply.Body.TheVariants as bodies
use Rattle.druid_sync_history.specs.Answer.{answer}
use Rattle.druid_sync_pages.specs.Assembly.{Parts}
use Rattle.druid_inventory.specs.Assembly.{IsPageReply}
use Rattle.druid_inventory.specs.Entry.{Entry, ask_of, answer_of}
use Rattle.druid_inventory.specs.Step.{Steps, Refuses}
use Rattle.druid_inventory.specs.declared.fault.Outcome.TheVariants.{AskWhole}
use Rattle.druid_inventory.proofs.StepLemmas.{Steps-mark, Steps-one, Steps-some, Steps-not_refused}
use Rattle.druid_laws_world.specs.World.{Life, IsLife, IsHonest, IsTrueEntry, IsInventoryOf, eras_of}
use Rattle.druid_laws_world.specs.Run.{State, Next, Run, IsReached, Applies, AppliesGiven, TakesPage, Delivers, takes, recorded, restarted, last_incarnation, with_frozen, with_node, with_packet, with_broker, asked, seed_ask, parts_at, ask_refusal, needs, is_request, refusal, node_names}
use Rattle.druid_laws_world.specs.declared.event.AskKind.{AskKind}
use Rattle.druid_laws_world.specs.declared.event.AskKind.TheVariants as kinds
use Rattle.druid_laws_world.specs.declared.event.Event.{Event}
use Rattle.druid_laws_world.specs.declared.event.Event.TheVariants.{Record, Restart, Ask as Asks, Answer, Seed, Deliver, Cut, Fail}
use Rattle.druid_laws_world.specs.declared.event.Packet.{Packet}
use Rattle.druid_laws_world.specs.declared.event.Packet.TheVariants.{Request, Reply}
use Rattle.druid_laws_world.specs.declared.event.SimFault.{SimFault}
use Rattle.druid_laws_world.specs.declared.event.SimFault.TheVariants as faults
use Rattle.druid_laws_world.proofs.ListLemmas.{each_get, get_below, below_get, pairs_set, pairs_self, pairs_find, pairs_join}
use Rattle.druid_laws_world.proofs.WorldLemmas.{answers_truly, synced, unsynced_not}
use Rattle.druid_laws_world.proofs.PageLemmas.{AreTrue, take_one, take_not_refused, take_some}
use Rattle.druid_laws_world.proofs.RunLemmas.{Holds, IsPut, FrozenStands, reached-holds}

-- ---- marks

abbrev pub HasRisen : Entry → Entry → Type 0
HasRisen e f = mark_cmp e.mark f.mark ≢ Greater

risen_self : (e : Entry) → HasRisen e e
risen_self e = Steps-mark e (bodies.Reset Ahead e.mark) AskWhole e refl

abbrev HaveRisen : List Entry → List Entry → Type 0
HaveRisen before after = AllZip HasRisen before after

none_fell : (inventory : List Entry) → HaveRisen inventory inventory
none_fell inventory = pairs_self HasRisen inventory risen_self

applies-risen : (inventory after : List Entry) (node : ℕ) (reply : Body) → Applies inventory node reply after → HaveRisen inventory after
applies-risen inventory after node reply (inl h) =
    subst (HaveRisen inventory) (sym h.3)
    (pairs_set HasRisen inventory inventory node h.2.0 h.1 (none_fell inventory) h.2.1 (Steps-mark h.2.0 reply h.0 h.1 h.2.2))
applies-risen inventory after node reply (inr h) = subst (HaveRisen inventory) (sym h.2) (none_fell inventory)

given-risen : (inventory after : List Entry) (node : ℕ) (given : Option Body) → AppliesGiven inventory node given after → HaveRisen inventory after
given-risen inventory after node None h = subst (HaveRisen inventory) (sym h) (none_fell inventory)
given-risen inventory after node (Some reply) h = applies-risen inventory after node reply h

page-risen : (inventory after : List Entry) (node : ℕ) (reply : Body) (parts left : Option Parts) → TakesPage inventory parts node reply after left → HaveRisen inventory after
page-risen inventory after node reply parts left (inl h) = given-risen inventory after node h.0 h.2
page-risen inventory after node reply parts left (inr h) = subst (HaveRisen inventory) (sym h.1) (none_fell inventory)

delivers-risen : (inventory after : List Entry) (node : ℕ) (reply : Body) (parts left : Option Parts) → Delivers inventory parts node reply after left → HaveRisen inventory after
delivers-risen inventory after node reply parts left (inl h) = page-risen inventory after node reply parts left h.1
delivers-risen inventory after node reply parts left (inr h) = applies-risen inventory after node reply h.1

same_brokers : (s t : State) → s.brokers ≡ t.brokers → AllZip HaveRisen s.brokers t.brokers
same_brokers s t e = subst (λ (b : List (List Entry)). AllZip HaveRisen s.brokers b) e (pairs_self HaveRisen s.brokers none_fell)

next-risen : (s t : State) (event : Event) → Next s event t → AllZip HaveRisen s.brokers t.brokers
next-risen s t (Record node change) h = same_brokers s t (ap (λ (u : State). u.brokers) (sym h.3))
next-risen s t (Restart node) h = same_brokers s t (ap (λ (u : State). u.brokers) (sym h.3))
next-risen s t (Asks broker node kind) h = same_brokers s t (ap (λ (u : State). u.brokers) (sym h.10))
next-risen s t (Answer packet) h = same_brokers s t (ap (λ (u : State). u.brokers) (sym h.9))
next-risen s t (Seed peer broker node page) h = same_brokers s t (ap (λ (u : State). u.brokers) (sym h.9))
next-risen s t (Deliver packet) h =
    subst (λ (u : State). AllZip HaveRisen s.brokers u.brokers) (sym h.13)
    (pairs_set HaveRisen s.brokers s.brokers h.0 h.3 h.4 (pairs_self HaveRisen s.brokers none_fell) h.9 (delivers-risen h.3 h.4 h.1 h.2 h.6 h.7 h.12))
next-risen s t (Cut packet) h = same_brokers s t (ap (λ (u : State). u.brokers) (sym h.2))
next-risen s t (Fail broker node) h = same_brokers s t (ap (λ (u : State). u.brokers) (sym h.4))

not_above : (p q r : Point) (o : Ordering) → mark_cmp p q ≡ o → o ≢ Greater → mark_cmp q r ≢ Greater → mark_cmp p r ≢ Greater
not_above p q r Less e below next above =
    let back : mark_cmp r p ≡ Less = mark_cmp-total.antisymm r p ∙ ap ordering_reverse above in
    let less : mark_cmp r q ≡ Less = mark_cmp-total.trans r p q back e in
    next (mark_cmp-total.antisymm q r ∙ ap ordering_reverse less)
not_above p q r Equal e below next above = next (sym (mark_cmp-total.congr p q r e) ∙ above)
not_above p q r Greater e below next above = below refl

risen_on : (e f g : Entry) → HasRisen e f → HasRisen f g → HasRisen e g
risen_on e f g h k = not_above e.mark f.mark g.mark (mark_cmp e.mark f.mark) refl h k

run-risen : (s t : State) (events : List Event) → Run s events t → AllZip HaveRisen s.brokers t.brokers
run-risen s t [] run = same_brokers s t (ap (λ (u : State). u.brokers) (sym run))
run-risen s t (event ∷ events) run =
    pairs_join HaveRisen s.brokers run.0.brokers t.brokers (λ a b c h k. pairs_join HasRisen a b c risen_on h k) (next-risen s run.0 event run.1) (run-risen run.0 t events run.2)

pub marks_rise : (s t : State) (events : List Event) (broker node : ℕ) (before : List Entry) (e : Entry) → Run s events t → slice_get s.brokers broker ≡ Some before
    → slice_get before node ≡ Some e
    → (after : List Entry) × (f : Entry) × (slice_get t.brokers broker ≡ Some after) × (slice_get after node ≡ Some f) × (mark_cmp e.mark f.mark ≢ Greater)
marks_rise s t events broker node before e run at_broker at_node =
    let found = pairs_find HaveRisen s.brokers t.brokers broker before (run-risen s t events run) at_broker in
    let entry = pairs_find HasRisen before found.0 node e found.2 at_node in
    (found.0, entry.0, found.1, entry.1, entry.2)

-- ---- one state

applies-one : (inventory a b : List Entry) (node : ℕ) (reply : Body) → Applies inventory node reply a → Applies inventory node reply b → a ≡ b
applies-one inventory a b node reply (inl h) (inl k) =
    let entries : h.2.0 ≡ k.2.0 = same_Some h.2.0 k.2.0 (sym h.2.1 ∙ k.2.1) in
    let other = subst (λ (e : Entry). Steps e reply k.0 k.1) (sym entries) k.2.2 in
    let news = (Steps-one h.2.0 reply h.0 k.0 h.1 k.1 h.2.2 other).1 in
    h.3 ∙ ap (set inventory node) news ∙ sym k.3
applies-one inventory a b node reply (inl h) (inr k) =
    let entries : h.2.0 ≡ k.1.0 = same_Some h.2.0 k.1.0 (sym h.2.1 ∙ k.1.1) in
    absurd (Steps-not_refused h.2.0 reply h.0 h.1 k.0 h.2.2 (subst (λ (e : Entry). Refuses e reply k.0) (sym entries) k.1.2))
applies-one inventory a b node reply (inr h) (inl k) =
    let entries : k.2.0 ≡ h.1.0 = same_Some k.2.0 h.1.0 (sym k.2.1 ∙ h.1.1) in
    absurd (Steps-not_refused k.2.0 reply k.0 k.1 h.0 k.2.2 (subst (λ (e : Entry). Refuses e reply h.0) (sym entries) h.1.2))
applies-one inventory a b node reply (inr h) (inr k) = h.2 ∙ sym k.2

given-one : (inventory a b : List Entry) (node : ℕ) (given : Option Body) → AppliesGiven inventory node given a → AppliesGiven inventory node given b → a ≡ b
given-one inventory a b node None h k = h ∙ sym k
given-one inventory a b node (Some reply) h k = applies-one inventory a b node reply h k

page-one : (inventory a b : List Entry) (node : ℕ) (reply : Body) (parts left other : Option Parts) → TakesPage inventory parts node reply a left → TakesPage inventory parts node reply b other
    → (a ≡ b) × (left ≡ other)
page-one inventory a b node reply parts left other (inl h) (inl k) =
    let one = take_one parts reply h.0 k.0 left other h.1 k.1 in
    (given-one inventory a b node h.0 h.2 (subst (λ (g : Option Body). AppliesGiven inventory node g b) (sym one.0) k.2), one.1)
page-one inventory a b node reply parts left other (inl h) (inr k) = absurd (take_not_refused parts reply h.0 left h.1 k.0)
page-one inventory a b node reply parts left other (inr h) (inl k) = absurd (take_not_refused parts reply k.0 other k.1 h.0)
page-one inventory a b node reply parts left other (inr h) (inr k) = (h.1 ∙ sym k.1, h.2 ∙ sym k.2)

delivers-one : (inventory a b : List Entry) (node : ℕ) (reply : Body) (parts left other : Option Parts) → Delivers inventory parts node reply a left → Delivers inventory parts node reply b other
    → (a ≡ b) × (left ≡ other)
delivers-one inventory a b node reply parts left other (inl h) (inl k) = page-one inventory a b node reply parts left other h.1 k.1
delivers-one inventory a b node reply parts left other (inl h) (inr k) = absurd (k.0 h.0)
delivers-one inventory a b node reply parts left other (inr h) (inl k) = absurd (h.0 k.0)
delivers-one inventory a b node reply parts left other (inr h) (inr k) = (applies-one inventory a b node reply h.1 k.1, h.2 ∙ sym k.2)

parts-one : (s : State) (broker node : ℕ) (a b : Option Parts) → parts_at s broker node ≡ Some a → parts_at s broker node ≡ Some b → a ≡ b
parts-one s broker node a b h k = same_Some a b (sym h ∙ k)

pub next-one : (s t u : State) (event : Event) → Next s event t → Next s event u → t ≡ u
next-one s t u (Record node change) h k =
    let lives : h.0 ≡ k.0 = same_Some h.0 k.0 (sym h.1 ∙ k.1) in
    h.3 ∙ ap (λ (life : Life). with_node s node (recorded life change)) lives ∙ sym k.3
next-one s t u (Restart node) h k =
    let lives : h.0 ≡ k.0 = same_Some h.0 k.0 (sym h.1 ∙ k.1) in
    h.3 ∙ ap (λ (life : Life). with_node s node (restarted life)) lives ∙ sym k.3
next-one s t u (Asks broker node kind) h k =
    let inventories : h.1 ≡ k.1 = same_Some h.1 k.1 (sym h.6 ∙ k.6) in
    let entries : h.2 ≡ k.2 = same_Some h.2 k.2 (sym h.7 ∙ ap (λ (inventory : List Entry). slice_get inventory node) inventories ∙ k.7) in
    let parts : h.3 ≡ k.3 = parts-one s broker node h.3 k.3 h.8 k.8 in
    let questions : h.4 ≡ k.4 = same_Some h.4 k.4 (sym h.9 ∙ (λ i. asked kind (entries i) (parts i)) ∙ k.9) in
    h.10 ∙ ap (λ (ask : Ask). with_packet s (Request broker node ask)) questions ∙ sym k.10
next-one s t u (Answer packet) h k =
    let same : Request h.0 h.1 h.2 ≡ Request k.0 k.1 k.2 = same_Some (Request h.0 h.1 h.2) (Request k.0 k.1 k.2) (sym h.6 ∙ k.6) in
    let brokers : h.0 ≡ k.0 = cc in
    let nodes : h.1 ≡ k.1 = cc in
    let questions : h.2 ≡ k.2 = cc in
    let lives : h.3 ≡ k.3 = same_Some h.3 k.3 (sym h.7 ∙ ap (slice_get s.world) nodes ∙ k.7) in
    let replies : (h.4, h.5) ≡ (k.4, k.5) = same_Some (h.4, h.5) (k.4, k.5)
    (sym h.8 ∙ (λ i. answer (lives i).last.incarnation (lives i).last.changes (lives i).kept (lives i).frozen (questions i)) ∙ k.8) in
    h.9 ∙ (λ i. with_packet (with_node s (nodes i) (with_frozen (lives i) (replies i).1)) (Reply (brokers i) (nodes i) (replies i).0)) ∙ sym k.9
next-one s t u (Seed peer broker node page) h k =
    let inventories : h.1 ≡ k.1 = same_Some h.1 k.1 (sym h.5 ∙ k.5) in
    let entries : h.3 ≡ k.3 = same_Some h.3 k.3 (sym h.7 ∙ ap (λ (inventory : List Entry). slice_get inventory node) inventories ∙ k.7) in
    h.9 ∙ ap (λ (e : Entry). with_packet s (Reply broker node (answer_of e (seed_ask e page)))) entries ∙ sym k.9
next-one s t u (Deliver packet) h k =
    let same : Reply h.0 h.1 h.2 ≡ Reply k.0 k.1 k.2 = same_Some (Reply h.0 h.1 h.2) (Reply k.0 k.1 k.2) (sym h.8 ∙ k.8) in
    let brokers : h.0 ≡ k.0 = cc in
    let nodes : h.1 ≡ k.1 = cc in
    let replies : h.2 ≡ k.2 = cc in
    let inventories : h.3 ≡ k.3 = same_Some h.3 k.3 (sym h.9 ∙ ap (slice_get s.brokers) brokers ∙ k.9) in
    let assemblies : h.5 ≡ k.5 = same_Some h.5 k.5 (sym h.10 ∙ ap (slice_get s.assemblies) brokers ∙ k.10) in
    let parts : h.6 ≡ k.6 = same_Some h.6 k.6 (sym h.11 ∙ (λ i. slice_get (assemblies i) (nodes i)) ∙ k.11) in
    let other : Delivers h.3 h.6 h.1 h.2 k.4 k.7 = subst (λ (x : List Entry). Delivers x h.6 h.1 h.2 k.4 k.7) (sym inventories)
    (subst (λ (x : Option Parts). Delivers k.3 x h.1 h.2 k.4 k.7) (sym parts)
    (subst (λ (n : ℕ). Delivers k.3 k.6 n h.2 k.4 k.7) (sym nodes) (subst (λ (r : Body). Delivers k.3 k.6 k.1 r k.4 k.7) (sym replies) k.12))) in
    let one = delivers-one h.3 h.4 k.4 h.1 h.2 h.6 h.7 k.7 h.12 other in
    h.13 ∙ (λ i. with_broker s (brokers i) (one.0 i) (set (assemblies i) (nodes i) (one.1 i))) ∙ sym k.13
next-one s t u (Cut packet) h k = h.2 ∙ sym k.2
next-one s t u (Fail broker node) h k = h.4 ∙ sym k.4

-- ---- what happens is not refused

-- a page is asked for where some came
asks_a_page : (kind : AskKind) (e : Entry) (parts : Option Parts) (ask : Ask) → asked kind e parts ≡ Some ask → ask_refusal kind (Some parts) ≡ None
asks_a_page kinds.Next e parts ask h = refl
asks_a_page kinds.Whole e parts ask h = refl
asks_a_page (kinds.Page page) e None ask h = absurd (none-some ask h)
asks_a_page (kinds.Page page) e (Some p) ask h = refl

pub not_refused : (s t : State) (event : Event) → Next s event t → refusal s event ≡ None
unfolding refusal
not_refused s t (Record node change) h = rw (h.1, h.2) refl
not_refused s t (Restart node) h = rw (h.1, h.2) refl
not_refused s t (Asks broker node kind) h =
    ap (λ o. needs faults.NoSuchNode o (λ life. needs faults.NoSuchBroker (slice_get s.brokers broker) (λ inventory. ask_refusal kind (parts_at s broker node)))) h.5
    ∙ ap (λ o. needs faults.NoSuchBroker o (λ inventory. ask_refusal kind (parts_at s broker node))) h.6
    ∙ ap (ask_refusal kind) h.8 ∙ asks_a_page kind h.2 h.3 h.4 h.9
not_refused s t (Answer packet) h = rw h.6 refl
not_refused s t (Seed peer broker node page) h = rw (h.4, h.5, h.6, h.7, synced h.3.mark h.8) refl
not_refused s t (Deliver packet) h = rw h.8 refl
not_refused s t (Cut packet) h = rw h.1 refl
not_refused s t (Fail broker node) h = rw (h.2, h.3) refl

-- ---- what is not refused happens

needed : {A : Type 0} (fault : SimFault) (o : Option A) (next : A → Option SimFault) → needs fault o next ≡ None → (x : A) × (o ≡ Some x) × (next x ≡ None)
needed fault None next e = absurd (cc)
needed fault (Some x) next e = (x, refl, e)

unless_refused : (b : Bool) (fault : SimFault) → cond b None (Some fault) ≡ None → b ≡ true
unless_refused true fault e = refl
unless_refused false fault e = absurd (cc)

refused_if : (b : Bool) (fault : SimFault) → cond b (Some fault) None ≡ None → b ≡ false
refused_if true fault e = absurd (cc)
refused_if false fault e = refl

-- the node has an entry in each inventory
pub entry_at : (names : List (List ℕ)) (s : State) (broker node : ℕ) (life : Life) (inventory : List Entry) → Holds names s → slice_get s.world node ≡ Some life
    → slice_get s.brokers broker ≡ Some inventory → (e : Entry) × (slice_get inventory node ≡ Some e)
entry_at names s broker node life inventory h at_node at_broker =
    let is = each_get (IsInventoryOf s.world) s.brokers broker inventory h.brokers at_broker in
    let found = pairs_find IsTrueEntry s.world inventory node life is at_node in
    (found.0, found.1)

-- and to each broker pages of it came, or none
pub parts_there : (names : List (List ℕ)) (s : State) (broker node : ℕ) (life : Life) → Holds names s → slice_get s.world node ≡ Some life → broker < length s.brokers
    → (pages : List (Option Parts)) × (parts : Option Parts) × (slice_get s.assemblies broker ≡ Some pages) × (slice_get pages node ≡ Some parts) × AreTrue life parts
parts_there names s broker node life h at_node l =
    let long = h.long in
    let pages = get_below s.assemblies broker (omega (arith, l, long)) in
    let are = each_get (AllZip AreTrue s.world) s.assemblies broker pages.0 h.assemblies pages.1 in
    let found = pairs_find AreTrue s.world pages.0 node life are at_node in
    (pages.0, found.0, pages.1, found.1, found.2)

pub parts_at-is : (s : State) (broker node : ℕ) (pages : List (Option Parts)) (parts : Option Parts) → slice_get s.assemblies broker ≡ Some pages
    → slice_get pages node ≡ Some parts → parts_at s broker node ≡ Some parts
parts_at-is s broker node pages parts e f = ap (option_and_then (λ (ps : List (Option Parts)). slice_get ps node)) e ∙ f

pub can_answer : (names : List (List ℕ)) (s : State) (packet : ℕ) (p : Packet) → Holds names s → slice_get s.packets packet ≡ Some p → is_request p ≡ true → (t : State) × Next s (Answer packet) t
can_answer names s packet (Request broker node ask) h at is =
    let put = each_get (IsPut s.world (length s.brokers)) s.packets packet (Request broker node ask) h.packets at in
    let life = put.0.0 in
    let made = answers_truly life ask (each_get IsLife s.world node life h.world put.0.1) (each_get FrozenStands s.world node life h.frozen put.0.1) in (
      with_packet (with_node s node (with_frozen life made.frozen)) (Reply broker node made.reply),
      (broker, node, ask, life, made.reply, made.frozen, at, put.0.1, made.is, refl),
    )
can_answer names s packet (Reply broker node reply) h at is = absurd (cc)

abbrev CanApply : List Entry → ℕ → Body → Type 0
CanApply inventory node reply = (after : List Entry) × Applies inventory node reply after

can_apply : (inventory : List Entry) (node : ℕ) (reply : Body) (e : Entry) → slice_get inventory node ≡ Some e → CanApply inventory node reply
can_apply inventory node reply e at = elim (Steps-some e reply) [
  | inl step ↦ (set inventory node step.1, inl (step.0, step.1, (e, at, step.2), refl))
  | inr refused ↦ (inventory, inr (refused.0, (e, at, refused.1), refl))
]

can_apply_given : (inventory : List Entry) (node : ℕ) (given : Option Body) (e : Entry) → slice_get inventory node ≡ Some e
    → (after : List Entry) × AppliesGiven inventory node given after
can_apply_given inventory node None e at = (inventory, refl)
can_apply_given inventory node (Some reply) e at = can_apply inventory node reply e at

abbrev CanDeliver : List Entry → Option Parts → ℕ → Body → Type 0
CanDeliver inventory parts node reply = (after : List Entry) × (left : Option Parts) × Delivers inventory parts node reply after left

can_deliver_page : (inventory : List Entry) (parts : Option Parts) (node : ℕ) (reply : Body) (life : Life) (e : Entry) → slice_get inventory node ≡ Some e → AreTrue life parts
    → IsHonest (eras_of life) reply → IsPageReply reply → CanDeliver inventory parts node reply
can_deliver_page inventory parts node reply life e at are honest is =
    let takes = take_some life parts reply are honest is in
    let after = can_apply_given inventory node takes.0 e at in
    (after.0, takes.1, inl (is, inl (takes.0, takes.2, after.1)))

can_deliver_other : (inventory : List Entry) (parts : Option Parts) (node : ℕ) (reply : Body) (e : Entry) → slice_get inventory node ≡ Some e
    → (IsPageReply reply → ⊥) → CanDeliver inventory parts node reply
can_deliver_other inventory parts node reply e at other =
    let after = can_apply inventory node reply e at in
    (after.0, parts, inr (other, after.1, refl))

can_deliver_reply : (inventory : List Entry) (parts : Option Parts) (node : ℕ) (reply : Body) (life : Life) (e : Entry) → slice_get inventory node ≡ Some e → AreTrue life parts
    → IsHonest (eras_of life) reply → CanDeliver inventory parts node reply
can_deliver_reply inventory parts node (bodies.Delta from to changes) life e at are honest =
    can_deliver_other inventory parts node (bodies.Delta from to changes) e at (λ is. is)
can_deliver_reply inventory parts node (bodies.Snapshot mark ds) life e at are honest =
    can_deliver_other inventory parts node (bodies.Snapshot mark ds) e at (λ is. is)
can_deliver_reply inventory parts node (bodies.Page mark page of segments) life e at are honest =
    can_deliver_page inventory parts node (bodies.Page mark page of segments) life e at are honest tt
can_deliver_reply inventory parts node (bodies.Reset cause mark) life e at are honest =
    can_deliver_other inventory parts node (bodies.Reset cause mark) e at (λ is. is)

pub can_deliver : (names : List (List ℕ)) (s : State) (packet : ℕ) (p : Packet) → Holds names s → slice_get s.packets packet ≡ Some p → is_request p ≡ false → (t : State) × Next s (Deliver packet) t
can_deliver names s packet (Request broker node ask) h at is = absurd (cc)
can_deliver names s packet (Reply broker node reply) h at is =
    let put = each_get (IsPut s.world (length s.brokers)) s.packets packet (Reply broker node reply) h.packets at in
    let life = put.0.0 in
    let inventory = get_below s.brokers broker put.1 in
    let e = entry_at names s broker node life inventory.0 h put.0.1 inventory.1 in
    let pages = parts_there names s broker node life h put.0.1 put.1 in
    let made = can_deliver_reply inventory.0 pages.1 node reply life e.0 e.1 pages.4 put.0.2 in (
      with_broker s broker made.0 (set pages.0 node made.1),
      (broker, node, reply, inventory.0, made.0, pages.0, pages.1, made.1, at, inventory.1, pages.2, pages.3, made.2, refl),
    )

asked_something : (kind : AskKind) (e : Entry) (parts : Option Parts) → ask_refusal kind (Some parts) ≡ None → (ask : Ask) × (asked kind e parts ≡ Some ask)
asked_something kinds.Next e parts h = (ask_of e.mark, refl)
asked_something kinds.Whole e parts h = (asks.Whole, refl)
asked_something (kinds.Page page) e None h = absurd (none-some faults.NoAssembly (sym h))
asked_something (kinds.Page page) e (Some p) h = (asks.Page p.at page, refl)

can_ask : (s : State) (broker node : ℕ) (kind : AskKind) (life : Life) (inventory : List Entry) (parts : Option Parts) → slice_get s.world node ≡ Some life
    → slice_get s.brokers broker ≡ Some inventory → ((e : Entry) × (slice_get inventory node ≡ Some e)) → parts_at s broker node ≡ Some parts
    → ask_refusal kind (parts_at s broker node) ≡ None → (t : State) × Next s (Asks broker node kind) t
can_ask s broker node kind life inventory parts at_node at_broker (e, at) at_parts refused =
    let ask = asked_something kind e parts (ap (ask_refusal kind) (sym at_parts) ∙ refused) in
    (with_packet s (Request broker node ask.0), (life, inventory, e, parts, ask.0, at_node, at_broker, at, at_parts, ask.1, refl))

can_seed : (s : State) (peer broker node page : ℕ) (life : Life) (inventory other : List Entry) (e : Entry) → slice_get s.world node ≡ Some life
    → slice_get s.brokers peer ≡ Some inventory → slice_get s.brokers broker ≡ Some other → slice_get inventory node ≡ Some e → same_mark e.mark never ≡ false
    → (t : State) × Next s (Seed peer broker node page) t
can_seed s peer broker node page life inventory other e at_node at_peer at_broker at test =
    (with_packet s (Reply broker node (answer_of e (seed_ask e page))), (life, inventory, other, e, at_node, at_peer, at_broker, at, unsynced_not e.mark test, refl))

pub can_happen : (names : List (List ℕ)) (s : State) (event : Event) → Holds names s → refusal s event ≡ None → (t : State) × Next s event t
unfolding refusal
can_happen names s (Record node change) h e =
    let life = needed faults.NoSuchNode (slice_get s.world node) (λ x. cond (takes x change) None (Some faults.Refused)) e in
    (with_node s node (recorded life.0 change), (life.0, life.1, unless_refused (takes life.0 change) faults.Refused life.2, refl))
can_happen names s (Restart node) h e =
    let life = needed faults.NoSuchNode (slice_get s.world node) (λ x. cond (nat_lt x.last.incarnation last_incarnation) None (Some faults.Refused)) e in
    (with_node s node (restarted life.0), (life.0, life.1, unless_refused (nat_lt life.0.last.incarnation last_incarnation) faults.Refused life.2, refl))
can_happen names s (Asks broker node kind) h e =
    let life = needed faults.NoSuchNode (slice_get s.world node)
    (λ x. needs faults.NoSuchBroker (slice_get s.brokers broker) (λ inventory. ask_refusal kind (parts_at s broker node))) e in
    let inventory = needed faults.NoSuchBroker (slice_get s.brokers broker) (λ x. ask_refusal kind (parts_at s broker node)) life.2 in
    let pages = parts_there names s broker node life.0 h life.1 (below_get s.brokers broker inventory.0 inventory.1) in
    can_ask s broker node kind life.0 inventory.0 pages.1 life.1 inventory.1 (entry_at names s broker node life.0 inventory.0 h life.1 inventory.1)
    (parts_at-is s broker node pages.0 pages.1 pages.2 pages.3) inventory.2
can_happen names s (Answer packet) h e =
    let sent = needed faults.NoSuchPacket (slice_get s.packets packet) (λ p. cond (is_request p) None (Some faults.NoSuchPacket)) e in
    can_answer names s packet sent.0 h sent.1 (unless_refused (is_request sent.0) faults.NoSuchPacket sent.2)
can_happen names s (Seed peer broker node page) h e =
    let life = needed faults.NoSuchNode (slice_get s.world node)
    (λ x. needs faults.NoSuchBroker (slice_get s.brokers peer)
    (λ inventory. needs faults.NoSuchBroker (slice_get s.brokers broker)
    (λ other. needs faults.Refused (slice_get inventory node) (λ y. cond (same_mark y.mark never) (Some faults.Refused) None)))) e in
    let inventory = needed faults.NoSuchBroker (slice_get s.brokers peer)
    (λ x. needs faults.NoSuchBroker (slice_get s.brokers broker)
    (λ other. needs faults.Refused (slice_get x node) (λ y. cond (same_mark y.mark never) (Some faults.Refused) None))) life.2 in
    let other = needed faults.NoSuchBroker (slice_get s.brokers broker)
    (λ x. needs faults.Refused (slice_get inventory.0 node) (λ y. cond (same_mark y.mark never) (Some faults.Refused) None)) inventory.2 in
    let entry = needed faults.Refused (slice_get inventory.0 node) (λ y. cond (same_mark y.mark never) (Some faults.Refused) None) other.2 in
    can_seed s peer broker node page life.0 inventory.0 other.0 entry.0 life.1 inventory.1 other.1 entry.1 (refused_if (same_mark entry.0.mark never) faults.Refused entry.2)
can_happen names s (Deliver packet) h e =
    let sent = needed faults.NoSuchPacket (slice_get s.packets packet) (λ p. cond (is_request p) (Some faults.NoSuchPacket) None) e in
    can_deliver names s packet sent.0 h sent.1 (refused_if (is_request sent.0) faults.NoSuchPacket sent.2)
can_happen names s (Cut packet) h e =
    let sent = needed faults.NoSuchPacket (slice_get s.packets packet) (λ p. None) e in
    (s, (sent.0, sent.1, refl))
can_happen names s (Fail broker node) h e =
    let life = needed faults.NoSuchNode (slice_get s.world node) (λ x. needs faults.NoSuchBroker (slice_get s.brokers broker) (λ inventory. None)) e in
    let inventory = needed faults.NoSuchBroker (slice_get s.brokers broker) (λ x. None) life.2 in
    (s, (life.0, inventory.0, life.1, inventory.1, refl))

pub happens : (s : State) (event : Event) → IsReached s → refusal s event ≡ None → (t : State) × Next s event t
happens s event h e = can_happen (node_names h.nodes) s event (reached-holds s h) e
