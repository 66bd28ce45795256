-- The steps of the code: what is there in a state that a run comes to, and that what it writes is the next state.
use Rattle.std.proofs.Common.{◌≡◌, ◌+◌, ◌<◌, ◌↔◌, ℕ, Bool, true, false, cond, List, [], ◌∷◌, ◌++◌, length, map, replicate, set, get_or, Option, Some, None, Result, Ok, Err, refl, sym, ap, ◌∙◌, subst, arith}
use Rattle.std.specs.Bool.{⊤}
use Rattle.std.specs.List.{slice_get}
use Rattle.std.specs.Option.{IfSome, option_map}
use Rattle.std.specs.Result.{IfErr, OnErr, OnOk, IsErrOf}
use Rattle.std.proofs.lemmas.Bool.{lt-ltb}
use Rattle.std.proofs.lemmas.List.FromFn.{map-range_with_len_more}
use Rattle.std.proofs.lemmas.Option.{same_Some, none-some, get_or_from_slice_get}
use Rattle.druid_base.proofs.ListLemmas.{set-found}
use Rattle.druid_segment_descriptor.specs.Mark.{Point, never}
use Rattle.druid_segment_descriptor.specs.declared.change.Ask.{Ask}
use Rattle.druid_segment_descriptor.specs.declared.change.Ask.TheVariants as asks
use Rattle.druid_segment_descriptor.specs.declared.change.Change.{Change}
use Rattle.druid_segment_descriptor.specs.declared.reply.Body.{Body}
use Rattle.druid_sync_pages.specs.Assembly.{Parts}
use Rattle.druid_inventory.specs.Entry.{Entry, IsAnswerOf, IsUnsynced, fresh, answer_of, ask_of}
use Rattle.druid_inventory.specs.declared.fault.InventoryFault.{InventoryFault}
use Rattle.druid_inventory.specs.declared.fault.InventoryFault.TheVariants as entry_faults
use Rattle.druid_laws_world.specs.World.{Life, IsInventoryOf}
use Rattle.druid_laws_world.specs.Run.{State, Next, IsReached, Reports, asked, ask_refusal, needs, parts_at, seed_ask, takes, recorded, restarted, last_incarnation, with_node, with_packet, refusal, newborn, opening, node_name, node_names}
use Rattle.druid_laws_world.specs.Node.{AnswersIn, DeliversIn, ReportsEntry, ask_at, mark_of, seed_mark}
use Rattle.druid_laws_world.specs.declared.event.AskKind.{AskKind}
use Rattle.druid_laws_world.specs.declared.event.AskKind.TheVariants as kinds
use Rattle.druid_laws_world.specs.declared.event.Event.{Event}
use Rattle.druid_laws_world.specs.declared.event.Event.TheVariants.{Record, Restart, Ask as Asks, Answer, Seed, Deliver}
use Rattle.druid_laws_world.specs.declared.event.Packet.{Packet}
use Rattle.druid_laws_world.specs.declared.event.Packet.TheVariants.{Request, Reply}
use Rattle.druid_laws_world.specs.declared.event.SimFault.{SimFault}
use Rattle.druid_laws_world.specs.declared.event.SimFault.TheVariants as faults
use Rattle.druid_laws_world.proofs.ListLemmas.{each_get, get_below, below_get}
use Rattle.druid_laws_world.proofs.RunLemmas.{IsPut, reached-holds, goes_on}
use Rattle.druid_laws_world.proofs.NextLemmas.{entry_at, parts_there, parts_at-is, can_answer, can_deliver, not_refused}

-- ---- what is there

-- each broker has an entry of each node
pub entry_there : (s : State) (broker node : ℕ) (life : Life) (inventory : List Entry) → IsReached s → Some life ≡ slice_get s.world node
    → Some inventory ≡ slice_get s.brokers broker → (e : Entry) × (slice_get inventory node ≡ Some e)
entry_there s broker node life inventory h at_node at_broker =
    entry_at _ s broker node life inventory (reached-holds s h) (sym at_node) (sym at_broker)

pub asks_something : (s : State) (broker node : ℕ) (life : Life) (inventory : List Entry) → IsReached s → Some life ≡ slice_get s.world node
    → Some inventory ≡ slice_get s.brokers broker → None ≡ option_map (λ (e : Entry). ask_of e.mark) (slice_get inventory node) → ⊥
asks_something s broker node life inventory h at_node at_broker none =
    let found = entry_there s broker node life inventory h at_node at_broker in
    none-some (ask_of found.0.mark) (none ∙ ap (option_map (λ (e : Entry). ask_of e.mark)) found.1)

pub has_mark : (s : State) (broker node : ℕ) (life : Life) (inventory : List Entry) → IsReached s → Some life ≡ slice_get s.world node
    → Some inventory ≡ slice_get s.brokers broker → None ≡ option_map (λ (e : Entry). e.mark) (slice_get inventory node) → ⊥
has_mark s broker node life inventory h at_node at_broker none =
    let found = entry_there s broker node life inventory h at_node at_broker in
    none-some found.0.mark (none ∙ ap (option_map (λ (e : Entry). e.mark)) found.1)

-- what a broker asks, by what it would ask next and the mark of the pages that came
ask_at-is : (kind : AskKind) (e : Entry) (parts : Option Parts) → ask_at kind (ask_of e.mark) (mark_of parts) ≡ asked kind e parts
ask_at-is kinds.Next e parts = refl
ask_at-is kinds.Whole e parts = refl
ask_at-is (kinds.Page page) e None = refl
ask_at-is (kinds.Page page) e (Some p) = refl

not_asked : (kind : AskKind) (e : Entry) (parts : Option Parts) → None ≡ asked kind e parts → ask_refusal kind (Some parts) ≡ Some faults.NoAssembly
not_asked kinds.Next e parts h = absurd (none-some (ask_of e.mark) h)
not_asked kinds.Whole e parts h = absurd (none-some asks.Whole h)
not_asked (kinds.Page page) e None h = refl
not_asked (kinds.Page page) e (Some p) h = absurd (none-some (asks.Page p.at page) h)

-- what there is when a broker asks
pub record AsksAt (s : State) (broker node : ℕ) (inventory : List Entry) (next : Ask) (at : Option Point) : Type 0 where
  pub e : Entry
  pub there : slice_get inventory node ≡ Some e
  pub parts : Option Parts
  pub came : parts_at s broker node ≡ Some parts
  pub next_is : next ≡ ask_of e.mark
  pub at_is : at ≡ mark_of parts

pub asks_at : (s : State) (broker node : ℕ) (life : Life) (inventory : List Entry) (next : Ask) (at : Option Point) → IsReached s → Some life ≡ slice_get s.world node
    → Some inventory ≡ slice_get s.brokers broker → Some next ≡ option_map (λ (e : Entry). ask_of e.mark) (slice_get inventory node)
    → ((pages : Option Parts) → parts_at s broker node ≡ Some pages → at ≡ mark_of pages) → AsksAt s broker node inventory next at
asks_at s broker node life inventory next at h at_node at_broker is_next marks =
    let found = entry_there s broker node life inventory h at_node at_broker in
    let pages = parts_there _ s broker node life (reached-holds s h) (sym at_node) (below_get s.brokers broker inventory (sym at_broker)) in
    let came = parts_at-is s broker node pages.0 pages.1 pages.2 pages.3 in
    record {
      e = found.0;
      there = found.1;
      parts = pages.1;
      came = came;
      next_is = same_Some next (ask_of found.0.mark) (is_next ∙ ap (option_map (λ (e : Entry). ask_of e.mark)) found.1);
      at_is = marks pages.1 came;
    }

pub asks_it : (s : State) (broker node : ℕ) (kind : AskKind) (life : Life) (inventory : List Entry) (next ask : Ask) (at : Option Point) → Some life ≡ slice_get s.world node
    → Some inventory ≡ slice_get s.brokers broker → AsksAt s broker node inventory next at → Some ask ≡ ask_at kind next at
    → Next s (Asks broker node kind) (with_packet s (Request broker node ask))
asks_it s broker node kind life inventory next ask at at_node at_broker h is =
    let same : ask_at kind next at ≡ asked kind h.e h.parts = (λ i. ask_at kind (h.next_is i) (h.at_is i)) ∙ ask_at-is kind h.e h.parts in
    (life, inventory, h.e, h.parts, ask, sym at_node, sym at_broker, h.there, h.came, sym (is ∙ same), refl)

pub asks_none : (s : State) (broker node : ℕ) (kind : AskKind) (life : Life) (inventory : List Entry) (next : Ask) (at : Option Point) → Some life ≡ slice_get s.world node
    → Some inventory ≡ slice_get s.brokers broker → AsksAt s broker node inventory next at → None ≡ ask_at kind next at
    → refusal s (Asks broker node kind) ≡ Some faults.NoAssembly
unfolding refusal
asks_none s broker node kind life inventory next at at_node at_broker h is =
    let same : ask_at kind next at ≡ asked kind h.e h.parts = (λ i. ask_at kind (h.next_is i) (h.at_is i)) ∙ ask_at-is kind h.e h.parts in
    ap (λ o. needs faults.NoSuchNode o (λ life. needs faults.NoSuchBroker (slice_get s.brokers broker) (λ inventory. ask_refusal kind (parts_at s broker node)))) (sym at_node)
    ∙ ap (λ o. needs faults.NoSuchBroker o (λ inventory. ask_refusal kind (parts_at s broker node))) (sym at_broker)
    ∙ ap (ask_refusal kind) h.came ∙ not_asked kind h.e h.parts (is ∙ same)

pub node_within : (s : State) (broker node : ℕ) (life : Life) (inventory : List Entry) → IsReached s → Some life ≡ slice_get s.world node
    → Some inventory ≡ slice_get s.brokers broker → node < length inventory
node_within s broker node life inventory h at_node at_broker =
    let found = entry_there s broker node life inventory h at_node at_broker in
    below_get inventory node found.0 found.1

-- of a packet that was put the node and the broker are there
put_is : (s : State) (packet : ℕ) (p q : Packet) → (h : IsReached s) → Some p ≡ slice_get s.packets packet → p ≡ q → IsPut s.world (length s.brokers) q
put_is s packet p q h at is =
    each_get (IsPut s.world (length s.brokers)) s.packets packet q (reached-holds s h).packets (sym at ∙ ap (λ x. Some x) is)

pub asked_within : (s : State) (packet broker node : ℕ) (ask : Ask) (p : Packet) → IsReached s → Some p ≡ slice_get s.packets packet → p ≡ Request broker node ask
    → node < length s.world
asked_within s packet broker node ask p h at is =
    let put = put_is s packet p (Request broker node ask) h at is in
    below_get s.world node put.0.0 put.0.1

pub replies : (s : State) (packet broker node : ℕ) (ask : Ask) (p : Packet) → IsReached s → Some p ≡ slice_get s.packets packet → p ≡ Request broker node ask
    → (t : State) × Next s (Answer packet) t
replies s packet broker node ask p h at is =
    can_answer _ s packet (Request broker node ask) (reached-holds s h) (sym at ∙ ap (λ x. Some x) is) refl

-- and of a reply
pub reply_within : (s : State) (packet broker node : ℕ) (reply : Body) (p : Packet) → IsReached s → Some p ≡ slice_get s.packets packet → p ≡ Reply broker node reply
    → (broker < length s.brokers) × (broker < length s.assemblies)
reply_within s packet broker node reply p h at is =
    let put = put_is s packet p (Reply broker node reply) h at is in
    let l = put.1 in
    let long = (reached-holds s h).long in
    (l, omega (arith, l, long))

pub reply_inventory_within : (s : State) (packet broker node : ℕ) (reply : Body) (p : Packet) → IsReached s → Some p ≡ slice_get s.packets packet → p ≡ Reply broker node reply
    → (inventory : List Entry) → slice_get s.brokers broker ≡ Some inventory → node < length inventory
reply_inventory_within s packet broker node reply p h at is inventory at_broker =
    let put = put_is s packet p (Reply broker node reply) h at is in
    node_within s broker node put.0.0 inventory h (sym put.0.1) (sym at_broker)

pub reply_pages_within : (s : State) (packet broker node : ℕ) (reply : Body) (p : Packet) → IsReached s → Some p ≡ slice_get s.packets packet → p ≡ Reply broker node reply
    → (pages : List (Option Parts)) → slice_get s.assemblies broker ≡ Some pages → node < length pages
reply_pages_within s packet broker node reply p h at is pages at_pages =
    let put = put_is s packet p (Reply broker node reply) h at is in
    let found = parts_there _ s broker node put.0.0 (reached-holds s h) put.0.1 put.1 in
    let same : found.0 ≡ pages = same_Some found.0 pages (sym found.2 ∙ at_pages) in
    subst (λ (ps : List (Option Parts)). node < length ps) same (below_get found.0 node found.1 found.3)

pub delivers : (s : State) (packet broker node : ℕ) (reply : Body) (p : Packet) → IsReached s → Some p ≡ slice_get s.packets packet → p ≡ Reply broker node reply
    → (t : State) × Next s (Deliver packet) t
delivers s packet broker node reply p h at is =
    can_deliver _ s packet (Reply broker node reply) (reached-holds s h) (sym at ∙ ap (λ x. Some x) is) refl

-- ---- the next state

-- a broker took a reply
pub delivery_next : (v s : State) (packet broker node : ℕ) (reply : Body) (p : Packet) (new : List (List Entry)) (left : List (List (Option Parts))) → v ≡ s
    → Some p ≡ slice_get v.packets packet → p ≡ Reply broker node reply → DeliversIn v.brokers v.assemblies broker node reply new left
    → Next s (Deliver packet) (record { world = v.world; packets = v.packets; brokers = new; assemblies = left })
delivery_next v s packet broker node reply p new left view at is h =
    let parts = h.6 in
    let next : Next v (Deliver packet) (record { world = v.world; packets = v.packets; brokers = new; assemblies = left }) = (
      broker,
      node,
      reply,
      h.0,
      h.1,
      h.2,
      parts.0,
      parts.1,
      sym at ∙ ap (λ x. Some x) is,
      h.4,
      h.5,
      parts.2,
      parts.3,
      λ i. record { world = v.world; packets = v.packets; brokers = h.7 i; assemblies = (h.8 ∙ ap (set v.assemblies broker) parts.4) i },
    ) in
    subst (λ (x : State). Next x (Deliver packet) (record { world = v.world; packets = v.packets; brokers = new; assemblies = left })) view next

-- a node answered
pub answer_next : (v s : State) (packet broker node : ℕ) (ask : Ask) (p : Packet) (new : List Life) (more : List Packet) → v ≡ s → Some p ≡ slice_get v.packets packet
    → p ≡ Request broker node ask → AnswersIn v.world v.packets broker node ask new more
    → Next s (Answer packet) (record { world = new; packets = more; brokers = v.brokers; assemblies = v.assemblies })
answer_next v s packet broker node ask p new more view at is h =
    let answers = h.4 in
    let next : Next v (Answer packet) (record { world = new; packets = more; brokers = v.brokers; assemblies = v.assemblies }) = (
      broker,
      node,
      ask,
      h.0,
      h.1,
      answers.0,
      sym at ∙ ap (λ x. Some x) is,
      h.3,
      answers.1,
      λ i. record { world = (h.5 ∙ ap (set v.world node) answers.2) i; packets = h.6 i; brokers = v.brokers; assemblies = v.assemblies },
    ) in
    subst (λ (x : State). Next x (Answer packet) (record { world = new; packets = more; brokers = v.brokers; assemblies = v.assemblies })) view next

-- nothing is looked at anew
pub same_state : (s : State) → s ≡ s
same_state s = refl

pub on_ok : (r : Result ⊤ SimFault) (P Q : Type 0) → (P → Q) → OnOk r P → OnOk r Q
on_ok (Ok x) P Q f h = f h
on_ok (Err fault) P Q f h = tt

-- it is reported as out of memory where the event can happen
pub if_memory : (r : Result ⊤ SimFault) (s : State) (event : Event) → ((t : State) × Next s event t) → IfErr r (λ fault. fault ≡ faults.Memory) → IfErr r (Reports s event)
if_memory (Ok x) s event can memory = tt
if_memory (Err fault) s event can memory = subst (Reports s event) (sym memory) can

-- a state of which two parts change, or none
pub parts_same : (r : Result ⊤ SimFault) (s : State) (new : List Life) (more : List Packet) → OnErr r (new ≡ s.world) → OnErr r (more ≡ s.packets)
    → OnErr r (record { world = new; packets = more; brokers = s.brokers; assemblies = s.assemblies } ≡ s)
parts_same (Ok x) s new more e f = tt
parts_same (Err fault) s new more e f = λ i. record { world = e i; packets = f i; brokers = s.brokers; assemblies = s.assemblies }

pub ends_same : (r : Result ⊤ SimFault) (s : State) (new : List (List Entry)) (left : List (List (Option Parts))) → OnErr r (new ≡ s.brokers) → OnErr r (left ≡ s.assemblies)
    → OnErr r (record { world = s.world; packets = s.packets; brokers = new; assemblies = left } ≡ s)
ends_same (Ok x) s new left e f = tt
ends_same (Err fault) s new left e f = λ i. record { world = s.world; packets = s.packets; brokers = e i; assemblies = f i }

pub next_reached : (r : Result ⊤ SimFault) (s t : State) (event : Event) → IsReached s → OnOk r (Next s event t) → OnErr r (t ≡ s) → IsReached t
next_reached (Ok x) s t event h next same = goes_on s t event h next
next_reached (Err fault) s t event h next same = subst IsReached (sym same) h

put_by : (v : State) (packet : Packet) (items : List Packet) (b : Bool) → IsReached v → ((event : Event) × Next v event (with_packet v packet))
    → items ≡ cond b (v.packets ++ packet ∷ []) v.packets → IsReached (record { world = v.world; packets = items; brokers = v.brokers; assemblies = v.assemblies })
put_by v packet items true h next is =
    subst (λ (ps : List Packet). IsReached (record { world = v.world; packets = ps; brokers = v.brokers; assemblies = v.assemblies })) (sym is) (goes_on v (with_packet v packet) next.0 h next.1)
put_by v packet items false h next is =
    subst (λ (ps : List Packet). IsReached (record { world = v.world; packets = ps; brokers = v.brokers; assemblies = v.assemblies })) (sym is) h

pub put_reached : (v s : State) (packet : Packet) (items : List Packet) (b : Bool) → v ≡ s → IsReached v → ((event : Event) × Next s event (with_packet s packet))
    → items ≡ cond b (v.packets ++ packet ∷ []) v.packets → IsReached (record { world = v.world; packets = items; brokers = v.brokers; assemblies = v.assemblies })
put_reached v s packet items b is h next items_are =
    put_by v packet items b h (subst (λ (x : State). (event : Event) × Next x event (with_packet x packet)) (sym is) next) items_are

-- out of memory where the event can happen
pub memory_reported : (r : Result ⊤ SimFault) (s t : State) (event : Event) → Next s event t → IfErr r (λ fault. fault ≡ faults.Memory) → IfErr r (Reports s event)
memory_reported (Ok x) s t event next memory = tt
memory_reported (Err fault) s t event next memory = subst (Reports s event) (sym memory) (t, next)

-- a peer sends what it knows, or a page of it
pub seed_next : (s : State) (peer broker node page : ℕ) (life : Life) (inventory other : List Entry) (mark : Point) (reply : Body) → Some life ≡ slice_get s.world node
    → Some inventory ≡ slice_get s.brokers peer → Some other ≡ slice_get s.brokers broker → Some mark ≡ option_map (λ (e : Entry). e.mark) (slice_get inventory node)
    → IsAnswerOf inventory node (seed_mark mark page) reply → Next s (Seed peer broker node page) (with_packet s (Reply broker node reply))
seed_next s peer broker node page life inventory other mark reply at_node at_peer at_broker at h =
    let same : mark ≡ h.0.mark = same_Some mark h.0.mark (at ∙ ap (option_map (λ (e : Entry). e.mark)) h.1) in
    let reply_is : reply ≡ answer_of h.0 (seed_ask h.0 page) = h.3 ∙ ap (λ m. answer_of h.0 (seed_mark m page)) same in (
      life,
      inventory,
      other,
      h.0,
      sym at_node,
      sym at_peer,
      sym at_broker,
      h.1,
      h.2,
      ap (λ (r : Body). with_packet s (Reply broker node r)) reply_is,
    )

pub entry_reported : (s : State) (peer broker node page : ℕ) (life : Life) (inventory other : List Entry) (mark : Point) (fault : SimFault) → Some life ≡ slice_get s.world node
    → Some inventory ≡ slice_get s.brokers peer → Some other ≡ slice_get s.brokers broker → Some mark ≡ option_map (λ (e : Entry). e.mark) (slice_get inventory node)
    → ReportsEntry inventory node (seed_mark mark page) fault → Reports s (Seed peer broker node page) fault
unfolding refusal
entry_reported s peer broker node page life inventory other mark faults.NoSuchNode at_node at_peer at_broker at reported = absurd reported
entry_reported s peer broker node page life inventory other mark faults.NoSuchBroker at_node at_peer at_broker at reported = absurd reported
entry_reported s peer broker node page life inventory other mark faults.NoSuchPacket at_node at_peer at_broker at reported = absurd reported
entry_reported s peer broker node page life inventory other mark faults.NoAssembly at_node at_peer at_broker at reported = absurd reported
entry_reported s peer broker node page life inventory other mark faults.Refused at_node at_peer at_broker at reported =
    rw (sym at_node, sym at_peer, sym at_broker, reported.1, reported.2) refl
entry_reported s peer broker node page life inventory other mark faults.Memory at_node at_peer at_broker at reported =
    (with_packet s (Reply broker node reported.0), seed_next s peer broker node page life inventory other mark reported.0 at_node at_peer at_broker at reported.1)

abbrev pub entry_failed : InventoryFault → Result Body InventoryFault
entry_failed f = Err f

-- an entry that is not refused was synced
pub entry_memory : (inventory : List Entry) (node : ℕ) (ask : Ask) (f : InventoryFault) → node < length inventory → f ≡ entry_faults.Memory
    → (IsErrOf (entry_failed f) entry_faults.NotSynced ↔ IsUnsynced inventory node) → ReportsEntry inventory node ask faults.Memory
entry_memory inventory node ask f l memory reported =
    let found = get_below inventory node l in
    (answer_of found.0 ask, (found.0, found.1, other found.0 found.1, refl)) where
      other : (e : Entry) → slice_get inventory node ≡ Some e → e.mark ≡ never → ⊥
      other e at never_synced = let failed : entry_failed f ≡ entry_failed entry_faults.NotSynced = reported.1 (e, at, never_synced) in absurd (cc)

-- ---- a node changes

-- what is at its place is the node
held_is : (v s : State) (node : ℕ) (at held : Life) → v ≡ s → Some at ≡ slice_get s.world node → held ≡ get_or v.world node held → at ≡ held
held_is v s node at held is there held_there =
    let at_v : slice_get v.world node ≡ Some at = ap (λ (x : State). slice_get x.world node) is ∙ sym there in
    sym (held_there ∙ get_or_from_slice_get v.world node at held at_v)

node_by : (r : Result ⊤ SimFault) (v : State) (event : Event) (node : ℕ) (at made new : Life) → IsReached v → slice_get v.world node ≡ Some at → Next v event (with_node v node made)
    → OnOk r (new ≡ made) → OnErr r (new ≡ at) → IsReached (with_node v node new)
node_by (Ok x) v event node at made new h there next ok err =
    subst (λ (l : Life). IsReached (with_node v node l)) (sym ok) (goes_on v (with_node v node made) event h next)
node_by (Err fault) v event node at made new h there next ok err =
    let same : v.world ≡ set v.world node new = sym (ap (set v.world node) err ∙ set-found v.world node at there) in
    subst (λ (w : List Life). IsReached (record { world = w; packets = v.packets; brokers = v.brokers; assemblies = v.assemblies })) same h

node_next : (r : Result ⊤ SimFault) (v : State) (event : Event) (node : ℕ) (made new : Life) → Next v event (with_node v node made)
    → OnOk r (new ≡ made) → OnOk r (Next v event (with_node v node new))
node_next (Ok x) v event node made new next ok = subst (λ (l : Life). Next v event (with_node v node l)) (sym ok) next
node_next (Err fault) v event node made new next ok = tt

to_ok : (r : Result ⊤ SimFault) (P Q : Type 0) → (P → Q) → OnOk r P → OnOk r Q
to_ok (Ok x) P Q f h = f h
to_ok (Err fault) P Q f h = tt

to_err : (r : Result ⊤ SimFault) (P Q : Type 0) → (P → Q) → OnErr r P → OnErr r Q
to_err (Ok x) P Q f h = tt
to_err (Err fault) P Q f h = f h

-- what the code has of a node that it changes: where it is, what is made of it, and what is there afterwards
pub record ChangesNode (v s : State) (event : Event) (node : ℕ) (at new : Life) (made : Life → Life) (r : Result ⊤ SimFault) : Type 0 where
  pub is : v ≡ s
  pub there : Some at ≡ slice_get s.world node
  pub held : Life
  pub held_there : held ≡ get_or v.world node held
  pub next : Next s event (with_node s node (made at))
  pub ok : OnOk r (new ≡ made held)
  pub err : OnErr r (new ≡ held)

pub node_reached : (v s : State) (event : Event) (node : ℕ) (at new : Life) (made : Life → Life) (r : Result ⊤ SimFault) → IsReached v → ChangesNode v s event node at new made r
    → IsReached (with_node v node new)
node_reached v s event node at new made r h c =
    let same = held_is v s node at c.held c.is c.there c.held_there in
    let at_v : slice_get v.world node ≡ Some at = ap (λ (x : State). slice_get x.world node) c.is ∙ sym c.there in
    node_by r v event node at (made at) new h at_v (subst (λ (x : State). Next x event (with_node x node (made at))) (sym c.is) c.next)
    (to_ok r (new ≡ made c.held) (new ≡ made at) (λ e. e ∙ ap made (sym same)) c.ok)
    (to_err r (new ≡ c.held) (new ≡ at) (λ e. e ∙ sym same) c.err)

pub node_ok : (v s : State) (event : Event) (node : ℕ) (at new : Life) (made : Life → Life) (r : Result ⊤ SimFault) → ChangesNode v s event node at new made r
    → OnOk r (Next s event (with_node v node new))
node_ok v s event node at new made r c =
    let same = held_is v s node at c.held c.is c.there c.held_there in
    let next = node_next r s event node (made at) new c.next (to_ok r (new ≡ made c.held) (new ≡ made at) (λ e. e ∙ ap made (sym same)) c.ok) in
    subst (λ (x : State). OnOk r (Next s event (with_node x node new))) (sym c.is) next

pub recorded_next : (s : State) (node : ℕ) (change : Change) (at : Life) → Some at ≡ slice_get s.world node → true ≡ takes at change
    → Next s (Record node change) (with_node s node (recorded at change))
recorded_next s node change at there test = (at, sym there, sym test, refl)

pub restarted_next : (s : State) (node : ℕ) (at : Life) → Some at ≡ slice_get s.world node → at.last.incarnation < last_incarnation
    → Next s (Restart node) (with_node s node (restarted at))
restarted_next s node at there l = (at, sym there, lt-ltb at.last.incarnation last_incarnation l, refl)

-- ---- the refusals

named : (s : State) (event : Event) (f : SimFault) → (f ≡ faults.Memory → ⊥) → Reports s event f → refusal s event ≡ Some f
named s event faults.NoSuchNode other reported = reported
named s event faults.NoSuchBroker other reported = reported
named s event faults.NoSuchPacket other reported = reported
named s event faults.Refused other reported = reported
named s event faults.NoAssembly other reported = reported
named s event faults.Memory other reported = absurd (other refl)

one_fault : (s : State) (event : Event) (f g : SimFault) → refusal s event ≡ Some f → Reports s event g → g ≡ f
one_fault s event f faults.NoSuchNode e reported = same_Some faults.NoSuchNode f (sym reported ∙ e)
one_fault s event f faults.NoSuchBroker e reported = same_Some faults.NoSuchBroker f (sym reported ∙ e)
one_fault s event f faults.NoSuchPacket e reported = same_Some faults.NoSuchPacket f (sym reported ∙ e)
one_fault s event f faults.Refused e reported = same_Some faults.Refused f (sym reported ∙ e)
one_fault s event f faults.NoAssembly e reported = same_Some faults.NoAssembly f (sym reported ∙ e)
one_fault s event f faults.Memory e reported = absurd (none-some f (sym (not_refused s reported.0 event reported.1) ∙ e))

refused_by : (r : Result ⊤ SimFault) (s t : State) (event : Event) (f : SimFault) → OnOk r (Next s event t) → IfErr r (Reports s event)
    → refusal s event ≡ Some f → IsErrOf r f
refused_by (Ok x) s t event f ok reported e = absurd (none-some f (sym (not_refused s t event ok) ∙ e))
refused_by (Err g) s t event f ok reported e = ap (λ x. Err x) (one_fault s event f g e reported)

pub exactly : (r : Result ⊤ SimFault) (s t : State) (event : Event) (f : SimFault) → (f ≡ faults.Memory → ⊥) → OnOk r (Next s event t) → IfErr r (Reports s event)
    → IsErrOf r f ↔ (refusal s event ≡ Some f)
exactly r s t event f other ok reported =
    (λ is. named s event f other (subst (λ (x : Result ⊤ SimFault). IfErr x (Reports s event)) is reported), refused_by r s t event f ok reported)

-- ---- the opening

pub names-more : (n : ℕ) → node_names n ++ node_name n ∷ [] ≡ node_names (n + 1)
names-more n = sym (map-range_with_len_more node_name 0 n n (omega arith))

pub opened : (nodes brokers kept : ℕ) (world : List Life) (packets : List Packet) (inventories : List (List Entry)) (assemblies : List (List (Option Parts)))
    → world ≡ replicate nodes (newborn kept) → packets ≡ [] → inventories ≡ replicate brokers (map fresh (node_names nodes))
    → assemblies ≡ replicate brokers (replicate nodes None)
    → record { world = world; packets = packets; brokers = inventories; assemblies = assemblies } ≡ opening nodes brokers kept
unfolding opening
opened nodes brokers kept world packets inventories assemblies world_is none inventories_are assemblies_are =
    λ i. record { world = world_is i; packets = none i; brokers = inventories_are i; assemblies = assemblies_are i }

-- ---- what a broker knows

pub known_true : {X : Type 0} (s : State) (broker : ℕ) (view : X → List Entry) (o : Option X) → IsReached s → option_map view o ≡ slice_get s.brokers broker
    → IfSome o (λ x. IsInventoryOf s.world (view x))
known_true s broker view None h e = tt
known_true s broker view (Some x) h e = each_get (IsInventoryOf s.world) s.brokers broker (view x) (reached-holds s h).brokers (sym e)
