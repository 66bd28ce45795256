-- Runs of events: what each event makes of the world, of the packets and of the brokers, and when it cannot happen.
-- A reader has to believe this file.
use Rattle.std.specs.Prelude.{◌≡◌, ◌≢◌, ◌==◌, ℕ, ◌+◌, ◌-◌, ◌^◌, ◌⊎◌, Bool, true, false, ◌&&◌, List, [], ◌∷◌, ◌++◌, length, map, zip, codes, decimal, nat_lt, replicate, Option, Some, None, option_map, option_and_then, slice_get, slice_set, if◌then◌else◌}
use Rattle.std.specs.List.{range_with_len, AllByRecursion}
use Rattle.std.specs.Ordering.{is_lt}
use Rattle.std.specs.Option.{is_some}
use Rattle.druid_segment_descriptor.specs.Mark.{Point, never, same_mark, mark_cmp}
use Rattle.druid_segment_descriptor.specs.Replay.{replay}
use Rattle.druid_segment_descriptor.specs.declared.change.Ask.{Ask}
use Rattle.druid_segment_descriptor.specs.declared.change.Ask.TheVariants as asks
use Rattle.druid_segment_descriptor.specs.declared.change.Change.{Change}
use Rattle.druid_segment_descriptor.specs.declared.reply.Body.{Body}
use Rattle.druid_sync_history.specs.Answer.{answer}
use Rattle.druid_sync_history.specs.Kept.{last_count, still_frozen}
use Rattle.druid_sync_pages.specs.Assembly.{Parts}
use Rattle.druid_inventory.specs.Assembly.{IsPageReply, TakesReply, RefusesReply}
use Rattle.druid_inventory.specs.Entry.{Entry, fresh, ask_of, answer_of}
use Rattle.druid_inventory.specs.Step.{StepsAt, RefusedAt}
use Rattle.druid_inventory.specs.declared.fault.ApplyFault.{ApplyFault}
use Rattle.druid_inventory.specs.declared.fault.ApplyFault.TheVariants.{PageConflict}
use Rattle.druid_inventory.specs.declared.fault.Outcome.{Outcome}
use Rattle.druid_laws_world.specs.World.{Life, IsHonestAt, eras_of, with_more}
use Rattle.druid_laws_world.specs.declared.event.AskKind.{AskKind}
use Rattle.druid_laws_world.specs.declared.event.AskKind.TheVariants as kinds
use Rattle.druid_laws_world.specs.declared.event.Event.{Event}
use Rattle.druid_laws_world.specs.declared.event.Event.TheVariants as events
use Rattle.druid_laws_world.specs.declared.event.Packet.{Packet}
use Rattle.druid_laws_world.specs.declared.event.Packet.TheVariants as packets
use Rattle.druid_laws_world.specs.declared.event.SimFault.{SimFault}
use Rattle.druid_laws_world.specs.declared.event.SimFault.TheVariants as faults

-- ---- the state of a run

-- the nodes; every packet that was ever put, of which any may arrive late, again or never; what each broker knows; and of each
-- node the pages that came to each broker
pub record State : Type 0 where
  pub world : List Life
  pub packets : List Packet
  pub brokers : List (List Entry)
  pub assemblies : List (List (Option Parts))

-- a node at its first start
abbrev pub newborn : ℕ → Life
newborn kept = record { ended = []; last = record { incarnation = 1; changes = [] }; kept = kept; frozen = None }

-- nodes are called n0, n1 and so on
abbrev pub node_name : ℕ → List ℕ
node_name i = codes "n" ++ decimal i

abbrev pub node_names : ℕ → List (List ℕ)
node_names nodes = map node_name (range_with_len 0 nodes)

-- the nodes have no changes, no packet was put, and no broker was synced
unfoldable pub opening : ℕ → ℕ → ℕ → State
opening nodes brokers kept =
    record { world = replicate nodes (newborn kept); packets = []; brokers = replicate brokers (map fresh (node_names nodes)); assemblies = replicate brokers (replicate nodes None) }

-- ---- what an event does

-- the greatest number of an incarnation
abbrev pub last_incarnation : ℕ
last_incarnation = 2 ^ 64 - 1

-- the node's history takes the change: all can be replayed with it, and there is a count for it
unfoldable pub takes : Life → Change → Bool
takes life change = is_some (replay (life.last.changes ++ change ∷ [])) && nat_lt (length life.last.changes) last_count

-- the node with a change more
abbrev pub recorded : Life → Change → Life
recorded life change = record {
  ended = life.ended;
  last = with_more life.last (change ∷ []);
  kept = life.kept;
  frozen = still_frozen life.kept (length life.last.changes + 1) life.frozen;
}

-- the node with a set frozen
abbrev pub with_frozen : Life → Option ℕ → Life
with_frozen life frozen = record { ended = life.ended; last = life.last; kept = life.kept; frozen = frozen }

-- the node after a restart: its next incarnation, without changes
abbrev pub restarted : Life → Life
restarted life = record {
  ended = eras_of life;
  last = record { incarnation = life.last.incarnation + 1; changes = [] };
  kept = life.kept;
  frozen = None;
}

-- with one node changed
abbrev pub with_node : State → ℕ → Life → State
with_node s node life = record { world = slice_set s.world node life; packets = s.packets; brokers = s.brokers; assemblies = s.assemblies }

-- with one packet more
abbrev pub with_packet : State → Packet → State
with_packet s packet = record { world = s.world; packets = s.packets ++ packet ∷ []; brokers = s.brokers; assemblies = s.assemblies }

-- with one broker changed, and the pages that came to it
abbrev pub with_broker : State → ℕ → List Entry → List (Option Parts) → State
with_broker s broker inventory assemblies = record {
  world = s.world;
  packets = s.packets;
  brokers = slice_set s.brokers broker inventory;
  assemblies = slice_set s.assemblies broker assemblies;
}

-- a broker takes the reply of a node, or refuses it and stays as it was
abbrev pub Applies : List Entry → ℕ → Body → List Entry → Type 0
Applies inventory node reply after =
    ((outcome : Outcome) × (new : Entry) × StepsAt inventory node reply outcome new × (after ≡ slice_set inventory node new))
    ⊎ ((fault : ApplyFault) × RefusedAt inventory node reply fault × (after ≡ inventory))

-- what a broker asks that knows this of a node, and to which these of its pages came: what it would ask next, the whole, or a page
-- at the mark of those that came
abbrev pub asked : AskKind → Entry → Option Parts → Option Ask
asked kinds.Next e parts = Some (ask_of e.mark)
asked kinds.Whole e parts = Some asks.Whole
asked (kinds.Page page) e parts = option_map (λ p. asks.Page p.at page) parts

-- what a peer asks for to get a page of what another knows
abbrev pub seed_ask : Entry → ℕ → Ask
seed_ask e page = if page == 0 then asks.Whole else asks.Page e.mark page

-- the pages of a node that came to a broker
abbrev pub parts_at : State → ℕ → ℕ → Option (Option Parts)
parts_at s broker node = option_and_then (λ assemblies. slice_get assemblies node) (slice_get s.assemblies broker)

-- what pages gave is applied, if they gave anything
abbrev pub AppliesGiven : List Entry → ℕ → Option Body → List Entry → Type 0
AppliesGiven inventory node None after = after ≡ inventory
AppliesGiven inventory node (Some reply) after = Applies inventory node reply after

-- a broker takes a page of a node, or refuses it and all stays as it was
abbrev pub TakesPage : List Entry → Option Parts → ℕ → Body → List Entry → Option Parts → Type 0
TakesPage inventory parts node reply after left =
    ((given : Option Body) × TakesReply parts reply given left × AppliesGiven inventory node given after)
    ⊎ (RefusesReply parts reply PageConflict × (after ≡ inventory) × (left ≡ parts))

-- a broker takes a reply of a node: a page is put to those that came, and another one is applied
abbrev pub Delivers : List Entry → Option Parts → ℕ → Body → List Entry → Option Parts → Type 0
Delivers inventory parts node reply after left =
    (IsPageReply reply × TakesPage inventory parts node reply after left)
    ⊎ ((IsPageReply reply → ⊥) × Applies inventory node reply after × (left ≡ parts))

-- from this state the event leads to that one
abbrev pub Next : State → Event → State → Type 0
-- the node's history records the change
Next s (events.Record node change) new =
    (life : Life) × (slice_get s.world node ≡ Some life) × (takes life change ≡ true) × (new ≡ with_node s node (recorded life change))
Next s (events.Restart node) new =
    (life : Life) × (slice_get s.world node ≡ Some life) × (nat_lt life.last.incarnation last_incarnation ≡ true)
    × (new ≡ with_node s node (restarted life))
-- the broker asks for the whole, for what comes after its mark, or for a page
Next s (events.Ask broker node kind) new =
    (life : Life) × (inventory : List Entry) × (e : Entry) × (parts : Option Parts) × (ask : Ask) × (slice_get s.world node ≡ Some life)
    × (slice_get s.brokers broker ≡ Some inventory) × (slice_get inventory node ≡ Some e) × (parts_at s broker node ≡ Some parts)
    × (asked kind e parts ≡ Some ask) × (new ≡ with_packet s (packets.Request broker node ask))
-- the node answers the request by its history now, and may have frozen a set for it
Next s (events.Answer packet) new =
    (broker node : ℕ) × (ask : Ask) × (life : Life) × (reply : Body) × (frozen : Option ℕ)
    × (slice_get s.packets packet ≡ Some (packets.Request broker node ask)) × (slice_get s.world node ≡ Some life)
    × (answer life.last.incarnation life.last.changes life.kept life.frozen ask ≡ Some (reply, frozen))
    × (new ≡ with_packet (with_node s node (with_frozen life frozen)) (packets.Reply broker node reply))
-- a broker's entry of the node is sent to another broker, or a page of it
Next s (events.Seed peer broker node page) new =
    (life : Life) × (inventory other : List Entry) × (e : Entry) × (slice_get s.world node ≡ Some life)
    × (slice_get s.brokers peer ≡ Some inventory) × (slice_get s.brokers broker ≡ Some other) × (slice_get inventory node ≡ Some e)
    × (e.mark ≢ never) × (new ≡ with_packet s (packets.Reply broker node (answer_of e (seed_ask e page))))
-- the broker takes the reply
Next s (events.Deliver packet) new =
    (broker node : ℕ) × (reply : Body) × (inventory after : List Entry) × (assemblies : List (Option Parts)) × (parts left : Option Parts)
    × (slice_get s.packets packet ≡ Some (packets.Reply broker node reply)) × (slice_get s.brokers broker ≡ Some inventory)
    × (slice_get s.assemblies broker ≡ Some assemblies) × (slice_get assemblies node ≡ Some parts)
    × Delivers inventory parts node reply after left × (new ≡ with_broker s broker after (slice_set assemblies node left))
-- what was sent is cut off on its way, or an exchange fails: nothing changes
Next s (events.Cut packet) new = (sent : Packet) × (slice_get s.packets packet ≡ Some sent) × (new ≡ s)
Next s (events.Fail broker node) new =
    (life : Life) × (inventory : List Entry) × (slice_get s.world node ≡ Some life) × (slice_get s.brokers broker ≡ Some inventory) × (new ≡ s)

-- ---- when an event cannot happen

-- what is named has to be there, and else it is this fault
abbrev pub needs : {A : Type 0} → SimFault → Option A → (A → Option SimFault) → Option SimFault
needs fault None next = Some fault
needs fault (Some x) next = next x

-- the packet asks
abbrev pub is_request : Packet → Bool
is_request (packets.Request broker node ask) = true
is_request (packets.Reply broker node reply) = false

-- a page is asked for only where some came
abbrev pub ask_refusal : AskKind → Option (Option Parts) → Option SimFault
ask_refusal (kinds.Page page) (Some None) = Some faults.NoAssembly
ask_refusal kind parts = None

-- why an event cannot happen: no such node, then no such broker, then no such packet of the kind, and then what the node's
-- history or the peer's entry refuses, or that no pages came
unfoldable pub refusal : State → Event → Option SimFault
refusal s (events.Record node change) =
    needs faults.NoSuchNode (slice_get s.world node) (λ life. if takes life change then None else Some faults.Refused)
refusal s (events.Restart node) =
    needs faults.NoSuchNode (slice_get s.world node)
    (λ life. if nat_lt life.last.incarnation last_incarnation then None else Some faults.Refused)
refusal s (events.Ask broker node kind) =
    needs faults.NoSuchNode (slice_get s.world node)
    (λ life. needs faults.NoSuchBroker (slice_get s.brokers broker) (λ inventory. ask_refusal kind (parts_at s broker node)))
refusal s (events.Answer packet) =
    needs faults.NoSuchPacket (slice_get s.packets packet) (λ sent. if is_request sent then None else Some faults.NoSuchPacket)
refusal s (events.Seed peer broker node page) =
    needs faults.NoSuchNode (slice_get s.world node)
    (λ life. needs faults.NoSuchBroker (slice_get s.brokers peer)
    (λ inventory. needs faults.NoSuchBroker (slice_get s.brokers broker)
    (λ other. needs faults.Refused (slice_get inventory node) (λ e. if same_mark e.mark never then Some faults.Refused else None))))
refusal s (events.Deliver packet) =
    needs faults.NoSuchPacket (slice_get s.packets packet) (λ sent. if is_request sent then Some faults.NoSuchPacket else None)
refusal s (events.Cut packet) = needs faults.NoSuchPacket (slice_get s.packets packet) (λ sent. None)
refusal s (events.Fail broker node) =
    needs faults.NoSuchNode (slice_get s.world node) (λ life. needs faults.NoSuchBroker (slice_get s.brokers broker) (λ inventory. None))

-- the fault that tells why an event did not happen; out of memory only where it can happen
abbrev pub Reports : State → Event → SimFault → Type 0
Reports s event faults.Memory = (new : State) × Next s event new
Reports s event fault = refusal s event ≡ Some fault

-- ---- runs

-- events, one after another
abbrev pub Run : State → List Event → State → Type 0
Run s [] new = new ≡ s
Run s (event ∷ events) new = (mid : State) × Next s event mid × Run mid events new

-- a run from the opening state comes to it
pub record IsReached (s : State) : Type 0 where
  pub nodes : ℕ
  pub brokers : ℕ
  pub kept : ℕ
  pub events : List Event
  pub run : Run (opening nodes brokers kept) events s

-- replies of nodes, applied one after another
abbrev pub Folds : List Entry → List (ℕ × Body) → List Entry → Type 0
Folds inventory [] new = new ≡ inventory
Folds inventory (sent ∷ rest) new = (mid : List Entry) × Applies inventory sent.0 sent.1 mid × Folds mid rest new

-- each is a true reply of its node
abbrev pub AreHonest : List Life → List (ℕ × Body) → Type 0
AreHonest world sent = AllByRecursion (λ pair. IsHonestAt world pair.0 pair.1) sent

-- each is the later of two marks
abbrev pub AreLaterOf : List Point → List Point → List Point → Type 0
AreLaterOf ms ns marks = marks ≡ map (λ p. if is_lt (mark_cmp p.0 p.1) then p.1 else p.0) (zip ms ns)
