-- What the private functions of the code tell. Only their contracts and proofs use this.
use Rattle.std.specs.Prelude.{◌≡◌, ◌==◌, ℕ, List, Option, None, Some, [], ◌∷◌, ◌++◌, option_map, slice_get, slice_set, if◌then◌else◌}
use Rattle.std.specs.Ordering.{is_lt}
use Rattle.druid_segment_descriptor.specs.Mark.{Point, mark_cmp}
use Rattle.druid_segment_descriptor.specs.declared.change.Ask.{Ask}
use Rattle.druid_segment_descriptor.specs.declared.change.Ask.TheVariants as asks
use Rattle.druid_segment_descriptor.specs.declared.change.Change.{Change}
use Rattle.druid_segment_descriptor.specs.declared.reply.Body.{Body}
use Rattle.druid_sync_history.specs.Answer.{answer}
use Rattle.druid_sync_history.specs.Kept.{Kept, StandsFor}
use Rattle.druid_sync_pages.specs.Assembly.{Parts}
use Rattle.druid_inventory.specs.Assembly.{TakesReply, RefusesReply}
use Rattle.druid_inventory.specs.Entry.{Entry, IsAnswerOf, IsUnsynced}
use Rattle.druid_inventory.specs.declared.fault.ApplyFault.TheVariants.{PageConflict}
use Rattle.druid_laws_world.specs.World.{Life}
use Rattle.druid_laws_world.specs.Run.{State, Delivers, with_frozen}
use Rattle.druid_laws_world.specs.declared.event.AskKind.{AskKind}
use Rattle.druid_laws_world.specs.declared.event.AskKind.TheVariants as kinds
use Rattle.druid_laws_world.specs.declared.event.Packet.{Packet}
use Rattle.druid_laws_world.specs.declared.event.Packet.TheVariants.{Reply}
use Rattle.druid_laws_world.specs.declared.event.SimFault.{SimFault}
use Rattle.druid_laws_world.specs.declared.event.SimFault.TheVariants as faults

-- the history that a node answers with stands for all changes of its incarnation
pub record IsFollowed (history : Kept) (changes : List Change) (kept : ℕ) : Type 0 where
  pub stands : StandsFor history changes
  pub limit : history.limit ≡ kept

-- the node answers so, and may have frozen a set for it
abbrev pub Answers : Life → Ask → Body → Life → Type 0
Answers old ask reply new =
    (frozen : Option ℕ) × (answer old.last.incarnation old.last.changes old.kept old.frozen ask ≡ Some (reply, frozen))
    × (new ≡ with_frozen old frozen)

-- why an entry is not sent; out of memory only where it was synced
abbrev pub ReportsEntry : List Entry → ℕ → Ask → SimFault → Type 0
ReportsEntry inventory node ask faults.Refused = IsUnsynced inventory node
ReportsEntry inventory node ask faults.Memory = (reply : Body) × IsAnswerOf inventory node ask reply
ReportsEntry inventory node ask fault = ⊥

-- a state of these
abbrev pub state : List Life → List Packet → List (List Entry) → List (List (Option Parts)) → State
state world packets brokers assemblies = record { world = world; packets = packets; brokers = brokers; assemblies = assemblies }

-- the mark of the pages that came
abbrev pub mark_of : Option Parts → Option Point
mark_of pages = option_map (λ p. p.at) pages

-- the later of the mark of the pages that came, if any did, and that of a page
abbrev pub later_mark : Option Point → Point → Option Point
later_mark None mark = Some mark
later_mark (Some at) mark = if is_lt (mark_cmp mark at) then Some at else Some mark

-- what a page gives; None where it is refused
abbrev pub GivesOrRefuses : Option Parts → Body → Option (Option Body) → Option Parts → Type 0
GivesOrRefuses old reply None new = RefusesReply old reply PageConflict × (new ≡ old)
GivesOrRefuses old reply (Some given) new = TakesReply old reply given new

-- the pages are those of one node, whose reply is taken
abbrev pub DeliversAt : List Entry → List (Option Parts) → ℕ → Body → List Entry → List (Option Parts) → Type 0
DeliversAt inventory assemblies node reply after new =
    (parts : Option Parts) × (left : Option Parts) × (slice_get assemblies node ≡ Some parts)
    × Delivers inventory parts node reply after left × (new ≡ slice_set assemblies node left)

-- a node answers what a broker asks, and its reply is put
abbrev pub AnswersIn : List Life → List Packet → ℕ → ℕ → Ask → List Life → List Packet → Type 0
AnswersIn world packets broker node ask new more =
    (life : Life) × (reply : Body) × (after : Life) × (slice_get world node ≡ Some life) × Answers life ask reply after
    × (new ≡ slice_set world node after) × (more ≡ packets ++ Reply broker node reply ∷ [])

-- a broker takes a reply of a node
abbrev pub DeliversIn : List (List Entry) → List (List (Option Parts)) → ℕ → ℕ → Body → List (List Entry) → List (List (Option Parts)) → Type 0
DeliversIn brokers assemblies broker node reply new left =
    (inventory : List Entry) × (after : List Entry) × (pages : List (Option Parts)) × (more : List (Option Parts))
    × (slice_get brokers broker ≡ Some inventory) × (slice_get assemblies broker ≡ Some pages) × DeliversAt inventory pages node reply after more
    × (new ≡ slice_set brokers broker after) × (left ≡ slice_set assemblies broker more)

-- what a broker asks that would ask this next, and to which pages of this mark came
abbrev pub ask_at : AskKind → Ask → Option Point → Option Ask
ask_at kinds.Next next at = Some next
ask_at kinds.Whole next at = Some asks.Whole
ask_at (kinds.Page page) next at = option_map (λ m. asks.Page m page) at

-- what a peer asks for to get a page of what another knows up to a mark
abbrev pub seed_mark : Point → ℕ → Ask
seed_mark mark page = if page == 0 then asks.Whole else asks.Page mark page
