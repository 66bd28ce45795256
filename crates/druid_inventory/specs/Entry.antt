-- What a broker knows of the data nodes.
use Rattle.std.specs.Prelude.{◌≡◌, ◌≢◌, ◌==◌, ◌&&◌, ℕ, Bool, List, [], length, nat_lt, nat_le, slice_get, Some, if◌then◌else◌}
use Rattle.druid_segment_descriptor.specs.Described.{Described}
use Rattle.druid_segment_descriptor.specs.Mark.{Point, never, same_mark}
use Rattle.druid_segment_descriptor.specs.Reply.{max_page}
use Rattle.druid_segment_descriptor.specs.declared.change.Ask.{Ask}
use Rattle.druid_segment_descriptor.specs.declared.change.Ask.TheVariants.{Whole, Since}
use Rattle.druid_segment_descriptor.specs.declared.change.Ask.TheVariants as asks
use Rattle.druid_segment_descriptor.specs.declared.change.Cause.{Cause}
use Rattle.druid_segment_descriptor.specs.declared.change.Cause.TheVariants.{OtherIncarnation, TooOld}
use Rattle.druid_segment_descriptor.specs.declared.reply.Body.{Body}
use Rattle.druid_segment_descriptor.specs.declared.reply.Body.TheVariants.{Snapshot, Page, Reset}
use Rattle.druid_sync_pages.specs.Pages.{page_at, pages_in}

-- the most nodes of a list
abbrev pub max_nodes : ℕ
max_nodes = 64

-- of one node: its name, how far its history has been followed, and what it serves at that mark
pub record Entry : Type 0 where
  pub name : List ℕ
  pub mark : Point
  pub set : List Described

-- a node that was never synced
abbrev pub fresh : List ℕ → Entry
fresh name = record { name = name; mark = never; set = [] }

-- what to ask a node for that is known up to a mark: all, where it was never synced, and else what comes after
abbrev pub ask_of : Point → Ask
ask_of mark = if same_mark mark never then Whole else Since mark

-- the node was never synced
abbrev pub IsUnsynced : List Entry → ℕ → Type 0
IsUnsynced inventory node = (e : Entry) × (slice_get inventory node ≡ Some e) × (e.mark ≡ never)

-- the reply that tells a peer what is known of the node, which was synced: all that it serves at its mark
abbrev pub IsEntryOf : List Entry → ℕ → Body → Type 0
IsEntryOf inventory node reply =
    (e : Entry) × (slice_get inventory node ≡ Some e) × (e.mark ≢ never) × (reply ≡ Snapshot e.mark e.set)

-- a page of all that the node serves at its mark
abbrev pub page_of : Entry → ℕ → Body
page_of e page = Page e.mark page (pages_in (length e.set)) (page_at e.set page)

-- all that it serves, or the first page where that is too large for one message
abbrev pub whole_or_page : Entry → Body
whole_or_page e = if nat_le (length e.set) max_page then Snapshot e.mark e.set else page_of e 0

-- the mark is the entry's, and all that the node serves there is sent in pages, of which this is one
abbrev pub has_page : Entry → Point → ℕ → Bool
has_page e mark page = same_mark mark e.mark && nat_lt max_page (length e.set) && nat_lt page (pages_in (length e.set))

-- why a page at a mark is not to be had
abbrev pub cause_of : Entry → Point → Cause
cause_of e mark = if mark.incarnation == e.mark.incarnation then TooOld else OtherIncarnation

-- what a peer that asks is answered
abbrev pub answer_of : Entry → Ask → Body
answer_of e Whole = whole_or_page e
answer_of e (Since mark) = whole_or_page e
answer_of e (asks.Page mark page) = if has_page e mark page then page_of e page else Reset (cause_of e mark) e.mark

-- the reply to a peer that asks what is known of the node, which was synced
abbrev pub IsAnswerOf : List Entry → ℕ → Ask → Body → Type 0
IsAnswerOf inventory node ask reply =
    (e : Entry) × (slice_get inventory node ≡ Some e) × (e.mark ≢ never) × (reply ≡ answer_of e ask)
