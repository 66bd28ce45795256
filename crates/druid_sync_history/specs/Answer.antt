-- What a node answers to a broker that follows it. It looks at the whole history, of which a node keeps a part.
use Rattle.std.specs.Prelude.{◌≡◌, ◌==◌, ◌-◌, ℕ, Bool, false, not, List, length, take, drop, Option, Some, None, ⊤, option_map, option_and_then, unwrap_or, nat_lt, nat_le, if◌then◌else◌}
use Rattle.druid_segment_descriptor.specs.Described.{Described}
use Rattle.druid_segment_descriptor.specs.Mark.{Point}
use Rattle.druid_segment_descriptor.specs.Reply.{max_page}
use Rattle.druid_sync_pages.specs.Pages.{page_at, pages_in}
use Rattle.druid_segment_descriptor.specs.Replay.{replay}
use Rattle.druid_segment_descriptor.specs.declared.change.Ask.{Ask}
use Rattle.druid_segment_descriptor.specs.declared.change.Ask.TheVariants.{Whole, Since}
use Rattle.druid_segment_descriptor.specs.declared.change.Ask.TheVariants as asks
use Rattle.druid_segment_descriptor.specs.declared.change.Cause.{Cause}
use Rattle.druid_segment_descriptor.specs.declared.change.Cause.TheVariants.{OtherIncarnation, Ahead, TooOld}
use Rattle.druid_segment_descriptor.specs.declared.change.Change.{Change}
use Rattle.druid_segment_descriptor.specs.declared.reply.Body.{Body}
use Rattle.druid_segment_descriptor.specs.declared.reply.Body.TheVariants.{Delta, Snapshot, Page, Reset}

-- the mark after a history
abbrev pub mark_after : ℕ → List Change → Point
mark_after incarnation history = record { incarnation = incarnation; count = length history }

-- why a node that keeps so many changes has not those after a mark
unfoldable pub cause_of : ℕ → ℕ → ℕ → Point → Option Cause
cause_of incarnation count limit mark =
    if not (mark.incarnation == incarnation) then Some OtherIncarnation
    else (if nat_lt count mark.count then Some Ahead
    else (if nat_lt limit (count - mark.count) then Some TooOld else None))

-- the changes after a mark, or why the broker has to begin anew
abbrev pub reset_or_delta : ℕ → List Change → Point → Option Cause → Body
reset_or_delta incarnation history mark (Some cause) = Reset cause (mark_after incarnation history)
reset_or_delta incarnation history mark None =
    Delta mark (mark_after incarnation history) (drop mark.count history)

-- a page of the set that there was after so many changes
abbrev pub page_of : ℕ → ℕ → ℕ → List Described → Body
page_of incarnation count page set =
    Page (record { incarnation = incarnation; count = count }) page (pages_in (length set)) (page_at set page)

-- the first page of the set that was frozen after so many changes, and that it is frozen
abbrev pub first_page : ℕ → List Change → ℕ → Option (Body × Option ℕ)
first_page incarnation history count = option_map (λ set. (page_of incarnation count 0 set, Some count)) (replay (take count history))

-- all that is served: whole, or where that is too large for one message the first page of the set that is frozen, or is from now on
abbrev pub whole_answer : ℕ → List Change → Option ℕ → List Described → Option (Body × Option ℕ)
whole_answer incarnation history frozen set =
    if nat_le (length set) max_page then Some (Snapshot (mark_after incarnation history) set, frozen)
    else first_page incarnation history (unwrap_or frozen (length history))

-- whether the set after so many changes is frozen
abbrev pub is_frozen : Option ℕ → ℕ → Bool
is_frozen None count = false
is_frozen (Some frozen) count = frozen == count

-- a page of the frozen set, if it has that page
abbrev pub page_answer : ℕ → List Change → ℕ → ℕ → List Described → Body
page_answer incarnation history count page set =
    if nat_lt page (pages_in (length set)) then page_of incarnation count page set else Reset TooOld (mark_after incarnation history)

-- a page of the set at a mark, where it is frozen
abbrev pub asked_page : ℕ → List Change → Option ℕ → Point → ℕ → Option Body
asked_page incarnation history frozen mark page =
    if not (mark.incarnation == incarnation) then Some (Reset OtherIncarnation (mark_after incarnation history))
    else (if is_frozen frozen mark.count then option_map (page_answer incarnation history mark.count page) (replay (take mark.count history))
    else Some (Reset TooOld (mark_after incarnation history)))

-- the answer, where each change of the history is strict, and after how many changes a set is frozen then; before it, that is `frozen`
abbrev pub answer : ℕ → List Change → ℕ → Option ℕ → Ask → Option (Body × Option ℕ)
answer incarnation history limit frozen Whole = option_and_then (whole_answer incarnation history frozen) (replay history)
answer incarnation history limit frozen (Since mark) =
    Some (reset_or_delta incarnation history mark (cause_of incarnation (length history) limit mark), frozen)
answer incarnation history limit frozen (asks.Page mark page) =
    option_map (λ body. (body, frozen)) (asked_page incarnation history frozen mark page)

-- the answer has copies in it
abbrev pub HasCopies : ℕ → ℕ → ℕ → Ask → Type 0
HasCopies incarnation count limit Whole = ⊤
HasCopies incarnation count limit (Since mark) = cause_of incarnation count limit mark ≡ None
HasCopies incarnation count limit (asks.Page mark page) = mark.incarnation ≡ incarnation
