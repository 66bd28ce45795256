-- Each value is read as a reply, or refused as one.
use Rattle.std.proofs.Common.{◌≡◌, ℕ, ◌+◌, ◌<◌, ◌≤◌, Bool, true, false, cond, nat_le, List, codes, length, Option, None, Some, is_some, option_and_then, Ok, Err, ◌⊎◌, inl, inr, ⊎_elim, refl, ap, arith}
use Rattle.std.specs.Prelude.{⊤}
use Rattle.std.proofs.lemmas.Bool.{cases_lt, cases_eq}
use Rattle.std.proofs.lemmas.Bool.Decides.{nat_tests}
use Rattle.std.proofs.lemmas.Option.{same_Some}
use Rattle.std.proofs.lemmas.List.Sorted.{length_permutation}
use Rattle.serde_json.specs.Data.{Data, Items}
use Rattle.serde_json.specs.Find.{get, as_null, as_bool, as_array}
use Rattle.druid_base.proofs.OptionLemmas.{given_so}
use Rattle.druid_base.proofs.StepLemmas.{each_next}
use Rattle.druid_base.specs.Options.{◌>>=◌}
use Rattle.druid_segment_id.specs.Identifier.{identifier_text}
use Rattle.druid_segment_descriptor.specs.Described.{Described}
use Rattle.druid_base.specs.Fields.{number_at, limited_at}
use Rattle.druid_segment_descriptor.specs.Mark.{Point}
use Rattle.druid_segment_descriptor.specs.Reply.{max_segments, max_page, max_pages, max_changes, AreSorted, HaveOwnIdentifiers, IsAsFar, IsFull, IsPageOf}
use Rattle.druid_segment_descriptor.specs.declared.change.Change.{Change}
use Rattle.druid_segment_descriptor.specs.declared.reply.Body.{Body}
use Rattle.druid_segment_descriptor.specs.declared.reply.Body.TheVariants.{Delta, Snapshot, Page, Reset}
use Rattle.druid_base.specs.Each.{each_of}
use Rattle.druid_sync_text.specs.Read.{Form, followed, whole, paged, begun_again, Five, mark_at, change_at, load_at, cause_at, none_in, five_at, reset_at, snapshot_at, delta_at, changes_at, page_at, paged_at, is_page_reply, unpaged_at, form_at, Answers}
use Rattle.druid_sync_text.specs.declared.fault.SyncFault.{SyncFault}
use Rattle.druid_sync_text.specs.declared.fault.SyncFault.TheVariants as faults
use Rattle.druid_replay.specs.Execution.{read_refusal}
use Rattle.druid_replay.specs.declared.answer.Refusal.{Refusal}
use Rattle.druid_replay.specs.declared.answer.Refusal.TheVariants as refusals
use Rattle.druid_replay.proofs.Decided.{Decided, own_decided, sorted_decided, in_order}

-- ---- the mark of a snapshot

abbrev IsMarked : Point → Type 0
IsMarked m = 1 ≤ m.incarnation

abbrev point_if : ℕ → ℕ → Option Point
point_if count incarnation =
    cond (nat_le 1 incarnation) (Some (record { incarnation = incarnation; count = count })) None

point_marked : (count incarnation : ℕ) (m : Point) → point_if count incarnation ≡ Some m → IsMarked m
point_marked count incarnation m e = by (nat_le 1 incarnation) refl e where
  by : (b : Bool) → nat_le 1 incarnation ≡ b → cond b (Some (record { incarnation = incarnation; count = count })) None ≡ Some m → IsMarked m
  by true small is =
      let low : 1 ≤ incarnation = grind (arith, nat_tests, small) in
      let same : incarnation ≡ m.incarnation = ap (λ (x : Point). x.incarnation) (same_Some _ m is) in
      omega (arith, low, same)
  by false small is = absurd cc

mark_marked : (d : Data) (m : Point) → mark_at d ≡ Some m → IsMarked m
unfolding mark_at
mark_marked d =
    each_next IsMarked (number_at (codes "counter") d) (λ count. number_at (codes "hash") d >>= λ incarnation. point_if count incarnation)
    (λ count _. each_next IsMarked (number_at (codes "hash") d) (λ incarnation. point_if count incarnation)
    (λ incarnation _. point_marked count incarnation))

counter_marked : (o : Option Data) (m : Point) → option_and_then mark_at o ≡ Some m → IsMarked m
counter_marked None m e = absurd cc
counter_marked (Some d) m e = mark_marked d m e

abbrev IsMarkedFive : Five → Type 0
IsMarkedFive five = IsMarked five.at

abbrev five_beyond : Data → Point → Option Five
five_beyond d at =
    get (codes "from") d >>= λ from. option_and_then as_array (get (codes "requests") d) >>= λ requests.
    get (codes "resetCause") d >>= λ cause. option_and_then as_bool (get (codes "resetCounter") d) >>= λ reset.
    Some (record { at = at; from = from; requests = requests; cause = cause; reset = reset })

beyond_marked : (d : Data) (at : Point) → IsMarked at → (five : Five) → five_beyond d at ≡ Some five → IsMarkedFive five
beyond_marked d at marked =
    each_next IsMarkedFive (get (codes "from") d)
    (λ from. option_and_then as_array (get (codes "requests") d) >>= λ requests. get (codes "resetCause") d >>= λ cause. option_and_then as_bool (get (codes "resetCounter") d) >>= λ reset. Some (record { at = at; from = from; requests = requests; cause = cause; reset = reset }))
    (λ from _. each_next IsMarkedFive (option_and_then as_array (get (codes "requests") d))
    (λ requests. get (codes "resetCause") d >>= λ cause. option_and_then as_bool (get (codes "resetCounter") d) >>= λ reset. Some (record { at = at; from = from; requests = requests; cause = cause; reset = reset }))
    (λ requests _. each_next IsMarkedFive (get (codes "resetCause") d)
    (λ cause. option_and_then as_bool (get (codes "resetCounter") d) >>= λ reset. Some (record { at = at; from = from; requests = requests; cause = cause; reset = reset }))
    (λ cause _. each_next IsMarkedFive (option_and_then as_bool (get (codes "resetCounter") d))
    (λ reset. Some (record { at = at; from = from; requests = requests; cause = cause; reset = reset }))
    (λ reset _. given_so IsMarkedFive (record { at = at; from = from; requests = requests; cause = cause; reset = reset }) marked))))

five_marked : (d : Data) (five : Five) → five_at d ≡ Some five → IsMarkedFive five
unfolding five_at
five_marked d =
    each_next IsMarkedFive (option_and_then mark_at (get (codes "counter") d)) (five_beyond d)
    (λ at read. beyond_marked d at (counter_marked (get (codes "counter") d) at read))

-- a snapshot is of an incarnation
abbrev pub IsMarkedForm : Form → Type 0
IsMarkedForm (followed from to changes) = ⊤
IsMarkedForm (whole at segments) = IsMarked at
IsMarkedForm (paged at page of segments) = ⊤
IsMarkedForm (begun_again cause at) = ⊤

reset_marked : (five : Five) (form : Form) → reset_at five ≡ Some form → IsMarkedForm form
unfolding reset_at
reset_marked five =
    each_next IsMarkedForm (as_null five.from) (λ _. none_in five.requests >>= λ _. cause_at five.cause >>= λ cause. Some (begun_again cause five.at))
    (λ _ _. each_next IsMarkedForm (none_in five.requests) (λ _. cause_at five.cause >>= λ cause. Some (begun_again cause five.at))
    (λ _ _. each_next IsMarkedForm (cause_at five.cause) (λ cause. Some (begun_again cause five.at))
    (λ cause _. given_so IsMarkedForm (begun_again cause five.at) tt)))

snapshot_marked : (at : Point) (requests : Items) → IsMarked at → (form : Form) → snapshot_at at requests ≡ Some form → IsMarkedForm form
unfolding snapshot_at
snapshot_marked at requests marked =
    each_next IsMarkedForm (each_of load_at requests) (λ segments. Some (whole at segments))
    (λ segments _. given_so IsMarkedForm (whole at segments) marked)

delta_marked : (at : Point) (from : Data) (requests : Items) (form : Form) → delta_at at from requests ≡ Some form → IsMarkedForm form
unfolding delta_at
delta_marked at from requests =
    each_next IsMarkedForm (mark_at from) (λ start. each_of change_at requests >>= λ changes. Some (followed start at changes))
    (λ start _. each_next IsMarkedForm (each_of change_at requests) (λ changes. Some (followed start at changes))
    (λ changes _. given_so IsMarkedForm (followed start at changes) tt))

either_marked : (five : Five) → IsMarkedFive five → (b : Bool) (form : Form)
    → cond b (snapshot_at five.at five.requests) (delta_at five.at five.from five.requests) ≡ Some form → IsMarkedForm form
either_marked five marked true form e = snapshot_marked five.at five.requests marked form e
either_marked five marked false form e = delta_marked five.at five.from five.requests form e

changes_marked : (five : Five) → IsMarkedFive five → (form : Form) → changes_at five ≡ Some form → IsMarkedForm form
unfolding changes_at
changes_marked five marked =
    each_next IsMarkedForm (as_null five.cause)
    (λ _. cond (is_some (as_null five.from)) (snapshot_at five.at five.requests) (delta_at five.at five.from five.requests))
    (λ _ _. either_marked five marked (is_some (as_null five.from)))

page_marked : (at : Point) (page of : ℕ) (requests : Items) (form : Form) → page_at at page of requests ≡ Some form → IsMarkedForm form
unfolding page_at
page_marked at page of requests =
    each_next IsMarkedForm (each_of load_at requests) (λ segments. Some (paged at page of segments))
    (λ segments _. given_so IsMarkedForm (paged at page of segments) tt)

unless_reset : (at : Point) (page of : ℕ) (requests : Items) (b : Bool) (form : Form)
    → cond b None (page_at at page of requests) ≡ Some form → IsMarkedForm form
unless_reset at page of requests true form e = absurd cc
unless_reset at page of requests false form e = page_marked at page of requests form e

paged_marked : (d : Data) (five : Five) (form : Form) → paged_at d five ≡ Some form → IsMarkedForm form
unfolding paged_at
paged_marked d five =
    each_next IsMarkedForm (limited_at 65_535 (codes "page") d)
    (λ page. limited_at 65_535 (codes "pages") d >>= λ of. as_null five.from >>= λ _. as_null five.cause >>= λ _. cond five.reset None (page_at five.at page of five.requests))
    (λ page _. each_next IsMarkedForm (limited_at 65_535 (codes "pages") d)
    (λ of. as_null five.from >>= λ _. as_null five.cause >>= λ _. cond five.reset None (page_at five.at page of five.requests))
    (λ of _. each_next IsMarkedForm (as_null five.from)
    (λ _. as_null five.cause >>= λ _. cond five.reset None (page_at five.at page of five.requests))
    (λ _ _. each_next IsMarkedForm (as_null five.cause)
    (λ _. cond five.reset None (page_at five.at page of five.requests))
    (λ _ _. unless_reset five.at page of five.requests five.reset))))

unpaged_marked : (five : Five) → IsMarkedFive five → (b : Bool) (form : Form) → cond b (reset_at five) (changes_at five) ≡ Some form → IsMarkedForm form
unpaged_marked five marked true form e = reset_marked five form e
unpaged_marked five marked false form e = changes_marked five marked form e

form_of_five : (d : Data) (five : Five) → IsMarkedFive five → (b : Bool) (form : Form)
    → cond b (paged_at d five) (unpaged_at five) ≡ Some form → IsMarkedForm form
form_of_five d five marked true form e = paged_marked d five form e
form_of_five d five marked false form e = unpaged_marked five marked five.reset form e

form_marked : (d : Data) (form : Form) → form_at d ≡ Some form → IsMarkedForm form
unfolding form_at
form_marked d =
    each_next IsMarkedForm (five_at d) (λ five. cond (is_page_reply d) (paged_at d five) (unpaged_at five))
    (λ five read. form_of_five d five (five_marked d five read) (is_page_reply d))

-- ---- answers

-- a value is read, or its fault is given
abbrev pub IsReadSo : Option Form → Type 0
IsReadSo f =
    ((body : Body) × Answers f (Ok body))
    ⊎ ((fault : SyncFault) × (refusal : Refusal) × Answers f (Err fault) × (read_refusal fault ≡ Some refusal))

far_decided : (from to : Point) (n : ℕ) → Decided (IsAsFar from to n)
far_decided from to n = by (cases_eq to.incarnation from.incarnation) (cases_eq to.count (from.count + n)) where
  by : Decided (to.incarnation ≡ from.incarnation) → Decided (to.count ≡ from.count + n) → Decided (IsAsFar from to n)
  by (inl same) (inl far) = inl (record { incarnation = same; count = far })
  by (inl same) (inr other) = inr (λ h. other h.count)
  by (inr other) far = inr (λ h. other h.incarnation)

delta_some : (from to : Point) (changes : List Change) → (max_changes < length changes) ⊎ (length changes ≤ max_changes)
    → Decided (IsAsFar from to (length changes)) → IsReadSo (Some (followed from to changes))
delta_some from to changes (inl long) far = inr (faults.TooMany, refusals.TooMany, long, refl)
delta_some from to changes (inr short) (inr other) = inr (faults.LengthOfDelta, refusals.LengthOfDelta, (short, other), refl)
delta_some from to changes (inr short) (inl far) = inl (Delta from to changes, (refl, short, far))

snapshot_some : (at : Point) (segments : List Described) → IsMarked at → (max_segments < length segments) ⊎ (length segments ≤ max_segments)
    → Decided (HaveOwnIdentifiers segments) → IsReadSo (Some (whole at segments))
snapshot_some at segments marked (inl long) own = inr (faults.TooMany, refusals.TooMany, long, refl)
snapshot_some at segments marked (inr short) (inr twice) =
    inr (faults.DoubledSegment, refusals.DoubledSegment, (short, twice), refl)
snapshot_some at segments marked (inr short) (inl own) =
    let sorted = in_order segments own in
    let same = length_permutation segments sorted.0 sorted.1 in
    inl (Snapshot at sorted.0, (refl, sorted.1, record { incarnation = marked; few = omega (arith, same, short); sorted = sorted.2 }))

full_decided : (page of count : ℕ) → Decided (IsFull page of count)
full_decided page of count = by (cases_eq count max_page) (cases_lt 0 count) (cases_eq (page + 1) of) where
  by : Decided (count ≡ max_page) → (0 < count) ⊎ (count ≤ 0) → Decided (page + 1 ≡ of) → Decided (IsFull page of count)
  by (inl full) some last = inl (inl full)
  by (inr other) (inl some) (inl last) = inl (inr (omega (arith, some), last))
  by (inr other) (inl some) (inr before) = inr (λ h. ⊎_elim other (λ x. before x.1) h)
  by (inr other) (inr none) last = inr (λ h. ⊎_elim other (λ x. let some = x.0 in omega (arith, some, none)) h)

page_decided : (page of : ℕ) (segments : List Described) → length segments ≤ max_page → Decided (IsPageOf page of segments)
page_decided page of segments few =
    by (cases_lt 1 of) (cases_lt max_pages of) (cases_lt page of) (full_decided page of (length segments)) (sorted_decided segments) where
      by : (1 < of) ⊎ (of ≤ 1) → (max_pages < of) ⊎ (of ≤ max_pages) → (page < of) ⊎ (of ≤ page)
          → Decided (IsFull page of (length segments)) → Decided (AreSorted segments) → Decided (IsPageOf page of segments)
      by (inr one) many within full sorted = inr (λ h. let several = h.several in omega (arith, several, one))
      by (inl several) (inl many) within full sorted = inr (λ h. let not_many = h.not_many in omega (arith, not_many, many))
      by (inl several) (inr not_many) (inr past) full sorted = inr (λ h. let within = h.within in omega (arith, within, past))
      by (inl several) (inr not_many) (inl within) (inr short) sorted = inr (λ h. short h.full)
      by (inl several) (inr not_many) (inl within) (inl full) (inr other) = inr (λ h. other h.sorted)
      by (inl several) (inr not_many) (inl within) (inl full) (inl sorted) =
          inl (record { several = omega (arith, several); not_many = not_many; within = within; few = few; full = full; sorted = sorted })

page_some : (at : Point) (page of : ℕ) (segments : List Described) → (max_page < length segments) ⊎ (length segments ≤ max_page)
    → IsReadSo (Some (paged at page of segments))
page_some at page of segments (inl long) = inr (faults.TooMany, refusals.TooMany, long, refl)
page_some at page of segments (inr short) = by (page_decided page of segments short) where
  by : Decided (IsPageOf page of segments) → IsReadSo (Some (paged at page of segments))
  by (inl is) = inl (Page at page of segments, (refl, is))
  by (inr none) = inr (faults.BadPage, refusals.BadPage, (short, none), refl)

form_some : (f : Option Form) → ((form : Form) → f ≡ Some form → IsMarkedForm form) → IsReadSo f
form_some None marked = inr (faults.Shape, refusals.Shape, refl, refl)
form_some (Some (followed from to changes)) marked =
    delta_some from to changes (cases_lt max_changes (length changes)) (far_decided from to (length changes))
form_some (Some (whole at segments)) marked =
    snapshot_some at segments (marked (whole at segments) refl) (cases_lt max_segments (length segments))
    (own_decided (λ (x : Described). identifier_text x.id) segments)
form_some (Some (paged at page of segments)) marked = page_some at page of segments (cases_lt max_page (length segments))
form_some (Some (begun_again cause at)) marked = inl (Reset cause at, refl)

pub read_some : (d : Data) → IsReadSo (form_at d)
read_some d = form_some (form_at d) (form_marked d)
