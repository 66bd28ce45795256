-- The pages of a snapshot that come as replies, and the snapshot that they give.
use Rattle.std.specs.Prelude.{◌≡◌, ⊤, List, Option, option_map}
use Rattle.druid_segment_descriptor.specs.Described.{Described}
use Rattle.druid_segment_descriptor.specs.declared.reply.Body.{Body}
use Rattle.druid_segment_descriptor.specs.declared.reply.Body.TheVariants.{Delta, Snapshot, Reset}
use Rattle.druid_segment_descriptor.specs.declared.reply.Body.TheVariants as replies
use Rattle.druid_sync_pages.specs.Assembly.{Parts, Page, Takes, Refuses}
use Rattle.druid_sync_pages.specs.declared.fault.PageFault.TheVariants.{Conflict, Memory}
use Rattle.druid_inventory.specs.declared.fault.ApplyFault.{ApplyFault}
use Rattle.druid_inventory.specs.declared.fault.ApplyFault.TheVariants as faults

-- the reply is a page, of which this holds
abbrev pub OfPage : Body → (Page → Type 0) → Type 0
OfPage (Delta from to changes) P = ⊥
OfPage (Snapshot at set) P = ⊥
OfPage (replies.Page at page of segments) P = P (record { at = at; page = page; of = of; segments = segments })
OfPage (Reset cause at) P = ⊥

-- the reply is a page
abbrev pub IsPageReply : Body → Type 0
IsPageReply reply = OfPage reply (λ p. ⊤)

-- a page gives this reply, the snapshot at its mark if any, and these pages are there after it
abbrev pub Gives : Option Parts → Page → Option Body → Option Parts → Type 0
Gives old p given new = (set : Option (List Described)) × Takes old p set new × (given ≡ option_map (Snapshot p.at) set)

-- a page is refused
abbrev pub PageRefused : Option Parts → Page → ApplyFault → Type 0
PageRefused old p faults.PageConflict = Refuses old p Conflict
PageRefused old p faults.Memory = Refuses old p Memory
PageRefused old p _ = ⊥

-- what a reply that is a page gives, and which pages are there after it
abbrev pub TakesReply : Option Parts → Body → Option Body → Option Parts → Type 0
TakesReply old reply given new = OfPage reply (λ p. Gives old p given new)

-- why a reply that is a page is not taken; out of memory only where it would be
abbrev pub RefusesReply : Option Parts → Body → ApplyFault → Type 0
RefusesReply old reply fault = OfPage reply (λ p. PageRefused old p fault)
