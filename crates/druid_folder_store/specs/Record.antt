-- For proofs alone: what the calls of a folder in memory have made of it. Of such a folder its clauses say enough.
use Rattle.std.specs.Prelude.{◌≡◌, ℕ, ◌≤◌, Bool, true, false, List, [], ◌∷◌, length, take, Option, Some, None, string_bytes}
use Rattle.druid_folder.specs.Folder.{Content, nothing, with_file, without, renamed, Torn, DoneOrNot}
use Rattle.druid_folder_store.specs.declared.record.Call.{Call}
use Rattle.druid_folder_store.specs.declared.record.Call.TheVariants.{Looked, Wrote, Synced, Renamed, Removed, Failed}
use Rattle.druid_folder_store.specs.declared.record.CallRecord.{CallRecord}
use Rattle.druid_folder_store.specs.declared.record.Source.{Source}
use Rattle.druid_folder_store.specs.declared.record.Source.TheVariants.{Bytes, NoFile, Before}

-- the calls that a folder in memory has had, the oldest first
abbrev pub calls_of : CallRecord → List Call
calls_of folder = folder.calls.items

-- how many of them have failed
abbrev pub failures_of : CallRecord → ℕ
failures_of folder = folder.faults

-- what is read after a call, from what was read before it
abbrev pub done : Call → Content → Content
done Looked files = files
done (Wrote name bytes) files = with_file files (string_bytes name.text) (Some bytes.items)
done Synced files = files
done (Renamed from to) files = renamed (string_bytes from.text) (string_bytes to.text) files
done (Removed name) files = without (string_bytes name.text) files
done Failed files = files

-- the name under which a call may have put a file
abbrev pub puts : Call → Option (List ℕ)
puts Looked = None
puts (Wrote name bytes) = Some (string_bytes name.text)
puts Synced = None
puts (Renamed from to) = Some (string_bytes to.text)
puts (Removed name) = None
puts Failed = None

-- the file that a source stands for, where these were read before the call
abbrev pub file_from : Source → Content → Option (List ℕ)
file_from (Bytes bytes) files = Some bytes.now
file_from NoFile files = None
file_from (Before name) files = files name.now

-- what is read after these calls
abbrev pub content_after : Content → List Call → Content
content_after files [] = files
content_after files (call ∷ calls) = content_after (done call files) calls

-- what a stop may leave after a call, from what was read before it and what a stop might have left before it
abbrev pub LeftBy : Call → Content → (Content → Type 0) → Content → Type 0
LeftBy Looked files left c = left c
LeftBy (Wrote name bytes) files left c = (d : Content) × left d × Torn (string_bytes name.text) d c
LeftBy Synced files left c = c ≡ files
LeftBy (Renamed from to) files left c =
    (d : Content) × left d × DoneOrNot (renamed (string_bytes from.text) (string_bytes to.text)) d c
LeftBy (Removed name) files left c =
    (d : Content) × left d × DoneOrNot (without (string_bytes name.text)) d c
LeftBy Failed files left c = left c

-- what a stop may leave after these calls
abbrev pub LeftAfter : Content → (Content → Type 0) → List Call → Content → Type 0
LeftAfter files left [] c = left c
LeftAfter files left (call ∷ calls) c = LeftAfter (done call files) (LeftBy call files left) calls c

-- what a stop may leave of a folder that was empty before these calls
abbrev pub IsLeft : List Call → Content → Type 0
IsLeft calls c = LeftAfter nothing (λ d. d ≡ nothing) calls c

-- what a stop after the first t calls, or later, might have left
abbrev pub LeftSince : List Call → ℕ → Content → Type 0
LeftSince calls t c = (k : ℕ) × (t ≤ k) × (k ≤ length calls) × IsLeft (take k calls) c

-- whether a call is a sync
abbrev pub is_sync : Call → Bool
is_sync Looked = false
is_sync (Wrote name bytes) = false
is_sync Synced = true
is_sync (Renamed from to) = false
is_sync (Removed name) = false
is_sync Failed = false

-- what a stop after a call leaves where it keeps nothing but what was synced, from what was read before the call and what
-- such a stop would have left before it: a file written since is empty
abbrev pub lost : Call → Content → Content → Content
lost Looked files kept = kept
lost (Wrote name bytes) files kept = with_file kept (string_bytes name.text) (Some [])
lost Synced files kept = files
lost (Renamed from to) files kept = kept
lost (Removed name) files kept = kept
lost Failed files kept = kept

-- and after these calls
abbrev pub lost_after : Content → Content → List Call → Content
lost_after files kept [] = kept
lost_after files kept (call ∷ calls) = lost_after (done call files) (lost call files kept) calls

-- what a stop leaves after these calls where it keeps all that was done, or nothing but what was synced
abbrev pub stopped : Bool → List Call → Content
stopped true calls = content_after nothing calls
stopped false calls = lost_after nothing nothing calls
