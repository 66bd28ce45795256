-- For one law alone, that the premise of a `DiskFolder` can hold: a device that obeys, of which a stop leaves
-- what it may.
use Rattle.std.specs.Prelude.{◌≡◌, ℕ, ◌-◌, true, false, List, [], ◌∷◌, length, drop, Some, IfSome, IsSome}
use Rattle.druid_folder_store.specs.Event.{Event, did_list, did_read, did_write, did_sync, did_rename, did_remove}
use Rattle.druid_folder.specs.Folder.{Content, nothing, with_file, without, renamed, Torn, DoneOrNot, AreNames, read_part}
use Rattle.druid_folder_store.specs.Honest.{HonestIn, WhereDone}

-- what the device has after a call, from what it had before it: a call that failed did nothing
abbrev pub had_after : Event → Content → Content
had_after (did_list names) files = files
had_after (did_read name found) files = files
had_after (did_write name bytes true) files = with_file files name (Some bytes)
had_after (did_write name bytes false) files = files
had_after (did_sync done) files = files
had_after (did_rename from to true) files = renamed from to files
had_after (did_rename from to false) files = files
had_after (did_remove name true) files = without name files
had_after (did_remove name false) files = files

-- and after all of these, the newest first, where it was empty before them
abbrev pub has_after : List Event → Content
has_after [] = nothing
has_after (event ∷ earlier) = had_after event (has_after earlier)

-- what a stop may leave of it after a call: whatever is not stable may be there or not
abbrev pub MayLeave : Event → Content → (Content → Type 0) → Content → Type 0
MayLeave (did_list names) files left c = left c
MayLeave (did_read name found) files left c = left c
MayLeave (did_write name bytes done) files left c = (d : Content) × left d × Torn name d c
MayLeave (did_sync true) files left c = c ≡ files
MayLeave (did_sync false) files left c = left c
MayLeave (did_rename from to done) files left c = (d : Content) × left d × DoneOrNot (renamed from to) d c
MayLeave (did_remove name done) files left c = (d : Content) × left d × DoneOrNot (without name) d c

abbrev pub LeavesAfter : List Event → Content → Type 0
LeavesAfter [] c = c ≡ nothing
LeavesAfter (event ∷ earlier) c = MayLeave event (has_after earlier) (LeavesAfter earlier) c

-- the answer is right: the names and the bytes that the device has, and no file was renamed that it has not
abbrev pub IsRight : Event → Content → Type 0
IsRight (did_list names) files = IfSome names (AreNames files)
IsRight (did_read name found) files = IfSome found (λ file. file ≡ read_part (files name))
IsRight (did_write name bytes done) files = Unit {0}
IsRight (did_sync done) files = Unit {0}
IsRight (did_rename from to done) files = WhereDone done (IsSome (files from)) (Unit {0})
IsRight (did_remove name done) files = Unit {0}

abbrev pub AreRight : List Event → Type 0
AreRight [] = Unit {0}
AreRight (event ∷ earlier) = IsRight event (has_after earlier) × AreRight earlier

-- the first n of the calls
abbrev pub first_calls : ℕ → List Event → List Event
first_calls n calls = drop (length calls - n) calls

-- that device is honest in all these calls
abbrev pub IsHonestModel : List Event → Type 0
IsHonestModel calls = HonestIn
    (λ n. has_after (first_calls n calls)) (λ n. LeavesAfter (first_calls n calls)) (λ n. LeavesAfter (first_calls n calls)) calls
