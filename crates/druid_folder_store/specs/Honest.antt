-- What an honest device does. That the real one is such a device is the premise of whoever relies on a `DiskFolder`.
use Rattle.std.specs.Prelude.{◌≡◌, ◌⊎◌, ℕ, ◌≤◌, ◌<◌, Bool, true, false, List, [], ◌∷◌, length, Some, IfSome, IsSome, All}
use Rattle.druid_folder_store.specs.Event.{Event, did_list, did_read, did_write, did_sync, did_rename, did_remove}
use Rattle.druid_folder.specs.Folder.{Content, with_file, without, renamed, Torn, DoneOrNot, Follows, Only, SameLeft, Elapses, AreNames, read_part}

-- the first of these where it succeeded, else the second
abbrev pub WhereDone : Bool → Type 0 → Type 0 → Type 0
WhereDone true P Q = P
WhereDone false P Q = Q

-- The call is no write and no sync that failed. After one that did, the system may give what it will not put onto the
-- device, and a later sync may succeed.
abbrev pub is_kept : Event → Bool
is_kept (did_list names) = true
is_kept (did_read name found) = true
is_kept (did_write name bytes done) = done
is_kept (did_sync done) = done
is_kept (did_rename from to done) = true
is_kept (did_remove name done) = true

-- each of these calls is so
abbrev pub AreKept : List Event → Type 0
AreKept calls = All (λ event. is_kept event ≡ true) calls

-- What an honest device does with one call that comes after these, the newest first: old is what was read before it, and
-- new after it; before is what a stop might have left before it, and after what a stop may leave after it.
abbrev pub Did : Event → (earlier : List Event) (old new : Content) → (before after : Content → Type 0) → Type 0
Did (did_list names) earlier old new before after = IfSome names (AreNames old) × (new ≡ old) × SameLeft before after
Did (did_read name found) earlier old new before after =
    IfSome found (λ file. file ≡ read_part (old name)) × (new ≡ old) × SameLeft before after
Did (did_write name bytes done) earlier old new before after =
    WhereDone done (new ≡ with_file old name (Some bytes)) (Torn name old new) × Follows (Torn name) before after
Did (did_sync done) earlier old new before after =
    WhereDone done (AreKept earlier → Only old after) (Unit {0}) × (new ≡ old) × ((c : Content) → after c → before c)
Did (did_rename from to done) earlier old new before after =
    WhereDone done (IsSome (old from) × (new ≡ renamed from to old)) (DoneOrNot (renamed from to) old new)
    × Follows (DoneOrNot (renamed from to)) before after
Did (did_remove name done) earlier old new before after =
    WhereDone done (new ≡ without name old) (DoneOrNot (without name) old new)
    × Follows (DoneOrNot (without name)) before after

-- A device was honest in each of these calls, the newest first: content n is read after n calls, left n is what a stop
-- may leave that comes then, and during n what one may leave that comes during the next call.
abbrev pub HonestIn : (content : ℕ → Content) (left during : ℕ → Content → Type 0) → List Event → Type 0
HonestIn content left during [] = left 0 (content 0)
HonestIn content left during (event ∷ earlier) =
    let n = length earlier in
    let next = length (event ∷ earlier) in
    HonestIn content left during earlier
    × Did event earlier (content n) (content next) (left n) (left next)
    × left next (content next)
    × ((c : Content) → during n c → left n c ⊎ left next c)

-- what a stop might have left that came after t of n calls or later
abbrev pub LeftFrom : (left during : ℕ → Content → Type 0) (n t : ℕ) → Content → Type 0
LeftFrom left during n t c =
    ((k : ℕ) × (t ≤ k) × (k ≤ n) × left k c) ⊎ ((k : ℕ) × (t ≤ k) × (k < n) × during k c)

-- time goes on from one list of calls to a later one
abbrev pub ElapsesOver : (left during : ℕ → Content → Type 0) → (old new : List Event) → Type 0
ElapsesOver left during old new =
    Elapses (length old) (length new) (LeftFrom left during (length old)) (LeftFrom left during (length new)) (left (length new))
