-- Chunks under edits that can be taken back.
use Rattle.std.specs.Prelude.{◌≡◌, ◌+◌, ◌<◌, ◌≤◌, ℕ, List, [], ◌++◌, All, Contains, IsTrue, Option, None, Some, IfSome, length, map}
use Rattle.std.specs.List.{list_any}
use Rattle.std.specs.Map.{keys_of}
use Rattle.druid_segment_id.specs.Group.{Group, same_group}
use Rattle.druid_timeline_members.specs.Members.{Member, HasMember}
use Rattle.druid_timeline_chunks.specs.Chunks.{Chunk}

-- chunks that tell the members of each group before the edits, and the chunks after them
pub record Edited : Type 0 where
  pub before : List Chunk
  pub now : List Chunk

-- a group, and its chunk as the edits found it, if there was one
abbrev pub Saved : Type 0
Saved = Group × Option Chunk

abbrev pub members_in : Option Chunk → List Member
members_in None = []
members_in (Some chunk) = chunk.1

-- what was saved as a chunk, which has no members where there was none
abbrev pub chunk_before : Saved → Chunk
chunk_before saved = (saved.0, members_in saved.1)

-- the saved chunks, which hide what became of them, and the chunks as they are
abbrev pub chunks_before : List Saved → List Chunk → List Chunk
chunks_before saved now = map chunk_before saved ++ now

-- what was saved is a chunk of the group with members, or none
abbrev pub IsSaved : Saved → Type 0
IsSaved saved = IfSome saved.1 (λ chunk. (chunk.0 ≡ saved.0) × HasMember chunk.1)

-- the group is among the saved ones
abbrev pub HasSaved : List Saved → Group → Type 0
HasSaved saved g = Contains (keys_of saved) g

-- what was saved is of its group, and each touched group is saved
pub record AreSaved (saved : List Saved) (groups : List Group) : Type 0 where
  pub valid : All IsSaved saved
  pub touched : (g : Group) → IsTrue (list_any (same_group g) groups) → HasSaved saved g

-- what was saved, and how many chunks a roll back has room for
pub record Logged : Type 0 where
  pub saved : List Saved
  pub room : ℕ

-- there is room for the chunks and for each saved one
abbrev pub HasRoom : List Chunk → Logged → Type 0
HasRoom chunks log = 0 < length log.saved → length chunks + length log.saved ≤ log.room
