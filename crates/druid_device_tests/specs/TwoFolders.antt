-- A file that a folder keeps.
use Rattle.std.specs.Prelude.{◌≡◌, ℕ, true, List, ◌∷◌, Some, codes}
use Rattle.druid_folder.specs.Folder.{Content}
use Rattle.druid_folder_store.specs.Event.{Event, did_read, did_write, did_sync}

-- the name of the file
abbrev pub file_name : List ℕ
file_name = codes "a"

-- the calls after these that keep it, the newest first, where each succeeds and it is read as it was written
abbrev pub keeping : List ℕ → List Event → List Event
keeping bytes earlier = did_read file_name (Some (Some bytes)) ∷ did_sync true ∷ did_write file_name bytes true ∷ earlier

-- an honest folder has these bytes in the file, now and after a stop
pub record Keeps (is_honest : Type 0) (content : Content) (left : Content → Type 0) (bytes : List ℕ) : Type 0 where
  pub honest : is_honest
  pub read : content file_name ≡ Some bytes
  pub stable : (c : Content) → left c → c file_name ≡ Some bytes
