-- The calls that were made on a folder of the operating system.
use Rattle.std.specs.Prelude.{ℕ, Bool, List, Option}

-- One call, with what it was given. Of its answer, the names or the bytes, and None where it failed; or whether it
-- succeeded. A name and a text are their bytes.
pub data Event : Type 0 where
  did_list : Option (List (List ℕ)) → Event
  did_read : List ℕ → Option (Option (List ℕ)) → Event
  did_write : List ℕ → List ℕ → Bool → Event
  did_sync : Bool → Event
  did_rename : List ℕ → List ℕ → Bool → Event
  did_remove : List ℕ → Bool → Event
