-- The devices of which nothing is known, one under each folder that is made at a path, which are counted from 0: no proof can
-- look into these definitions.
use Rattle.std.specs.Prelude.{◌≡◌, ℕ, List}
use Rattle.druid_folder.specs.Folder.{Content, nothing}

-- what is read after n calls
pub unknown_content : (path : List ℕ) (folder : ℕ) → ℕ → Content
unknown_content path folder n = nothing

-- what a stop may leave that comes after n calls, and before the next
pub unknown_left : (path : List ℕ) (folder : ℕ) → ℕ → Content → Type 0
unknown_left path folder n c = c ≡ nothing

-- what a stop may leave that comes during the call after n
pub unknown_during : (path : List ℕ) (folder : ℕ) → ℕ → Content → Type 0
unknown_during path folder n c = c ≡ nothing
