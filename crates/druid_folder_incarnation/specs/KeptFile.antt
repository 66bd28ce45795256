-- For a part of a call alone: the file that has the number, while a text is put into it.
use Rattle.std.specs.Prelude.{◌≡◌, ◌⊎◌, ℕ, List, Some}
use Rattle.druid_folder.specs.Folder.{Content}
use Rattle.druid_folder_incarnation.specs.Incarnation.{number_file}

-- the file that has the number is as a stop might have left it, or is this text
abbrev pub IsKeptOr : (Content → Type 0) → List ℕ → Content → Type 0
IsKeptOr left text c = ((d : Content) × left d × (c number_file ≡ d number_file)) ⊎ (c number_file ≡ Some text)
