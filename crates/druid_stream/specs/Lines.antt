-- A line, read whole.
use Rattle.std.specs.Prelude.{◌≡◌, ◌<◌, ◌==◌, ℕ, List, [], ◌∷◌, length, Option, Some, if◌then◌else◌}
use Rattle.std.specs.Io.BufRead.{drop_through}
use Rattle.druid_stream.specs.declared.lines.Next.{Next}
use Rattle.druid_stream.specs.declared.lines.Next.TheVariants.{Line, TooLong, End}

-- the bytes before the first line feed
abbrev pub line_at : List ℕ → List ℕ
line_at [] = []
line_at (b ∷ bs) = if b == 10 then [] else b ∷ line_at bs

-- what reading on finds in bytes, where a line has no more bytes than the limit, and what of them it leaves
abbrev pub Finds : ℕ → Next → List ℕ → List ℕ → Option (List ℕ) → Type 0
Finds limit Line xs line left =
    (0 < length xs) × (line ≡ line_at xs) × (left ≡ Some (drop_through 10 xs))
Finds limit TooLong xs line left = (0 < length xs) × (limit < length (line_at xs))
Finds limit End xs line left = xs ≡ []
