-- What runs show up to an instant: only proofs use this.
use Rattle.std.specs.Prelude.{ℕ, ◌<◌, List}
use Rattle.druid_segment_id.specs.Group.{Group}
use Rattle.druid_timeline.specs.Pieces.{Shown, Shows}

-- nothing is shown at the instant or later
abbrev pub EndBy : List Shown → ℕ → Type 0
EndBy rs t = (u : ℕ) (g : Group) → Shows rs u g → u < t
