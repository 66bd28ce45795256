-- Pieces in a set of instants, and in the interval that the set is of.
use Rattle.std.proofs.Common.{List, [], ◌∷◌, map, All, ◌⊎◌, inl, inr}
use Rattle.druid_time.specs.Extent.{Extent, Has, AnyHas, SameInstants}
use Rattle.druid_timeline.specs.Holding.{Held, members_of}
use Rattle.druid_timeline.specs.Pieces.{Reported, Shown, shown_of, ArePiecesIn, ArePartitions}
use Rattle.druid_replay.specs.Execution.{AreFoundIn}

only : (P : Type 0) → P ⊎ ⊥ → P
only P (inl p) = p
only P (inr p) = absurd p

in_interval : (set : List Extent) (asked : Extent) (held : List Held) (pieces : List Shown) → SameInstants set (asked ∷ []) → ArePiecesIn (AnyHas set) held pieces → ArePiecesIn (Has asked) held pieces
in_interval set asked held pieces same found = record {
  runs = found.runs;
  shows = λ t g. (
    λ shows. (only (Has asked t) ((same t).0 (((found.shows t g).0 shows).0)), ((found.shows t g).0 shows).1),
    λ both. (found.shows t g).1 ((same t).1 (inl both.0), both.1),
  );
}

pub found_in : (asked : Extent) (set : List Extent) (held : List Held) (pieces : List Reported)
    → SameInstants set (asked ∷ []) → ArePiecesIn (AnyHas set) held (map shown_of pieces)
    → All (λ piece. ArePartitions (members_of held piece.group) piece.parts) pieces → AreFoundIn asked held pieces
found_in asked set held pieces same shown parts = record {
  shown = in_interval set asked held (map shown_of pieces) same shown;
  parts = parts;
}
