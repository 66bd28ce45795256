-- What a node is asked for: pieces of segments; and their JSON.
use Rattle.std.specs.Prelude.{◌≡◌, ◌<◌, ℕ, Bool, true, ◌&&◌, not, nat_le, List, [], ◌∷◌, length, slice_index_or, codes, Option, Some, None, is_some, option_and_then, if◌then◌else◌}
use Rattle.std.specs.List.{list_any}
use Rattle.std.specs.Str.{bytes_eq}
use Rattle.std.specs.Result.{result_ok}
use Rattle.serde_json.specs.Data.{Data, object, member, no_members, number, unsigned, string, Items}
use Rattle.serde_json.specs.Find.{get, as_array}
use Rattle.druid_time.specs.Extent.{Extent, Has, Share, common}
use Rattle.druid_base.specs.Options.{◌>>=◌}
use Rattle.druid_time.specs.Texts.{extent_text, extent_at}
use Rattle.druid_segment_id.specs.Names.{is_version}
use Rattle.druid_segment_id.specs.Identifier.{Identifier, same_identifier}
use Rattle.druid_base.specs.Fields.{text_at, limited_at}
use Rattle.druid_query.specs.Fields.{each_among}

-- a segment, and the piece of it that is asked for
abbrev pub Asked : Type 0
Asked = Identifier × Extent

-- ---- what may be asked for

-- the instants of the piece are instants of the segment
abbrev pub LiesInside : Asked → Type 0
LiesInside a = (t : ℕ) → Has a.1 t → Has a.0.interval t

-- the test of the same
abbrev pub lies_inside : Asked → Bool
lies_inside a = nat_le a.0.interval.start a.1.start && nat_le a.1.end a.0.interval.end

-- two pieces of one segment have an instant in common
abbrev pub Overlap : Asked → Asked → Type 0
Overlap a b = (a.0 ≡ b.0) × Share a.1 b.1

-- the test of the same
abbrev pub do_overlap : Asked → Asked → Bool
do_overlap a b = same_identifier a.0 b.0 && is_some (common a.1 b.1)

-- no two places hold pieces that overlap
abbrev pub StandApart : List Asked → Type 0
StandApart all = (i j : ℕ) (a : Asked) → i < length all → j < length all → Overlap (slice_index_or all i a) (slice_index_or all j a) → i ≡ j

-- the test of the same
abbrev pub stand_apart : List Asked → Bool
stand_apart [] = true
stand_apart (a ∷ more) = not (list_any (do_overlap a) more) && stand_apart more

-- ---- written

-- the source is that of the query, and is left out
unfoldable pub asked_data : Asked → Data
asked_data a =
    object (member (codes "chunk") (string (extent_text a.0.interval))
    (member (codes "itvl") (string (extent_text a.1))
    (member (codes "part") (number (unsigned a.0.partition))
    (member (codes "ver") (string a.0.version) no_members))))

-- ---- read

-- a piece as it is spelled: both intervals are texts
pub record Spelled : Type 0 where
  pub chunk : List ℕ
  pub piece : List ℕ
  pub partition : ℕ
  pub version : List ℕ

abbrev pub version_of : Data → Option (List ℕ)
version_of d = option_and_then (λ s. if is_version s then Some s else None) (text_at (codes "ver") d)

unfoldable pub spelled_at : Data → Option Spelled
spelled_at d = do
  chunk ← text_at (codes "chunk") d
  piece ← text_at (codes "itvl") d
  partition ← limited_at 65_535 (codes "part") d
  version ← version_of d
  Some (record { chunk = chunk; piece = piece; partition = partition; version = version })

-- what it names, of a segment of that source
unfoldable pub named_by : List ℕ → Spelled → Option Asked
named_by source s = do
  chunk ← result_ok (extent_at s.chunk)
  piece ← result_ok (extent_at s.piece)
  Some (record { source = source; interval = chunk; version = s.version; partition = s.partition }, piece)

-- the piece that a value asks for, of a segment of that source
unfoldable pub asked_at : List ℕ → Data → Option Asked
asked_at source d = do
  s ← spelled_at d
  named_by source s

-- the same, where it lies inside its segment
unfoldable pub inside_at : List ℕ → Data → Option Asked
inside_at source d = do
  a ← asked_at source d
  if lies_inside a then Some a else None

-- the list of an object of the type `segments`
abbrev pub segments_in : Data → Option Items
segments_in d = do
  kind ← text_at (codes "type") d
  if bytes_eq kind (codes "segments") then option_and_then as_array (get (codes "segments") d) else None

-- that list, where it has a member, and each has the shape of a piece
unfoldable pub asked_items : Data → Option Items
asked_items d = do
  items ← segments_in d
  each_among spelled_at items
