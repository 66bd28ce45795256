-- Identifiers of segments, and their texts.
use Rattle.std.specs.Prelude.{◌≡◌, ℕ, ◌<◌, Bool, ◌==◌, ◌&&◌, List, [], ◌++◌, codes, decimal, bytes_eq, if◌then◌else◌}
use Rattle.std.specs.Ordering.{nat_cmp, ordering_then}
use Rattle.std.specs.Cmp.Lexicographic.{slice_cmp}
use Rattle.std.specs.declared.cmp.Ordering.{Ordering}
use Rattle.druid_time.specs.Extent.{Extent, IsExtent}
use Rattle.druid_time.specs.Texts.{instant_text}
use Rattle.druid_segment_id.specs.Names.{IsName, IsVersion}

-- the data source, the interval, the version and the number of the partition
pub record Identifier : Type 0 where
  pub source : List ℕ
  pub interval : Extent
  pub version : List ℕ
  pub partition : ℕ

-- each part is one
pub record IsIdentifier (id : Identifier) : Type 0 where
  pub source : IsName id.source
  pub interval : IsExtent id.interval
  pub version : IsVersion id.version
  pub partition : id.partition < 65536

-- what follows the version: nothing for partition 0
abbrev pub partition_suffix : ℕ → List ℕ
partition_suffix p = if p == 0 then [] else codes "_" ++ decimal p

-- the text of an identifier
unfoldable pub identifier_text : Identifier → List ℕ
identifier_text id =
    id.source ++ codes "_" ++ instant_text id.interval.start ++ codes "_" ++ instant_text id.interval.end
    ++ codes "_" ++ id.version ++ partition_suffix id.partition

-- the text spells the identifier of that source
pub record Spells (source text : List ℕ) (id : Identifier) : Type 0 where
  pub valid : IsIdentifier id
  pub of_source : id.source ≡ source
  pub spelled : identifier_text id ≡ text

-- the test of equal identifiers
abbrev pub same_identifier : Identifier → Identifier → Bool
same_identifier a b =
    bytes_eq a.source b.source && a.interval.start == b.interval.start && a.interval.end == b.interval.end
    && bytes_eq a.version b.version && a.partition == b.partition

-- one part after another
abbrev pub parts_cmp : Identifier → Identifier → Ordering
parts_cmp a b =
    ordering_then (ordering_then (ordering_then (ordering_then (slice_cmp nat_cmp a.source b.source)
    (nat_cmp a.interval.start b.interval.start)) (nat_cmp a.interval.end b.interval.end))
    (slice_cmp nat_cmp a.version b.version)) (nat_cmp a.partition b.partition)

-- the order of identifiers: by the bytes of their texts. No two identifiers share a text; the parts make it an order of
-- all values
abbrev pub identifier_cmp : Identifier → Identifier → Ordering
identifier_cmp a b = ordering_then (slice_cmp nat_cmp (identifier_text a) (identifier_text b)) (parts_cmp a b)
