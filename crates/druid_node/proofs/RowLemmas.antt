-- What a node holds has no identifier twice, so its pieces tell each row once.
use Rattle.std.proofs.Common.{Option, ◌≡◌, List, [], ◌∷◌, Some, None, refl, ap}
use Rattle.druid_segment_rows.specs.Segment.{Segment}
use Rattle.druid_query.specs.Query.{Query}
use Rattle.druid_query.specs.Asked.{Asked, StandApart}
use Rattle.druid_partial.specs.Groups.{Group, IsResult}
use Rattle.druid_partial.specs.Partials.{kinds_of}
use Rattle.druid_partial_scan.proofs.OnceLemmas as once
use Rattle.druid_node.specs.State.{descriptor_of, descriptors_of}
use Rattle.druid_partial_scan.specs.Once.{segment_named, HaveOwnSegments}
use Rattle.druid_node.proofs.HeldLemmas.{found_each, found_id}
use Rattle.druid_segment_descriptor.specs.Reply.{IsBefore}
use Rattle.druid_segment_descriptor.specs.Replay.{IsSegmentSet}
use Rattle.druid_base.proofs.MemberLemmas.{Contains-map_back}
use Rattle.druid_segment_descriptor.proofs.ReplayLemmas.{AreInOrder, in_order, first_before, rest_in_order}
use Rattle.druid_segment_descriptor.proofs.SortedLemmas.{not_before_itself}
use Rattle.druid_segment_id.specs.Identifier.{identifier_text}
use Rattle.std.specs.List.{Contains}
use Rattle.std.proofs.lemmas.List.Elements.{All-contains, All-contains_itself}
use Rattle.druid_partial_scan.specs.Once.{counted_groups, counted_once}

-- in the order of their identifiers none stands twice
pub have_own : (held : List Segment) → AreInOrder (descriptors_of held) → HaveOwnSegments held
have_own [] order = tt
have_own (s ∷ more) order = (by_found (segment_named s.descriptor.id more) refl, have_own more (rest_in_order s.descriptor (descriptors_of more) order)) where
  by_found : (o : Option Segment) → segment_named s.descriptor.id more ≡ o → segment_named s.descriptor.id more ≡ None
  by_found None e = e
  by_found (Some t) e =
      let there : Contains more t = found_each (Contains more) more s.descriptor.id t (All-contains_itself more) e in
      let before = All-contains (IsBefore s.descriptor) (descriptors_of more) t.descriptor (first_before s.descriptor (descriptors_of more) order) (Contains-map_back descriptor_of more t there) in
      absurd (not_before_itself s.descriptor t.descriptor before (ap identifier_text (found_id more s.descriptor.id t e)))

pub rows_once : (query : Query) (held : List Segment) (asked : List Asked) (groups : List Group) → IsSegmentSet (descriptors_of held) → StandApart asked → IsResult (kinds_of query) (counted_groups query held asked) groups
    → IsResult (kinds_of query) (counted_once query asked held) groups
rows_once query held asked groups set apart result = once.rows_once query held asked groups (have_own held (in_order (descriptors_of held) set.sorted)) apart result
