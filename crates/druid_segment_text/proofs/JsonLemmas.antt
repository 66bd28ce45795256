-- Descriptors as JSON: what is written is read back.
use Rattle.std.proofs.Common.{◌≡◌, ◌<◌, ◌≤◌, ℕ, Bool, false, true, Some, Ok, refl, arith, le-leb}
use Rattle.druid_time.proofs.TextLemmas.{extent_at-extent_text}
use Rattle.druid_segment_id.proofs.NameLemmas.{is_name-true, is_version-true}
use Rattle.druid_segment_id.specs.Identifier.{Identifier}
use Rattle.druid_segment_descriptor.specs.Described.{Described, IsDescribed}
use Rattle.druid_segment_text.specs.Json.{flagged_data, descriptor_data, descriptor_at, segment_at, place_at, tombstone_at}

-- the flag decides which members there are
partition_small : (p : ℕ) → p < 65_536 → p ≤ 65_535
partition_small p h = omega arith

abbrev described : Identifier → ℕ → ℕ → Bool → Described
described id core size tombstone = record { id = id; core = core; size = size; tombstone = tombstone }

place_back : (id : Identifier) (core size : ℕ) (tombstone : Bool) → IsDescribed (described id core size tombstone)
    → place_at (descriptor_data (described id core size tombstone)) ≡ Ok (record { partition = id.partition; core = core })
unfolding place_at flagged_data
place_back id core size false h =
    let low = le-leb id.partition 65_535 (partition_small id.partition h.id.partition) in
    let high = le-leb core 32_768 h.core in
    rw (low, high) refl
place_back id core size true h =
    let low = le-leb id.partition 65_535 (partition_small id.partition h.id.partition) in
    let high = le-leb core 32_768 h.core in
    rw (low, high) refl

flag_back : (id : Identifier) (core size : ℕ) (tombstone : Bool) → IsDescribed (described id core size tombstone)
    → tombstone_at (described id core size false) (descriptor_data (described id core size tombstone)) ≡ Some tombstone
unfolding flagged_data
flag_back id core size false h = refl
flag_back id core size true h =
    let whole = h.tombstone refl in
    rw (whole.0, whole.1, whole.2) refl

segment_back : (id : Identifier) (core size : ℕ) (tombstone : Bool) → IsDescribed (described id core size tombstone)
    → segment_at (descriptor_data (described id core size tombstone)) ≡ Ok (described id core size false)
unfolding segment_at flagged_data
segment_back id core size false h =
    let source = is_name-true id.source h.id.source in
    let version = is_version-true id.version h.id.version in
    let interval = extent_at-extent_text id.interval h.id.interval in
    let place = place_back id core size false h in
    rw (source, interval, version) (rw place refl)
segment_back id core size true h =
    let source = is_name-true id.source h.id.source in
    let version = is_version-true id.version h.id.version in
    let interval = extent_at-extent_text id.interval h.id.interval in
    let place = place_back id core size true h in
    rw (source, interval, version) (rw place refl)

pub descriptor_at-data : (d : Described) → IsDescribed d → descriptor_at (descriptor_data d) ≡ Ok d
unfolding descriptor_at
descriptor_at-data d h =
    let segment = segment_back d.id d.core d.size d.tombstone h in
    let flag = flag_back d.id d.core d.size d.tombstone h in
    rw segment (rw flag refl)
