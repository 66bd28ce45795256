-- Pieces: whether they lie inside their segments, and that what is written of one is read back.
use Rattle.std.proofs.Common.{◌≡◌, ◌≤◌, ◌-◌, ◌&&◌, Some, is_some, nat_le, true, refl, ap, ◌∙◌, arith, le-leb}
use Rattle.std.proofs.lemmas.Bool.{leb-true}
use Rattle.std.specs.Cmp.{first_so, second_so}
use Rattle.druid_time.specs.Extent.{IsExtent}
use Rattle.druid_time.proofs.TextLemmas.{extent_at-extent_text}
use Rattle.druid_segment_id.specs.Identifier.{IsIdentifier}
use Rattle.druid_segment_id.proofs.NameLemmas.{is_version-true}
use Rattle.druid_query.specs.Asked.{Asked, LiesInside, lies_inside, asked_data, spelled_at, named_by, asked_at, inside_at}

-- ---- inside

pub inside_seen : (a : Asked) → lies_inside a ≡ true → LiesInside a
inside_seen a h t has =
    let first : a.0.interval.start ≤ a.1.start = leb-true a.0.interval.start a.1.start (first_so (nat_le a.0.interval.start a.1.start) (nat_le a.1.end a.0.interval.end) h) in
    let last : a.1.end ≤ a.0.interval.end = leb-true a.1.end a.0.interval.end (second_so (nat_le a.0.interval.start a.1.start) (nat_le a.1.end a.0.interval.end) h) in
    (omega (arith, first, has.0), omega (arith, last, has.1))

pub inside_reported : (a : Asked) → IsExtent a.1 → LiesInside a → lies_inside a ≡ true
inside_reported a valid h =
    let first = h a.1.start (omega arith, valid.0) in
    let last = h (a.1.end - 1) (omega (arith, valid.0), omega (arith, valid.0)) in
    ap (λ b. b && nat_le a.1.end a.0.interval.end) (le-leb a.0.interval.start a.1.start first.0) ∙ le-leb a.1.end a.0.interval.end (omega (arith, last.1, valid.0))

-- ---- a piece

pub spelled_some : (a : Asked) → IsIdentifier a.0 → is_some (spelled_at (asked_data a)) ≡ true
unfolding spelled_at asked_data
spelled_some a h =
    let version = is_version-true a.0.version h.version in
    let low = le-leb a.0.partition 65_535 (omega (arith, h.partition)) in
    rw (version, low) refl

pub asked_back : (a : Asked) → IsIdentifier a.0 → IsExtent a.1 → asked_at a.0.source (asked_data a) ≡ Some a
unfolding asked_at named_by spelled_at asked_data
asked_back a h valid =
    let version = is_version-true a.0.version h.version in
    let low = le-leb a.0.partition 65_535 (omega (arith, h.partition)) in
    let chunk = extent_at-extent_text a.0.interval h.interval in
    let piece = extent_at-extent_text a.1 valid in
    rw (version, low) (rw (chunk, piece) refl)

pub inside_back : (a : Asked) → IsIdentifier a.0 → IsExtent a.1 → LiesInside a → inside_at a.0.source (asked_data a) ≡ Some a
unfolding inside_at
inside_back a h valid inside =
    let back = asked_back a h valid in
    let lies = inside_reported a valid inside in
    rw (back, lies) refl
