use Rattle.std.proofs.Common.{◌≡◌, ℕ, ◌<◌, get_or, false}
use Rattle.druid_segment_id.specs.Parsed.{is_underscore}
use Rattle.druid_segment_id.proofs.parser.underscore_place.Given as goal

abbrev pub invariant-loop-place : goal.invariant-loop-place
invariant-loop-place l = (k : ℕ) → k < l.place → is_underscore (get_or l.text k 0) ≡ false
