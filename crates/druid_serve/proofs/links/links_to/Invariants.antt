use Rattle.std.proofs.Common.{◌≡◌, ℕ, Some, slice_get, length}
use Rattle.std.specs.Arc.{arc_value}
use Rattle.druid_serve.specs.Links.{NodeLinkValue, IsLinkAt}
use Rattle.druid_serve.proofs.links.links_to.Given as goal

abbrev pub invariant-loop-place : goal.invariant-loop-place
invariant-loop-place g l =
    (length l.links.items ≡ l.place)
    × ((k : ℕ) (link : NodeLinkValue) → slice_get l.links.items k ≡ Some link → IsLinkAt (arc_value l.health).patience l.nodes k link)
