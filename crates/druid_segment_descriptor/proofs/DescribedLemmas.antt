-- Equal descriptors.
use Rattle.std.proofs.Common.{◌≡◌, List, refl, sym, ap, ◌∙◌}
use Rattle.std.specs.Bool.{Decides}
use Rattle.std.specs.Cmp.{Equal-is}
use Rattle.std.specs.Cmp.Lexicographic.{pointwise}
use Rattle.std.proofs.lemmas.Cmp.{tied_itself}
use Rattle.std.proofs.lemmas.Slice.Eq.{slice_eq-Decides}
use Rattle.druid_segment_descriptor.specs.Described.{Described, same_described, described_cmp}
use Rattle.druid_segment_descriptor.specs.Orders.{described_cmp-total, described_cmp-ties, same_described-true}

-- the test tells the same
pub same_described-decides : (a b : Described) → Decides (same_described a b) (a ≡ b)
same_described-decides a b = (
  same_described-true a b,
  λ e. described_cmp-ties a b ∙ (Equal-is (described_cmp a b)).1 (ap (described_cmp a) (sym e) ∙ tied_itself described_cmp-total a),
)

pub same_sets : (s t : List Described) → Decides (pointwise same_described s t) (s ≡ t)
same_sets s t = slice_eq-Decides same_described-decides s t (pointwise same_described s t) refl

-- for the attribute `using`
pub ruleset equality_facts = (same_described-decides)
