-- Equality and order of identifiers.
use Rattle.std.proofs.Common.{◌≡◌, refl, sym, ap, ◌∙◌}
use Rattle.std.specs.Bool.{Decides}
use Rattle.std.specs.Ordering.{nat_cmp, ordering_then}
use Rattle.std.specs.declared.cmp.Ordering.{Ordering}
use Rattle.std.specs.declared.cmp.Ordering.TheVariants.{Less, Equal, Greater}
use Rattle.std.specs.Cmp.{Equal-is}
use Rattle.std.specs.Cmp.Lexicographic.{slice_cmp}
use Rattle.std.proofs.lemmas.Cmp.{tied_itself}
use Rattle.druid_segment_id.specs.Identifier.{Identifier, IsIdentifier, identifier_text, same_identifier, parts_cmp, identifier_cmp}
use Rattle.druid_segment_id.specs.IdentifierLaws.{parts_cmp-total, same_parts, same_identifier-true}
use Rattle.druid_segment_id.proofs.IdentifierLemmas.{identifier_text-tie}

-- the test tells the same
pub same_identifier-decides : (a b : Identifier) → Decides (same_identifier a b) (a ≡ b)
same_identifier-decides a b = (
  same_identifier-true a b,
  λ e. same_parts a b ∙ (Equal-is (parts_cmp a b)).1 (ap (parts_cmp a) (sym e) ∙ tied_itself parts_cmp-total a),
)

text_first : (a b : Identifier) (o : Ordering) → (o ≡ Equal → a ≡ b) → ordering_then o (parts_cmp a b) ≡ o
text_first a b Less same = refl
text_first a b Equal same = ap (parts_cmp a) (sym (same refl)) ∙ tied_itself parts_cmp-total a
text_first a b Greater same = refl

-- identifiers go by their texts
pub identifier_cmp-text : (a b : Identifier) → IsIdentifier a → IsIdentifier b → identifier_cmp a b ≡ slice_cmp nat_cmp (identifier_text a) (identifier_text b)
identifier_cmp-text a b h k =
    text_first a b (slice_cmp nat_cmp (identifier_text a) (identifier_text b)) (identifier_text-tie a b h k)

-- for the attribute `using`
pub ruleset equality_facts = (same_identifier-decides)

pub ruleset order_is_by_text = (identifier_cmp-text)
