use Rattle.std.proofs.Common.{List, Option, None, length, ap, arith}
use Rattle.std.proofs.lemmas.List.{length-replicate}
use Rattle.druid_segment_descriptor.specs.Described.{Described}
use Rattle.druid_sync_pages.proofs.PartLemmas.{none_there}
use Rattle.druid_sync_pages.proofs.parts.Parts.new.Goals as goal

-- no page is there
pub invariant_of-result : goal.invariant_of-result
invariant_of-result c = record {
  not_many = omega (arith, ap length c.loop.invariant.0, length-replicate {A = Option (List Described)} c.loop.counter None, c.loop.auto.counter-end, c.requires);
  each = λ page segments is. absurd (none_there c.loop.pages.items c.loop.counter page segments c.loop.invariant.0 is);
}
