use Rattle.std.proofs.Common.{refl, sym, ◌∙◌}
use Rattle.druid_segment_id.proofs.ParsedLemmas.{partition_at-some}
use Rattle.druid_segment_id.proofs.parser.partition_of.Goals as goal

pub returns : goal.returns
returns c =
    let some = partition_at-some c.args.tail.now _ c.underscore_place-place.result c.underscore_place-place.ensures.place c.if-place-tail.false c.underscore_place-place.ensures.within refl in
    c.partition_number.ensures ∙ sym some
