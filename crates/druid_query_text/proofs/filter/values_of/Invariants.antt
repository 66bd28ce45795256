use Rattle.std.proofs.Common.{◌≡◌, drop}
use Rattle.serde_json.specs.View.{items_view}
use Rattle.druid_filter.specs.Values.{nullable_texts_of}
use Rattle.druid_base.specs.Each.{each_of}
use Rattle.druid_base.specs.Fields.{text_or_null}
use Rattle.druid_base.proofs.EachLemmas.{with_front}
use Rattle.druid_query_text.proofs.filter.values_of.Given as goal

abbrev pub invariant-loop-value : goal.invariant-loop-value
invariant-loop-value l = with_front (nullable_texts_of l.wanted.items) (each_of text_or_null (items_view (drop l.value-index l.values))) ≡ each_of text_or_null (items_view l.values)
