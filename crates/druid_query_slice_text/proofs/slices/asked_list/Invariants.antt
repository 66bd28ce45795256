use Rattle.std.proofs.Common.{◌≡◌, drop}
use Rattle.serde_json.specs.View.{items_view}
use Rattle.druid_base.specs.Each.{each_of}
use Rattle.druid_base.proofs.EachLemmas.{with_front}
use Rattle.druid_query.specs.Asked.{inside_at}
use Rattle.druid_query_slice_text.proofs.slices.asked_list.Given as goal

abbrev pub invariant-loop-value : goal.invariant-loop-value
invariant-loop-value l = with_front l.all.items (each_of (inside_at l.source) (items_view (drop l.value-index l.values))) ≡ each_of (inside_at l.source) (items_view l.values)
