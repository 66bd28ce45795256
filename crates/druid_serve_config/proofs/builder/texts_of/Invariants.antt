use Rattle.std.proofs.Common.{◌≡◌, map, drop, string_bytes}
use Rattle.serde_json.specs.Find.{as_str}
use Rattle.serde_json.specs.View.{items_view}
use Rattle.druid_base.specs.Each.{each_of}
use Rattle.druid_base.proofs.EachLemmas.{with_front}
use Rattle.druid_serve_config.proofs.builder.texts_of.Given as goal

abbrev pub invariant-loop-value : goal.invariant-loop-value
invariant-loop-value l = with_front (map string_bytes l.texts.items) (each_of as_str (items_view (drop l.value-index l.values))) ≡ each_of as_str (items_view l.values)
