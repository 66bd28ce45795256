use Rattle.std.proofs.Common.{◌≡◌, drop}
use Rattle.serde_json.specs.View.{items_view}
use Rattle.druid_base.specs.Each.{each_of}
use Rattle.druid_sync_text.specs.Read.{load_at}
use Rattle.druid_base.proofs.EachLemmas.{with_front}
use Rattle.druid_sync_text.proofs.reply_reader.read_loads.Given as goal

abbrev pub invariant-loop-value : goal.invariant-loop-value
invariant-loop-value l = with_front l.loads.items (each_of load_at (items_view (drop l.value-index l.values))) ≡ each_of load_at (items_view l.values)
