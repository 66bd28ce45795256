use Rattle.std.proofs.Common.{◌≡◌, drop}
use Rattle.serde_json.specs.View.{items_view}
use Rattle.druid_base.specs.Each.{each_of}
use Rattle.druid_sync_text.specs.Read.{change_at}
use Rattle.druid_base.proofs.EachLemmas.{with_front}
use Rattle.druid_sync_text.proofs.reply_reader.read_changes.Given as goal

abbrev pub invariant-loop-value : goal.invariant-loop-value
invariant-loop-value l = with_front l.changes.items (each_of change_at (items_view (drop l.value-index l.values))) ≡ each_of change_at (items_view l.values)
