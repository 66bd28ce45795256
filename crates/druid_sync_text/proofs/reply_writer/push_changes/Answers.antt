use Rattle.std.proofs.Common.{◌∙◌, rules, string_bytes, nat_lt}
use Rattle.druid_segment_descriptor.specs.Described.{IsDescribed}
use Rattle.druid_sync_text.specs.Written.{change_data, segment_of}
use Rattle.druid_sync_text.proofs.TextLemmas.{item_next, each_more}
use Rattle.druid_sync_text.proofs.reply_writer.push_changes.Goals as goal

pub loop-i-preserved : goal.loop-i-preserved
loop-i-preserved c =
    let i = c.loop-i.i in (
      rw (c.in_ok-push_change.ensures.text) (item_next change_data (string_bytes c.loop-i.text) (nat_lt 0 i) c.args.changes.now i c.index-changes-i.result (search rules) (search rules) ∙ c.loop-i.invariant.0),
      each_more (λ x. IsDescribed (segment_of x)) c.args.changes.now i c.index-changes-i.result (search rules) (search rules) c.in_ok-push_change.ensures.described c.loop-i.invariant.1,
    )
