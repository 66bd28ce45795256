use Rattle.std.proofs.Common.{◌∙◌, rules, string_bytes, nat_lt}
use Rattle.druid_segment_descriptor.specs.Described.{IsDescribed}
use Rattle.druid_sync_text.specs.Written.{load_data}
use Rattle.druid_sync_text.proofs.TextLemmas.{item_next, each_more}
use Rattle.druid_sync_text.proofs.reply_writer.push_loads.Goals as goal

pub loop-i-preserved : goal.loop-i-preserved
loop-i-preserved c =
    let i = c.loop-i.i in (
      rw (c.in_ok-push_request.ensures.text) (item_next load_data (string_bytes c.loop-i.text) (nat_lt 0 i) c.args.segments.now i c.index-segments-i.result (search rules) (search rules) ∙ c.loop-i.invariant.0),
      each_more IsDescribed c.args.segments.now i c.index-segments-i.result (search rules) (search rules) c.in_ok-push_request.ensures.described c.loop-i.invariant.1,
    )
