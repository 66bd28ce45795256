use Rattle.std.proofs.Common.{◌<◌, length}
use Rattle.druid_segment_file.proofs.WriteLemmas.{text_at}
use Rattle.druid_segment_file.proofs.byte_parts.append_names.Goals as goal

pub append_short_text-requires : goal.append_short_text-requires
append_short_text-requires c =
    text_at (λ name. length name < 256) c.args.texts.now c.loop-text.text-index c.text-item.result c.as_str.result.now c.requires.each c.loop-text-test.true c.text-item.is c.as_str.ensures.value
