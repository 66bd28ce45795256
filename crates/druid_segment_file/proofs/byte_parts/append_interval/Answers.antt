use Rattle.druid_segment_file.proofs.WriteLemmas.{interval_grown}
use Rattle.druid_segment_file.proofs.byte_parts.append_interval.Goals as goal

pub returns : goal.returns
returns c =
    interval_grown c.args.extent c.args.out.now.items c.append_instant.new.out.items c.append_instant-2.new.out.items c.start.result c.end.result c.start.ensures.value c.end.ensures.value c.in_ok-append_instant.ensures c.in_ok-append_instant-2.ensures
