use Rattle.druid_segment_file.proofs.ColumnWriteLemmas.{front_made}
use Rattle.druid_segment_file.proofs.columns_writer.front.Goals as goal

pub returns : goal.returns
returns c =
    front_made c.args.segment.now c.in_ok-out.out.items c.append_times.new.out.items c.times.result.now c.in_ok-out.ensures c.times.ensures c.in_ok-append_times.ensures
