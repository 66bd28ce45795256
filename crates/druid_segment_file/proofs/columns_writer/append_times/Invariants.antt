use Rattle.std.proofs.Common.{◌≡◌, ◌++◌, take}
use Rattle.std.specs.List.{flat_map}
use Rattle.druid_segment_file.specs.ByteParts.{instant}
use Rattle.druid_segment_file.proofs.columns_writer.append_times.Given as goal

abbrev pub invariant-loop-time : goal.invariant-loop-time
invariant-loop-time l =
    l.out.items ≡ l.fn.out.items ++ flat_map instant (take l.time-index l.times)
