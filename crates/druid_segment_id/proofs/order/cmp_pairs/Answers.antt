use Rattle.std.proofs.Common.{arith}
use Rattle.druid_segment_id.proofs.OrderLemmas.{slice_cmp-pairs_short, slice_cmp-pairs_long}
use Rattle.druid_segment_id.proofs.order.cmp_pairs.Goals as goal

pub returns-then-front-other_front : goal.returns-then-front-other_front
returns-then-front-other_front c =
    let a = c.args in
    let cut = slice_cmp-pairs_short a.front.now a.rest.now a.other_front.now a.other_rest.now c.split_at.result.0.now c.split_at.result.1.now
    c.split_at.ensures.front c.split_at.ensures.back (omega arith) in
    cc

pub returns-else-front-other_front : goal.returns-else-front-other_front
returns-else-front-other_front c =
    let a = c.args in
    let split = c.split_at-else-front-other_front in
    let cut = slice_cmp-pairs_long a.front.now a.rest.now a.other_front.now a.other_rest.now split.result.0.now split.result.1.now
    split.ensures.front split.ensures.back (omega arith) in
    cc
