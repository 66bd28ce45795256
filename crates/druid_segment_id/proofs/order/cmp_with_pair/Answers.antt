use Rattle.std.proofs.Common.{sym, ◌∙◌, arith}
use Rattle.druid_segment_id.proofs.OrderLemmas.{slice_cmp-short, slice_cmp-pair}
use Rattle.druid_segment_id.proofs.order.cmp_with_pair.Goals as goal

pub returns-then-text-front : goal.returns-then-text-front
returns-then-text-front c =
    c.cmp.ensures ∙ sym (slice_cmp-short c.args.text.now c.args.front.now c.args.rest.now (omega arith))

pub returns : goal.returns
returns c =
    let cut = slice_cmp-pair c.args.text.now c.args.front.now c.args.rest.now c.split_at.result.0.now c.split_at.result.1.now
    c.split_at.ensures.front c.split_at.ensures.back (omega arith) in
    cc
