use Rattle.std.proofs.Common.{◌∙◌, ◌∷◌, ◌++◌, [], None, get_or, ap, sym, arith}
use Rattle.druid_partial_scan.proofs.FlatLemmas.{copied_more}
use Rattle.druid_partial_scan.proofs.group_array.copied.Goals as goal

pub loop-place-preserved : goal.loop-place-preserved
loop-place-preserved c =
    c.in_ok-push.ensures.items ∙ ap (λ l. l ++ get_or c.args.numbers.now c.loop-place.place None ∷ []) c.loop-place.invariant
    ∙ sym (copied_more c.args.numbers.now c.args.from c.loop-place.place None (omega arith) (omega arith))
