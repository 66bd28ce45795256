use Rattle.std.proofs.Common.{◌≢◌, rules}
use Rattle.std.specs.declared.cmp.Ordering.TheVariants.{Greater}
use Rattle.druid_segment_descriptor.specs.Mark.{Point, mark_cmp}
use Rattle.druid_serve_base.proofs.FoldLemmas.{folds_keep}
use Rattle.druid_serve_node.proofs.worker.answer_front.Goals as goal

pub returns : goal.returns
returns g c =
    let ran = c.answer_jobs.ensures in
    folds_keep _ (λ (before after : Point). mark_cmp g.J.Begun.mark before ≢ Greater → mark_cmp g.J.Begun.mark after ≢ Greater) (λ p h. h) (λ p q next x kept step h. search rules) ran.0 _ _ ran.1 c.mark.ensures.reached
