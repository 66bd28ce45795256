use Rattle.std.proofs.Common.{◌<◌, ℕ, ap, subst, sym, ◌∙◌, rules}
use Rattle.druid_timeline.proofs.ChunkLemmas.{on_ok}
use Rattle.druid_timeline.proofs.SpliceLemmas.{back_pushed, back_unpushed}
use Rattle.druid_timeline.proofs.edit.add_back.Goals as goal

pub returns-in-Some-clause-shows : goal.returns-in-Some-clause-shows
returns-in-Some-clause-shows c =
    let pos : 0 < c.args.to = search rules in
    on_ok c.push_run.result _ _ (λ shows.
    back_pushed c.args.runs.now c.args.to c.args.instant c.index-runs-to.result c.in-Some.after _ _ pos c.requires.inside c.index-runs-to.is c.requires.runs c.requires.before
    (c.in-Some.ensures.value.1 ∙ ap (λ (e : ℕ). record { start = c.args.instant; end = e }) c.end.ensures.value) shows) c.push_run.ensures.shows

pub returns-in-None-clause-shows : goal.returns-in-None-clause-shows
returns-in-None-clause-shows c =
    let pos : 0 < c.args.to = search rules in
    back_unpushed c.args.runs.now c.args.to c.args.instant c.index-runs-to.result _ pos c.requires.inside c.index-runs-to.is c.requires.runs c.requires.before
    (λ l. c.in-None.ensures.value (subst (λ (e : ℕ). c.args.instant < e) (sym c.end.ensures.value) l))
