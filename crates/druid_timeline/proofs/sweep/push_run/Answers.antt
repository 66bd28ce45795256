use Rattle.std.proofs.Common.{◌≡◌, [], ◌∷◌, ◌++◌, sym, ◌∙◌, ap}
use Rattle.std.proofs.lemmas.Bool.{false≢true}
use Rattle.druid_timeline.proofs.SweepLemmas.{Run, IsPushed-joined, IsPushed-beyond}
use Rattle.druid_timeline.proofs.sweep.push_run.Goals as goal

pub returns-then-goes_on-clause-runs : goal.returns-then-goes_on-clause-runs
returns-then-goes_on-clause-runs c =
    let both = c.goes_on.ensures.same.0 c.if-goes_on.true in
    (IsPushed-joined c.args.runs.now.items c.pop.new.self.items c.push_reserved.new.self.items c.in-Some.last (c.args.stretch, c.args.key.now) c.in-Some.ensures.items (c.push_reserved.ensures.items ∙ ap (λ (x : Run). c.pop.new.self.items ++ x ∷ []) c.extend_run.ensures) c.requires.runs c.goes_on.ensures.valid.0 both.0 both.1).runs

pub returns-then-goes_on-clause-shows : goal.returns-then-goes_on-clause-shows
returns-then-goes_on-clause-shows c =
    let both = c.goes_on.ensures.same.0 c.if-goes_on.true in
    (IsPushed-joined c.args.runs.now.items c.pop.new.self.items c.push_reserved.new.self.items c.in-Some.last (c.args.stretch, c.args.key.now) c.in-Some.ensures.items (c.push_reserved.ensures.items ∙ ap (λ (x : Run). c.pop.new.self.items ++ x ∷ []) c.extend_run.ensures) c.requires.runs c.goes_on.ensures.valid.0 both.0 both.1).shows

pub returns-clause-runs : goal.returns-clause-runs
returns-clause-runs c =
    let key : c.in_ok-clone-2.field-0 ≡ c.args.key.now = c.in_ok-clone-2.ensures.cases in
    (IsPushed-beyond c.args.runs.now.items c.pop.new.self.items c.push-2.new.self.items c.in-Some.last (c.args.stretch, c.args.key.now) c.in-Some.ensures.items
    (c.in_ok-push-2.ensures.items ∙ (λ i. c.push_reserved-2.ensures.items i ++ (c.args.stretch, key i) ∷ [])) c.requires.runs c.goes_on.ensures.valid.0 c.requires.ends (λ both. false≢true (sym c.if-goes_on.false ∙ c.goes_on.ensures.same.1 both))).runs

pub returns-clause-shows : goal.returns-clause-shows
returns-clause-shows c =
    let key : c.in_ok-clone-2.field-0 ≡ c.args.key.now = c.in_ok-clone-2.ensures.cases in
    (IsPushed-beyond c.args.runs.now.items c.pop.new.self.items c.push-2.new.self.items c.in-Some.last (c.args.stretch, c.args.key.now) c.in-Some.ensures.items
    (c.in_ok-push-2.ensures.items ∙ (λ i. c.push_reserved-2.ensures.items i ++ (c.args.stretch, key i) ∷ [])) c.requires.runs c.goes_on.ensures.valid.0 c.requires.ends (λ both. false≢true (sym c.if-goes_on.false ∙ c.goes_on.ensures.same.1 both))).shows
