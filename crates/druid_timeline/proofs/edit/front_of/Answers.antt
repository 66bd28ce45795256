use Rattle.std.proofs.Common.{◌≡◌, ◌<◌, ℕ, List, [], ◌∷◌, ◌++◌, subst, sym, ◌∙◌, ap}
use Rattle.druid_timeline.proofs.SpliceLemmas.{front_pushed, front_unpushed, front_none}
use Rattle.druid_timeline.proofs.SweepLemmas.{Run}
use Rattle.druid_timeline.proofs.edit.front_of.Goals as goal
use Rattle.druid_timeline.proofs.edit.front_of.Goals.{then-from-runs+in-Some+in_ok-key+in_ok-push, then-from-runs+in_default, else-from-runs}

pub returns-clause-shows : goal.returns-clause-shows
returns-clause-shows c t g = elim c.if-from-runs.branch [
  | then-from-runs+in-Some+in_ok-key+in_ok-push w ↦
      let start = w.start.ensures.value in
      let items : c.if-from-runs.front.items ≡ (w.in-Some.before, w.in_ok-key.key) ∷ [] = (λ i. (w.front-is i).items) ∙ w.in_ok-push.ensures.items ∙ ap (λ (xs : List Run). xs ++ (w.in-Some.before, w.in_ok-key.key) ∷ []) c.new-front.ensures.items in
      front_pushed c.args.runs.now c.args.from c.args.instant w.index-runs-from.result c.if-from-runs.front.items w.in-Some.before w.in_ok-key.key w.if-from-runs.true w.index-runs-from.is c.requires.runs c.requires.rest
      (w.in-Some.ensures.value.1 ∙ ap (λ (s : ℕ). record { start = s; end = c.args.instant }) start) (subst (λ (s : ℕ). s < c.args.instant) start w.in-Some.ensures.value.0) w.in_ok-key.ensures.cases items t g
  | then-from-runs+in_default w ↦
      front_unpushed c.args.runs.now c.args.from c.args.instant w.index-runs-from.result c.if-from-runs.front.items w.if-from-runs.true w.index-runs-from.is c.requires.runs
      (λ l. w.in_default.ensures.value (subst (λ (s : ℕ). s < c.args.instant) (sym w.start.ensures.value) l)) ((λ i. (w.front-is i).items) ∙ c.new-front.ensures.items) t g
  | else-from-runs w ↦
      front_none c.args.runs.now c.args.from c.args.instant c.if-from-runs.front.items w.if-from-runs.false ((λ i. (w.front-is i).items) ∙ c.new-front.ensures.items) t g
]
