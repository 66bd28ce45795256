use Rattle.std.proofs.Common.{◌≡◌, [], drop, IfOk, sym, ap, ◌∙◌, refl, subst}
use Rattle.left_right.specs.Sides.{view}
use Rattle.druid_inventory_views.specs.Places.{known}
use Rattle.druid_inventory_views.specs.declared.rule.Known.{Known}
use Rattle.druid_inventory_views.specs.declared.shown.Shown.{Shown}
use Rattle.druid_inventory_views.proofs.PlaceLemmas.{State, state_of, alike, stays, sets, names_first, if_ok_so, if_ok_both}
use Rattle.druid_inventory_views.proofs.start.know.Goals as goal
use Rattle.druid_inventory_views.proofs.start.know.Goals.{in-Ok, in-Err}

pub publish_as-requires : goal.publish_as-requires
publish_as-requires g c next is =
    let now = c.append.new.self.desk.shown.value in
    let set : state_of next ≡ state_of c.args.shown = sets (λ s x. state_of x) (λ s x. refl) (state_of now) (drop c.args.writer.behind c.args.writer.log.items) (drop c.append.new.self.behind c.append.new.self.log.items) c.args.shown (state_of next) c.in-Ok.ensures.pending is in
    stays _ _ now next (set ∙ (alike c.args.shown c.args.writer.desk.shown.value c.requires.alike ∙ sym (ap (λ d. state_of d.shown.value) c.append.ensures.desk)))

pub returns-clause-place : goal.returns-clause-place
returns-clause-place g c =
    let named = known g.J.Publication.book g.J.Publication.opening in elim c.match-append.branch [
      | in-Ok w ↦
          let now = c.append.new.self.desk.shown.value in
          let then = w.publish_as.result.0.desk.shown.value in
          subst (λ r. IfOk r.1 (λ _. view {T = Shown} {V = Known} r.0.desk.place ≡ named)) (sym w.result-is)
          (if_ok_both w.publish_as.result.1 _ _ _ _ _ w.publish_as.ensures.rule w.publish_as.ensures.values (λ a q p.
          let set : state_of then ≡ state_of c.args.shown = sets (λ s x. state_of x) (λ s x. refl) (state_of now) (drop c.args.writer.behind c.args.writer.log.items) (drop c.append.new.self.behind c.append.new.self.log.items) c.args.shown (state_of then) w.in-Ok.ensures.pending p.0 in
          names_first _ _ _ then _ (ap (λ (s : State). s.1.book) set ∙ c.requires.book) (ap (λ (s : State). s.1.log) set ∙ c.requires.log) (ap (λ (s : State). s.0) set ∙ c.requires.inventory) q))
      | in-Err w ↦ subst (λ r. IfOk r.1 (λ _. view {T = Shown} {V = Known} r.0.desk.place ≡ named)) (sym w.result-is) tt
    ]

pub returns-clause-shown : goal.returns-clause-shown
returns-clause-shown g c = elim c.match-append.branch [
  | in-Ok w ↦
      let now = c.append.new.self.desk.shown.value in
      let then = w.publish_as.result.0.desk.shown.value in
      subst (λ r. IfOk r.1 (λ _. r.0.desk.shown.value.seen.log ≡ [])) (sym w.result-is)
      (if_ok_so w.publish_as.result.1 _ _ _ w.publish_as.ensures.values (λ a p.
      let set : state_of then ≡ state_of c.args.shown = sets (λ s x. state_of x) (λ s x. refl) (state_of now) (drop c.args.writer.behind c.args.writer.log.items) (drop c.append.new.self.behind c.append.new.self.log.items) c.args.shown (state_of then) w.in-Ok.ensures.pending p.0 in
      ap (λ (s : State). s.1.log) set ∙ c.requires.log))
  | in-Err w ↦ subst (λ r. IfOk r.1 (λ _. r.0.desk.shown.value.seen.log ≡ [])) (sym w.result-is) tt
]
