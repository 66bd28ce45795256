use Rattle.std.proofs.Common.{◌≡◌, ◌⊎◌, inl, inr, drop, IfOk, IfErr, sym, ap, ◌∙◌, refl, subst}
use Rattle.left_right.specs.Sides.{view}
use Rattle.druid_inventory_views.specs.Places.{known, IsAlike}
use Rattle.druid_inventory_views.specs.declared.rule.Known.{Known}
use Rattle.druid_inventory_views.specs.declared.shown.Shown.{Shown}
use Rattle.druid_inventory_views.proofs.PlaceLemmas.{State, state_of, shows, names_same, sets, either_way, if_ok_so, if_err_so}
use Rattle.druid_inventory_views.proofs.publisher.show.Goals as goal
use Rattle.druid_inventory_views.proofs.publisher.show.Goals.{in-Ok, in-Err}

pub publish_as-requires : goal.publish_as-requires
publish_as-requires g c next is = let now = c.append.new.self.desk.shown.value in
    shows g.J.Publication.book g.J.Publication.opening _ _ now next c.args.shown
    (ap (λ d. view {T = Shown} {V = Known} d.place) c.append.ensures.desk ∙ c.requires.place)
    (sets (λ s x. state_of x) (λ s x. refl) (state_of now) (drop c.args.writer.behind c.args.writer.log.items) (drop c.append.new.self.behind c.append.new.self.log.items) c.args.shown (state_of next) c.in-Ok.ensures.pending is)
    c.requires.book c.requires.fold

pub returns-clause-place : goal.returns-clause-place
returns-clause-place g c =
    let is = ap (λ d. view {T = Shown} {V = Known} d.place) c.append.ensures.desk ∙ c.requires.place in
    let named = known g.J.Publication.book g.J.Publication.opening in elim c.match-append.branch [
      | in-Ok w ↦ subst (λ r. view {T = Shown} {V = Known} r.0.desk.place ≡ named) (sym w.result-is)
          (either_way w.publish_as.result.1 _ _ w.publish_as.ensures.rule (λ a p. names_same _ _ _ w.publish_as.result.0.desk.shown.value _ is p ∙ is) (λ b p. p ∙ is))
      | in-Err w ↦ subst (λ r. view {T = Shown} {V = Known} r.0.desk.place ≡ named) (sym w.result-is) is
    ]

pub returns-clause-shown : goal.returns-clause-shown
returns-clause-shown g c = elim c.match-append.branch [
  | in-Ok w ↦
      let now = c.append.new.self.desk.shown.value in
      let then = w.publish_as.result.0.desk.shown.value in
      subst (λ r. IfOk r.1 (λ _. IsAlike r.0.desk.shown.value c.args.shown)) (sym w.result-is)
      (if_ok_so w.publish_as.result.1 _ _ _ w.publish_as.ensures.values (λ a p.
      let set : state_of then ≡ state_of c.args.shown = sets (λ s x. state_of x) (λ s x. refl) (state_of now) (drop c.args.writer.behind c.args.writer.log.items) (drop c.append.new.self.behind c.append.new.self.log.items) c.args.shown (state_of then) w.in-Ok.ensures.pending p.0 in
      (ap (λ (s : State). s.0) set, ap (λ (s : State). s.1) set)))
  | in-Err w ↦ subst (λ r. IfOk r.1 (λ _. IsAlike r.0.desk.shown.value c.args.shown)) (sym w.result-is) tt
]

pub returns-clause-stays : goal.returns-clause-stays
returns-clause-stays g c =
    let same : c.append.new.self.desk.shown.value ≡ c.args.writer.desk.shown.value = ap (λ d. d.shown.value) c.append.ensures.desk in elim c.match-append.branch [
      | in-Ok w ↦ subst (λ r. IfErr r.1 (λ _. r.0.desk.shown.value ≡ c.args.writer.desk.shown.value)) (sym w.result-is)
          (if_err_so w.publish_as.result.1 _ _ _ w.publish_as.ensures.values (λ b p. p.0 ∙ same))
      | in-Err w ↦ subst (λ r. IfErr r.1 (λ _. r.0.desk.shown.value ≡ c.args.writer.desk.shown.value)) (sym w.result-is) same
    ]

pub returns-clause-either : goal.returns-clause-either
returns-clause-either g c =
    let was = c.args.writer.desk.shown.value.seen.log in
    let same : c.append.new.self.desk.shown.value.seen.log ≡ was = ap (λ d. d.shown.value.seen.log) c.append.ensures.desk in elim c.match-append.branch [
      | in-Ok w ↦
          let now = c.append.new.self.desk.shown.value in
          let then = w.publish_as.result.0.desk.shown.value in
          subst (λ r. (r.0.desk.shown.value.seen.log ≡ c.args.shown.seen.log) ⊎ (r.0.desk.shown.value.seen.log ≡ was)) (sym w.result-is)
          (either_way w.publish_as.result.1 _ _ w.publish_as.ensures.values
          (λ a p.
          let set : state_of then ≡ state_of c.args.shown = sets (λ s x. state_of x) (λ s x. refl) (state_of now) (drop c.args.writer.behind c.args.writer.log.items) (drop c.append.new.self.behind c.append.new.self.log.items) c.args.shown (state_of then) w.in-Ok.ensures.pending p.0 in
          inl (ap (λ (s : State). s.1.log) set))
          (λ b p. inr (ap (λ s. s.seen.log) p.0 ∙ same)))
      | in-Err w ↦ subst (λ r. (r.0.desk.shown.value.seen.log ≡ c.args.shown.seen.log) ⊎ (r.0.desk.shown.value.seen.log ≡ was)) (sym w.result-is) (inr same)
    ]
