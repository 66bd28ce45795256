use Rattle.std.proofs.Common.{◌∙◌, ap, sym, refl}
use Rattle.druid_serve_config.specs.Parts.{has_broker}
use Rattle.druid_serve.proofs.PartLemmas.{one_listens, one_passed}
use Rattle.druid_serve.proofs.cluster.listen_all.Goals as goal
use Rattle.druid_serve.proofs.cluster.listen_all.Goals.{then-has_broker+in-Ok+in_ok-new+in_ok-status_listener+in_ok-push, else-has_broker}

pub loop-place-preserved : goal.loop-place-preserved
loop-place-preserved g c = elim c.if-has_broker.branch [
  | then-has_broker+in-Ok+in_ok-new+in_ok-status_listener+in_ok-push w ↦
      one_listens (has_broker c.args.part.now) c.loop-place.place c.loop-place.listening.items c.if-has_broker.listening.items _
      (ap (λ v. v.items) w.listening-is ∙ w.in_ok-push.ensures.items) refl (sym c.has_broker.ensures ∙ w.if-has_broker.true) c.loop-place.invariant
  | else-has_broker w ↦
      one_passed (has_broker c.args.part.now) c.loop-place.place c.loop-place.listening.items c.if-has_broker.listening.items
      (ap (λ v. v.items) w.listening-is) (sym c.has_broker.ensures ∙ w.if-has_broker.false) c.loop-place.invariant
]
