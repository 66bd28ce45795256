use Rattle.std.proofs.Common.{rules, ◌<◌, ◌∙◌, ap, get_or, length}
use Rattle.druid_serve_config.specs.Parts.{has_broker}
use Rattle.druid_serve.proofs.PartLemmas.{one_asked}
use Rattle.druid_serve.proofs.cluster.ask_all.Goals as goal

pub loop-place-preserved : goal.loop-place-preserved
loop-place-preserved g c =
    let queries = c.args.config.now.queries in
    let within : c.loop-place.place < length queries = search rules in
    one_asked (λ q. has_broker c.args.part.now q.broker) queries c.loop-place.place c.index-queries-place.result c.index-queries-place.result _ _ _ within (c.index-queries-place.is ∙ ap (λ qs. get_or qs c.loop-place.place c.index-queries-place.result) c.queries-queries.ensures.value) c.loop-place.invariant c.in_ok-ask_one.ensures
