use Rattle.std.proofs.Common.{rules, ◌≡◌, ◌<◌, ◌∙◌, ℕ, Some, List, length, slice_get, ap, subst, sym}
use Rattle.std.proofs.lemmas.Option.{slice_get-get_or}
use Rattle.std.specs.Arc.{arc_value}
use Rattle.druid_serve_config.specs.Configs.{Node}
use Rattle.druid_serve.specs.Links.{NodeLinkValue, IsLinkAt}
use Rattle.druid_serve.proofs.LinkLemmas.{link_at, one_link}
use Rattle.druid_serve.proofs.links.links_to.Goals as goal

pub loop-place-preserved : goal.loop-place-preserved
loop-place-preserved g c =
    let patience = (arc_value c.args.health.now).patience in
    let links = c.loop-place.links.items in
    let nodes = c.args.nodes.now in
    let link : NodeLinkValue = c.in_ok-link_to.field-0 in
    let within : c.loop-place.place < length nodes = search rules in
    let there = slice_get-get_or nodes c.loop-place.place c.index-nodes-place.result within ∙ ap (λ (n : Node). Some n) (sym c.index-nodes-place.is) in
    let last = subst (λ (n : ℕ). IsLinkAt patience nodes n link) (sym c.loop-place.invariant.0)
    (link_at patience nodes c.loop-place.place c.index-nodes-place.result link there c.in_ok-link_to.ensures) in
    (search rules, λ k l at. one_link patience nodes links link c.loop-place.invariant.1 last k l (subst (λ (xs : List NodeLinkValue). slice_get xs k ≡ Some l) c.in_ok-push.ensures.items at))
