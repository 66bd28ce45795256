use Rattle.std.proofs.Common.{◌≡◌, ap, ◌∙◌}
use Rattle.druid_inventory_views.specs.Fold.{PublisherValue}
use Rattle.druid_inventory_views.proofs.FoldLemmas.{left_made}
use Rattle.druid_inventory_views.proofs.publisher.Publisher.apply_reply.Goals as goal

pub add_made-requires-clause-left : goal.add_made-requires-clause-left
add_made-requires-clause-left g c other =
    let here : c.deref.result.now ≡ c.args.self.now.inventory = c.deref.ensures ∙ ap (λ (v : PublisherValue). v.inventory) c.self.view_is in
    let made = c.in-Ok.ensures.ok in
    left_made c.deref.result.now c.in-Ok.made.0 c.args.node c.args.reply.now c.in-Ok.made.1 made.0 made.1 made.2 other ∙ here
