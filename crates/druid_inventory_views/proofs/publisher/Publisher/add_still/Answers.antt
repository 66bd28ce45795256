use Rattle.std.proofs.Common.{ap, ◌∙◌}
use Rattle.druid_inventory_views.specs.Fold.{PublisherValue}
use Rattle.druid_inventory_views.proofs.PlaceLemmas.{ok_or_err}
use Rattle.druid_inventory_views.proofs.publisher.Publisher.add_still.Goals as goal

pub returns-clause-shown : goal.returns-clause-shown
returns-clause-shown g c =
    ok_or_err c.show_again.result c.show_again.ensures.shown c.show_again.ensures.stays
    (λ same. ap (λ (v : PublisherValue). v.shown) same ∙ ap (λ (v : PublisherValue). v.shown) c.self.view_is)
