use Rattle.std.proofs.Common.{◌∙◌, ap, refl}
use Rattle.druid_inventory_views.proofs.PlaceLemmas.{opens}
use Rattle.druid_inventory_views.proofs.start.writer_of.Goals as goal

pub new-requires-clause-rule : goal.new-requires-clause-rule
new-requires-clause-rule g c =
    opens c.in_ok-first.first _ (ap (λ s. s.log) c.in_ok-first.ensures.seen ∙ (c.show_with-shown.ensures.published ∙ c.requires.nothing)) refl
