use Rattle.std.proofs.Common.{rules, List}
use mathlib.Core.List.{IsPrefix}
use Rattle.druid_serve_config.specs.Configs.{Node}
use Rattle.druid_inventory_views.proofs.Beginnings.{prefix_self, prefix_trans}
use Rattle.druid_serve_base.proofs.FoldLemmas.{folds_keep}
use Rattle.druid_serve.specs.Links.{LeadTo}
use Rattle.druid_serve.proofs.worker.answer_connections.Goals as goal

pub returns-clause-view : goal.returns-clause-view
returns-clause-view g c =
    let ran = c.answer_each.ensures in
    folds_keep _ (λ before after. IsPrefix before.view after.view) (λ p. prefix_self p.view)
    (λ p q next x kept step.
    let both : IsPrefix q.view next.view × ((nodes : List Node) → LeadTo nodes q.links.items → LeadTo nodes next.links.items) = search rules in
    prefix_trans p.view q.view next.view kept both.0) ran.0 _ _ ran.1

pub returns-clause-leads : goal.returns-clause-leads
returns-clause-leads g c =
    let ran = c.answer_each.ensures in
    folds_keep _ (λ before after. (nodes : List Node) → LeadTo nodes before.links.items → LeadTo nodes after.links.items)
    (λ p nodes lead. lead)
    (λ p q next x kept step nodes lead.
    let both : IsPrefix q.view next.view × ((nodes : List Node) → LeadTo nodes q.links.items → LeadTo nodes next.links.items) = search rules in
    both.1 nodes (kept nodes lead)) ran.0 _ _ ran.1
