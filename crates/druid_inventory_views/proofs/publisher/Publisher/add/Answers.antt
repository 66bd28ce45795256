use Rattle.std.proofs.Common.{rules, ◌≡◌, ◌⊎◌, ◌++◌, ◌∷◌, [], inl, inr, ap, sym, ◌∙◌}
use Rattle.druid_inventory_views.specs.Fold.{PublisherValue, fold_of}
use Rattle.druid_inventory_views.proofs.Beginnings.{begins_more}
use Rattle.druid_inventory_views.proofs.publisher.Publisher.add.Goals as goal

pub invariant_of-self : goal.invariant_of-self
invariant_of-self g c =
    let all = c.again.result in
    let now = c.show_in_place.new.writer.desk.shown.value.seen.log in
    let was = c.self.inside.writer.desk.shown.value.seen.log in
    let shown : (now ≡ all) ⊎ (now ≡ was) = elim c.show_in_place.ensures.either [
      | inl whole ↦ inl (whole ∙ (c.in_ok-seen.ensures.log ∙ sym c.again.ensures))
      | inr same ↦ inr same
    ] in (
      search rules,
      search rules,
      begins_more was now c.self.inside.seen all (c.args.node, c.args.reply.now) shown c.self.invariant.2
          (c.again.ensures ∙ (c.in_ok-seen.ensures.published ∙ ap (λ (v : PublisherValue). v.published ++ (c.args.node, c.args.reply.now) ∷ []) (sym c.self.view_is))),
    )

pub returns-clause-shown : goal.returns-clause-shown
returns-clause-shown g c = elim c.show_in_place.ensures.either [
  | inl whole ↦ inl (ap (fold_of g.J.Publication.opening) (whole ∙ c.in_ok-seen.ensures.log) ∙ (sym c.in_ok-seen.ensures.fold ∙ (c.in_ok-mine.ensures.theirs ∙ sym c.in_ok-mine.ensures.mine)))
  | inr same ↦ inr (same ∙ ap (λ (v : PublisherValue). v.shown) c.self.view_is)
]
