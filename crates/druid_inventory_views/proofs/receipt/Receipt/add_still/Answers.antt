use Rattle.std.proofs.Common.{◌≡◌, ℕ, ◌++◌, [], ◌∷◌, Bool, sym, subst, ◌∙◌}
use Rattle.std.specs.Bool.{MatchBool}
use mathlib.Core.List.{IsPrefix}
use Rattle.druid_segment_descriptor.specs.declared.reply.Body.{Body}
use Rattle.druid_inventory_views.specs.Fold.{IsStill, Published}
use Rattle.druid_inventory_views.proofs.FoldLemmas.{still_more}
use Rattle.druid_inventory_views.proofs.receipt.Receipt.add_still.Goals as goal

pub invariant_of-self : goal.invariant_of-self
invariant_of-self g c =
    let opening = g.J.Publication.opening in
    let old = c.args.self.now in
    let pair : ℕ × Body = (c.args.node, c.args.reply.now) in
    let added : c.add.new.self ≡ old ++ pair ∷ [] =
    subst (λ (b : Bool). MatchBool b (c.add.new.self ≡ old ++ pair ∷ []) (IsPrefix old c.add.new.self)) c.if-not-add.false c.add.ensures in
    let is : c.self-2.inside.seen.log ≡ old ++ pair ∷ [] = c.self-2.view_is ∙ added in
    let was = subst (λ (l : Published). IsStill opening l c.self.inside.moved) c.self.view_is c.self.invariant.2 in (
      c.self-2.invariant.0,
      c.self-2.invariant.1,
      subst (λ (l : Published). IsStill opening l c.self.inside.moved) (sym is) (still_more opening old pair c.self.inside.moved was c.requires.still),
    )
