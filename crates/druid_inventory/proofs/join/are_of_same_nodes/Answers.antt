use Rattle.std.proofs.Common.{◌≢◌, map, refl, sym, ◌∙◌, arith}
use Rattle.std.specs.Arc.{arc_value}
use Rattle.std.proofs.lemmas.Bool.{false≢true}
use Rattle.std.proofs.lemmas.List.{length-map}
use Rattle.druid_base.proofs.OrderLemmas.{texts_differ}
use Rattle.druid_inventory.proofs.JoinLemmas.{names_same, names_apart}
use Rattle.druid_inventory.proofs.join.are_of_same_nodes.Goals as goal

pub returns-then-ne : goal.returns-then-ne
returns-then-ne c =
    let apart : c.entry_of.result.now.name ≢ c.entry_of-in-loop-node.result.now.name =
    λ e. texts_differ c.name.result.now c.name-in-loop-node.result.now c.ne.result c.ne.ensures c.if-ne.true
    (c.name.ensures ∙ e ∙ sym c.name-in-loop-node.ensures) in (
      λ t. absurd (false≢true t),
      λ e. absurd (names_apart (map arc_value c.args.a.now) (map arc_value c.args.b.now) c.loop-node.node c.entry_of.result.now
          c.entry_of-in-loop-node.result.now c.entry_of.ensures c.entry_of-in-loop-node.ensures apart e),
    )

pub returns : goal.returns
returns c =
    let a = map arc_value c.args.a.now in
    let b = map arc_value c.args.b.now in
    let long = length-map c.args.a.now arc_value in
    let wide = length-map c.args.b.now arc_value in
    (λ _. names_same a b c.loop-node.node (omega arith) (omega arith) c.loop-node.invariant, λ _. refl)
