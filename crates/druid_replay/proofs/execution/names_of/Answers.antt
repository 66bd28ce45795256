use Rattle.std.proofs.Common.{◌≡◌, ◌∙◌, ◌++◌, ◌∷◌, [], get_or, rules, ap, sym, subst}
use Rattle.druid_segment_id.specs.Names.{IsName}
use Rattle.druid_replay.specs.Seen.{text_in}
use Rattle.druid_replay.proofs.NameLemmas.{not_all, names_more, one_more}
use Rattle.druid_replay.proofs.execution.names_of.Goals as goal

pub returns-in-Err-BadName-clause-none : goal.returns-in-Err-BadName-clause-none
returns-in-Err-BadName-clause-none c =
    let bad : IsName c.text_of.result.now → ⊥ = search rules in
    not_all c.args.nodes.now c.loop-node.node-index c.node-item.result c.loop-node-test.true
    (λ name. bad (subst IsName (sym (c.text_of.ensures ∙ ap text_in c.node-item.is)) name))

pub loop-node-preserved : goal.loop-node-preserved
loop-node-preserved c =
    let vs = c.args.nodes.now in
    let i = c.loop-node.node-index in
    let v = c.node-item.result in
    let name : c.in-Ok.name ≡ text_in (get_or vs i v) = c.in-Ok.ensures.value ∙ c.text_of.ensures ∙ ap text_in c.node-item.is in (
      c.in_ok-push.ensures.items ∙ (λ k. c.loop-node.invariant.0 k ++ name k ∷ []) ∙ sym (names_more vs i v c.loop-node-test.true),
      one_more vs i v c.text_of.result.now c.loop-node-test.true c.node-item.is c.text_of.ensures c.in-Ok.ensures.names c.loop-node.invariant.1,
    )
