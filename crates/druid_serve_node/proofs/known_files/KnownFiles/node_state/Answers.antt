use Rattle.std.proofs.Common.{rules, ◌∙◌, arith}
use Rattle.druid_serve_node.specs.Totals.{segments_in, rows_in, bytes_in}
use Rattle.druid_serve_node.proofs.KnownLemmas.{sum_begun, sum_ended}
use Rattle.druid_serve_node.proofs.known_files.KnownFiles.node_state.Goals as goal

pub loop-state-init : goal.loop-state-init
loop-state-init c =
    let given = c.into_iter-state-iterator.ensures.into_iter_gives ∙ c.values-state-items.ensures.rest in (
      sum_begun segments_in c.into_iter-state-iterator.result c.self.inside.files.entries c.args.self.now given c.self.view_is,
      sum_begun rows_in c.into_iter-state-iterator.result c.self.inside.files.entries c.args.self.now given c.self.view_is,
      sum_begun bytes_in c.into_iter-state-iterator.result c.self.inside.files.entries c.args.self.now given c.self.view_is,
      omega arith,
      omega arith,
      omega arith,
    )

pub returns : goal.returns
returns c = search (
  rules,
  sum_ended segments_in c.loop-state.state-iterator _ _ c.in-None.ensures.steps.0 c.loop-state.invariant.3 c.loop-state.invariant.0,
  sum_ended rows_in c.loop-state.state-iterator _ _ c.in-None.ensures.steps.0 c.loop-state.invariant.4 c.loop-state.invariant.1,
  sum_ended bytes_in c.loop-state.state-iterator _ _ c.in-None.ensures.steps.0 c.loop-state.invariant.5 c.loop-state.invariant.2,
)
