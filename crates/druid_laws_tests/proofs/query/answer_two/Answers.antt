use Rattle.std.proofs.Common.{sym, ◌∙◌}
use Rattle.druid_broker_scatter.specs.Order.{turned}
use Rattle.druid_laws_tests.proofs.ServedLemmas.{served_exactly}
use Rattle.druid_laws_tests.proofs.query.answer_two.Goals as goal

pub returns : goal.returns
returns g c = λ left right are is_left is_right followed.
    served_exactly c.answers_are_exact.ensures (turned 0) g.J.Publication.opening c.requires.fresh.0 c.args.receipt.now c.args.view.now c.serve_one-served.new.view left right
    c.args.links.now c.serve_one-served.new.links c.args.request.now c.new-written.result.items c.serve_one-served.new.writer.items _ c.in-Ok-served.field-0 _
    c.requires.fresh.1 c.requires.fresh.2 c.requires.seen c.in-Ok-served.ensures.view (sym c.count.ensures ∙ c.if-count-ne2.false) c.new-written.ensures.items c.in-Ok-served.ensures.ok
    are is_left is_right followed
