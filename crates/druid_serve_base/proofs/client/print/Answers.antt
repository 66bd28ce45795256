use Rattle.std.proofs.Common.{Ok, sym, ap, ◌∙◌}
use Rattle.druid_link.specs.Links.{came_of}
use Rattle.druid_serve_base.proofs.PrintLemmas.{fault_printed}
use Rattle.druid_serve_base.proofs.client.print.Goals as goal

pub returns-in-Err-response_of : goal.returns-in-Err-response_of
returns-in-Err-response_of g c =
    fault_printed c.print_fault.result (g.W.Write.contents c.args.out.now) (g.W.Write.contents c.print_fault.new.out)
    (came_of c.args.answer.now) c.deref.result.now c.in-Err-response_of.fault (ap came_of c.in-Ok.is ∙ ap Ok (sym c.deref.ensures.value))
    c.in-Err-response_of.ensures.err c.print_fault.ensures
