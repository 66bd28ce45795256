use Rattle.std.proofs.Common.{◌≡◌, Option, None, subst}
use Rattle.druid_segment_descriptor.specs.declared.reply.Body.{Body}
use Rattle.druid_sync_pages.specs.Assembly.{Parts}
use Rattle.druid_inventory.specs.Assembly.{TakesReply, RefusesReply}
use Rattle.druid_inventory.specs.declared.fault.ApplyFault.{ApplyFault}
use Rattle.druid_broker_follow.specs.Pages.{turn_fault}
use Rattle.druid_broker_follow.proofs.PageLemmas.{begin_gives_none, begin_fault}
use Rattle.druid_broker_follow.proofs.pages.begin.Goals as goal

pub unreachable-requires : goal.unreachable-requires
unreachable-requires c =
    begin_gives_none c.args.first.now c.in-Ok-Some.field-0-0 c.args.at c.args.of c.put_page.new.assembly c.requires (c.is_one_of_several.ensures c.args.at 0 c.args.of c.requires)
    (subst (λ (given : Option Body). TakesReply None c.args.first.now given c.put_page.new.assembly) c.in-Ok-Some.field-0-is
    (subst (λ (old : Option Parts). TakesReply old c.args.first.now c.in-Ok-Some.field-0 c.put_page.new.assembly) c.new-assembly.ensures c.in-Ok-Some.ensures.ok))

pub returns-in-Err-clause-err : goal.returns-in-Err-clause-err
returns-in-Err-clause-err c =
    begin_fault c.args.first.now c.args.at c.args.of c.in-Err.fault c.requires (c.is_one_of_several.ensures c.args.at 0 c.args.of c.requires)
    (subst (λ (old : Option Parts). (refusal : ApplyFault) × RefusesReply old c.args.first.now refusal × (c.in-Err.fault ≡ turn_fault refusal)) c.new-assembly.ensures c.in-Err.ensures.err)
