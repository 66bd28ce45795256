use Rattle.std.proofs.Common.{◌∙◌, Option, None, Some, Result, Ok, IfOk, sym, subst}
use Rattle.druid_segment_descriptor.specs.declared.reply.Body.{Body}
use Rattle.druid_sync_pages.specs.Assembly.{Parts, Page, Takes}
use Rattle.druid_inventory.specs.Assembly.{Gives}
use Rattle.druid_inventory.specs.declared.fault.ApplyFault.{ApplyFault}
use Rattle.druid_inventory.proofs.PageLemmas.{is_page, gives_set, gives_none}
use Rattle.druid_inventory.proofs.assembly.Assembly.take_page.Goals as goal
use Rattle.druid_inventory.proofs.assembly.Assembly.take_page.Goals.{in-Ok-Some, in-Ok-None, in-Err-Conflict, in-Err-Memory}

pub take-requires : goal.take-requires
take-requires c = is_page c.args.at c.args.page c.args.of c.args.segments.now c.requires.page

pub returns-clause-ok : goal.returns-clause-ok
returns-clause-ok c =
    let p : Page = record { at = c.args.at; page = c.args.page; of = c.args.of; segments = c.args.segments.now } in
    let P : Result (Option Body) ApplyFault → Type 0 = λ r. IfOk r (λ given. Gives c.args.self.now p given c.take.new.self) in
    elim c.match-take.branch [
      | in-Ok-Some w ↦
          let takes : Takes c.args.self.now p (Some w.in-Ok-Some.set.items) c.take.new.self =
          subst (λ (old : Option Parts). Takes old p (Some w.in-Ok-Some.set.items) c.take.new.self) c.self.view_is (rw w.in-Ok-Some.field-0-is at w.in-Ok-Some.ensures.ok) in
          subst P (sym (w.result-is ∙ (λ i. Ok (Some (w.snapshot_of.ensures i))))) (gives_set c.args.self.now p w.in-Ok-Some.set.items c.take.new.self takes)
      | in-Ok-None w ↦
          let takes : Takes c.args.self.now p None c.take.new.self =
          subst (λ (old : Option Parts). Takes old p None c.take.new.self) c.self.view_is (rw w.in-Ok-None.field-0-is at w.in-Ok-None.ensures.ok) in
          subst P (sym w.result-is) (gives_none c.args.self.now p c.take.new.self takes)
      | in-Err-Conflict w ↦ subst P (sym w.result-is) tt
      | in-Err-Memory w ↦ subst P (sym w.result-is) tt
    ]
