use Rattle.std.proofs.Common.{◌∙◌, subst, arith}
use Rattle.druid_segment_id.specs.Group.{group_of}
use Rattle.druid_segment_id.specs.Identifier.{Identifier}
use Rattle.druid_timeline_chunks.specs.Edits.{HasSaved}
use Rattle.druid_timeline_chunks.proofs.UndoLemmas.{edit_hidden, one_more}
use Rattle.druid_timeline_chunks.proofs.transaction.add_logged.Goals as goal

pub returns-clause-room : goal.returns-clause-room
returns-clause-room c _ =
    let more = one_more c.args.chunks.now c.add.new.self (group_of c.args.descriptor.now.id) c.add.ensures.chunks c.add.ensures.others in
    omega (arith, more, c.in_ok-save.ensures.more)

pub returns-clause-before : goal.returns-clause-before
returns-clause-before c g =
    edit_hidden c.save.new.self.saved c.args.chunks.now c.add.new.self (group_of c.args.descriptor.now.id) (subst (λ (id : Identifier). HasSaved c.save.new.self.saved (group_of id)) c.id.ensures.value c.in_ok-save.ensures.has) c.add.ensures.others g ∙ c.in_ok-save.ensures.before g
