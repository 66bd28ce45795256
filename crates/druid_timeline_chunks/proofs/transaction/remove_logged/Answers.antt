use Rattle.std.proofs.Common.{◌∙◌, arith}
use Rattle.druid_segment_id.specs.Group.{group_of}
use Rattle.druid_timeline_chunks.proofs.UndoLemmas.{edit_hidden, one_more}
use Rattle.druid_timeline_chunks.proofs.transaction.remove_logged.Goals as goal

pub returns-clause-room : goal.returns-clause-room
returns-clause-room c _ =
    let more = one_more c.args.chunks.now c.remove.new.self (group_of c.args.id.now) c.remove.ensures.chunks c.remove.ensures.others in
    omega (arith, more, c.in_ok-save.ensures.more)

pub returns-clause-before : goal.returns-clause-before
returns-clause-before c g =
    edit_hidden c.save.new.self.saved c.args.chunks.now c.remove.new.self (group_of c.args.id.now) c.in_ok-save.ensures.has c.remove.ensures.others g ∙ c.in_ok-save.ensures.before g
