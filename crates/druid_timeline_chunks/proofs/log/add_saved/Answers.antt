use Rattle.std.proofs.Common.{◌∙◌, List, sym, ap, subst}
use Rattle.druid_segment_id.specs.Group.{Group}
use Rattle.druid_timeline_chunks.specs.Chunks.{members_at}
use Rattle.druid_timeline_chunks.specs.Edits.{Saved, AreSaved, chunks_before}
use Rattle.druid_timeline_chunks.proofs.UndoLemmas.{AreSaved-more, AreSaved-touched, save_one}
use Rattle.druid_timeline_chunks.proofs.log.add_saved.Goals as goal

pub returns-in_err-insert-clause-log : goal.returns-in_err-insert-clause-log
returns-in_err-insert-clause-log c =
    let s : Saved = (c.args.key, c.args.old) in
    subst (λ (p : List Saved × List Group). AreSaved p.0 p.1) (λ i. (sym c.in_ok-push.ensures.items i, sym c.in_err-insert.ensures.err i))
    (AreSaved-more c.args.saved.now.items s c.args.touched.now.keys c.requires.log c.requires.old)

pub returns-in_err-insert-clause-before : goal.returns-in_err-insert-clause-before
returns-in_err-insert-clause-before c now same g =
    let s : Saved = (c.args.key, c.args.old) in
    ap (λ (xs : List Saved). members_at (chunks_before xs now) g) c.in_ok-push.ensures.items ∙ save_one c.args.saved.now.items s now same g

pub returns-clause-log : goal.returns-clause-log
returns-clause-log c =
    let s : Saved = (c.args.key, c.args.old) in
    subst (λ (xs : List Saved). AreSaved xs c.insert.new.self.keys) (sym c.in_ok-push.ensures.items)
    (AreSaved-touched c.args.saved.now.items s c.in_ok-copy.copy c.args.touched.now.keys c.insert.new.self.keys c.requires.log c.requires.old c.in_ok-copy.ensures.cases c.in_ok-insert.ensures.updates.0)

pub returns-clause-before : goal.returns-clause-before
returns-clause-before c now same g =
    let s : Saved = (c.args.key, c.args.old) in
    ap (λ (xs : List Saved). members_at (chunks_before xs now) g) c.in_ok-push.ensures.items ∙ save_one c.args.saved.now.items s now same g
