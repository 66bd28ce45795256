use Rattle.std.proofs.Common.{◌≡◌, ◌+◌, ◌∙◌, Some, vec_len, List, sym, ap, arith}
use Rattle.std.proofs.lemmas.List.Elements.{All-pop}
use Rattle.druid_timeline_chunks.specs.Chunks.{members_at}
use Rattle.druid_timeline_chunks.specs.Edits.{Saved, IsSaved, chunks_before}
use Rattle.druid_timeline_chunks.proofs.UndoLemmas.{back_one}
use Rattle.druid_timeline_chunks.proofs.undo.put_all_back.Goals as goal

pub loop-entry-preserved : goal.loop-entry-preserved
loop-entry-preserved c =
    let left = c.pop.new.self.items in
    let popped = c.in-Some.ensures.items in
    let fewer : vec_len c.pop.new.self + 1 ≡ vec_len c.loop-entry.saved = c.in-Some.ensures.cases in
    record {
      ordered = c.put_back.ensures.ordered;
      saved = (All-pop IsSaved c.loop-entry.saved.items left (Some c.in-Some.entry) popped c.loop-entry.invariant.saved).0;
      room = omega (arith, fewer, c.put_back.ensures.len, c.put_back.ensures.capacity, c.loop-entry.invariant.room);
      back = λ g.
          back_one left c.in-Some.entry c.loop-entry.items.items c.put_back.new.items.items c.put_back.ensures.back g
          ∙ ap (λ (xs : List Saved). members_at (chunks_before xs c.loop-entry.items.items) g) (sym popped)
          ∙ c.loop-entry.invariant.back g;
    }
