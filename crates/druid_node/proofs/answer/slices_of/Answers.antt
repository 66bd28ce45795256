use Rattle.std.proofs.Common.{drop}
use Rattle.std.proofs.lemmas.List.Elements.{All-same, All-drop}
use Rattle.druid_node.specs.Placed.{IsWithin}
use Rattle.druid_node.proofs.AnswerLemmas.{slices_next}
use Rattle.druid_node.proofs.answer.slices_of.Goals as goal

pub loop-rest-preserved : goal.loop-rest-preserved
loop-rest-preserved c =
    let held = c.args.held.now in
    let rest = c.loop-rest.rest.now in
    let front = c.split_at.result.0.now in
    let back = c.split_at.result.1.now in
    let n = c.run_of.result in
    record {
      reported = slices_next held c.loop-rest.slices.items c.push.new.self.items c.in_ok-slice_at.field-0 front back rest c.args.pieces.now n c.split_at.ensures.front c.split_at.ensures.back
          c.in_ok-slice_at.ensures c.in_ok-push.ensures.items c.loop-rest.invariant.reported;
      within = All-same (IsWithin held) back (drop n rest) c.split_at.ensures.back (All-drop (IsWithin held) n rest c.loop-rest.invariant.within);
    }
