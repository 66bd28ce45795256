use Rattle.std.proofs.Common.{◌≡◌, ◌∙◌, true, All, subst}
use Rattle.druid_folder.specs.Folder.{Content, names_of}
use Rattle.druid_serve_node.specs.Files.{is_segment_file, IsTaken}
use Rattle.druid_serve_node.proofs.SegmentFileLemmas.{front_and_rest, front_with_rest}
use Rattle.druid_serve_node.proofs.segment_files.load_named.Goals as goal

pub load_front-requires-clause-named : goal.load_front-requires-clause-named
load_front-requires-clause-named g c κs within =
    (front_and_rest (λ n. is_segment_file n ≡ true) c.min.result c.loop-rest.rest.now c.split_at.result.0.now c.split_at.result.1.now c.split_at.ensures.front c.split_at.ensures.back c.loop-rest.invariant.named).0

pub loop-rest-preserved : goal.loop-rest-preserved
loop-rest-preserved g c =
    let front = c.split_at.result.0.now in
    let rest = c.split_at.result.1.now in record {
      taken = λ honest.
          let before = c.loop-rest.invariant.taken (c.load_front.ensures.honest honest) in (
            before.0,
            c.load_front.ensures.content honest ∙ before.1,
            λ later. before.2 (front_with_rest (IsTaken (g.F.Folder.content c.args.folder.now)) c.min.result c.loop-rest.rest.now front rest c.split_at.ensures.front c.split_at.ensures.back
                (subst (λ (files : Content). All (IsTaken files) (names_of front)) before.1 (c.in_ok-load_front.ensures.ok honest)) later),
          );
      named = (front_and_rest (λ n. is_segment_file n ≡ true) c.min.result c.loop-rest.rest.now front rest c.split_at.ensures.front c.split_at.ensures.back c.loop-rest.invariant.named).1;
      own = λ own. c.in_ok-load_front.ensures.own (c.loop-rest.invariant.own own);
    }
