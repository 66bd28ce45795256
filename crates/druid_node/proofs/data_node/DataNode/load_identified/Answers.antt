use Rattle.std.proofs.Common.{ap, sym, ◌∙◌}
use Rattle.std.proofs.lemmas.Result.{IfErr-weaker, IfOk-weaker}
use Rattle.druid_folder.specs.Folder.{read_part}
use Rattle.druid_node.specs.Files.{file_at, file_name}
use Rattle.druid_node.proofs.FileLemmas.{decoded_at, decoded_named, decoded_counted, decode_refuses, decode_own, decode_counted, load_refuses, load_own, load_uncounted}
use Rattle.druid_node.proofs.data_node.DataNode.load_identified.Goals as goal

pub returns-clause-err : goal.returns-clause-err
returns-clause-err g c honest =
    decode_refuses g.I.Incarnation.number c.args.name.now (read_part (g.F.Folder.content c.args.folder.now c.args.name.now)) c.read-given.result c.args.seen.now c.in-Err.fault c.in-Err.ensures.err (c.read-given.ensures.found honest)

pub returns-clause-never : goal.returns-clause-never
returns-clause-never g c = decode_own c.args.name.now c.read-given.result c.in-Err.fault c.in-Err.ensures.err

pub returns-clause-counted : goal.returns-clause-counted
returns-clause-counted g c =
    c.read-given.ensures.counted ∙ decode_counted c.args.name.now c.read-given.result c.in-Err.fault (g.F.Folder.faults c.args.folder.now) c.in-Err.ensures.err

pub returns-in-Ok-clause-ok : goal.returns-in-Ok-clause-ok
returns-in-Ok-clause-ok g c honest =
    let file = decoded_at c.args.name.now (read_part (g.F.Folder.content c.args.folder.now c.args.name.now)) c.read-given.result (c.in-Ok.segment, c.in-Ok.bytes) c.in-Ok.ensures.ok (c.read-given.ensures.found honest) in
    IfOk-weaker c.load_segment.result _ _ (λ loaded is. (c.in-Ok.segment, file.0, is.0, is.1, is.2)) c.load_segment.ensures.loaded

pub returns-in-Ok-clause-bytes : goal.returns-in-Ok-clause-bytes
returns-in-Ok-clause-bytes g c honest =
    let file = decoded_at c.args.name.now (read_part (g.F.Folder.content c.args.folder.now c.args.name.now)) c.read-given.result (c.in-Ok.segment, c.in-Ok.bytes) c.in-Ok.ensures.ok (c.read-given.ensures.found honest) in
    IfOk-weaker c.load_segment.result _ _ (λ loaded is. is ∙ file.1) c.load_segment.ensures.bytes

pub returns-in-Ok-clause-id : goal.returns-in-Ok-clause-id
returns-in-Ok-clause-id g c =
    IfOk-weaker c.load_segment.result _ _ (λ loaded is. decoded_named c.args.name.now c.read-given.result (c.in-Ok.segment, c.in-Ok.bytes) c.in-Ok.ensures.ok ∙ ap file_name (sym is.0)) c.load_segment.ensures.loaded

pub returns-in-Ok-clause-err : goal.returns-in-Ok-clause-err
returns-in-Ok-clause-err g c honest =
    let given = read_part (g.F.Folder.content c.args.folder.now c.args.name.now) in
    let file = decoded_at c.args.name.now given c.read-given.result (c.in-Ok.segment, c.in-Ok.bytes) c.in-Ok.ensures.ok (c.read-given.ensures.found honest) in
    IfErr-weaker c.load_segment.result _ _ (λ fault h. load_refuses g.I.Incarnation.number (file_at c.args.name.now given) c.args.seen.now c.in-Ok.segment fault file.0 h) c.load_segment.ensures.err

pub returns-in-Ok-clause-never : goal.returns-in-Ok-clause-never
returns-in-Ok-clause-never g c =
    IfErr-weaker c.load_segment.result _ _ (λ fault h. load_own g.I.Incarnation.number c.args.seen.now fault h) c.load_segment.ensures.err

pub returns-in-Ok-clause-counted : goal.returns-in-Ok-clause-counted
returns-in-Ok-clause-counted g c =
    c.read-given.ensures.counted ∙ decoded_counted c.args.name.now c.read-given.result (c.in-Ok.segment, c.in-Ok.bytes) (g.F.Folder.faults c.args.folder.now) c.in-Ok.ensures.ok
    ∙ sym (load_uncounted g.I.Incarnation.number c.args.seen.now c.load_segment.result (g.F.Folder.faults c.args.folder.now) c.load_segment.ensures.err)
