use Rattle.std.proofs.Common.{arith}
use Rattle.serde_json.specs.View.{items_view}
use Rattle.druid_base.specs.Each.{each_of}
use Rattle.druid_base.proofs.EachLemmas.{each_of_length}
use Rattle.druid_sync_text.specs.Read.{load_at, IsSnapshotRead}
use Rattle.druid_sync_text.specs.declared.fault.SyncFault.TheVariants.{TooMany, Memory}
use Rattle.druid_sync_text.proofs.FormLemmas.{snapshot_answered, list_refused}
use Rattle.druid_sync_text.proofs.reply_reader.snapshot_of.Goals as goal

pub returns-then-loads-gt-MAX_SEGMENTS : goal.returns-then-loads-gt-MAX_SEGMENTS
returns-then-loads-gt-MAX_SEGMENTS c =
    let loads = c.args.loads.now in
    snapshot_answered c.args.at (items_view loads) _
    (list_refused (IsSnapshotRead c.args.at) (each_of load_at (items_view loads)) c.fault_of_loads.result TooMany c.fault_of_loads.ensures
    (λ xs read. omega (arith, each_of_length load_at loads xs read)))

pub returns-in-Err : goal.returns-in-Err
returns-in-Err c =
    let loads = c.args.loads.now in
    snapshot_answered c.args.at (items_view loads) _
    (list_refused (IsSnapshotRead c.args.at) (each_of load_at (items_view loads)) c.in-Err.fault Memory c.in-Err.ensures.fault
    (λ xs read. omega (arith, each_of_length load_at loads xs read)))
