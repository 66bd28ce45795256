use Rattle.std.proofs.Common.{rules, arith}
use Rattle.serde_json.specs.View.{view, items_view}
use Rattle.druid_base.specs.Each.{each_of}
use Rattle.druid_base.proofs.EachLemmas.{each_of_length}
use Rattle.druid_sync_text.specs.Read.{change_at, IsDeltaRead}
use Rattle.druid_sync_text.specs.declared.fault.SyncFault.TheVariants.{TooMany, LengthOfDelta, Memory}
use Rattle.druid_sync_text.proofs.FormLemmas.{delta_answered, list_refused}
use Rattle.druid_sync_text.proofs.reply_reader.delta_of.Goals as goal

pub returns-then-values-gt-MAX_CHANGES : goal.returns-then-values-gt-MAX_CHANGES
returns-then-values-gt-MAX_CHANGES c =
    let values = c.args.values.now in
    delta_answered c.args.at c.in-Some.from (view c.args.from.now) (items_view values) _ (search rules)
    (list_refused (IsDeltaRead c.in-Some.from c.args.at) (each_of change_at (items_view values)) c.fault_of_changes.result TooMany c.fault_of_changes.ensures
    (λ xs read. omega (arith, each_of_length change_at values xs read)))

pub returns-then-not-is_as_far : goal.returns-then-not-is_as_far
returns-then-not-is_as_far c =
    let values = c.args.values.now in
    delta_answered c.args.at c.in-Some.from (view c.args.from.now) (items_view values) _ (search rules)
    (list_refused (IsDeltaRead c.in-Some.from c.args.at) (each_of change_at (items_view values)) c.fault_of_changes-then-not-is_as_far.result LengthOfDelta c.fault_of_changes-then-not-is_as_far.ensures
    (λ xs read.
    let many = each_of_length change_at values xs read in
    (omega (arith, many), search (many, rules))))

pub returns-in-Err : goal.returns-in-Err
returns-in-Err c =
    let values = c.args.values.now in
    delta_answered c.args.at c.in-Some.from (view c.args.from.now) (items_view values) _ (search rules)
    (list_refused (IsDeltaRead c.in-Some.from c.args.at) (each_of change_at (items_view values)) c.in-Err.fault Memory c.in-Err.ensures.fault
    (λ xs read.
    let many = each_of_length change_at values xs read in
    (omega (arith, many), search (many, rules))))
