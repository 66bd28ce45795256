use Rattle.druid_inventory.specs.Timelines.{ServesWith}
use Rattle.druid_inventory.specs.Transactions.{IsAfter, IsBefore}
use Rattle.druid_inventory.proofs.TransactionLemmas.{AreEither-none}
use Rattle.druid_inventory.proofs.transactions.replay_timelines.Goals as goal

pub commit_each-requires : goal.commit_each-requires
commit_each-requires c =
    let entries = c.requires.0 in
    let s = c.requires.1 in
    let t = c.requires.2 in
    let P = ServesWith entries c.args.node s in
    let start = AreEither-none P (IsAfter P) c.args.timelines.now c.new-edits.result c.new-edits.ensures.empty c.requires.5 in
    (entries, t, c.args.node, c.in-Ok.ensures.ok entries s t c.requires.3 c.requires.4 start)

pub roll_back_each-requires : goal.roll_back_each-requires
roll_back_each-requires c =
    let entries = c.requires.0 in
    let s = c.requires.1 in
    let P = ServesWith entries c.args.node s in
    let start = AreEither-none P (IsBefore P) c.args.timelines.now c.new-edits.result c.new-edits.ensures.empty c.requires.5 in
    (entries, s, c.args.node, c.edit_each.ensures.before entries c.args.node s start)

pub returns-in-Ok-clause-ok : goal.returns-in-Ok-clause-ok
returns-in-Ok-clause-ok c entries s t set made over =
    let P = ServesWith entries c.args.node s in
    let start = AreEither-none P (IsAfter P) c.args.timelines.now c.new-edits.result c.new-edits.ensures.empty over in
    c.commit_each.ensures entries c.args.node t (c.in-Ok.ensures.ok entries s t set made start)

pub returns-in-Err-clause-err : goal.returns-in-Err-clause-err
returns-in-Err-clause-err c entries s over =
    let P = ServesWith entries c.args.node s in
    let start = AreEither-none P (IsBefore P) c.args.timelines.now c.new-edits.result c.new-edits.ensures.empty over in
    c.roll_back_each.ensures entries c.args.node s (c.edit_each.ensures.before entries c.args.node s start)
