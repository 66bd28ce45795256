use Rattle.std.proofs.Common.{rules}
use Rattle.druid_laws_tests.proofs.NodeLemmas.{described_by, small_by, unfrozen}
use Rattle.druid_laws_tests.proofs.nodes.describe.Goals as goal

pub returns-in-Snapshot-clause-described : goal.returns-in-Snapshot-clause-described
returns-in-Snapshot-clause-described c =
    described_by c.args.state.now c.since.new.self c.in-Ok.reply c.in-Snapshot.at c.in-Snapshot.segments c.mark-mark.ensures.kept c.in-Ok.ensures.ok (search rules) (search rules)

pub returns-in-Snapshot-clause-small : goal.returns-in-Snapshot-clause-small
returns-in-Snapshot-clause-small c =
    small_by c.args.state.now c.since.new.self c.in-Ok.reply c.in-Snapshot.at c.in-Snapshot.segments c.mark-mark.ensures.kept c.in-Ok.ensures.ok (search rules)

pub returns-in-Snapshot-clause-same : goal.returns-in-Snapshot-clause-same
returns-in-Snapshot-clause-same c =
    let small = small_by c.args.state.now c.since.new.self c.in-Ok.reply c.in-Snapshot.at c.in-Snapshot.segments c.mark-mark.ensures.kept c.in-Ok.ensures.ok (search rules) in
    unfrozen c.args.state.now c.since.new.self small c.in-Ok.ensures.stays
