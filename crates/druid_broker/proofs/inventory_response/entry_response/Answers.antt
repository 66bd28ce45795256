use Rattle.std.proofs.Common.{inr}
use Rattle.druid_broker.proofs.LoadLemmas.{an_answer}
use Rattle.druid_broker.proofs.inventory_response.entry_response.Goals as goal

pub returns-in-Err-Memory : goal.returns-in-Err-Memory
returns-in-Err-Memory c =
    let clauses = c.in-Err-Memory.ensures in
    let known = an_answer c.args.inventory.now c.args.node c.args.ask.now (λ none. cc (clauses.unknown.1 none)) (λ never. cc (clauses.not_synced.1 never)) in
    inr (inr (known.0, known.1, inr c.out_of_memory.ensures))

pub returns-in-Ok : goal.returns-in-Ok
returns-in-Ok c = inr (inr (c.in-Ok.reply, c.in-Ok.ensures.ok, c.reply_response.ensures))
