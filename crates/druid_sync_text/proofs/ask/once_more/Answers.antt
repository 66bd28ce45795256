use Rattle.druid_sync_text.proofs.AskLemmas.{given_twice, given_thrice}
use Rattle.druid_sync_text.proofs.ask.once_more.Goals as goal

pub returns-in-Once : goal.returns-in-Once
returns-in-Once c values is = given_twice c.args.given values c.in-Once._first c.args.value.now c.in-Once.is is

pub returns-in-Twice : goal.returns-in-Twice
returns-in-Twice c values is = given_thrice c.args.given values c.args.value.now c.in-Twice.is is
