use Rattle.std.proofs.Common.{◌<◌, ◌^◌, arith, rules}
use Rattle.druid_sync_text.proofs.AskBackLemmas.{whole_target, since_target, page_target}
use Rattle.druid_sync_text.proofs.ask.ask_target_at.Goals as goal

pub returns-in-Whole-clause-read_back : goal.returns-in-Whole-clause-read_back
returns-in-Whole-clause-read_back c = whole_target c.from_str.result c.args.ask.now c.in-Whole.is

pub returns-in-Since-clause-read_back : goal.returns-in-Since-clause-read_back
returns-in-Since-clause-read_back c =
    since_target c.since_text.result c.args.ask.now c.in-Since.mark c.in-Since.is
    (record { incarnation = search rules; count = search rules })

pub returns-in-Page-clause-read_back : goal.returns-in-Page-clause-read_back
returns-in-Page-clause-read_back c =
    let low : c.in-Page.page < 2 ^ 16 = search rules in
    page_target c.page_text.result c.args.ask.now c.in-Page.mark c.in-Page.page c.in-Page.is
    (record { incarnation = search rules; count = search rules }) (omega (arith, low))
