use Rattle.std.proofs.Common.{◌≡◌, ◌-◌, length, refl, ap, rules, ℕ}
use Rattle.druid_timeline.proofs.MoveLemmas.{exchanged_for_fewer}
use Rattle.druid_timeline.proofs.edit.exchange_for_fewer.Goals as goal

pub returns-clause-runs : goal.returns-clause-runs
returns-clause-runs c =
    let len : c.len.result ≡ length c.args.runs.now.items = search rules in
    let new : c.len-new.result ≡ length c.args.middle.now.items = search rules in
    (exchanged_for_fewer c.args.runs.now.items c.args.middle.now.items c.swap_runs.new.runs.items c.swap_runs.new.others.items c.turn_tail.new.runs.items c.move_end.new.runs.items c.move_end.new.others.items c.args.from c.args.to c.len-new.result _ _ c.requires.inside.0 c.requires.inside.1 new (search rules) refl (ap (λ (n : ℕ). n - (c.args.to - c.args.from - c.len-new.result)) len)
    c.swap_runs.ensures.runs c.swap_runs.ensures.others c.turn_tail.ensures.turned c.move_end.ensures.left c.move_end.ensures.moved).0

pub returns-clause-middle : goal.returns-clause-middle
returns-clause-middle c =
    let len : c.len.result ≡ length c.args.runs.now.items = search rules in
    let new : c.len-new.result ≡ length c.args.middle.now.items = search rules in
    (exchanged_for_fewer c.args.runs.now.items c.args.middle.now.items c.swap_runs.new.runs.items c.swap_runs.new.others.items c.turn_tail.new.runs.items c.move_end.new.runs.items c.move_end.new.others.items c.args.from c.args.to c.len-new.result _ _ c.requires.inside.0 c.requires.inside.1 new (search rules) refl (ap (λ (n : ℕ). n - (c.args.to - c.args.from - c.len-new.result)) len)
    c.swap_runs.ensures.runs c.swap_runs.ensures.others c.turn_tail.ensures.turned c.move_end.ensures.left c.move_end.ensures.moved).1
