use Rattle.std.proofs.Common.{◌≡◌, ◌≤◌, ◌-◌, ℕ, length, refl, sym, subst, arith, rules}
use Rattle.std.specs.Vec.{vec_capacity}
use Rattle.druid_timeline.specs.declared.edit.Edit.{Edit}
use Rattle.druid_timeline.specs.Exchanges.{ExchangesBack}
use Rattle.druid_timeline.proofs.MoveLemmas.{exchanges_back}
use Rattle.druid_timeline.proofs.edit.exchange.Goals as goal

pub returns-clause-back : goal.returns-clause-back
returns-clause-back c =
    let before : c.len.result ≡ length c.args.runs.now.items = search rules in
    let after : c.len-2.result ≡ length c.exchange_runs.new.runs.items = search rules in
    let full : length c.args.runs.now.items ≤ vec_capacity c.args.runs.now = search rules in
    let own : length c.args.edit.runs.items ≤ vec_capacity c.args.edit.runs = search rules in
    let edit : Edit = record { from = c.args.edit.from; to = c.len-2.result - (c.len.result - c.args.edit.to); runs = c.exchange_runs.new.middle } in
    let end : edit.to ≡ length c.exchange_runs.new.runs.items - (length c.args.runs.now.items - c.args.edit.to) = omega (arith, before, after) in
    subst (λ (n : ℕ). ExchangesBack c.args.runs.now.items c.exchange_runs.new.runs.items n edit) (sym c.exchange_runs.ensures.capacity)
    (exchanges_back c.args.runs.now.items c.exchange_runs.new.runs.items (vec_capacity c.args.runs.now) c.args.edit edit
    c.requires full own c.exchange_runs.ensures.runs refl end c.exchange_runs.ensures.middle c.exchange_runs.ensures.middle_capacity)
