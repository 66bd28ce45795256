use Rattle.std.proofs.Common.{◌≡◌, ◌≤◌, None, Some, sym, rules}
use Rattle.druid_base.specs.Numbers.{number_at}
use Rattle.druid_folder_incarnation.proofs.Decimal.{spells, spells_no_number, spells_zero}
use Rattle.druid_folder_incarnation.proofs.incarnation.decimal_in.Goals as goal

pub returns-in_err-number-clause-none : goal.returns-in_err-number-clause-none
returns-in_err-number-clause-none c =
    let none : number_at c.args.digits.now ≡ None = search rules in
    rw c.from_residual.ensures (spells_no_number c.args.digits.now (sym none))

pub returns-then-number-eq0-clause-none : goal.returns-then-number-eq0-clause-none
returns-then-number-eq0-clause-none c =
    let is : number_at c.args.digits.now ≡ Some c.in_ok-number.number = search rules in
    let zero : c.in_ok-number.number ≡ 0 = search rules in
    spells_zero c.args.digits.now c.in_ok-number.number (sym is) zero

pub returns-clause-found : goal.returns-clause-found
returns-clause-found c =
    let is : number_at c.args.digits.now ≡ Some c.in_ok-number.number = search rules in
    let some : 1 ≤ c.in_ok-number.number = search rules in
    spells c.args.digits.now c.in_ok-number.number (sym is) some
