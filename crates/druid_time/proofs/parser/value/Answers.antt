use Rattle.std.proofs.Common.{arith, ◌≡◌, take}
use Rattle.druid_time.specs.Texts.{digits_value}
use Rattle.druid_time.proofs.ReadLemmas.{digits_value-small}
use Rattle.druid_time.proofs.parser.value.Goals as goal

pub overflow_mul-number : goal.overflow_mul-number
overflow_mul-number c =
    let so_far : c.loop-digit.number ≡ digits_value (take c.loop-digit.digit-index c.args.digits.now) = c.loop-digit.invariant in
    let small = digits_value-small c.args.digits.now c.loop-digit.digit-index (omega arith) c.type_inv.digits in
    omega arith

pub overflow_add-number : goal.overflow_add-number
overflow_add-number c =
    let so_far : c.loop-digit.number ≡ digits_value (take c.loop-digit.digit-index c.args.digits.now) = c.loop-digit.invariant in
    let small = digits_value-small c.args.digits.now c.loop-digit.digit-index (omega arith) c.type_inv.digits in
    omega arith
