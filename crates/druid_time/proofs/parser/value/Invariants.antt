use Rattle.std.proofs.Common.{◌≡◌, take}
use Rattle.druid_time.specs.Texts.{digits_value}
use Rattle.druid_time.proofs.parser.value.Given as goal

abbrev pub invariant-loop-digit : goal.invariant-loop-digit
invariant-loop-digit l = l.number ≡ digits_value (take l.digit-index l.digits)
