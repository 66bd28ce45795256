use Rattle.std.proofs.Common.{arith, refl, ◌/◌, ap, sym, ◌<◌, ◌^◌}
use Rattle.std.proofs.lemmas.Bool.{false≢true}
use Rattle.jiff_core.proofs.DateLemmas.{civil}
use Rattle.jiff_core.specs.Date.{epoch_day}
use Rattle.druid_time.proofs.CivilLemmas.{civil_of-date, days_later, year_of, epoch_day-limit}
use Rattle.druid_time.proofs.civil.Civil.of_instant.Goals as goal

pub unreachable-requires : goal.unreachable-requires
unreachable-requires c =
    let start = ap epoch_day c.to_plain.ensures in
    let days : c.args.instant / 86_400_000 < 3_652_425 = omega (arith, c.requires) in
    let can = epoch_day-limit _ (c.args.instant / 86_400_000) start days in
    false≢true (c.in_default.ensures.succeeds.1 can)

pub overflow_cast-result : goal.overflow_cast-result
overflow_cast-result c =
    let date = c.in-Ok.date in
    let start = ap epoch_day c.to_plain.ensures in
    let days : c.args.instant / 86_400_000 < 2 ^ 63 = omega (arith, c.requires) in
    let day = days_later _ _ _ start days c.in-Ok.ensures.value in
    (year_of date.year date.month date.day _ (civil date) day).1

pub returns : goal.returns
returns c =
    let date = c.in-Ok.date in
    let start = ap epoch_day c.to_plain.ensures in
    let days : c.args.instant / 86_400_000 < 2 ^ 63 = omega (arith, c.requires) in
    let day = days_later _ _ _ start days c.in-Ok.ensures.value in
    let year = (year_of date.year date.month date.day _ (civil date) day).0 in
    sym (civil_of-date _ c.args.instant date.year year (civil date) day refl refl refl refl)
