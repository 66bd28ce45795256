use Rattle.std.proofs.Common.{ap, refl, ◌∙◌, ◌-ℤ◌}
use Rattle.jiff_core.specs.declared.civil.date.Date.{Date}
use Rattle.jiff_core.specs.Date.{epoch_day}
use Rattle.druid_time.specs.Civil.{Civil, instant_of}
use Rattle.druid_time.proofs.CivilLemmas.{days_until, days_cast}
use Rattle.druid_time.proofs.civil.Civil.instant.Goals as goal

pub overflow_cast-result : goal.overflow_cast-result
overflow_cast-result c =
    let limits = c.is_within_limits.ensures.0 c.if-not-is_within_limits.false in
    let later = c.until-days.ensures.value ∙ ap (λ (x : Date). epoch_day x -ℤ epoch_day c.to_plain.result) c.to_plain-2.ensures in
    let days = days_until c.args.self.now c.to_plain.result c.in-Ok.date c.self.inside.year c.self.inside.month c.self.inside.day c.until-days.result limits (ap (λ (x : Civil). x.year) c.self.view_is) (ap (λ (x : Civil). x.month) c.self.view_is) (ap (λ (x : Civil). x.day) c.self.view_is) (ap epoch_day c.to_plain.ensures) c.in-Ok.ensures.value later in
    (days_cast c.args.self.now c.until-days.result days.1 days.0).1

pub returns : goal.returns
unfolding instant_of
returns c =
    let limits = c.is_within_limits.ensures.0 c.if-not-is_within_limits.false in
    let later = c.until-days.ensures.value ∙ ap (λ (x : Date). epoch_day x -ℤ epoch_day c.to_plain.result) c.to_plain-2.ensures in
    let days = days_until c.args.self.now c.to_plain.result c.in-Ok.date c.self.inside.year c.self.inside.month c.self.inside.day c.until-days.result limits (ap (λ (x : Civil). x.year) c.self.view_is) (ap (λ (x : Civil). x.month) c.self.view_is) (ap (λ (x : Civil). x.day) c.self.view_is) (ap epoch_day c.to_plain.ensures) c.in-Ok.ensures.value later in
    let number = (days_cast c.args.self.now c.until-days.result days.1 days.0).0 in
    (days.1, rw (number, c.time_of_day.ensures.value) refl)
