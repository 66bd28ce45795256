use Rattle.std.proofs.Common.{sym}
use Rattle.druid_time.proofs.TextLemmas.{instant_at-not, instant_at-None, instant_at-Some}
use Rattle.druid_time.proofs.instant.Instant.parse.Goals as goal

pub returns-then-not-has_form-clause-value : goal.returns-then-not-has_form-clause-value
returns-then-not-has_form-clause-value c =
    sym (instant_at-not c.args.text.now c.as_bytes-bytes.result.now c.has_form.result c.as_bytes-bytes.ensures.value c.has_form.ensures c.if-not-has_form.true)

pub invariant_of-result : goal.invariant_of-result
invariant_of-result c =
    (instant_at-Some c.args.text.now c.as_bytes-bytes.result.now c.has_form.result c.read.result c.in-Some.since_year_zero c.as_bytes-bytes.ensures.value c.has_form.ensures c.if-not-has_form.false c.read.ensures c.in-Some.ensures).1

pub returns-in-Some-clause-value : goal.returns-in-Some-clause-value
returns-in-Some-clause-value c =
    sym (instant_at-Some c.args.text.now c.as_bytes-bytes.result.now c.has_form.result c.read.result c.in-Some.since_year_zero c.as_bytes-bytes.ensures.value c.has_form.ensures c.if-not-has_form.false c.read.ensures c.in-Some.ensures).0

pub returns-in-Some-clause-range : goal.returns-in-Some-clause-range
returns-in-Some-clause-range c =
    (instant_at-Some c.args.text.now c.as_bytes-bytes.result.now c.has_form.result c.read.result c.in-Some.since_year_zero c.as_bytes-bytes.ensures.value c.has_form.ensures c.if-not-has_form.false c.read.ensures c.in-Some.ensures).1

pub returns-in-None-clause-value : goal.returns-in-None-clause-value
returns-in-None-clause-value c =
    sym (instant_at-None c.args.text.now c.as_bytes-bytes.result.now c.has_form.result c.read.result c.as_bytes-bytes.ensures.value c.has_form.ensures c.if-not-has_form.false c.read.ensures c.in-None.ensures)
