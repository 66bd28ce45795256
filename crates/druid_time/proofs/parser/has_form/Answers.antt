use Rattle.std.proofs.Common.{sym, ◌∙◌, arith}
use Rattle.druid_time.proofs.ReadLemmas.{has_form-10, has_form-16, has_form-17, has_form-19, has_form-20, has_form-23, has_form-24, has_form-other}
use Rattle.druid_time.proofs.parser.has_form.Goals as goal

pub returns-in-10 : goal.returns-in-10
returns-in-10 c = c.fits.ensures ∙ sym (has_form-10 c.args.text.now c.in-10.is)

pub returns-in-16 : goal.returns-in-16
returns-in-16 c = c.fits-in-16.ensures ∙ sym (has_form-16 c.args.text.now c.in-16.is)

pub returns-in-17 : goal.returns-in-17
returns-in-17 c = c.fits-in-17.ensures ∙ sym (has_form-17 c.args.text.now c.in-17.is)

pub returns-in-19 : goal.returns-in-19
returns-in-19 c = c.fits-in-19.ensures ∙ sym (has_form-19 c.args.text.now c.in-19.is)

pub returns-in-20 : goal.returns-in-20
returns-in-20 c = c.fits-in-20.ensures ∙ sym (has_form-20 c.args.text.now c.in-20.is)

pub returns-in-23 : goal.returns-in-23
returns-in-23 c = c.fits-in-23.ensures ∙ sym (has_form-23 c.args.text.now c.in-23.is)

pub returns-in-24 : goal.returns-in-24
returns-in-24 c = c.fits-in-24.ensures ∙ sym (has_form-24 c.args.text.now c.in-24.is)

pub returns-in_default : goal.returns-in_default
returns-in_default c = sym (has_form-other c.args.text.now (omega arith) (omega arith) (omega arith) (omega arith) (omega arith) (omega arith) (omega arith))
