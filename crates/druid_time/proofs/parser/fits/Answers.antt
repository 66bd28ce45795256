use Rattle.std.proofs.Common.{sym, ◌∙◌, arith, length, ◌<◌, ◌≤◌}
use Rattle.druid_time.proofs.ReadLemmas.{fits_form-length, fits_form-stops, fits_form-goes, fits_form-end}
use Rattle.druid_time.proofs.parser.fits.Goals as goal

pub returns-then-form-text : goal.returns-then-form-text
returns-then-form-text c = sym (fits_form-length c.args.form.now c.args.text.now c.if-form-text.true)

pub returns-then-not-byte_fits : goal.returns-then-not-byte_fits
returns-then-not-byte_fits c =
    let here : c.loop-i.i < length c.args.form.now = omega arith in
    let there : c.loop-i.i < length c.args.text.now = omega arith in
    sym (c.loop-i.invariant ∙ fits_form-stops c.args.form.now c.args.text.now c.loop-i.i c.byte_fits.result here there c.byte_fits.ensures c.if-not-byte_fits.true)

pub loop-i-preserved : goal.loop-i-preserved
loop-i-preserved c =
    let here : c.loop-i.i < length c.args.form.now = omega arith in
    let there : c.loop-i.i < length c.args.text.now = omega arith in
    c.loop-i.invariant ∙ fits_form-goes c.args.form.now c.args.text.now c.loop-i.i c.byte_fits.result here there c.byte_fits.ensures c.if-not-byte_fits.false

pub returns : goal.returns
returns c =
    let over : length c.args.form.now ≤ c.loop-i.i = omega arith in
    let past : length c.args.text.now ≤ c.loop-i.i = omega arith in
    sym (c.loop-i.invariant ∙ fits_form-end c.args.form.now c.args.text.now c.loop-i.i over past)
