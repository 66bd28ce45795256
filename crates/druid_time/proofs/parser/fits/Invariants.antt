use Rattle.std.proofs.Common.{◌≡◌, drop}
use Rattle.druid_time.specs.Texts.{fits_form}
use Rattle.druid_time.proofs.parser.fits.Given as goal

abbrev pub invariant-loop-i : goal.invariant-loop-i
invariant-loop-i l = fits_form l.form l.text ≡ fits_form (drop l.i l.form) (drop l.i l.text)
