use Rattle.std.proofs.Common.{refl}
use Rattle.druid_time.specs.Texts.{civil_text}
use Rattle.druid_time.proofs.civil.Civil.text.Goals as goal

pub returns : goal.returns
unfolding civil_text
returns c =
    rw (← c.self.view_is, c.digit.ensures, c.digit-2.ensures, c.digit-3.ensures, c.digit-4.ensures, c.digit-5.ensures, c.digit-6.ensures, c.digit-7.ensures, c.digit-8.ensures, c.digit-9.ensures, c.digit-10.ensures, c.digit-11.ensures, c.digit-12.ensures, c.digit-13.ensures, c.digit-14.ensures, c.digit-15.ensures, c.digit-16.ensures, c.digit-17.ensures) refl
