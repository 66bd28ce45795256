use Rattle.std.proofs.Common.{ap, ◌∙◌}
use Rattle.druid_time.specs.Texts.{instant_text, civil_text}
use Rattle.druid_time.specs.Civil.{civil_of}
use Rattle.druid_time.proofs.instant.Instant.write.Goals as goal

pub returns : goal.returns
unfolding instant_text
returns c = c.text.ensures ∙ ap civil_text c.of_instant.ensures ∙ ap (λ t. civil_text (civil_of t)) c.self.view_is
