use Rattle.std.proofs.Common.{ap, sym, ◌∙◌, Some, None}
use Rattle.std.specs.Option.{option_copied}
use Rattle.druid_sync_history.proofs.SetLemmas.{holds-is}
use Rattle.druid_sync_history.proofs.segments.Segments.holds.Goals as goal

pub returns-in-Some : goal.returns-in-Some
returns-in-Some c =
    let found = sym (ap option_copied c.in-Some.is) ∙ c.get.ensures.value in
    c.eq.ensures ∙ holds-is c.self.inside.entries.entries c.args.segment.now c.id.result.now c.args.self.now (Some c.in-Some.held.now) c.id.ensures.value c.id.ensures.valid c.self.invariant c.self.view_is found

pub returns-in-None : goal.returns-in-None
returns-in-None c =
    let found = sym (ap option_copied c.in-None.is) ∙ c.get.ensures.value in
    holds-is c.self.inside.entries.entries c.args.segment.now c.id.result.now c.args.self.now None c.id.ensures.value c.id.ensures.valid c.self.invariant c.self.view_is found
