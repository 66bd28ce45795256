use Rattle.druid_broker_follow.specs.Pages.{HaveCome, request_at, segments_of}
use Rattle.druid_broker_follow.proofs.pages.complete.Given as goal

abbrev pub invariant-loop-page : goal.invariant-loop-page
invariant-loop-page g l = HaveCome g.L.Link.exchanges (request_at l.path) l.at l.of (segments_of l.first) l.page l.assembly l.initial.link l.link
