use Rattle.std.proofs.Common.{ℕ, List, rules}
use Rattle.std.specs.BTreeSet.{contains}
use Rattle.druid_query.specs.Asked.{Asked}
use Rattle.druid_partial.specs.Partials.{IsPartial, IsPartialFor}
use Rattle.druid_link.specs.Links.{came_of}
use Rattle.druid_broker_scatter.specs.Gathered.{Answers, IsLost}
use Rattle.druid_broker_scatter.specs.Pending.{ReportsPlaces, at_cmp, exchange_of}
use Rattle.druid_broker_scatter.proofs.ReadLemmas.{at_some, at_none, one_lacks, one_lost, one_reported, stepped}
use Rattle.druid_broker_scatter.proofs.exchange.ask_one.Goals as goal

pub returns-in-Ok-Some : goal.returns-in-Ok-Some
returns-in-Ok-Some g c =
    let x = c.args.exchange.now in
    let came = came_of c.exchange-came.result in (
      came,
      stepped g.L.Link.exchanges x.sub x.bytes.items _ came c.args.link.now c.exchange-came.new.self x.asks (search rules) c.exchange-came.ensures.step,
      one_reported c.args.query.now x.sub came x.node (contains at_cmp c.in-Ok-Some.places) c.in-Ok-Some.partial c.requires
          (at_some c.in-Ok-Some.field-0 (c.in-Ok-Some.places, c.in-Ok-Some.partial) (λ r. (missing : List Asked) × ((node : ℕ) → Answers x.sub.query (exchange_of x.sub came node) missing r.1.groups) × ReportsPlaces (contains at_cmp r.0) missing)
          c.in-Ok-Some.field-0-is c.in-Ok-Some.ensures.some)
          (at_some c.in-Ok-Some.field-0 (c.in-Ok-Some.places, c.in-Ok-Some.partial) (λ r. IsPartialFor x.sub.query r.1) c.in-Ok-Some.field-0-is c.in-Ok-Some.ensures.of_query)
          (at_some c.in-Ok-Some.field-0 (c.in-Ok-Some.places, c.in-Ok-Some.partial) (λ r. IsPartial r.1) c.in-Ok-Some.field-0-is c.in-Ok-Some.ensures.valid),
    )

pub returns-in-Ok-None : goal.returns-in-Ok-None
returns-in-Ok-None g c =
    let x = c.args.exchange.now in
    let came = came_of c.exchange-came.result in (
      came,
      stepped g.L.Link.exchanges x.sub x.bytes.items _ came c.args.link.now c.exchange-came.new.self x.asks (search rules) c.exchange-came.ensures.step,
      one_lost c.args.query.now x.sub came x.node c.requires
          (at_none c.in-Ok-None.field-0 ((node : ℕ) → IsLost x.sub.query (exchange_of x.sub came node)) c.in-Ok-None.field-0-is c.in-Ok-None.ensures.none),
    )

pub returns : goal.returns
returns g c =
    let x = c.args.exchange.now in
    let came = came_of c.exchange-came.result in (
      came,
      stepped g.L.Link.exchanges x.sub x.bytes.items _ came c.args.link.now c.exchange-came.new.self x.asks (search rules) c.exchange-came.ensures.step,
      one_lacks x.sub came x.node c.in-Err.ensures.err,
    )
