use Rattle.std.proofs.Common.{length, drop, sym, ◌∙◌, ap}
use Rattle.druid_broker.specs.Rows.{place_route}
use Rattle.druid_broker.specs.Routes.{entry, entry_front}
use Rattle.druid_broker.proofs.RouteLemmas.{leads_to, are_bytes}
use Rattle.druid_broker.proofs.routes.Routes.route_of.Goals as goal

pub returns-in_default : goal.returns-in_default
returns-in_default c =
    leads_to c.args.self.now.router c.args.path.now _ c.args.self.now.rows (are_bytes c.args.path.now (λ i. (c.type_inv.path i).fits))
    c.in_default.ensures.missing

pub returns-in-Health : goal.returns-in-Health
returns-in-Health c =
    ap (λ p. place_route p c.args.path.now) (sym c.in-Health.is)
    ∙ leads_to c.args.self.now.router c.args.path.now _ c.args.self.now.rows (are_bytes c.args.path.now (λ i. (c.type_inv.path i).fits))
    c.in-Ok.ensures.found

pub returns-in-Query : goal.returns-in-Query
returns-in-Query c =
    ap (λ p. place_route p c.args.path.now) (sym c.in-Query.is)
    ∙ leads_to c.args.self.now.router c.args.path.now _ c.args.self.now.rows (are_bytes c.args.path.now (λ i. (c.type_inv.path i).fits))
    c.in-Ok.ensures.found

pub returns-in-Sources : goal.returns-in-Sources
returns-in-Sources c =
    ap (λ p. place_route p c.args.path.now) (sym c.in-Sources.is)
    ∙ leads_to c.args.self.now.router c.args.path.now _ c.args.self.now.rows (are_bytes c.args.path.now (λ i. (c.type_inv.path i).fits))
    c.in-Ok.ensures.found

pub returns-in-LoadStatus : goal.returns-in-LoadStatus
returns-in-LoadStatus c =
    ap (λ p. place_route p c.args.path.now) (sym c.in-LoadStatus.is)
    ∙ leads_to c.args.self.now.router c.args.path.now _ c.args.self.now.rows (are_bytes c.args.path.now (λ i. (c.type_inv.path i).fits))
    c.in-Ok.ensures.found

pub returns-in-Entry : goal.returns-in-Entry
returns-in-Entry c =
    ap (λ part. entry part) (c.beyond_front.ensures ∙ ap (λ path. drop (length entry_front) path) c.as_bytes.ensures.value) ∙ ap (λ p. place_route p c.args.path.now) (sym c.in-Entry.is)
    ∙ leads_to c.args.self.now.router c.args.path.now _ c.args.self.now.rows (are_bytes c.args.path.now (λ i. (c.type_inv.path i).fits))
    c.in-Ok.ensures.found
