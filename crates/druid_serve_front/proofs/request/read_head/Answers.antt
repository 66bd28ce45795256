use Rattle.std.proofs.Common.{◌≡◌, ◌+◌, ◌≤◌, ◌++◌, length, length-append, ap, subst, rules, arith}
use Rattle.druid_http_wire.specs.Limits.{max_head}
use Rattle.druid_http_wire.specs.Missing.{IsAnswerable, LacksMore}
use Rattle.druid_serve_front.proofs.ReadLemmas.{awaits_nothing, awaits_more, took_more}
use Rattle.druid_serve_front.proofs.request.read_head.Goals as goal

pub returns-in-Nothing : goal.returns-in-Nothing
returns-in-Nothing g c =
    let grown = c.in_ok-read_some.ensures.grown in
    let long : length c.read_some.new.bytes.items ≡ length (c.loop-turn.bytes.items ++ grown.0) = ap length grown.1 in
    let part : length c.read_some.new.part ≤ max_head + 1 = search rules in
    let before = c.loop-turn.invariant.bound in
    let more = grown.3 in (
      awaits_nothing c.read_some.new.bytes.items (subst IsAnswerable c.deref.ensures.value c.in-Nothing.ensures)
          (omega (arith, long, part, before, more, length-append c.loop-turn.bytes.items grown.0)),
      took_more _ _ grown.0 _ _ _ grown.1 c.loop-turn.invariant.taken grown.4,
    )

pub returns-in-Body : goal.returns-in-Body
returns-in-Body g c =
    let grown = c.in_ok-read_some.ensures.grown in (
      awaits_more c.read_some.new.bytes.items c.in-Body.count (subst (λ (l : _). LacksMore l c.in-Body.count) c.deref.ensures.value c.in-Body.ensures),
      took_more _ _ grown.0 _ _ _ grown.1 c.loop-turn.invariant.taken grown.4,
    )
