use Rattle.std.proofs.Common.{◌≡◌, ◌<◌, ℕ, Option, length, sym, subst, rules}
use Rattle.std.specs.Prelude.{IfSome}
use Rattle.druid_partial_scan.specs.Places.{place_in}
use Rattle.druid_partial_scan.proofs.PlaceLemmas.{place_inside}
use Rattle.druid_partial_scan.proofs.code_filter.dimension_of.Goals as goal

pub returns-clause-inside : goal.returns-clause-inside
returns-clause-inside c =
    let names = c.args.segment.now.fields.dimensions in
    let e : c.place_of.result ≡ place_in names c.args.name.now = search rules in
    let P : Option ℕ → Type 0 = λ r. IfSome r (λ place. place < length names) in subst P (sym e) (place_inside names c.args.name.now)
