-- The router leads where the routes do.
use Rattle.std.proofs.Common.{◌≡◌, ◌==◌, ◌<◌, ℕ, suc, min, get_or, [], ◌∷◌, arith, ◌⊎◌, inl, inr, ◌≤◌, Bool, true, false, cond, ◌&&◌, List, length, take, drop, codes, bytes_eq, Option, Some, None, refl, sym, ap, ◌∙◌, subst}
use Rattle.std.specs.List.{AllByRecursion}
use Rattle.std.proofs.lemmas.Slice.Eq.{bytes_eq-Decides}
use Rattle.std.proofs.Math.Dec.{leb}
use Rattle.std.proofs.lemmas.Bool.Decides.{nat_tests, leb_tells}
use Rattle.std.proofs.lemmas.List.{drop_all}
use Rattle.matchit.specs.Rows.{RowsOf}
use Rattle.matchit.specs.Router.{RouteOf}
use Rattle.druid_broker.specs.declared.routes.RouteKind.{RouteKind}
use Rattle.matchit.specs.Seek.{or_else, first}
use Rattle.druid_broker.specs.Routes.{entry, nowhere, entry_front, is_part, entry_route, route_of}
use Rattle.druid_broker.specs.Rows.{entry_row, path_rows, the_rows, reported}
use Rattle.druid_broker.proofs.RowLemmas.{literal, with_part, seek_part, part_beyond}

-- the row that a path matches
abbrev found : List ℕ → Option (RouteOf RouteKind)
found path = or_else (literal path_rows path) (with_part entry_front entry_row.1 path)

abbrev IsRight : List ℕ → Type 0
IsRight path = reported (found path) path ≡ route_of path

-- a path that is written out
right_at : (text path : List ℕ) → IsRight text → bytes_eq path text ≡ true → IsRight path
right_at text path right same = subst (λ p. IsRight p) (sym ((bytes_eq-Decides path text).0 same)) right

beyond : (path : List ℕ) → reported (with_part entry_front entry_row.1 path) path ≡ entry_route path
beyond path = ap (λ o. reported o path) (part_beyond entry_front entry_row.1 path) ∙ by (bytes_eq (take (length entry_front) path) entry_front && is_part (drop (length entry_front) path))
  where
    by : (v : Bool) → reported (cond v (Some entry_row.1) None) path ≡ cond v (entry (drop (length entry_front) path)) nowhere
    by true = refl
    by false = refl

cases : (path : List ℕ) (h q q2 s l : Bool) → bytes_eq path (codes "/status/health") ≡ h → bytes_eq path (codes "/druid/v2") ≡ q → bytes_eq path (codes "/druid/v2/") ≡ q2
    → bytes_eq path (codes "/druid/v2/datasources") ≡ s → bytes_eq path (codes "/druid/broker/v1/loadstatus") ≡ l → IsRight path
cases path true q q2 s l eh eq eq2 es el = right_at (codes "/status/health") path refl eh
cases path false true q2 s l eh eq eq2 es el = right_at (codes "/druid/v2") path refl eq
cases path false false true s l eh eq eq2 es el = right_at (codes "/druid/v2/") path refl eq2
cases path false false false true l eh eq eq2 es el = right_at (codes "/druid/v2/datasources") path refl es
cases path false false false false true eh eq eq2 es el = right_at (codes "/druid/broker/v1/loadstatus") path refl el
cases path false false false false false eh eq eq2 es el = rw (eh, eq, eq2, es, el) (beyond path)

right : (path : List ℕ) → IsRight path
right path =
    cases path (bytes_eq path (codes "/status/health")) (bytes_eq path (codes "/druid/v2")) (bytes_eq path (codes "/druid/v2/"))
    (bytes_eq path (codes "/druid/v2/datasources")) (bytes_eq path (codes "/druid/broker/v1/loadstatus")) refl refl refl refl refl

pub leads : (path : List ℕ) → AllByRecursion (λ b. (256 == b) ≡ false) path → reported (first the_rows path) path ≡ route_of path
leads path low = ap (λ o. reported o path) (seek_part entry_front entry_row.1 path_rows path refl (refl, (refl, (refl, (refl, (refl, tt))))) low) ∙ right path

-- what was found, over a router of these rows
pub leads_to : (rows : RowsOf (RouteOf RouteKind)) (path : List ℕ) (o : Option (RouteOf RouteKind)) → rows ≡ the_rows → AllByRecursion (λ b. (256 == b) ≡ false) path
    → first rows path ≡ o → reported o path ≡ route_of path
leads_to rows path o are low is = ap (λ p. reported p path) (sym is) ∙ ap (λ r. reported (first r path) path) are ∙ leads path low

-- bytes are no tokens of parts
is_byte : (b : ℕ) → b < 256 → (256 == b) ≡ false
is_byte b h = by (256 == b) refl
  where
    by : (v : Bool) → (256 == b) ≡ v → (256 == b) ≡ false
    by true e = let same : 256 ≡ b = grind (arith, nat_tests) in absurd (omega (arith, h, same))
    by false e = e

pub are_bytes : (path : List ℕ) → ((i : ℕ) → get_or path i 0 < 256) → AllByRecursion (λ b. (256 == b) ≡ false) path
are_bytes [] h = tt
are_bytes (b ∷ path) h = (is_byte b (h 0), are_bytes path (λ i. h (suc i)))

pub front_end : (path : List ℕ) (n : ℕ) → drop (min (length path) n) path ≡ drop n path
front_end path n = by (leb_tells (length path) n)
  where
    by : ((leb (length path) n ≡ true) × (length path ≤ n)) ⊎ ((leb (length path) n ≡ false) × (n < length path)) → drop (min (length path) n) path ≡ drop n path
    by (inl (is, all)) =
        let e : min (length path) n ≡ length path = omega (arith, all) in
        ap (λ k. drop k path) e ∙ drop_all (length path) path (omega arith) ∙ sym (drop_all n path all)
    by (inr (is, some)) =
        let e : min (length path) n ≡ n = omega (arith, some) in
        ap (λ k. drop k path) e
