-- What is gathered, round after round.
use Rattle.std.proofs.Common.{◌≡◌, ◌∙◌, inl, inr, ℕ, Bool, true, false, cond, List, [], ◌∷◌, ◌++◌, map, filter, Contains, append_assoc, sym, ap, subst}
use Rattle.std.specs.List.{AllByRecursion}
use Rattle.std.specs.List.Sorted.{IsStrictlySortedBy}
use Rattle.std.specs.declared.cmp.Ordering.{Ordering}
use Rattle.std.specs.declared.cmp.Ordering.TheVariants.{Less}
use Rattle.std.proofs.lemmas.List.Elements.{All-contains}
use Rattle.std.proofs.lemmas.List.Sorted.{All-permutation}
use Rattle.druid_query.specs.Asked.{Asked}
use Rattle.druid_query.specs.Query.{Query}
use Rattle.druid_partial.specs.Groups.{Group, IsResult}
use Rattle.druid_partial.specs.Partials.{Partial, HasNumbers, IsPartial, IsPartialFor, IsGroupFor, kinds_of}
use Rattle.druid_partial.proofs.MergedLemmas.{settled}
use Rattle.druid_broker_scatter.specs.Plan.{place_cmp}
use Rattle.druid_broker_scatter.specs.Gathered.{Exchange, Answers, AllReport}
use Rattle.druid_broker_scatter.specs.Pending.{PendingSlice, pieces_of, wanted_of, has_turn, at_cmp, place_of}
use Rattle.druid_broker_scatter.proofs.AskedLemmas.{own_keys}
use Rattle.druid_broker_scatter.proofs.WaitLemmas.{at_cmp-total}

-- ---- partials

-- the groups of a partial are the result over themselves
pub reports_itself : (p : Partial) → IsPartial p → IsResult p.kinds p.groups p.groups
reports_itself p valid = settled p.kinds p.groups valid.ordered (λ g c. All-contains (HasNumbers p.kinds) p.groups g valid.numbers c)

-- an answer's groups are groups of the query
pub partial_reported : (query : Query) (e : Exchange) (missing : List Asked) (p : Partial) → Answers query e missing p.groups → p.kinds ≡ kinds_of query → IsPartialFor query p
partial_reported query e missing p a kinds = record {
  kinds = kinds;
  each = All-permutation (IsGroupFor query) a.reported.reported.rows p.groups a.reported.reported.same a.reported.reported.listed.each;
}

-- ---- what is reported

pub report_both : (query : Query) (xs ys : List Exchange) (a b : List Group) → AllReport query xs a → AllReport query ys b → AllReport query (xs ++ ys) (a ++ b)
report_both query [] ys a b t u = subst (AllReport query ys) (sym (ap (λ (r : List Group). r ++ b) t)) u
report_both query (x ∷ xs) ys a b (inl t) u = inl (t.0, t.1, t.2 ++ b, t.3, report_both query xs ys t.2 b t.4 u, ap (λ (r : List Group). r ++ b) t.5 ∙ append_assoc t.1 t.2 b)
report_both query (x ∷ xs) ys a b (inr t) u = inr (t.0, report_both query xs ys a b t.1 u)

-- ---- order

each_below : (a : Asked) (xs : List Asked) → AllByRecursion (λ y. place_cmp a y ≡ Less) xs → AllByRecursion (λ q. at_cmp (place_of a) q ≡ Less) (map place_of xs)
each_below a [] h = tt
each_below a (x ∷ xs) h = (h.0, each_below a xs h.1)

places_sorted : (xs : List Asked) → IsStrictlySortedBy place_cmp xs → IsStrictlySortedBy at_cmp (map place_of xs)
unfolding IsStrictlySortedBy
places_sorted [] s = tt
places_sorted (x ∷ xs) s = (each_below x xs s.0, places_sorted xs s.1)

-- at one place stands one piece
pub one_piece : (xs : List Asked) → IsStrictlySortedBy place_cmp xs → (a b : Asked) → Contains xs a → Contains xs b → place_of a ≡ place_of b → a ≡ b
one_piece xs s = own_keys at_cmp at_cmp-total place_of xs (places_sorted xs s)

kept_all : {X K : Type 0} (f : X → K) (P : K → Type 0) (p : X → Bool) (xs : List X) → AllByRecursion P (map f xs) → AllByRecursion P (map f (filter p xs))
kept_all f P p [] h = tt
kept_all f P p (x ∷ xs) h =
    let more = kept_all f P p xs h.1 in
    elim (p x) as (λ b. AllByRecursion P (map f (cond b (x ∷ filter p xs) (filter p xs)))) [ true ↦ (h.0, more) | false ↦ more ]

pub sorted_filter : {X K : Type 0} (R : K → K → Ordering) (f : X → K) (p : X → Bool) (xs : List X) → IsStrictlySortedBy R (map f xs) → IsStrictlySortedBy R (map f (filter p xs))
unfolding IsStrictlySortedBy
sorted_filter R f p [] s = tt
sorted_filter R f p (x ∷ xs) s =
    let more = sorted_filter R f p xs s.1 in
    elim (p x) as (λ b. IsStrictlySortedBy R (map f (cond b (x ∷ filter p xs) (filter p xs)))) [ true ↦ (kept_all f (λ y. R (f x) y ≡ Less) p xs s.0, more) | false ↦ more ]

-- what a node is asked for is in the order of the plan
pub wanted_sorted : (round node : ℕ) (left : List PendingSlice) → IsStrictlySortedBy place_cmp (pieces_of left) → IsStrictlySortedBy place_cmp (wanted_of round left node)
wanted_sorted round node left s = sorted_filter place_cmp (λ (w : PendingSlice). w.asked) (has_turn round node) left s
