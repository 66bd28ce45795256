-- The earliest instant of a query's intervals.
use Rattle.std.proofs.Common.{◌≡◌, ℕ, ◌+◌, ◌<◌, min, arith, List, [], ◌∷◌, ◌++◌, length, get_or, take, Option, Some, None, Result, Ok, Bool, true, false, codes, option_and_then, refl, sym, ap, ◌∙◌}
use Rattle.std.proofs.lemmas.List.{take_more}
use Rattle.std.proofs.lemmas.Option.{same_Some}
use Rattle.serde_json.specs.Data.{Data, Items}
use Rattle.serde_json.specs.Find.{get}
use Rattle.druid_time.specs.Extent.{Extent}
use Rattle.druid_time.specs.Results.{◌>>=◌}
use Rattle.druid_query.specs.Query.{Query}
use Rattle.druid_base.specs.Each.{each_of}
use Rattle.druid_query.specs.Fields.{interval_texts, interval_of}
use Rattle.druid_query.specs.Refusal.{Refusal, bad_field, bad_interval, limit_passed, or_refuse, when}
use Rattle.druid_query.specs.Read.{IsQuery, intervals_at, list_of, fit_intervals}
use Rattle.druid_query.proofs.PartLemmas.{parts_whole}
use Rattle.druid_query.proofs.SoundLemmas.{HasItem, texts_item, IsSomeList, read_some}
use Rattle.druid_partial.specs.Partials.{earliest}
use Rattle.druid_partial.specs.First.{joined, first_of}

-- ---- one interval more

earliest_more : (e : Extent) (more : List Extent) (f : Extent) → earliest ((e ∷ more) ++ f ∷ []) ≡ min (earliest (e ∷ more)) f.start
earliest_more e [] f = refl
earliest_more e (g ∷ more) f = ap (min e.start) (earliest_more g more f) ∙ min_joined e.start (earliest (g ∷ more)) f.start
  where
    min_joined : (a b c : ℕ) → min a (min b c) ≡ min (min a b) c
    min_joined a b c = omega arith

first_more : (es : List Extent) (f : Extent) → first_of (es ++ f ∷ []) ≡ joined (first_of es) f.start
first_more [] f = refl
first_more (e ∷ more) f = ap Some (earliest_more e more f)

pub first_next : (es : List Extent) (i : ℕ) (e : Extent) (found now : Option ℕ) → i < length es → e ≡ get_or es i e → found ≡ first_of (take i es) → now ≡ joined found e.start
    → now ≡ first_of (take (i + 1) es)
first_next es i e found now h is before next =
    next ∙ ap (λ o. joined o e.start) before ∙ ap (λ (f : Extent). joined (first_of (take i es)) f.start) is
    ∙ sym (ap first_of (take_more es i e h) ∙ first_more (take i es) (get_or es i e))

-- ---- a query asks for some interval

read_of : {A : Type 0} (o : Option (List A)) (e : Refusal) (fits : List A → Bool) (all : List A) → (or_refuse o e >>= λ xs. when (fits xs) xs limit_passed) ≡ Ok all → o ≡ Some all
read_of None e fits all h = absurd (cc)
read_of {A} (Some xs) e fits all h = ap Some (through (fits xs) h)
  where
    same_Ok : (p q : List A) → ◌≡◌ {A = Result (List A) Refusal} (Ok p) (Ok q) → p ≡ q
    same_Ok p q e' = cc

    through : (b : Bool) → when b xs limit_passed ≡ Ok all → xs ≡ all
    through true h = same_Ok xs all h
    through false h = absurd (cc)

asks : (o : Option Items) (all : List Extent) → ((ds : Items) → o ≡ Some ds → HasItem ds)
    → list_of o (bad_field (codes "intervals")) interval_of bad_interval fit_intervals ≡ Ok all → IsSomeList all
asks None all items h = absurd (cc)
asks (Some ds) all items h = read_some interval_of ds all (items ds refl) (read_of (each_of interval_of ds) bad_interval fit_intervals all h)

item_of : (o : Option Data) (ds : Items) → option_and_then interval_texts o ≡ Some ds → HasItem ds
item_of None ds h = absurd (cc)
item_of (Some e) ds h = texts_item e ds h

intervals_there : (d : Data) (all : List Extent) → intervals_at d ≡ Ok all → IsSomeList all
unfolding intervals_at
intervals_there d all h =
    asks (option_and_then interval_texts (get (codes "intervals") d)) all (λ ds. item_of (get (codes "intervals") d) ds) h

pub query_asks : (q : Query) → IsQuery q → IsSomeList q.intervals
query_asks q (d, read) = intervals_there d q.intervals (parts_whole d q read).intervals

pub not_none : (es : List Extent) → IsSomeList es → None ≡ first_of es → ⊥
not_none [] some none = some
not_none (e ∷ more) some none = cc

pub first_there : (es : List Extent) (t : ℕ) → Some t ≡ first_of es → t ≡ earliest es
first_there [] t is = absurd (cc)
first_there (e ∷ more) t is = same_Some t (earliest (e ∷ more)) is
