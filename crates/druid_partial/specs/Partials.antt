-- Partials of a query: what it tells of some rows.
use Rattle.std.specs.Prelude.{◌≡◌, ℕ, min, List, [], ◌∷◌, length, map, slice_get, All, Some, IsSome, unwrap_or}
use Rattle.druid_time.specs.Extent.{Extent}
use Rattle.druid_time.specs.Granularity.{bucket_at}
use Rattle.druid_query.specs.Query.{Query}
use Rattle.druid_query.specs.declared.aggregator.AggregatorKind.{AggregatorKind}
use Rattle.druid_query.specs.declared.aggregator.AggregatorKind.TheVariants.{Count}
use Rattle.druid_partial.specs.Groups.{Group, AreWords, InOrder, number_at}

-- ---- buckets

-- the earliest instant of these intervals
abbrev pub earliest : List Extent → ℕ
earliest [] = 0
earliest (e ∷ []) = e.start
earliest (e ∷ f ∷ more) = min e.start (earliest (f ∷ more))

-- the bucket of an instant; with `All` there is one, labelled with the earliest instant that is asked for
abbrev pub bucket_of : Query → ℕ → ℕ
bucket_of query t = unwrap_or (bucket_at query.granularity t) (earliest query.intervals)

-- ---- partials

-- what each group tells, and the groups, in order
pub record Partial : Type 0 where
  pub kinds : List AggregatorKind
  pub groups : List Group

-- a number of 64 bits, or null, for each kind
pub record HasNumbers (kinds : List AggregatorKind) (g : Group) : Type 0 where
  pub one_each : length g.numbers ≡ length kinds
  pub words : AreWords g.numbers

pub record IsPartial (p : Partial) : Type 0 where
  pub ordered : InOrder p.groups
  pub numbers : All (HasNumbers p.kinds) p.groups

-- what each aggregator of the query tells
abbrev pub kinds_of : Query → List AggregatorKind
kinds_of query = map (λ a. a.kind) query.aggregations

-- a bucket of the query: it is the bucket of its own label
abbrev pub IsBucketOf : Query → ℕ → Type 0
IsBucketOf query t = bucket_of query t ≡ t

-- a group that a partial of the query may have: a bucket of it, as many values and numbers as it asks, and no count null
pub record IsGroupFor (query : Query) (g : Group) : Type 0 where
  pub bucket : IsBucketOf query g.key.bucket
  pub values : length g.key.values ≡ length query.dimensions
  pub numbers : length g.numbers ≡ length query.aggregations
  pub counted : (place : ℕ) → slice_get (kinds_of query) place ≡ Some Count → IsSome (number_at place g)

-- a partial of the query
pub record IsPartialFor (query : Query) (p : Partial) : Type 0 where
  pub kinds : p.kinds ≡ kinds_of query
  pub each : All (IsGroupFor query) p.groups
