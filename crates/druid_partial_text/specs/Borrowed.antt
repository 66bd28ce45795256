-- A row as the reader borrows it: only proofs use this.
use Rattle.std.specs.Prelude.{◌≡◌, ℕ, ℤ, List, length, slice_get, slice_index_or, All, Option, Some, None, IsSome}
use Rattle.std.specs.Option.{IsSomeAnd}
use Rattle.std.specs.declared.cmp.Ordering.TheVariants.{Less}
use Rattle.serde_json.specs.Data.{Data, Items}
use Rattle.serde_json.specs.View.{view, items_view}
use Rattle.druid_query.specs.Query.{Query}
use Rattle.druid_base.specs.Each.{each_of}
use Rattle.druid_query.specs.declared.aggregator.AggregatorKind.{AggregatorKind}
use Rattle.druid_query.specs.declared.aggregator.AggregatorKind.TheVariants.{Count}
use Rattle.druid_partial.specs.Groups.{Group, key_cmp, AreWords}
use Rattle.druid_partial.specs.Partials.{IsGroupFor}
use Rattle.druid_partial_text.specs.Read as spec
use Rattle.druid_partial_text.specs.declared.partial_reader.Three.{Three}
use Rattle.druid_partial_text.specs.declared.partial_reader.Borrowed.{Borrowed}

abbrev pub three_borrowed : Three → spec.Three
three_borrowed a = record { first = view a.first.now; second = view a.second.now; third = view a.third.now }

abbrev pub parts_borrowed : Borrowed → spec.Parts
parts_borrowed a = record { bucket = a.bucket; values = items_view a.values.now; numbers = items_view a.numbers.now }

-- a number that an aggregator of that kind may tell
abbrev pub IsNumberFor : AggregatorKind → Data → Type 0
IsNumberFor kind d = IsSomeAnd (spec.number_or_null d) (λ x. kind ≡ Count → IsSome x)

-- numbers that aggregators of these kinds may tell
pub record AreNumbersFor (kinds : List AggregatorKind) (numbers : List (Option ℤ)) : Type 0 where
  pub one_each : length numbers ≡ length kinds
  pub counted : (place : ℕ) → slice_get kinds place ≡ Some Count → IsSome (slice_index_or numbers place None)

-- numbers of 64 bits
abbrev pub HasWords : Group → Type 0
HasWords g = AreWords g.numbers

-- rows of a partial of the query
abbrev pub AreRows : Query → Items → Type 0
AreRows query ds = (rows : List Group) × (each_of spec.group_at ds ≡ Some rows) × All (IsGroupFor query) rows

-- the key is below the next
abbrev pub IsBefore : Group → Group → Type 0
IsBefore a b = key_cmp a.key b.key ≡ Less
