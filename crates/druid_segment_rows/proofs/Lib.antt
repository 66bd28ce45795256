pub mod ColumnLemmas
pub mod EachLemmas
pub mod GrowLemmas
pub mod LengthLemmas
pub mod MetricLemmas
pub mod NumberingLemmas
pub mod PlaceLemmas
pub mod ShortLemmas
pub mod TableLemmas
pub mod TextsLemmas
mod FilterLemmas
