-- The bytes of texts that are borrowed.
use Rattle.std.specs.Prelude.{ℕ, List, map, Option}
use Rattle.std.specs.Borrow.{Bor}
use Rattle.druid_segment_rows.specs.Rows.{texts_by}

abbrev pub bytes_of : Bor (List ℕ) → List ℕ
bytes_of text = text.now

abbrev pub texts_borrowed : List (Bor (List ℕ)) → List (List ℕ)
texts_borrowed texts = map bytes_of texts

-- the same of texts that may be null
abbrev pub values_borrowed : List (Option (Bor (List ℕ))) → List (Option (List ℕ))
values_borrowed values = texts_by bytes_of values
