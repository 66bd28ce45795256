-- Reading a segment from left to right, with the first fault that is met.
use Rattle.std.specs.Prelude.{◌≡◌, ℕ, ◌&&◌, ◌==◌, List, length, take, Result, Ok, Err, IsOk, nat_lt, nat_le, if◌then◌else◌, bytes_eq}
use Rattle.druid_segment_rows.specs.Segment.{Segment, segment_of, max_text}
use Rattle.druid_time.specs.Results.{◌>>=◌}
use Rattle.druid_segment_file.specs.declared.fault.FileFault.{FileFault}
use Rattle.druid_segment_file.specs.declared.fault.FileFault.TheVariants.{Magic, Cut, TooLong, Trailing, Read, Memory}
use Rattle.druid_segment_file.specs.ByteParts.{magic}
use Rattle.druid_segment_file.specs.ColumnBytes.{column_magic}
use Rattle.druid_segment_file.specs.Parts.{bytes_at, descriptor_at, fields_at, rows_at, shape_of}
use Rattle.druid_segment_file.specs.ColumnReader.{column_content_at}

-- what a call returned is what reading gives
abbrev pub Gives : {X : Type 0} → Result X FileFault → Result X FileFault → Type 0
Gives (Ok x) read = read ≡ Ok x
Gives (Err fault) read = read ≡ Err fault

-- the same of a value that is seen by `view`
abbrev pub GivesAs : {X Y : Type 0} → (X → Y) → Result X FileFault → Result Y FileFault → Type 0
GivesAs view (Ok x) read = read ≡ Ok (view x)
GivesAs view (Err fault) read = read ≡ Err fault

-- the same, but that memory may be refused, though only where something is read
abbrev pub GivesInMemory : {X : Type 0} → Result X FileFault → Result X FileFault → Type 0
GivesInMemory (Err Memory) read = IsOk read
GivesInMemory result read = Gives result read

-- the same of a reader, that may fail before all is read, or be refused memory
abbrev pub GivesOfReader : {X : Type 0} → Result X FileFault → Result X FileFault → Type 0
GivesOfReader (Err Read) read = Unit {0}
GivesOfReader (Err Memory) read = Unit {0}
GivesOfReader result read = Gives result read

-- what is left of the bytes, and the fault where a part passes their end
pub record Cursor : Type 0 where
  pub rest : List ℕ
  pub short : FileFault

-- the part, seen by `view`, is what reading gives, and the cursor follows it; or the fault is the one of reading
abbrev pub TakesAs : {X A : Type 0} → (X → A) → Cursor → Cursor → Result X FileFault → Result (A × List ℕ) FileFault → Type 0
TakesAs view old new (Ok x) read = (read ≡ Ok (view x, new.rest)) × (new.short ≡ old.short)
TakesAs view old new (Err fault) read = read ≡ Err fault

-- ---- The whole

-- the content in rows, after the name of the layout
unfoldable pub row_content_at : FileFault → List ℕ → Result (Segment × List ℕ) FileFault
row_content_at short bytes = do
  descriptor ← descriptor_at short bytes
  fields ← fields_at short descriptor.1
  rows ← rows_at short (shape_of descriptor.0 fields.0) fields.1
  Ok (segment_of descriptor.0 fields.0 rows.0, rows.1)

-- the content in the layout of that name
unfoldable pub content_in : FileFault → List ℕ → List ℕ → Result (Segment × List ℕ) FileFault
content_in short name bytes =
    if bytes_eq name magic then row_content_at short bytes
    else if bytes_eq name column_magic then column_content_at short bytes
    else Err Magic

unfoldable pub content_at : FileFault → List ℕ → Result (Segment × List ℕ) FileFault
content_at short bytes = do
  name ← bytes_at short 4 bytes
  content_in short name.0 name.1

-- the fault where a part passes the end of the first `limit` bytes
abbrev pub short_of : ℕ → List ℕ → FileFault
short_of limit bytes = if nat_lt limit (length bytes) then TooLong else Cut

-- all of the bytes, where a file has `limit` of them at most
unfoldable pub segment_within : ℕ → List ℕ → Result Segment FileFault
segment_within limit bytes = do
  content ← content_at (short_of limit bytes) (take limit bytes)
  if length content.1 == 0 && nat_le (length bytes) limit then Ok content.0 else Err Trailing

-- all of the bytes of a file
abbrev pub segment_at : List ℕ → Result Segment FileFault
segment_at bytes = segment_within max_text bytes
