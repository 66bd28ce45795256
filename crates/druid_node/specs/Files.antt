-- What a file gives a node.
use Rattle.std.specs.Prelude.{◌≡◌, ◌⊎◌, ◌++◌, ⊤, ℕ, List, Vec, codes, length, bytes_eq, Option, Some, None, Result, Ok, Err, IsOk, if◌then◌else◌}
use Rattle.std.specs.declared.alloc.Global.{Global}
use Rattle.druid_segment_id.specs.Identifier.{Identifier, identifier_text}
use Rattle.druid_segment_rows.specs.Segment.{Segment}
use Rattle.druid_segment_descriptor.specs.Mark.{Point}
use Rattle.druid_segment_file.specs.Reader.{segment_at}
use Rattle.druid_segment_file.specs.declared.fault.FileFault.{FileFault}
use Rattle.druid_segment_file.specs.declared.fault.FileFault.TheVariants as file
use Rattle.druid_folder.specs.Folder.{bytes_read, faults_at}
use Rattle.druid_folder.specs.declared.fault.StoreFault.{StoreFault}
use Rattle.druid_folder.specs.declared.fault.StoreFault.TheVariants as store
use Rattle.druid_node.specs.Seen.{IsStale, IsLoadRefusal}
use Rattle.druid_node.specs.declared.fault.NodeFault.{NodeFault}
use Rattle.druid_node.specs.declared.fault.NodeFault.TheVariants as faults

-- the name that a segment gives its file
abbrev pub file_name : Identifier → List ℕ
file_name id = identifier_text id ++ codes ".seg"

-- a segment that was read under that name
abbrev pub named : List ℕ → Result Segment FileFault → Result Segment NodeFault
named name (Err fault) = Err (faults.File fault)
named name (Ok s) = if bytes_eq name (file_name s.descriptor.id) then Ok s else Err faults.NameDiffers

-- what a file of that name gives
abbrev pub file_at : List ℕ → Option (List ℕ) → Result Segment NodeFault
file_at name None = Err faults.NoFile
file_at name (Some bytes) = named name (segment_at bytes)

-- how many bytes a file has: none where there is none
abbrev pub size_of : Option (List ℕ) → ℕ
size_of None = 0
size_of (Some bytes) = length bytes

-- what was loaded of a file: the identifier of its segment, how many rows that has, and how many bytes the file
pub record Loaded : Type 0 where
  pub id : Identifier
  pub rows : ℕ
  pub bytes : ℕ

-- why a file was not loaded into a node of that incarnation, of which that mark was seen: what it gives, or why the node does not take its segment;
-- the device and memory are no matter of the file
abbrev pub RefusesFile : ℕ → Result Segment NodeFault → Point → NodeFault → Type 0
RefusesFile incarnation given seen faults.Device = ⊤
RefusesFile incarnation given seen (faults.File fault) = given ≡ Err (faults.File fault)
RefusesFile incarnation given seen faults.NameDiffers = given ≡ Err faults.NameDiffers
RefusesFile incarnation given seen (faults.History fault) = (s : Segment) × (given ≡ Ok s) × IsLoadRefusal fault
RefusesFile incarnation given seen (faults.Wire fault) = ⊥
RefusesFile incarnation given seen faults.NoFile = given ≡ Err faults.NoFile
RefusesFile incarnation given seen (faults.Stale found) = (s : Segment) × (given ≡ Ok s) × IsStale incarnation found seen
RefusesFile incarnation given seen faults.NotPartitionZero = ⊥
RefusesFile incarnation given seen faults.Memory = ⊤

-- a fault that loading a file tells: of a file's own faults those that its bytes decide
abbrev pub IsOfFile : NodeFault → Type 0
IsOfFile (faults.File file.Read) = ⊥
IsOfFile (faults.File file.Write) = ⊥
IsOfFile (faults.File file.Memory) = ⊥
IsOfFile (faults.Wire fault) = ⊥
IsOfFile faults.NotPartitionZero = ⊥
IsOfFile other = ⊤

-- the fault that tells what a file's bytes are: out of memory is that
abbrev pub reported_as : FileFault → NodeFault
reported_as file.Magic = faults.File file.Magic
reported_as file.Cut = faults.File file.Cut
reported_as file.Field = faults.File file.Field
reported_as file.RowOutside = faults.File file.RowOutside
reported_as file.TooLong = faults.File file.TooLong
reported_as file.Trailing = faults.File file.Trailing
reported_as file.Read = faults.File file.Read
reported_as file.Write = faults.File file.Write
reported_as file.Memory = faults.Memory

-- why bytes that were read are not taken; out of memory only where they spell a segment
abbrev pub RefusesBytes : List ℕ → List ℕ → NodeFault → Type 0
RefusesBytes name bytes faults.Device = ⊥
RefusesBytes name bytes (faults.File fault) = segment_at bytes ≡ Err fault
RefusesBytes name bytes faults.NameDiffers = named name (segment_at bytes) ≡ Err faults.NameDiffers
RefusesBytes name bytes (faults.History fault) = ⊥
RefusesBytes name bytes (faults.Wire fault) = ⊥
RefusesBytes name bytes faults.NoFile = ⊥
RefusesBytes name bytes (faults.Stale found) = ⊥
RefusesBytes name bytes faults.NotPartitionZero = ⊥
RefusesBytes name bytes faults.Memory = IsOk (segment_at bytes)

-- the same where there may be no file
abbrev pub RefusesFound : List ℕ → Option (List ℕ) → NodeFault → Type 0
RefusesFound name None fault = fault ≡ faults.NoFile
RefusesFound name (Some bytes) fault = RefusesBytes name bytes fault

-- what a failed read of a folder tells
abbrev pub FailsRead : StoreFault → NodeFault → Type 0
FailsRead why fault = ((why ≡ store.Device) × (fault ≡ faults.Device)) ⊎ ((why ≡ store.Memory) × (fault ≡ faults.Memory))

-- the segment of what a folder gave under that name, and how many bytes its file has
abbrev pub IsDecoded : List ℕ → Result (Option (Vec ℕ Global)) StoreFault → Segment × ℕ → Type 0
IsDecoded name (Err why) file = ⊥
IsDecoded name (Ok found) file = (file_at name (bytes_read found) ≡ Ok file.0) × (file.1 ≡ size_of (bytes_read found))

-- why there is none
abbrev pub RefusesDecode : List ℕ → Result (Option (Vec ℕ Global)) StoreFault → NodeFault → Type 0
RefusesDecode name (Err why) fault = FailsRead why fault
RefusesDecode name (Ok found) fault = RefusesFound name (bytes_read found) fault

-- how often the device has failed after a load: a failure counts
abbrev pub faults_after_fault : NodeFault → ℕ → ℕ
faults_after_fault faults.Device n = faults_at store.Device n
faults_after_fault other n = n

abbrev pub faults_after_load : {A : Type 0} → Result A NodeFault → ℕ → ℕ
faults_after_load (Ok x) n = n
faults_after_load (Err fault) n = faults_after_fault fault n
