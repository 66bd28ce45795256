-- What a file gives.
use Rattle.std.proofs.Common.{◌≡◌, ℕ, Bool, true, false, cond, List, Option, Some, None, Result, Ok, Err, IsOk, IfOk, IfErr, Vec, Global, refl, sym, ap, ◌∙◌, subst, inl, inr, bytes_eq}
use Rattle.std.proofs.lemmas.Slice.Eq.{bytes_eq-Decides}
use Rattle.druid_segment_rows.specs.Segment.{Segment}
use Rattle.druid_segment_file.specs.Reader.{GivesInMemory, segment_at}
use Rattle.druid_segment_file.specs.declared.fault.FileFault.{FileFault}
use Rattle.druid_segment_file.specs.declared.fault.FileFault.TheVariants as file
use Rattle.druid_segment_file.proofs.FrontLemmas.{within_own}
use Rattle.druid_segment_rows.specs.Segment.{max_text}
use Rattle.druid_folder.specs.Folder.{bytes_read, faults_at, faults_after}
use Rattle.druid_folder.specs.declared.fault.StoreFault.{StoreFault}
use Rattle.druid_segment_descriptor.specs.Mark.{Point}
use Rattle.druid_node.specs.Seen.{RefusesLoad}
use Rattle.druid_node.specs.Files.{file_name, named, file_at, reported_as, size_of, RefusesFile, IsOfFile, RefusesBytes, RefusesFound, FailsRead, IsDecoded, RefusesDecode, faults_after_fault, faults_after_load}
use Rattle.druid_node.specs.declared.fault.NodeFault.{NodeFault}
use Rattle.druid_node.specs.declared.fault.NodeFault.TheVariants as faults

-- bytes that are no segment
pub reported_bytes : (name bytes : List ℕ) (fault : FileFault) → GivesInMemory (Err fault) (segment_at bytes) → RefusesBytes name bytes (reported_as fault)
reported_bytes name bytes file.Magic gives = gives
reported_bytes name bytes file.Cut gives = gives
reported_bytes name bytes file.Field gives = gives
reported_bytes name bytes file.RowOutside gives = gives
reported_bytes name bytes file.TooLong gives = gives
reported_bytes name bytes file.Trailing gives = gives
reported_bytes name bytes file.Read gives = gives
reported_bytes name bytes file.Write gives = gives
reported_bytes name bytes file.Memory gives = gives

-- a segment under its name, and under another
pub under_name : (name bytes : List ℕ) (s : Segment) → segment_at bytes ≡ Ok s → bytes_eq name (file_name s.descriptor.id) ≡ true → named name (segment_at bytes) ≡ Ok s
under_name name bytes s read same = ap (named name) read ∙ ap (λ b. cond b (Ok s) (Err faults.NameDiffers)) same

pub under_other : (name bytes : List ℕ) (s : Segment) → segment_at bytes ≡ Ok s → bytes_eq name (file_name s.descriptor.id) ≡ false → named name (segment_at bytes) ≡ Err faults.NameDiffers
under_other name bytes s read other = ap (named name) read ∙ ap (λ b. cond b (Ok s) (Err faults.NameDiffers)) other

pub is_read : (bytes : List ℕ) (s : Segment) → segment_at bytes ≡ Ok s → IsOk (segment_at bytes)
is_read bytes s e = subst IsOk (sym e) refl

-- ---- what loading tells

bytes_refuse : (incarnation : ℕ) (name bytes : List ℕ) (given : Option (List ℕ)) (seen : Point) (fault : NodeFault) → Some bytes ≡ given → RefusesBytes name bytes fault → RefusesFile incarnation (file_at name given) seen fault
bytes_refuse incarnation name bytes given seen faults.Device is h = absurd h
bytes_refuse incarnation name bytes given seen (faults.File fault) is h = ap (file_at name) (sym is) ∙ ap (named name) h
bytes_refuse incarnation name bytes given seen faults.NameDiffers is h = ap (file_at name) (sym is) ∙ h
bytes_refuse incarnation name bytes given seen (faults.History fault) is h = absurd h
bytes_refuse incarnation name bytes given seen (faults.Wire fault) is h = absurd h
bytes_refuse incarnation name bytes given seen faults.NoFile is h = absurd h
bytes_refuse incarnation name bytes given seen (faults.Stale found) is h = absurd h
bytes_refuse incarnation name bytes given seen faults.NotPartitionZero is h = absurd h
bytes_refuse incarnation name bytes given seen faults.Memory is h = tt

bytes_own : (name bytes : List ℕ) (fault : NodeFault) → RefusesBytes name bytes fault → IsOfFile fault
bytes_own name bytes faults.Device h = tt
bytes_own name bytes (faults.File file.Magic) h = tt
bytes_own name bytes (faults.File file.Cut) h = tt
bytes_own name bytes (faults.File file.Field) h = tt
bytes_own name bytes (faults.File file.RowOutside) h = tt
bytes_own name bytes (faults.File file.TooLong) h = tt
bytes_own name bytes (faults.File file.Trailing) h = tt
bytes_own name bytes (faults.File file.Read) h = within_own max_text bytes file.Read h
bytes_own name bytes (faults.File file.Write) h = within_own max_text bytes file.Write h
bytes_own name bytes (faults.File file.Memory) h = within_own max_text bytes file.Memory h
bytes_own name bytes faults.NameDiffers h = tt
bytes_own name bytes (faults.History fault) h = absurd h
bytes_own name bytes (faults.Wire fault) h = absurd h
bytes_own name bytes faults.NoFile h = absurd h
bytes_own name bytes (faults.Stale found) h = absurd h
bytes_own name bytes faults.NotPartitionZero h = absurd h
bytes_own name bytes faults.Memory h = tt

found_refuse : (incarnation : ℕ) (name : List ℕ) (found given : Option (List ℕ)) (seen : Point) (fault : NodeFault) → found ≡ given → RefusesFound name found fault → RefusesFile incarnation (file_at name given) seen fault
found_refuse incarnation name None given seen fault is h =
    subst (λ (f : NodeFault). RefusesFile incarnation (file_at name given) seen f) (sym h) (ap (file_at name) (sym is))
found_refuse incarnation name (Some bytes) given seen fault is h = bytes_refuse incarnation name bytes given seen fault is h

found_own : (name : List ℕ) (found : Option (List ℕ)) (fault : NodeFault) → RefusesFound name found fault → IsOfFile fault
found_own name None fault h = subst IsOfFile (sym h) tt
found_own name (Some bytes) fault h = bytes_own name bytes fault h

pub load_refuses : (incarnation : ℕ) (given : Result Segment NodeFault) (seen : Point) (s : Segment) (fault : NodeFault) → given ≡ Ok s → RefusesLoad incarnation seen fault → RefusesFile incarnation given seen fault
load_refuses incarnation given seen s faults.Device is h = absurd h
load_refuses incarnation given seen s (faults.File fault) is h = absurd h
load_refuses incarnation given seen s faults.NameDiffers is h = absurd h
load_refuses incarnation given seen s (faults.History fault) is h = (s, is, h)
load_refuses incarnation given seen s (faults.Wire fault) is h = absurd h
load_refuses incarnation given seen s faults.NoFile is h = absurd h
load_refuses incarnation given seen s (faults.Stale found) is h = (s, is, h)
load_refuses incarnation given seen s faults.NotPartitionZero is h = absurd h
load_refuses incarnation given seen s faults.Memory is h = tt

pub load_own : (incarnation : ℕ) (seen : Point) (fault : NodeFault) → RefusesLoad incarnation seen fault → IsOfFile fault
load_own incarnation seen faults.Device h = absurd h
load_own incarnation seen (faults.File fault) h = absurd h
load_own incarnation seen faults.NameDiffers h = absurd h
load_own incarnation seen (faults.History fault) h = tt
load_own incarnation seen (faults.Wire fault) h = absurd h
load_own incarnation seen faults.NoFile h = absurd h
load_own incarnation seen (faults.Stale found) h = tt
load_own incarnation seen faults.NotPartitionZero h = absurd h
load_own incarnation seen faults.Memory h = tt

-- a file that gives a segment has its name
if_named : (b : Bool) (name : List ℕ) (t s : Segment) → bytes_eq name (file_name t.descriptor.id) ≡ b → cond b (Ok t) (Err faults.NameDiffers) ≡ Ok s → name ≡ file_name s.descriptor.id
if_named true name t s same e =
    let same_segment : t ≡ s = cc in
    subst (λ (x : Segment). name ≡ file_name x.descriptor.id) same_segment ((bytes_eq-Decides name (file_name t.descriptor.id)).0 same)
if_named false name t s same e = absurd cc

named_so : (name : List ℕ) (r : Result Segment FileFault) (s : Segment) → named name r ≡ Ok s → name ≡ file_name s.descriptor.id
named_so name (Err fault) s e = absurd cc
named_so name (Ok t) s e = if_named (bytes_eq name (file_name t.descriptor.id)) name t s refl e

pub file_named : (name : List ℕ) (given : Option (List ℕ)) (s : Segment) → file_at name given ≡ Ok s → name ≡ file_name s.descriptor.id
file_named name None s e = absurd cc
file_named name (Some bytes) s e = named_so name (segment_at bytes) s e

-- ---- how often the device has failed

bytes_uncounted : (name bytes : List ℕ) (fault : NodeFault) (n : ℕ) → RefusesBytes name bytes fault → faults_after_fault fault n ≡ n
bytes_uncounted name bytes faults.Device n h = absurd h
bytes_uncounted name bytes (faults.File fault) n h = refl
bytes_uncounted name bytes faults.NameDiffers n h = refl
bytes_uncounted name bytes (faults.History fault) n h = refl
bytes_uncounted name bytes (faults.Wire fault) n h = refl
bytes_uncounted name bytes faults.NoFile n h = refl
bytes_uncounted name bytes (faults.Stale found) n h = refl
bytes_uncounted name bytes faults.NotPartitionZero n h = refl
bytes_uncounted name bytes faults.Memory n h = refl

found_uncounted : (name : List ℕ) (found : Option (List ℕ)) (fault : NodeFault) (n : ℕ) → RefusesFound name found fault → faults_after_fault fault n ≡ n
found_uncounted name None fault n h = ap (λ (f : NodeFault). faults_after_fault f n) h
found_uncounted name (Some bytes) fault n h = bytes_uncounted name bytes fault n h

pub load_uncounted : {A : Type 0} (incarnation : ℕ) (seen : Point) (r : Result A NodeFault) (n : ℕ) → IfErr r (RefusesLoad incarnation seen) → faults_after_load r n ≡ n
load_uncounted incarnation seen (Ok x) n h = refl
load_uncounted incarnation seen (Err faults.Device) n h = absurd h
load_uncounted incarnation seen (Err (faults.File fault)) n h = refl
load_uncounted incarnation seen (Err faults.NameDiffers) n h = refl
load_uncounted incarnation seen (Err (faults.History fault)) n h = refl
load_uncounted incarnation seen (Err (faults.Wire fault)) n h = refl
load_uncounted incarnation seen (Err faults.NoFile) n h = refl
load_uncounted incarnation seen (Err (faults.Stale found)) n h = refl
load_uncounted incarnation seen (Err faults.NotPartitionZero) n h = refl
load_uncounted incarnation seen (Err faults.Memory) n h = refl

-- ---- a read that failed

read_refuses : (incarnation : ℕ) (given : Result Segment NodeFault) (seen : Point) (fault : StoreFault) (reported : NodeFault) → FailsRead fault reported → RefusesFile incarnation given seen reported
read_refuses incarnation given seen fault reported (inl (e, f)) = subst (RefusesFile incarnation given seen) (sym f) tt
read_refuses incarnation given seen fault reported (inr (e, f)) = subst (RefusesFile incarnation given seen) (sym f) tt

read_own : (fault : StoreFault) (reported : NodeFault) → FailsRead fault reported → IsOfFile reported
read_own fault reported (inl (e, f)) = subst IsOfFile (sym f) tt
read_own fault reported (inr (e, f)) = subst IsOfFile (sym f) tt

read_counted : (fault : StoreFault) (reported : NodeFault) (n : ℕ) → FailsRead fault reported → faults_at fault n ≡ faults_after_fault reported n
read_counted fault reported n (inl (e, f)) = ap (λ (g : StoreFault). faults_at g n) e ∙ ap (λ (g : NodeFault). faults_after_fault g n) (sym f)
read_counted fault reported n (inr (e, f)) = ap (λ (g : StoreFault). faults_at g n) e ∙ ap (λ (g : NodeFault). faults_after_fault g n) (sym f)

-- ---- what was decoded of a read, or not

pub decoded_at : (name : List ℕ) (given : Option (List ℕ)) (read : Result (Option (Vec ℕ Global)) StoreFault) (file : Segment × ℕ) → IsDecoded name read file → IfOk read (λ found. bytes_read found ≡ given)
    → (file_at name given ≡ Ok file.0) × (file.1 ≡ size_of given)
decoded_at name given (Err why) file h is = absurd h
decoded_at name given (Ok found) file h is = (ap (file_at name) (sym is) ∙ h.0, h.1 ∙ ap size_of is)

pub decoded_named : (name : List ℕ) (read : Result (Option (Vec ℕ Global)) StoreFault) (file : Segment × ℕ) → IsDecoded name read file → name ≡ file_name file.0.descriptor.id
decoded_named name (Err why) file h = absurd h
decoded_named name (Ok found) file h = file_named name (bytes_read found) file.0 h.0

pub decoded_counted : (name : List ℕ) (read : Result (Option (Vec ℕ Global)) StoreFault) (file : Segment × ℕ) (n : ℕ) → IsDecoded name read file → faults_after read n ≡ n
decoded_counted name (Err why) file n h = absurd h
decoded_counted name (Ok found) file n h = refl

pub decode_refuses : (incarnation : ℕ) (name : List ℕ) (given : Option (List ℕ)) (read : Result (Option (Vec ℕ Global)) StoreFault) (seen : Point) (fault : NodeFault) → RefusesDecode name read fault → IfOk read (λ found. bytes_read found ≡ given)
    → RefusesFile incarnation (file_at name given) seen fault
decode_refuses incarnation name given (Err why) seen fault h is = read_refuses incarnation (file_at name given) seen why fault h
decode_refuses incarnation name given (Ok found) seen fault h is = found_refuse incarnation name (bytes_read found) given seen fault is h

pub decode_own : (name : List ℕ) (read : Result (Option (Vec ℕ Global)) StoreFault) (fault : NodeFault) → RefusesDecode name read fault → IsOfFile fault
decode_own name (Err why) fault h = read_own why fault h
decode_own name (Ok found) fault h = found_own name (bytes_read found) fault h

pub decode_counted : (name : List ℕ) (read : Result (Option (Vec ℕ Global)) StoreFault) (fault : NodeFault) (n : ℕ) → RefusesDecode name read fault → faults_after read n ≡ faults_after_fault fault n
decode_counted name (Err why) fault n h = read_counted why fault n h
decode_counted name (Ok found) fault n h = sym (found_uncounted name (bytes_read found) fault n h)
