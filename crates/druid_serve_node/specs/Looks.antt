-- What a node that watches its folder knows of the segment files in it, and what a look at the folder makes of that.
use Rattle.std.specs.Prelude.{◌≡◌, ◌⊎◌, ◌&&◌, ℕ, ◌+◌, ◌-◌, ◌^◌, min, nat_le, Bool, true, false, List, [], ◌∷◌, map, not, bytes_eq, Option, Some, None, if◌then◌else◌}
use Rattle.std.specs.List.{filter, list_any, FoldsTo}
use Rattle.std.specs.declared.cmp.Ordering.TheVariants.{Less}
use Rattle.druid_segment_descriptor.specs.Mark.{Point, mark_cmp}
use Rattle.druid_node.specs.Files as files
use Rattle.druid_node.specs.Files.{file_name}
use Rattle.druid_serve_node.specs.Files.{is_segment_file}
use Rattle.druid_serve_node.specs.declared.known_files.FileState.{FileState}
use Rattle.druid_serve_node.specs.declared.known_files.FileState.TheVariants.{Loaded, Refused}

-- ---- what is known

-- a file, and what became of it when it was tried last
pub record File : Type 0 where
  pub name : List ℕ
  pub state : FileState

-- what is known of the file of that name
abbrev pub state_of : List File → List ℕ → Option FileState
state_of [] name = None
state_of (f ∷ files) name = if bytes_eq name f.name then Some f.state else state_of files name

abbrev pub known_names : List File → List (List ℕ)
known_names files = map (λ f. f.name) files

-- what is loaded of a file, if its segment is
abbrev pub loaded_of : Option FileState → Option files.Loaded
loaded_of (Some (Loaded file)) = Some file
loaded_of other = None

-- of that name is known this, and of each other what was
abbrev pub Notes : List ℕ → Option FileState → List File → List File → Type 0
Notes name state old new = (other : List ℕ) → state_of new other ≡ (if bytes_eq name other then state else state_of old other)

-- ---- what a look does

-- a file is tried that is not known, and one that was refused once its look has come
abbrev pub is_due : ℕ → Option FileState → Bool
is_due look None = true
is_due look (Some (Loaded file)) = false
is_due look (Some (Refused next rest)) = nat_le next look

-- the names of the files that a look tries, among those that it finds
abbrev pub due_names : ℕ → List File → List (List ℕ) → List (List ℕ)
due_names look known found = filter (λ name. is_segment_file name && is_due look (state_of known name)) found

-- a name is not among those that are found
abbrev pub is_gone : List (List ℕ) → List ℕ → Bool
is_gone found name = not (list_any (bytes_eq name) found)

-- the names of the files that are known and not found
abbrev pub gone_names : List File → List (List ℕ) → List (List ℕ)
gone_names known found = filter (is_gone found) (known_names known)

-- the most looks from one try of a file that is refused to the next
abbrev pub max_rest : ℕ
max_rest = 64

-- after its first refusal a file rests for one look, and after each other for twice as many as before, up to that
abbrev pub rest_after : Option FileState → ℕ
rest_after (Some (Refused next rest)) = min (rest + rest) max_rest
rest_after other = 1

-- what is known of a file that is refused at a look
abbrev pub refused_at : ℕ → Option FileState → FileState
refused_at look state = Refused (min (look + rest_after state) (2 ^ 64 - 1)) (rest_after state)

-- ---- what becomes of a node

-- what is known of its files, and the mark of the node's last load or drop
pub record Watched : Type 0 where
  pub known : List File
  pub seen : Point

-- the node was changed, so its mark, which is of that incarnation, rose
pub record HasRisen (incarnation : ℕ) (old new : Point) : Type 0 where
  pub risen : mark_cmp old new ≡ Less
  pub own : new.incarnation ≡ incarnation

-- a file was refused, and is known as that
pub record IsRefused (look : ℕ) (old : Watched) (name : List ℕ) (new : Watched) : Type 0 where
  pub known : Notes name (Some (refused_at look (state_of old.known name))) old.known new.known
  pub stays : new.seen ≡ old.seen

-- the segment of a file was loaded, which has the file's name
pub record IsLoaded (incarnation : ℕ) (old : Watched) (name : List ℕ) (new : Watched) : Type 0 where
  pub file : files.Loaded
  pub named : name ≡ file_name file.id
  pub known : Notes name (Some (Loaded file)) old.known new.known
  pub rose : HasRisen incarnation old.seen new.seen

-- a try of a file
abbrev pub IsTried : ℕ → ℕ → Watched → List ℕ → Watched → Type 0
IsTried incarnation look old name new = IsRefused look old name new ⊎ IsLoaded incarnation old name new

-- a file is forgotten: where its segment is loaded, with a drop, unless that is refused, and then all is as it was
abbrev pub IsForgotten : ℕ → Option files.Loaded → Watched → List ℕ → Watched → Type 0
IsForgotten incarnation None old name new = Notes name None old.known new.known × (new.seen ≡ old.seen)
IsForgotten incarnation (Some file) old name new = (Notes name None old.known new.known × HasRisen incarnation old.seen new.seen) ⊎ (new ≡ old)

-- a file that is gone is let go of
abbrev pub IsGone : ℕ → Watched → List ℕ → Watched → Type 0
IsGone incarnation old name new = IsForgotten incarnation (loaded_of (state_of old.known name)) old name new

-- a look that found these names: it tried exactly the files that are due, and then let go of exactly those that are gone
pub record IsLook (incarnation look : ℕ) (found : List (List ℕ)) (old new : Watched) : Type 0 where
  pub between : Watched
  pub tried : FoldsTo (IsTried incarnation look) old (due_names look old.known found) between
  pub gone : FoldsTo (IsGone incarnation) between (gone_names old.known found) new
