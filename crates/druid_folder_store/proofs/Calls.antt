-- One more call joins those that a folder in memory keeps.
use Rattle.std.proofs.Common.{◌≡◌, ◌⊎◌, inl, inr, ⊎_elim, ℕ, ◌+◌, ◌<◌, ◌≤◌, Bool, true, false, cond, List, [], ◌∷◌, ◌++◌, IsTrue, Option, Some, None, Result, Ok, Err, OnErr, length, take, refl, sym, ◌∙◌, ap, subst, arith, length-append}
use Rattle.std.proofs.lemmas.Bool.{cases_lt, false≢true}
use Rattle.std.proofs.lemmas.List.{take_all, take-append-le}
use Rattle.std.proofs.lemmas.Slice.Eq.{bytes_eq-Decides}
use Rattle.std.specs.Str.{bytes_eq}
use Rattle.std.specs.String.{string_bytes}
use Rattle.druid_folder.specs.FileName.{is_file_name}
use Rattle.druid_folder.specs.Folder.{Content, nothing, with_file, without, renamed, Torn, DoneOrNot, Follows, SameLeft, Elapses}
use Rattle.druid_folder_store.specs.declared.name.FileName.{FileName}
use Rattle.druid_folder_store.specs.declared.record.Call.{Call}
use Rattle.druid_folder_store.specs.declared.record.Call.TheVariants.{Looked, Wrote, Synced, Renamed, Removed, Failed}
use Rattle.druid_folder.proofs.Files.{torn_same}
use Rattle.druid_folder_store.specs.Record.{done, content_after, LeftBy, LeftAfter, IsLeft, LeftSince}

pub content_after-push : (files : Content) (calls : List Call) (call : Call) → content_after files (calls ++ call ∷ []) ≡ done call (content_after files calls)
content_after-push files [] call = refl
content_after-push files (first ∷ calls) call = content_after-push (done first files) calls call

-- what the last call made of the files before it
pub last_call : (calls before : List Call) (call : Call) (name : List ℕ) → calls ≡ before ++ call ∷ [] → done call (content_after nothing before) name ≡ content_after nothing calls name
last_call calls before call name is = ap (λ (f : Content). f name) (sym (content_after-push nothing before call)) ∙ ap (λ (l : List Call). content_after nothing l name) (sym is)

left-to_push : (calls : List Call) (files : Content) (left : Content → Type 0) (call : Call) (c : Content) → LeftBy call (content_after files calls) (LeftAfter files left calls) c → LeftAfter files left (calls ++ call ∷ []) c
left-to_push [] files left call c h = h
left-to_push (first ∷ calls) files left call c h = left-to_push calls (done first files) (LeftBy first files left) call c h

left-from_push : (calls : List Call) (files : Content) (left : Content → Type 0) (call : Call) (c : Content) → LeftAfter files left (calls ++ call ∷ []) c → LeftBy call (content_after files calls) (LeftAfter files left calls) c
left-from_push [] files left call c h = h
left-from_push (first ∷ calls) files left call c h = left-from_push calls (done first files) (LeftBy first files left) call c h

module _ (old new : List Call) (call : Call) (is : new ≡ old ++ call ∷ []) where
  pub content_pushed : content_after nothing new ≡ done call (content_after nothing old)
  content_pushed = ap (content_after nothing) is ∙ content_after-push nothing old call

  pub left_pushed : (c : Content) → LeftBy call (content_after nothing old) (IsLeft old) c → IsLeft new c
  left_pushed c h = subst (λ (l : List Call). IsLeft l c) (sym is) (left-to_push old nothing (λ d. d ≡ nothing) call c h)

  pub left_before : (c : Content) → IsLeft new c → LeftBy call (content_after nothing old) (IsLeft old) c
  left_before c h = left-from_push old nothing (λ d. d ≡ nothing) call c (subst (λ (l : List Call). IsLeft l c) is h)

  length_pushed : length new ≡ length old + 1
  length_pushed = ap length is ∙ length-append old (call ∷ [])

  front : (k : ℕ) → k ≤ length old → take k new ≡ take k old
  front k le = ap (λ (l : List Call). take k l) is ∙ take-append-le k old (call ∷ []) le

  pub elapses_pushed : Elapses (length old) (length new) (LeftSince old) (LeftSince new) (IsLeft new)
  elapses_pushed = record {
    later = omega (arith, length_pushed);
    nothing_else = λ t c le since. ⊎_elim
        (λ (k_old : since.0 ≤ length old). inl (since.0, since.1, k_old, subst (λ (l : List Call). IsLeft l c) (front since.0 k_old) since.3))
        (λ (k_new : length new ≤ since.0). inr (subst (λ (l : List Call). IsLeft l c) (take_all since.0 new k_new) since.3))
        (split since.0);
    keeps = λ t c le since.
        (since.0, since.1, omega (arith, length_pushed, since.2), subst (λ (l : List Call). IsLeft l c) (sym (front since.0 since.2)) since.3);
  }
    where
      split : (k : ℕ) → (k ≤ length old) ⊎ (length new ≤ k)
      split k = ⊎_elim (λ (lt : length old < k). inr (omega (arith, length_pushed))) (λ (le : k ≤ length old). inl le) (cases_lt (length old) k)

pub left_same : (old new : List Call) → new ≡ old → SameLeft (IsLeft old) (IsLeft new)
left_same old new is = (λ c left. subst (λ (l : List Call). IsLeft l c) (sym is) left, λ c left. subst (λ (l : List Call). IsLeft l c) is left)

-- a call that only looks, or fails, changes nothing
pub left_looked : (old new : List Call) → new ≡ old ++ Looked ∷ [] → SameLeft (IsLeft old) (IsLeft new)
left_looked old new is = (left_pushed old new Looked is, left_before old new Looked is)

pub left_failed : (old new : List Call) → new ≡ old ++ Failed ∷ [] → SameLeft (IsLeft old) (IsLeft new)
left_failed old new is = (left_pushed old new Failed is, left_before old new Failed is)

-- where nothing was done
pub torn_left : (name : List ℕ) (old new : List Call) → new ≡ old → Follows (Torn name) (IsLeft old) (IsLeft new)
torn_left name old new is c left = (c, (left_same old new is).1 c left, torn_same c name)

pub undone_left : (work : Content → Content) (old new : List Call) → SameLeft (IsLeft old) (IsLeft new) → Follows (DoneOrNot work) (IsLeft old) (IsLeft new)
undone_left work old new same c left = (c, same.1 c left, inl refl)

-- a name that a call has is the one that it was given
pub torn_named : (given name : List ℕ) (left : Content → Type 0) (c : Content) → name ≡ given → ((d : Content) × left d × Torn name d c) → (d : Content) × left d × Torn given d c
torn_named given name left c is h = subst (λ (n : List ℕ). (d : Content) × left d × Torn n d c) is h

pub torn_unchanged : (name : List ℕ) (old new : List Call) → new ≡ old → Torn name (content_after nothing old) (content_after nothing new)
torn_unchanged name old new is = subst (λ (l : List Call). Torn name (content_after nothing old) (content_after nothing l)) (sym is) (torn_same (content_after nothing old) name)

-- what holds whatever the answer is
pub on_err : {T E P : Type 0} (r : Result T E) → P → OnErr r P
on_err (Ok x) h = tt
on_err (Err e) h = h

pub without_named : (given name : List ℕ) (left : Content → Type 0) (c : Content) → name ≡ given
    → ((d : Content) × left d × DoneOrNot (without name) d c) → (d : Content) × left d × DoneOrNot (without given) d c
without_named given name left c is h = subst (λ (n : List ℕ). (d : Content) × left d × DoneOrNot (without n) d c) is h

-- a rename is of the names that it was given
module _ (from to : List ℕ) (call : Call) (is : (old new : FileName) × (call ≡ Renamed old new) × (string_bytes old.text ≡ from) × (string_bytes new.text ≡ to)) where
  pub rename_done : (files : Content) → done call files ≡ renamed from to files
  rename_done files =
      ap (λ (c : Call). done c files) is.2 ∙ ap (λ (n : List ℕ). renamed n (string_bytes is.1.text) files) is.3 ∙ ap (λ (n : List ℕ). renamed from n files) is.4

  pub rename_left : (files : Content) (left : Content → Type 0) (c : Content) → LeftBy call files left c → (d : Content) × left d × DoneOrNot (renamed from to) d c
  rename_left files left c h =
      subst (λ (n : List ℕ). (d : Content) × left d × DoneOrNot (renamed from n) d c) is.4
      (subst (λ (n : List ℕ). (d : Content) × left d × DoneOrNot (renamed n (string_bytes is.1.text)) d c) is.3
      (subst (λ (k : Call). LeftBy k files left c) is.2 h))

-- only names that a file can have are in a folder
cond_none : (b : Bool) (x y : Option (List ℕ)) → (b ≡ true → ⊥) → y ≡ None → cond b x y ≡ None
cond_none true x y h e = absurd (h refl)
cond_none false x y h e = e

no_match : (name other : List ℕ) → IsTrue (is_file_name other) → is_file_name name ≡ false → bytes_eq name other ≡ true → ⊥
no_match name other valid bad same = false≢true (sym bad ∙ ap is_file_name ((bytes_eq-Decides name other).0 same) ∙ valid)

not_put : (files : Content) (at : List ℕ) (file : Option (List ℕ)) (name : List ℕ) → IsTrue (is_file_name at) → is_file_name name ≡ false → files name ≡ None → with_file files at file name ≡ None
not_put files at file name valid bad none = cond_none (bytes_eq name at) file (files name) (no_match name at valid bad) none

not_done : (call : Call) (files : Content) (name : List ℕ) → is_file_name name ≡ false → files name ≡ None → done call files name ≡ None
not_done Looked files name bad none = none
not_done (Wrote at bytes) files name bad none = not_put files (string_bytes at.text) (Some bytes.items) name at.valid bad none
not_done Synced files name bad none = none
not_done (Renamed from to) files name bad none =
    not_put (with_file files (string_bytes from.text) None) (string_bytes to.text) (files (string_bytes from.text)) name to.valid bad
    (not_put files (string_bytes from.text) None name from.valid bad none)
not_done (Removed at) files name bad none = not_put files (string_bytes at.text) None name at.valid bad none
not_done Failed files name bad none = none

pub absent : (files : Content) (calls : List Call) (name : List ℕ) → is_file_name name ≡ false → files name ≡ None → content_after files calls name ≡ None
absent files [] name bad none = none
absent files (call ∷ calls) name bad none = absent (done call files) calls name bad (not_done call files name bad none)
