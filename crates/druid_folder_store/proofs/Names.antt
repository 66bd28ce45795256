-- The names that calls of a folder in memory have given, and names in order.
use Rattle.std.proofs.Common.{◌≡◌, ◌⊎◌, inl, inr, ⊎_elim, ℕ, Bool, true, false, cond, List, [], ◌∷◌, ◌++◌, Bor, Option, Some, None, IsSome, refl, sym, ◌∙◌, ap, subst}
use Rattle.std.proofs.lemmas.Bool.{false≢true}
use Rattle.std.proofs.lemmas.List.{map-append}
use Rattle.std.proofs.lemmas.List.Elements.{All-push, All-contains, Contains-append_left, Contains-push}
use Rattle.std.proofs.lemmas.Slice.Eq.{bytes_eq-Decides}
use Rattle.std.specs.List.{All, Contains}
use Rattle.std.specs.Option.{is_some, option_copied}
use Rattle.std.specs.Str.{bytes_eq}
use Rattle.std.specs.String.{string_bytes}
use Rattle.std.specs.declared.alloc.Global.{Global}
use Rattle.std.specs.declared.string.String.{String}
use Rattle.druid_folder.specs.FileName.{IsFileName}
use Rattle.druid_folder_store.specs.declared.name.FileName.{FileName}
use Rattle.druid_folder.specs.Folder.{Content, nothing, with_file, AreNames, names_of}
use Rattle.druid_folder_store.specs.declared.record.Call.{Call}
use Rattle.druid_folder_store.specs.declared.record.Call.TheVariants.{Looked, Wrote, Synced, Renamed, Removed, Failed}
use Rattle.druid_folder_store.specs.Record.{done, puts, content_after}

-- one of the calls may have put a file there
abbrev pub PutBy : List Call → List ℕ → Type 0
PutBy [] name = ⊥
PutBy (call ∷ calls) name = (puts call ≡ Some name) ⊎ PutBy calls name

put_by-push : (calls : List Call) (call : Call) (name : List ℕ) → PutBy (calls ++ call ∷ []) name → PutBy calls name ⊎ (puts call ≡ Some name)
put_by-push [] call name (inl is) = inr is
put_by-push [] call name (inr none) = absurd none
put_by-push (first ∷ calls) call name (inl is) = inl (inl is)
put_by-push (first ∷ calls) call name (inr more) = ⊎_elim (λ h. inl (inr h)) (λ is. inr is) (put_by-push calls call name more)

some_cond : (b : Bool) (x y : Option (List ℕ)) → IsSome (cond b x y) → (b ≡ true) ⊎ IsSome y
some_cond true x y h = inl refl
some_cond false x y h = inr h

none_cond : (b : Bool) (y : Option (List ℕ)) → IsSome (cond b None y) → IsSome y
none_cond true y h = absurd (false≢true h)
none_cond false y h = h

put_or_before : (call : Call) (files : Content) (name : List ℕ) → IsSome (done call files name) → (puts call ≡ Some name) ⊎ IsSome (files name)
put_or_before Looked files name h = inr h
put_or_before (Wrote at bytes) files name h = ⊎_elim
    (λ (same : bytes_eq name (string_bytes at.text) ≡ true). inl (ap Some (sym ((bytes_eq-Decides name (string_bytes at.text)).0 same))))
    (λ was. inr was) (some_cond (bytes_eq name (string_bytes at.text)) (Some bytes.items) (files name) h)
put_or_before Synced files name h = inr h
put_or_before (Renamed from to) files name h = ⊎_elim
    (λ (same : bytes_eq name (string_bytes to.text) ≡ true). inl (ap Some (sym ((bytes_eq-Decides name (string_bytes to.text)).0 same))))
    (λ was. inr (none_cond (bytes_eq name (string_bytes from.text)) (files name) was))
    (some_cond (bytes_eq name (string_bytes to.text)) (files (string_bytes from.text)) (with_file files (string_bytes from.text) None name) h)
put_or_before (Removed at) files name h = inr (none_cond (bytes_eq name (string_bytes at.text)) (files name) h)
put_or_before Failed files name h = inr h

put_by_one : (calls : List Call) (files : Content) (name : List ℕ) → IsSome (content_after files calls name) → PutBy calls name ⊎ IsSome (files name)
put_by_one [] files name h = inr h
put_by_one (call ∷ calls) files name h = ⊎_elim (λ put. inl (inr put))
    (λ was. ⊎_elim (λ is. inl (inl is)) (λ before. inr before) (put_or_before call files name was)) (put_by_one calls (done call files) name h)

-- the names of the files that some of the calls may have put there
pub record Collected (files : Content) (calls : List Call) (names : List (List ℕ)) : Type 0 where
  pub valid : All IsFileName names
  pub there : All (λ name. IsSome (files name)) names
  pub all : (name : List ℕ) → PutBy calls name → IsSome (files name) → Contains names name

module _ (files : Content) (calls : List Call) (call : Call) (names : List (List ℕ)) (so_far : Collected files calls names) where
  pub passed_over : ((name : List ℕ) → puts call ≡ Some name → IsSome (files name) → ⊥) → Collected files (calls ++ call ∷ []) names
  passed_over none = record {
    valid = so_far.valid;
    there = so_far.there;
    all = λ name put is. ⊎_elim (λ before. so_far.all name before is) (λ now. absurd (none name now is)) (put_by-push calls call name put);
  }

  pub collected : (name : List ℕ) → puts call ≡ Some name → IsFileName name → IsSome (files name) → Collected files (calls ++ call ∷ []) (names ++ name ∷ [])
  collected name puts_it valid is = record {
    valid = All-push IsFileName names name so_far.valid valid;
    there = All-push (λ n. IsSome (files n)) names name so_far.there is;
    all = λ other put there. ⊎_elim (λ before. Contains-append_left names (name ∷ []) other (so_far.all other before there))
        (λ now. subst (Contains (names ++ name ∷ [])) (let same : name ≡ other = cc (puts_it, now) in same) (Contains-push names name)) (put_by-push calls call other put);
  }

-- once all calls were looked at
pub names_collected : (calls : List Call) (names : List (List ℕ)) → Collected (content_after nothing calls) calls names → AreNames (content_after nothing calls) names
names_collected calls names all = record {
  valid = all.valid;
  each = λ name. (
    λ in_names. All-contains (λ n. IsSome (content_after nothing calls n)) names name all.there in_names,
    λ is. all.all name (⊎_elim (λ put. put) (λ none. absurd (false≢true none)) (put_by_one calls nothing name is)) is,
  );
}

copied_is : (found : Option (Bor (List ℕ))) → is_some (option_copied found) ≡ is_some found
copied_is None = refl
copied_is (Some bytes) = refl

-- one turn of the loop over the calls, which looks up the name that a call may have put a file under
module _ (all so_far : List Call) (call : Call) (names : List (String Global)) (name : FileName) (key : List ℕ) (found : Option (Bor (List ℕ)))
    (before : Collected (content_after nothing all) so_far (names_of names)) (puts_it : Some (string_bytes name.text) ≡ puts call)
    (key_is : key ≡ string_bytes name.text) (found_is : option_copied found ≡ content_after nothing all key) where
  found_there : is_some (content_after nothing all (string_bytes name.text)) ≡ is_some found
  found_there = ap (λ k. is_some (content_after nothing all k)) (sym key_is) ∙ ap is_some (sym found_is) ∙ copied_is found

  pub turn_found : (copy : String Global) (new : List (String Global)) → is_some found ≡ true → string_bytes copy ≡ string_bytes name.text → new ≡ names ++ copy ∷ []
      → Collected (content_after nothing all) (so_far ++ call ∷ []) (names_of new)
  turn_found copy new there same is = subst (Collected (content_after nothing all) (so_far ++ call ∷ [])) (sym (
      ap names_of is ∙ map-append string_bytes names (copy ∷ []) ∙ ap (λ n. names_of names ++ n ∷ []) same
      ))
      (collected (content_after nothing all) so_far call (names_of names) before (string_bytes name.text) (sym puts_it) name.valid (found_there ∙ there))

  pub turn_absent : is_some found ≡ false → Collected (content_after nothing all) (so_far ++ call ∷ []) (names_of names)
  turn_absent absent = passed_over (content_after nothing all) so_far call (names_of names) before (λ other now there.
      let same : string_bytes name.text ≡ other = cc (puts_it, now) in
      false≢true (sym absent ∙ sym found_there ∙ ap (λ n. is_some (content_after nothing all n)) same ∙ there))

-- and one that passes over a call that puts no file anywhere
pub turn_other : (all so_far : List Call) (call : Call) (names : List (String Global)) → Collected (content_after nothing all) so_far (names_of names) → None ≡ puts call
    → Collected (content_after nothing all) (so_far ++ call ∷ []) (names_of names)
turn_other all so_far call names before none = passed_over (content_after nothing all) so_far call (names_of names) before (λ other now there. cc (none, now))
