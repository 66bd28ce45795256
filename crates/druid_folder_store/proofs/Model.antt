-- The device that obeys is honest.
use Rattle.std.proofs.Common.{◌≡◌, inl, inr, ℕ, ◌-◌, true, false, List, [], ◌∷◌, ◌++◌, Some, refl, sym, ◌∙◌, ap, subst, length, drop, arith, length-append}
use Rattle.druid_folder.proofs.Files.{torn_same}
use Rattle.druid_folder_store.specs.Event.{Event, did_list, did_read, did_write, did_sync, did_rename, did_remove}
use Rattle.druid_folder.specs.Folder.{Content}
use Rattle.druid_folder_store.specs.Honest.{Did, HonestIn}
use Rattle.druid_folder_store.specs.Model.{had_after, has_after, MayLeave, LeavesAfter, IsRight, AreRight, first_calls, IsHonestModel}

did_right : (event : Event) (earlier : List Event) (files : Content) (left : Content → Type 0) → left files → IsRight event files
    → Did event earlier files (had_after event files) left (MayLeave event files left)
did_right (did_list names) earlier files left now right = (right, refl, (λ c h. h, λ c h. h))
did_right (did_read name found) earlier files left now right = (right, refl, (λ c h. h, λ c h. h))
did_right (did_write name bytes true) earlier files left now right = (refl, λ c h. h)
did_right (did_write name bytes false) earlier files left now right = (torn_same files name, λ c h. h)
did_right (did_sync true) earlier files left now right = (λ kept c h. h, refl, λ c is. subst left (sym is) now)
did_right (did_sync false) earlier files left now right = (tt, refl, λ c h. h)
did_right (did_rename from to true) earlier files left now right = ((right, refl), λ c h. h)
did_right (did_rename from to false) earlier files left now right = (inl refl, λ c h. h)
did_right (did_remove name true) earlier files left now right = (refl, λ c h. h)
did_right (did_remove name false) earlier files left now right = (inl refl, λ c h. h)

stays_right : (event : Event) (files : Content) (left : Content → Type 0) → left files → MayLeave event files left (had_after event files)
stays_right (did_list names) files left now = now
stays_right (did_read name found) files left now = now
stays_right (did_write name bytes true) files left now = (files, now, (Some bytes, refl))
stays_right (did_write name bytes false) files left now = (files, now, torn_same files name)
stays_right (did_sync true) files left now = refl
stays_right (did_sync false) files left now = now
stays_right (did_rename from to true) files left now = (files, now, inr refl)
stays_right (did_rename from to false) files left now = (files, now, inl refl)
stays_right (did_remove name true) files left now = (files, now, inr refl)
stays_right (did_remove name false) files left now = (files, now, inl refl)

left_now : (calls : List Event) → LeavesAfter calls (has_after calls)
left_now [] = refl
left_now (event ∷ earlier) = stays_right event (has_after earlier) (LeavesAfter earlier) (left_now earlier)

drop_all : (newer earlier : List Event) → drop (length newer) (newer ++ earlier) ≡ earlier
drop_all [] earlier = refl
drop_all (event ∷ newer) earlier = drop_all newer earlier

first_are : (newer earlier : List Event) → first_calls (length earlier) (newer ++ earlier) ≡ earlier
first_are newer earlier =
    ap (λ n. drop n (newer ++ earlier)) (let same : length (newer ++ earlier) - length earlier ≡ length newer = omega (arith, length-append newer earlier) in same)
    ∙ drop_all newer earlier

module _ (all : List Event) where
  has : ℕ → Content
  has n = has_after (first_calls n all)

  leaves : ℕ → Content → Type 0
  leaves n = LeavesAfter (first_calls n all)

  honest_in : (earlier newer : List Event) → all ≡ newer ++ earlier → AreRight earlier
      → HonestIn (λ n. has_after (first_calls n all)) (λ n. LeavesAfter (first_calls n all)) (λ n. LeavesAfter (first_calls n all)) earlier
  honest_in [] newer is right =
      let first : first_calls 0 all ≡ [] = ap (first_calls 0) is ∙ first_are newer [] in
      subst (λ l. LeavesAfter l (has_after l)) (sym first) refl
  honest_in (event ∷ earlier) newer is right =
      let before : first_calls (length earlier) all ≡ earlier =
      ap (first_calls (length earlier)) (is ∙ assoc_one newer event earlier) ∙ first_are (newer ++ event ∷ []) earlier in
      let after : first_calls (length (event ∷ earlier)) all ≡ event ∷ earlier = ap (first_calls (length (event ∷ earlier))) is ∙ first_are newer (event ∷ earlier) in (
        honest_in earlier (newer ++ event ∷ []) (is ∙ assoc_one newer event earlier) right.1,
        subst (λ l. Did event earlier (has_after (first_calls (length earlier) all)) (has_after l) (LeavesAfter (first_calls (length earlier) all)) (LeavesAfter l)) (sym after)
            (subst (λ l. Did event earlier (has_after l) (has_after (event ∷ earlier)) (LeavesAfter l) (LeavesAfter (event ∷ earlier))) (sym before)
            (did_right event earlier (has_after earlier) (LeavesAfter earlier) (left_now earlier) right.0)),
        subst (λ l. LeavesAfter l (has_after l)) (sym after) (left_now (event ∷ earlier)),
        λ c during. inl during,
      )
    where
      assoc_one : (newer : List Event) (event : Event) (earlier : List Event) → newer ++ event ∷ earlier ≡ (newer ++ event ∷ []) ++ earlier
      assoc_one [] event earlier = refl
      assoc_one (first ∷ newer) event earlier = ap (λ l. first ∷ l) (assoc_one newer event earlier)

pub honest_model_lem : (calls : List Event) → AreRight calls → IsHonestModel calls
honest_model_lem calls right = honest_in calls calls [] refl right
