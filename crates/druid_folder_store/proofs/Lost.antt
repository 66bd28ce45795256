-- A stop that keeps nothing but what was synced: what it leaves is what the calls leave that are made of these calls.
use Rattle.std.proofs.Common.{◌≡◌, inl, ℕ, ◌+◌, ◌<◌, ◌≤◌, Bool, true, false, List, [], ◌∷◌, ◌++◌, Some, length, take, drop, get_or, set, refl, sym, ◌∙◌, ap, subst, arith}
use Rattle.std.proofs.lemmas.Bool.{false≢true}
use Rattle.std.proofs.lemmas.List.{take_more, drop_more, drop-set, take-set, length-set, get_or-take, take-append-drop, drop_all, take-take}
use Rattle.druid_folder.specs.Folder.{Content, nothing}
use Rattle.druid_folder_store.specs.declared.record.Call.{Call}
use Rattle.druid_folder_store.specs.declared.record.Call.TheVariants.{Looked, Wrote, Synced, Renamed, Removed, Failed}
use Rattle.druid_folder_store.specs.Record.{done, content_after, LeftBy, LeftAfter, IsLeft, is_sync, lost, lost_after, stopped}
use Rattle.druid_folder_store.specs.RecordLaws.{content_may_stay}

lost_left : (call : Call) (files kept : Content) (left : Content → Type 0) → left kept → LeftBy call files left (lost call files kept)
lost_left Looked files kept left was = was
lost_left (Wrote name bytes) files kept left was = (kept, was, (Some [], refl))
lost_left Synced files kept left was = refl
lost_left (Renamed from to) files kept left was = (kept, was, inl refl)
lost_left (Removed name) files kept left was = (kept, was, inl refl)
lost_left Failed files kept left was = was

lost_after-left : (calls : List Call) (files kept : Content) (left : Content → Type 0) → left kept → LeftAfter files left calls (lost_after files kept calls)
lost_after-left [] files kept left was = was
lost_after-left (call ∷ calls) files kept left was = lost_after-left calls (done call files) (lost call files kept) (LeftBy call files left) (lost_left call files kept left was)

lost_may_be_left : (calls : List Call) → IsLeft calls (lost_after nothing nothing calls)
lost_may_be_left calls = lost_after-left calls nothing nothing (λ d. d ≡ nothing) refl

-- it is what a stop may leave
pub stopped_may_be_left : (keep : Bool) (calls : List Call) → IsLeft calls (stopped keep calls)
stopped_may_be_left true calls = content_may_stay calls
stopped_may_be_left false calls = lost_may_be_left calls

content_after-append : (xs ys : List Call) (files : Content) → content_after files (xs ++ ys) ≡ content_after (content_after files xs) ys
content_after-append [] ys files = refl
content_after-append (call ∷ xs) ys files = content_after-append xs ys (done call files)

lost_after-append : (xs ys : List Call) (files kept : Content) → lost_after files kept (xs ++ ys) ≡ lost_after (content_after files xs) (lost_after files kept xs) ys
lost_after-append [] ys files kept = refl
lost_after-append (call ∷ xs) ys files kept = lost_after-append xs ys (done call files) (lost call files kept)

lost_sync : (call : Call) (files kept : Content) → is_sync call ≡ true → lost call files kept ≡ done call files
lost_sync Looked files kept is = absurd (false≢true is)
lost_sync (Wrote name bytes) files kept is = absurd (false≢true is)
lost_sync Synced files kept is = refl
lost_sync (Renamed from to) files kept is = absurd (false≢true is)
lost_sync (Removed name) files kept is = absurd (false≢true is)
lost_sync Failed files kept is = absurd (false≢true is)

-- the calls from place i on are undone, and those before are as they were
pub record AreLost (old now : List Call) (i : ℕ) : Type 0 where
  pub front : take i now ≡ take i old
  pub whole : length now ≡ length old
  pub within : i ≤ length now
  pub rest : (files kept : Content) → content_after kept (drop i now) ≡ lost_after files kept (drop i old)

pub none_lost : (calls : List Call) → AreLost calls calls (length calls)
none_lost calls = record {
  front = refl;
  whole = refl;
  within = omega arith;
  rest = λ files kept. at_end (drop (length calls) calls) (drop_all (length calls) calls (omega arith)) files kept;
}
  where
    at_end : (left : List Call) → left ≡ [] → (files kept : Content) → content_after kept left ≡ lost_after files kept left
    at_end left is files kept = ap (content_after kept) is ∙ sym (ap (lost_after files kept) is)

-- a place of what was, where the calls are still as they were
still : (old now : List Call) (i : ℕ) (own : Call) → take (i + 1) now ≡ take (i + 1) old → get_or now i own ≡ own → get_or old i own ≡ own
still old now i own front here =
    sym (get_or-take (i + 1) old i own (omega arith)) ∙ ap (λ (l : List Call). get_or l i own) (sym front) ∙ get_or-take (i + 1) now i own (omega arith) ∙ here

less : (old now : List Call) (i : ℕ) → take (i + 1) now ≡ take (i + 1) old → take i now ≡ take i old
less old now i front = sym (take-take i (i + 1) now (omega arith)) ∙ ap (take i) front ∙ take-take i (i + 1) old (omega arith)

module _ (old now : List Call) (i next : ℕ) (own : Call) (is_next : next ≡ i + 1) (here : get_or now i own ≡ own) (are : AreLost old now next) where
  so_far : AreLost old now (i + 1)
  so_far = subst (AreLost old now) is_next are

  within : i < length now
  within = omega (arith, so_far.within)

  within_old : i < length old
  within_old = subst (λ (n : ℕ). i < n) so_far.whole within

  here_old : get_or old i own ≡ own
  here_old = still old now i own so_far.front here

  -- one call more is undone
  pub one_lost : (new : Call) → ((files kept : Content) → done new kept ≡ lost own files kept) → AreLost old (set now i new) i
  one_lost new is = record {
    front = take-set now i new ∙ less old now i so_far.front;
    whole = length-set now i new ∙ so_far.whole;
    within = omega (arith, within, length-set now i new);
    rest = λ files kept.
        ap (content_after kept) (drop-set now i new within)
        ∙ so_far.rest (done own files) (done new kept)
        ∙ ap (λ (k : Content). lost_after (done own files) k (drop (i + 1) old)) (is files kept)
        ∙ ap (λ (call : Call). lost_after files kept (call ∷ drop (i + 1) old)) (sym here_old)
        ∙ ap (lost_after files kept) (sym (drop_more old i own within_old));
  }

  abbrev synced : Content
  synced = content_after nothing (take (i + 1) now)

  lost_before : is_sync own ≡ true → lost_after nothing nothing (take (i + 1) old) ≡ synced
  lost_before is =
      ap (lost_after nothing nothing) ends
      ∙ lost_after-append (take i old) (own ∷ []) nothing nothing
      ∙ lost_sync own (content_after nothing (take i old)) (lost_after nothing nothing (take i old)) is
      ∙ sym (content_after-append (take i old) (own ∷ []) nothing)
      ∙ ap (content_after nothing) (sym ends ∙ sym so_far.front)
    where
      ends : take (i + 1) old ≡ take i old ++ own ∷ []
      ends = take_more old i own within_old ∙ ap (λ (call : Call). take i old ++ call ∷ []) here_old

  -- at a sync nothing more is
  pub lost_to_sync : is_sync own ≡ true → content_after nothing now ≡ lost_after nothing nothing old
  lost_to_sync is =
      ap (content_after nothing) (sym (take-append-drop (i + 1) now))
      ∙ content_after-append (take (i + 1) now) (drop (i + 1) now) nothing
      ∙ so_far.rest synced synced
      ∙ ap (λ (f : Content). lost_after f synced (drop (i + 1) old)) (ap (content_after nothing) so_far.front)
      ∙ ap (λ (k : Content). lost_after (content_after nothing (take (i + 1) old)) k (drop (i + 1) old)) (sym (lost_before is))
      ∙ sym (lost_after-append (take (i + 1) old) (drop (i + 1) old) nothing nothing)
      ∙ ap (lost_after nothing nothing) (take-append-drop (i + 1) old)

pub all_lost : (old now : List Call) → AreLost old now 0 → content_after nothing now ≡ lost_after nothing nothing old
all_lost old now so_far = so_far.rest nothing nothing
