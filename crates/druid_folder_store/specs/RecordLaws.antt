-- For proofs alone: the laws of a folder, of one in memory.
use Rattle.std.specs.Prelude.{◌≡◌, ℕ, ◌≤◌, List, [], ◌∷◌, length, Some, refl}
use Rattle.std.proofs.Common.{inr, sym, subst, arith}
use Rattle.std.proofs.lemmas.List.{take_all}
use Rattle.druid_folder.specs.Folder.{Content, nothing}
use Rattle.druid_folder_store.specs.declared.record.Call.{Call}
use Rattle.druid_folder_store.specs.declared.record.Call.TheVariants.{Looked, Wrote, Synced, Renamed, Removed, Failed}
use Rattle.druid_folder_store.specs.Record.{done, content_after, LeftBy, LeftAfter, IsLeft, LeftSince}

done_may_stay : (call : Call) (files : Content) (left : Content → Type 0) → left files → LeftBy call files left (done call files)
done_may_stay Looked files left now = now
done_may_stay (Wrote name bytes) files left now = (files, now, (Some bytes.items, refl))
done_may_stay Synced files left now = refl
done_may_stay (Renamed from to) files left now = (files, now, inr refl)
done_may_stay (Removed name) files left now = (files, now, inr refl)
done_may_stay Failed files left now = now

content_stays : (calls : List Call) (files : Content) (left : Content → Type 0) → left files → LeftAfter files left calls (content_after files calls)
content_stays [] files left now = now
content_stays (call ∷ calls) files left now = content_stays calls (done call files) (LeftBy call files left) (done_may_stay call files left now)

-- a stop may leave what is read
pub content_may_stay : (calls : List Call) → IsLeft calls (content_after nothing calls)
content_may_stay calls = content_stays calls nothing (λ d. d ≡ nothing) refl

-- the state now is one of those since an earlier call
pub now_counts : (calls : List Call) (t : ℕ) (c : Content) → t ≤ length calls → IsLeft calls c → LeftSince calls t c
now_counts calls t c le left =
    (length calls, le, omega arith, subst (λ (l : List Call). IsLeft l c) (sym (take_all (length calls) calls (omega arith))) left)

-- since the last call there is no other
pub now_alone : (calls : List Call) (c : Content) → LeftSince calls (length calls) c → IsLeft calls c
now_alone calls c since =
    subst (λ (l : List Call). IsLeft l c) (take_all since.0 calls since.1) since.3
