-- The pieces of runs in the parts of a set.
use Rattle.std.proofs.Common.{◌≡◌, ◌+◌, ◌<◌, ◌≤◌, ◌⊎◌, ◌++◌, ℕ, max, min, List, [], ◌∷◌, length, get_or, take, drop, map, Option, Some, None, Result, Ok, Err, refl, sym, ap, ◌∙◌, subst, inl, inr, arith}
use Rattle.std.specs.List.{All, Contains, filter_map}
use Rattle.std.proofs.lemmas.List.Elements.{All-push}
use Rattle.std.specs.Option.{is_some}
use Rattle.std.specs.Result.{IfOk}
use Rattle.std.proofs.lemmas.Bool.{cases_lt, lt-ltb, false≢true}
use Rattle.std.proofs.lemmas.List.{map-append}
use Rattle.druid_time.specs.Extent.{Extent, common}
use Rattle.druid_base.proofs.MemberLemmas.{Contains-nil, Contains-cons, Contains-later}
use Rattle.druid_timeline_members.specs.Members.{Member}
use Rattle.druid_timeline_chunks.specs.Chunks.{Chunk, AreChunks, members_at}
use Rattle.druid_timeline.specs.Chunks.{held_in}
use Rattle.druid_timeline.specs.Holding.{members_of}
use Rattle.druid_timeline.specs.Pieces.{Shown, shown_at, shown_of, AreRuns, ArePartitions, Reported, cut, cut_piece}
use Rattle.druid_timeline.proofs.ChunkLemmas.{members_of-held_in}
use Rattle.druid_timeline.proofs.CutLemmas.{cut_cases}
use Rattle.druid_timeline.proofs.RunsLemmas.{Shows-beyond, AreRuns-rest}
use Rattle.druid_timeline.proofs.SpliceLemmas.{member-Shows, split_at}
use Rattle.druid_timeline.proofs.SweepLemmas.{Run, AreRuns-stretch, drop_next}

-- ---- results

pub if_both : {T E : Type 0} (r : Result T E) (P Q S : T → Type 0) → IfOk r P → IfOk r Q → ((x : T) → P x → Q x → S x) → IfOk r S
if_both (Ok x) P Q S p q f = f x p q
if_both (Err e) P Q S p q f = tt

-- ---- partitions

pub no_partitions : ArePartitions [] []
no_partitions = record {
  rising = λ k l. absurd (omega (arith, l));
  all = λ p. (λ there. absurd (Contains-nil p there), λ h. absurd (Contains-nil h.0 h.1));
}

-- ---- runs cut by a part

-- what the runs have in common with a part
abbrev pub cut_runs : Extent → List Run → List Shown
cut_runs part rs = filter_map (cut_piece part) (map shown_at rs)

-- they have no instant in common
abbrev IsOff : Extent → Run → Type 0
IsOff part r = min part.end r.0.end ≤ max part.start r.0.start

none_cut : (part : Extent) (rs : List Run) → ((r : Run) → Contains rs r → IsOff part r) → cut_runs part rs ≡ []
none_cut part [] off = refl
none_cut part (r ∷ rs) off = by_rest (none_cut part rs (λ q there. off q (Contains-later r rs q there))) (cut_cases part (shown_at r)) where
  by_rest : cut_runs part rs ≡ []
      → ((max part.start r.0.start < min part.end r.0.end) × (cut_piece part (shown_at r) ≡ Some (record { interval = record { start = max part.start r.0.start; end = min part.end r.0.end }; group = r.1 }))) ⊎ ((min part.end r.0.end ≤ max part.start r.0.start) × (cut_piece part (shown_at r) ≡ None))
      → cut_runs part (r ∷ rs) ≡ []
  by_rest rest (inl (lt, e)) = let le = off r (0, omega arith, refl) in absurd (omega (arith, lt, le))
  by_rest rest (inr (le, e)) = rw e rest

filter_map-append : (f : Shown → Option Shown) (xs ys : List Shown) → filter_map f (xs ++ ys) ≡ filter_map f xs ++ filter_map f ys
filter_map-append f [] ys = refl
filter_map-append f (x ∷ xs) ys = by_head (filter_map-append f xs ys) (f x) refl where
  by_head : filter_map f (xs ++ ys) ≡ filter_map f xs ++ filter_map f ys → (o : Option Shown) → f x ≡ o → filter_map f ((x ∷ xs) ++ ys) ≡ filter_map f (x ∷ xs) ++ filter_map f ys
  by_head rest (Some y) e = rw e (ap (λ (zs : List Shown). y ∷ zs) rest)
  by_head rest None e = rw e rest

-- the runs that end before the part give nothing
pub cut_before : (part : Extent) (rs : List Run) (i : ℕ) → part.start < part.end → AreRuns (map shown_at rs) → ((r : Run) → Contains (take i rs) r → r.0.end ≤ part.start) → cut_runs part (drop i rs) ≡ cut_runs part rs
cut_before part rs i order runs before =
    let off = none_cut part (take i rs) (λ r there. let e = before r there in omega (arith, e)) in
    sym (
    ap (filter_map (cut_piece part)) (sym (split_at rs i))
    ∙ filter_map-append (cut_piece part) (map shown_at (take i rs)) (map shown_at (drop i rs))
    ∙ ap (λ (xs : List Shown). xs ++ cut_runs part (drop i rs)) off
    )

-- a run that overlaps the part gives a piece
pub cut_here : (part both : Extent) (r : Run) (more : List Run) → common part r.0 ≡ Some both → cut_runs part (r ∷ more) ≡ (record { interval = both; group = r.1 }) ∷ cut_runs part more
cut_here part both r more e = rw e refl

off_none : (part : Extent) (r : Run) → common part r.0 ≡ None → IsOff part r
off_none part r e = elim (cases_lt (max part.start r.0.start) (min part.end r.0.end)) [
  | inl lt ↦ absurd (some_none (rw (lt-ltb (max part.start r.0.start) (min part.end r.0.end) lt) at e))
  | inr le ↦ le
] where
  some_none : {x : Extent} → Some x ≡ None → ⊥
  some_none {x} e = false≢true (sym (ap is_some e))

-- where a run that ends after the part's start does not overlap it, neither do those after it
pub cut_past : (part : Extent) (r : Run) (more : List Run) → part.start < part.end → part.start < r.0.end → AreRuns (map shown_at (r ∷ more)) → common part r.0 ≡ None → cut_runs part (r ∷ more) ≡ []
cut_past part r more order past runs e = none_cut part (r ∷ more) (λ q there. elim (Contains-cons r more q there) [
  | inl same ↦ subst (IsOff part) same (off_none part r e)
  | inr later ↦
      let st : q.0.start < q.0.end = AreRuns-stretch more (AreRuns-rest (shown_at r) (map shown_at more) runs) q later in
      let own : r.0.start < r.0.end = AreRuns-stretch (r ∷ more) runs r (0, omega arith, refl) in
      let beyond : r.0.end ≤ q.0.start = Shows-beyond (shown_at r) (map shown_at more) q.0.start q.1 runs (member-Shows more q q.0.start later (omega arith, st)) in
      let off = off_none part r e in
      omega (arith, st, own, beyond, off, order, past)
])

-- ---- lists of pieces

push_front : (xs ys : List Shown) (s : Shown) → (xs ++ s ∷ []) ++ ys ≡ xs ++ s ∷ ys
push_front [] ys s = refl
push_front (x ∷ xs) ys s = ap (λ (zs : List Shown). x ∷ zs) (push_front xs ys s)

assoc : (xs ys zs : List Shown) → (xs ++ ys) ++ zs ≡ xs ++ (ys ++ zs)
assoc [] ys zs = refl
assoc (x ∷ xs) ys zs = ap (λ (ws : List Shown). x ∷ ws) (assoc xs ys zs)

append-nil : (xs : List Shown) → xs ++ [] ≡ xs
append-nil [] = refl
append-nil (x ∷ xs) = ap (λ (ws : List Shown). x ∷ ws) (append-nil xs)

-- one piece more, of the run at a place
pub piece_pushed : (pieces new : List Reported) (p : Reported) (part both : Extent) (rs : List Run) (i : ℕ) (r : Run) (whole : List Shown) → new ≡ pieces ++ p ∷ [] → shown_of p ≡ record { interval = both; group = r.1 }
    → i < length rs → r ≡ get_or rs i r → common part r.0 ≡ Some both → map shown_of pieces ++ cut_runs part (drop i rs) ≡ whole → map shown_of new ++ cut_runs part (drop (i + 1) rs) ≡ whole
piece_pushed pieces new p part both rs i r whole e same l at here h =
    ap (λ (ps : List Reported). map shown_of ps ++ cut_runs part (drop (i + 1) rs)) e
    ∙ ap (λ (xs : List Shown). xs ++ cut_runs part (drop (i + 1) rs)) (map-append shown_of pieces (p ∷ []))
    ∙ push_front (map shown_of pieces) (cut_runs part (drop (i + 1) rs)) (shown_of p)
    ∙ ap (λ (s : Shown). map shown_of pieces ++ s ∷ cut_runs part (drop (i + 1) rs)) same
    ∙ ap (λ (xs : List Shown). map shown_of pieces ++ xs) (sym (ap (cut_runs part) (drop_next rs i r l at) ∙ cut_here part both r (drop (i + 1) rs) here))
    ∙ h

-- where the runs that are left give nothing, all are cut
pub pieces_done : (pieces : List Reported) (left whole : List Shown) → left ≡ [] → map shown_of pieces ++ left ≡ whole → map shown_of pieces ≡ whole
pieces_done pieces left whole none h = sym (append-nil (map shown_of pieces)) ∙ ap (λ (xs : List Shown). map shown_of pieces ++ xs) (sym none) ∙ h

-- one part more
pub part_pushed : (pieces new : List Reported) (parts : List Extent) (rs : List Run) (i : ℕ) (part : Extent) (whole : List Shown) → i < length parts → part ≡ get_or parts i part
    → map shown_of new ≡ map shown_of pieces ++ cut_runs part rs → map shown_of pieces ++ cut (drop i parts) (map shown_at rs) ≡ whole → map shown_of new ++ cut (drop (i + 1) parts) (map shown_at rs) ≡ whole
part_pushed pieces new parts rs i part whole l at e h =
    ap (λ (xs : List Shown). xs ++ cut (drop (i + 1) parts) (map shown_at rs)) e
    ∙ assoc (map shown_of pieces) (cut_runs part rs) (cut (drop (i + 1) parts) (map shown_at rs))
    ∙ ap (λ (ps : List Extent). map shown_of pieces ++ cut ps (map shown_at rs)) (sym (drop_next parts i part l at))
    ∙ h

-- what holds of each piece, and of one more
pub all_pushed : {X : Type 0} (pieces new : List X) (p : X) (P : X → Type 0) → new ≡ pieces ++ p ∷ [] → All P pieces → P p → All P new
all_pushed pieces new p P e all own = subst (All P) (sym e) (All-push P pieces p all own)

-- what stands after a place stands from it on
pub later_within : (rs : List Run) (i : ℕ) (r q : Run) → i < length rs → r ≡ get_or rs i r → Contains (drop (i + 1) rs) q → Contains (drop i rs) q
later_within rs i r q l at there = subst (λ (xs : List Run). Contains xs q) (sym (drop_next rs i r l at)) (Contains-later r (drop (i + 1) rs) q there)

-- what holds of the partitions of a chunk's members holds of those of what is held of it
pub parts_held : (cs : List Chunk) (found : List Reported) → AreChunks cs → All (λ (p : Reported). ArePartitions (members_at cs p.group) p.parts) found → All (λ (p : Reported). ArePartitions (members_of (held_in cs) p.group) p.parts) found
parts_held cs found are all k d l =
    subst (λ (ms : List Member). ArePartitions ms (get_or found k d).parts) (sym (members_of-held_in cs are (get_or found k d).group)) (all k d l)
