-- What is found in an interval depends on what is held as a set.
use Rattle.std.proofs.Common.{◌≡◌, ℕ, ◌<◌, List, [], ◌∷◌, map, All, refl, sym, ap, subst}
use Rattle.std.specs.List.Sorted.{IsStrictlyIncreasing}
use Rattle.std.proofs.lemmas.List.Elements.{All-head, All-tail}
use Rattle.druid_time.specs.Extent.{Extent}
use Rattle.druid_timeline_members.specs.Members.{Member, SameMembers}
use Rattle.druid_timeline.specs.Holding.{Held, members_of, SameHeld}
use Rattle.druid_timeline.specs.Pieces.{Reported, Shown, shown_of, ArePartitions}
use Rattle.druid_timeline.proofs.HoldingLemmas.{SameHeld-members, ArePiecesIn-same}
use Rattle.druid_replay.specs.Execution.{AreFoundIn}
use Rattle.druid_replay.proofs.OrderOnce.{once, by_number}

parts_once : (old new : List Member) (xs ys : List ℕ) → SameMembers old new → ArePartitions old xs → ArePartitions new ys → xs ≡ ys
parts_once old new xs ys same hx hy =
    once (λ (x y : ℕ). x < y) IsStrictlyIncreasing by_number xs ys hx.rising hy.rising
    (λ n there. let m = (hx.all n).0 there in (hy.all n).1 (m.0, (same m.0).1 m.1, m.2))
    (λ n there. let m = (hy.all n).0 there in (hx.all n).1 (m.0, (same m.0).0 m.1, m.2))

reported_same : (p q : Reported) → shown_of p ≡ shown_of q → p.parts ≡ q.parts → p ≡ q
reported_same p q shown parts i = record { interval = (shown i).interval; group = (shown i).group; parts = parts i }

abbrev first_or : Shown → List Shown → Shown
first_or d [] = d
first_or d (x ∷ xs) = x

abbrev beyond : List Shown → List Shown
beyond [] = []
beyond (x ∷ xs) = xs

abbrev HavePartitions : List Held → List Reported → Type 0
HavePartitions held pieces = All (λ piece. ArePartitions (members_of held piece.group) piece.parts) pieces

reported_once : (old new : List Held) (ps qs : List Reported) → SameHeld old new → map shown_of ps ≡ map shown_of qs → HavePartitions old ps → HavePartitions new qs → ps ≡ qs
reported_once old new [] [] same e hp hq = refl
reported_once old new [] (q ∷ qs) same e hp hq = absurd cc
reported_once old new (p ∷ ps) [] same e hp hq = absurd cc
reported_once old new (p ∷ ps) (q ∷ qs) same e hp hq =
    let shown : shown_of p ≡ shown_of q = ap (first_or (shown_of p)) e in
    let here = All-head (λ piece. ArePartitions (members_of old piece.group) piece.parts) p ps hp in
    let there = All-head (λ piece. ArePartitions (members_of new piece.group) piece.parts) q qs hq in
    let there' : ArePartitions (members_of new p.group) q.parts = subst (λ (s : Shown). ArePartitions (members_of new s.group) q.parts) (sym shown) there in
    let parts = parts_once (members_of old p.group) (members_of new p.group) p.parts q.parts (SameHeld-members old new p.group same) here there' in
    let rest = reported_once old new ps qs same (ap beyond e)
    (All-tail (λ piece. ArePartitions (members_of old piece.group) piece.parts) p ps hp)
    (All-tail (λ piece. ArePartitions (members_of new piece.group) piece.parts) q qs hq) in
    (λ i. reported_same p q shown parts i ∷ rest i)

-- what is found in one holding is one list
pub found_once : (asked : Extent) (old new : List Held) (ps qs : List Reported) → SameHeld old new → AreFoundIn asked old ps → AreFoundIn asked new qs → ps ≡ qs
found_once asked old new ps qs same hp hq =
    reported_once old new ps qs same (ArePiecesIn-same _ old new (map shown_of ps) (map shown_of qs) same hp.shown hq.shown) hp.parts hq.parts
