-- What is visible depends on what is held as a set.
use Rattle.std.proofs.Common.{◌≡◌, ℕ, Bool, true, false, cond, List, [], ◌∷◌, filter, ◌⊎◌, inl, inr, refl, sym, ap, subst, ◌∙◌, arith}
use Rattle.std.specs.List.{Contains}
use Rattle.std.proofs.lemmas.Bool.{false≢true}
use Rattle.druid_segment_id.specs.Group.{Group, same_group}
use Rattle.druid_timeline_members.specs.Members.{Member, IsComplete, SameMembers}
use Rattle.druid_base.proofs.MemberLemmas.{Contains-cons, Contains-later, Contains-nil, Contains-map, Contains-map_back}
use Rattle.druid_timeline_members.proofs.SlotLemmas.{core_count-same}
use Rattle.druid_timeline.specs.Holding.{Held, members_of, SameHeld}
use Rattle.druid_timeline.specs.Overshadowed.{IsOvershadowed}
use Rattle.druid_timeline.specs.Pieces.{Shown, ArePiecesIn}
use Rattle.druid_timeline.specs.Visible.{IsCandidate, IsVisible}
use Rattle.druid_timeline.proofs.RunsLemmas.{AreRuns-one_list}

-- ---- what a test lets through

pub in_filter : {X : Type 0} (p : X → Bool) (xs : List X) (x : X) → Contains xs x → p x ≡ true → Contains (filter p xs) x
in_filter p [] x there e = absurd (Contains-nil x there)
in_filter p (y ∷ ys) x there e = by (p y) refl (Contains-cons y ys x there) (λ later. in_filter p ys x later e) where
  by : (b : Bool) → p y ≡ b → (y ≡ x) ⊎ Contains ys x → (Contains ys x → Contains (filter p ys) x) → Contains (cond b (y ∷ filter p ys) (filter p ys)) x
  by true f (inl here) rest = (0, omega arith, here)
  by true f (inr later) rest = Contains-later y (filter p ys) x (rest later)
  by false f (inl here) rest = absurd (false≢true (sym f ∙ ap p here ∙ e))
  by false f (inr later) rest = rest later

pub from_filter : {X : Type 0} (p : X → Bool) (xs : List X) (x : X) → Contains (filter p xs) x → Contains xs x × (p x ≡ true)
from_filter p [] x there = absurd (Contains-nil x there)
from_filter p (y ∷ ys) x there = by (p y) refl there (from_filter p ys x) where
  by : (b : Bool) → p y ≡ b → Contains (cond b (y ∷ filter p ys) (filter p ys)) x → (Contains (filter p ys) x → Contains ys x × (p x ≡ true)) → Contains (y ∷ ys) x × (p x ≡ true)
  by true f there rest =
      elim (Contains-cons y (filter p ys) x there) [
        | inl here ↦ ((0, omega arith, here), sym (ap p here) ∙ f)
        | inr later ↦ let found = rest later in (Contains-later y ys x found.0, found.1)
      ]
  by false f there rest = let found = rest there in (Contains-later y ys x found.0, found.1)

-- ---- members, and what is visible

abbrev of_group : Group → Held → Bool
of_group g h = same_group h.group g

members_among : (old new : List Held) (g : Group) → ((x : Held) → Contains old x → Contains new x) → (m : Member) → Contains (members_of old g) m → Contains (members_of new g) m
members_among old new g among m there =
    let found = Contains-map (λ (h : Held). h.member) (filter (of_group g) old) m there in
    let kept = from_filter (of_group g) old found.0 found.1 in
    subst (Contains (members_of new g)) found.2 (Contains-map_back (λ (h : Held). h.member) (filter (of_group g) new) found.0 (in_filter (of_group g) new found.0 (among found.0 kept.0) kept.1))

pub SameHeld-members : (old new : List Held) (g : Group) → SameHeld old new → SameMembers (members_of old g) (members_of new g)
SameHeld-members old new g same m = (members_among new old g (λ x. (same x).0) m, members_among old new g (λ x. (same x).1) m)

pub SameHeld-back : (old new : List Held) → SameHeld old new → SameHeld new old
SameHeld-back old new same x = ((same x).1, (same x).0)

pub IsComplete-same : (old new : List Member) → SameMembers old new → IsComplete old → IsComplete new
IsComplete-same old new same whole = record {
  some = (whole.some.0, (same whole.some.0).1 whole.some.1);
  cores = λ p below. let m = whole.cores p (omega (arith, below, core_count-same old new same)) in (m.0, (same m.0).1 m.1, m.2);
}

pub IsCandidate-same : (old new : List Held) (t : ℕ) (g : Group) → SameHeld old new → IsCandidate old t g → IsCandidate new t g
IsCandidate-same old new t g same c = record {
  complete = IsComplete-same (members_of old g) (members_of new g) (SameHeld-members old new g same) c.complete;
  has = c.has;
}

pub IsVisible-same : (old new : List Held) (t : ℕ) (g : Group) → SameHeld old new → IsVisible old t g → IsVisible new t g
IsVisible-same old new t g same v = record {
  candidate = IsCandidate-same old new t g same v.candidate;
  greatest = λ other c. v.greatest other (IsCandidate-same new old t other (SameHeld-back old new same) c);
}

pub IsOvershadowed-same : (old new : List Held) (g : Group) → SameHeld old new → IsOvershadowed old g → IsOvershadowed new g
IsOvershadowed-same old new g same h = record {
  complete = IsComplete-same (members_of old g) (members_of new g) (SameHeld-members old new g same) h.complete;
  unseen = λ t v. h.unseen t (IsVisible-same new old t g (SameHeld-back old new same) v);
}

-- ---- pieces

pub ArePiecesIn-same : (set : ℕ → Type 0) (old new : List Held) (ps qs : List Shown) → SameHeld old new → ArePiecesIn set old ps → ArePiecesIn set new qs → ps ≡ qs
ArePiecesIn-same set old new ps qs same hp hq =
    AreRuns-one_list ps qs hp.runs hq.runs
    (λ t g s. let at = (hp.shows t g).0 s in (hq.shows t g).1 (at.0, IsVisible-same old new t g same at.1))
    (λ t g s. let at = (hq.shows t g).0 s in (hp.shows t g).1 (at.0, IsVisible-same new old t g (SameHeld-back old new same) at.1))
