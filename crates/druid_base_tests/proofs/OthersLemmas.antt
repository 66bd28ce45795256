-- Which chunks an edit may be compared with.
use Rattle.std.proofs.Common.{◌≡◌, ◌≤◌, ◌<◌, [], List, filter, Result, Ok, sym, subst, inl, inr, arith}
use Rattle.std.specs.List.{Contains}
use Rattle.std.specs.Result.{OnOk}
use Rattle.druid_base.proofs.MemberLemmas.{Contains-map, Contains-nil}
use Rattle.druid_segment_id.specs.Group.{Group, same_group}
use Rattle.druid_timeline.specs.Edited.{HasOthers}
use Rattle.druid_timeline.specs.Holding.{Held, AddsHeld}
use Rattle.druid_timeline.proofs.HoldingLemmas.{from_filter}
use Rattle.druid_timeline_chunks.proofs.ChunkLemmas.{same_group-exact}
use Rattle.druid_base_tests.specs.Others.{IsAmong, AreAmong}

-- a complete chunk has a member, of which something is held
pub HasOthers-among : (held : List Held) (g : Group) (others : List Group) → AreAmong held g others → HasOthers held g others
HasOthers-among held g others among h whole other shares =
    let member = Contains-map (λ (x : Held). x.member) (filter (λ (x : Held). same_group x.group h) held) whole.some.0 whole.some.1 in
    let found = from_filter (λ (x : Held). same_group x.group h) held member.0 member.1 in
    let same : member.0.group ≡ h = same_group-exact member.0.group h found.1 in
    subst (λ (k : Group). IsAmong g others k) same (among member.0 found.0) other shares

pub AreAmong-added : (old new : List Held) (h : Held) (g : Group) (others : List Group) → AddsHeld old new h → AreAmong old g others → IsAmong g others h.group → AreAmong new g others
AreAmong-added old new h g others adds among one x there = elim ((adds x).0 there) [
  | inl same ↦ subst (λ (y : Held). IsAmong g others y.group) (sym same) one
  | inr was ↦ among x was
]

-- what starts after another ends shares nothing with it
pub IsAmong-after : (g h : Group) (others : List Group) → g.interval.end ≤ h.interval.start → IsAmong g others h
IsAmong-after g h others after other (t, mine, its) =
    let a : h.interval.start ≤ t = mine.0 in let b : t < g.interval.end = its.1 in absurd (omega (arith, a, b, after))

pub IsAmong-itself : (g h : Group) (others : List Group) → h ≡ g → IsAmong g others h
IsAmong-itself g h others same other shares = absurd (other same)

pub AreAmong-nothing : (held : List Held) (g : Group) (others : List Group) → held ≡ [] → AreAmong held g others
AreAmong-nothing held g others none x there = absurd (Contains-nil x (subst (λ (xs : List Held). Contains xs x) none there))

-- what a call that went well promises
pub of_ok : {A E P : Type 0} (r : Result A E) (a : A) → r ≡ Ok a → OnOk r P → P
of_ok {A} {E} {P} r a e h = subst (λ (s : Result A E). OnOk s P) e h
