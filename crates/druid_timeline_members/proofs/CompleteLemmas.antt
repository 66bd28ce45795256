-- What is complete with one member more, and without one.
use Rattle.std.proofs.Common.{◌≡◌, ◌+◌, ◌<◌, ◌≤◌, ◌⊎◌, ◌↔◌, ℕ, zero, suc, Bool, true, false, cond, max, List, [], ◌∷◌, length, get_or, map, IsSome, is_some, refl, sym, ap, ◌∙◌, subst, inl, inr, arith}
use Rattle.std.specs.Ordering.{nat_cmp}
use Rattle.std.specs.BTreeMap as tree
use Rattle.std.specs.List.{Contains, zip}
use Rattle.std.proofs.lemmas.Bool.{cases_eq, cases_lt, false≢true}
use Rattle.std.proofs.lemmas.List.{get_or_default}
use Rattle.std.proofs.lemmas.List.Elements.{Contains-append_cases}
use Rattle.std.proofs.lemmas.Slice.Zip.{length-zip, get_or-zip}
use Rattle.druid_base.proofs.MemberLemmas.{Contains-nil, Contains-cons, Contains-later, Contains-map, Contains-map_back, Contains-flat_map_back}
use Rattle.druid_timeline_members.specs.Members.{Member, core_count, HasPartition, IsComplete, IsAt, AllAt, Adds, RemovesPlace}
use Rattle.druid_timeline_members.specs.Slots.{Statement, Replica, member_at, members_in, NoneEmpty, IsAlone, kept_below}
use Rattle.druid_timeline_members.proofs.CountLemmas.{Entries, kept_below-all, kept_below-most, kept_below-whole}
use Rattle.druid_timeline_members.proofs.SlotLemmas.{Slots, core_count-adds, core_count-least, core_count-member, core_count-removes, kept-HasPartition}

-- ---- all partitions below a bound but one

pub kept_below-but : (m : Slots) (p n : ℕ) → p < n → is_some (tree.get nat_cmp m p) ≡ false → ((q : ℕ) → q < n → (q ≡ p) ⊎ IsSome (tree.get nat_cmp m q)) → kept_below m n + 1 ≡ n
kept_below-but m p zero l out all = absurd (omega arith)
kept_below-but m p (suc n) l out all = by (is_some (tree.get nat_cmp m n)) refl (cases_eq p n) (λ less. kept_below-but m p n less out (λ q below. all q (omega arith))) where
  before : p ≡ n → (q : ℕ) → q < n → (q ≡ p) ⊎ IsSome (tree.get nat_cmp m q) → IsSome (tree.get nat_cmp m q)
  before same q below (inl is) = absurd (omega arith)
  before same q below (inr there) = there

  there_at : (p ≡ n → ⊥) → (n ≡ p) ⊎ IsSome (tree.get nat_cmp m n) → IsSome (tree.get nat_cmp m n)
  there_at other (inl is) = absurd (other (sym is))
  there_at other (inr there) = there

  by : (b : Bool) → is_some (tree.get nat_cmp m n) ≡ b → (p ≡ n) ⊎ (p ≡ n → ⊥) → (p < n → kept_below m n + 1 ≡ n) → kept_below m n + cond b 1 0 + 1 ≡ suc n
  by true e (inl same) rest = absurd (false≢true (sym out ∙ ap (λ (k : ℕ). is_some (tree.get nat_cmp m k)) same ∙ e))
  by false e (inl same) rest =
      let whole = kept_below-whole m n (λ q below. before same q below (all q (omega arith))) in omega (arith, whole)
  by true e (inr other) rest = let r = rest (omega arith) in omega (arith, r)
  by false e (inr other) rest = absurd (false≢true (sym e ∙ there_at other (all n (omega arith))))

pub kept_below-but_back : (m : Slots) (p n : ℕ) → p < n → is_some (tree.get nat_cmp m p) ≡ false → kept_below m n + 1 ≡ n → (q : ℕ) → q < n → (q ≡ p) ⊎ IsSome (tree.get nat_cmp m q)
kept_below-but_back m p zero l out e q below = absurd (omega arith)
kept_below-but_back m p (suc n) l out e q below = by (is_some (tree.get nat_cmp m n)) refl e (cases_eq p n) (cases_eq q n) (λ less f. kept_below-but_back m p n less out f q) where
  by : (b : Bool) → is_some (tree.get nat_cmp m n) ≡ b → kept_below m n + cond b 1 0 + 1 ≡ suc n → (p ≡ n) ⊎ (p ≡ n → ⊥) → (q ≡ n) ⊎ (q ≡ n → ⊥) → (p < n → kept_below m n + 1 ≡ n → q < n → (q ≡ p) ⊎ IsSome (tree.get nat_cmp m q)) → (q ≡ p) ⊎ IsSome (tree.get nat_cmp m q)
  by true f e (inl same) at rest = absurd (false≢true (sym out ∙ ap (λ (k : ℕ). is_some (tree.get nat_cmp m k)) same ∙ f))
  by false f e (inl same) (inl here) rest = inl (here ∙ sym same)
  by false f e (inl same) (inr other) rest = inr (kept_below-all m n (omega (arith, e)) q (omega arith))
  by true f e (inr apart) (inl here) rest = inr (subst (λ (k : ℕ). IsSome (tree.get nat_cmp m k)) (sym here) f)
  by true f e (inr apart) (inr other) rest = rest (omega arith) (omega (arith, e)) (omega arith)
  by false f e (inr apart) at rest = absurd (false≢true (sym out ∙ kept_below-all m n (omega (arith, e)) p (omega arith)))

-- where one is not there, they are fewer
pub kept_below-less : (m : Slots) (p n : ℕ) → p < n → is_some (tree.get nat_cmp m p) ≡ false → kept_below m n < n
kept_below-less m p n l out = elim (cases_eq (kept_below m n) n) [
  | inl all ↦ absurd (false≢true (sym out ∙ kept_below-all m n all p l))
  | inr other ↦ let most = kept_below-most m n in omega (arith, most, other)
]

-- ---- the core counts of other nodes

abbrev none_stated : Statement
none_stated = record { core = 0; serves = false }

-- of the first nodes each other one names at most the count, which is 0 or named by another node
pub record IsCoreOfOthers (nodes : List ℕ) (stated : List Statement) (node i core : ℕ) : Type 0 where
  pub most : (k : ℕ) → k < i → (get_or nodes k 0 ≡ node → ⊥) → (get_or stated k none_stated).core ≤ core
  pub some : (core ≡ 0) ⊎ ((k : ℕ) × (k < length nodes) × (get_or nodes k 0 ≡ node → ⊥) × ((get_or stated k none_stated).core ≡ core))

pub others-none : (nodes : List ℕ) (stated : List Statement) (node : ℕ) → IsCoreOfOthers nodes stated node 0 0
others-none nodes stated node = record { most = λ k below. absurd (omega arith); some = inl refl }

pub others-next : (nodes : List ℕ) (stated : List Statement) (node i core : ℕ) (s : Statement) (most : ℕ) → length nodes ≡ length stated → i < length nodes → s ≡ get_or stated i s → (get_or nodes i 0 ≡ node → ⊥) → most ≡ max core s.core
    → IsCoreOfOthers nodes stated node i core → IsCoreOfOthers nodes stated node (i + 1) most
others-next nodes stated node i core s most same l at_s other e h = record {
  most = λ k below apart. elim (cases_eq k i) [
    | inl here ↦ let f = core_at k here in omega (arith, f, e)
    | inr before ↦ let f = h.most k (omega arith) apart in omega (arith, f, e)
  ];
  some = elim (cases_lt core s.core) [
    | inl less ↦ inr (i, l, other, own ∙ omega (arith, e, less))
    | inr le ↦ elim h.some [
      | inl none ↦ inl (omega (arith, e, le, none))
      | inr found ↦ inr (found.0, found.1, found.2, found.3 ∙ omega (arith, e, le))
    ]
  ];
} where
  own : (get_or stated i none_stated).core ≡ s.core
  own = ap (λ (x : Statement). x.core) (get_or_default stated i none_stated s (omega (arith, same, l)) ∙ sym at_s)

  core_at : (k : ℕ) → k ≡ i → (get_or stated k none_stated).core ≡ s.core
  core_at k here = ap (λ (j : ℕ). (get_or stated j none_stated).core) here ∙ own

pub others-passed : (nodes : List ℕ) (stated : List Statement) (node i core : ℕ) → get_or nodes i 0 ≡ node → IsCoreOfOthers nodes stated node i core → IsCoreOfOthers nodes stated node (i + 1) core
others-passed nodes stated node i core is h = record {
  most = λ k below apart. elim (cases_eq k i) [
    | inl here ↦ absurd (apart (ap (λ (j : ℕ). get_or nodes j 0) here ∙ is))
    | inr before ↦ h.most k (omega arith) apart
  ];
  some = h.some;
}

pub others-most : (nodes : List ℕ) (stated : List Statement) (node i core : ℕ) → length nodes ≡ length stated → length nodes ≤ i → IsCoreOfOthers nodes stated node i core → (r : Replica) → Contains (zip nodes stated) r → (r.0 ≡ node → ⊥) → r.1.core ≤ core
others-most nodes stated node i core same done h r (k, l, e) other =
    let short = length-zip nodes stated in
    let pair = sym (get_or-zip nodes stated k r (omega (arith, short, l)) (omega (arith, short, l, same))) ∙ e in
    let first : get_or nodes k 0 ≡ r.0 = get_or_default nodes k 0 r.0 (omega (arith, short, l)) ∙ ap (λ (x : Replica). x.0) pair in
    let second : (get_or stated k none_stated).core ≡ r.1.core = ap (λ (x : Statement). x.core) (get_or_default stated k none_stated r.1 (omega (arith, short, l, same)) ∙ ap (λ (x : Replica). x.1) pair) in
    let most = h.most k (omega (arith, short, l, done)) (λ is. other (sym first ∙ is)) in
    omega (arith, second, most)

pub others-some : (nodes : List ℕ) (stated : List Statement) (node i core : ℕ) → length nodes ≡ length stated → IsCoreOfOthers nodes stated node i core → (core ≡ 0) ⊎ ((r : Replica) × Contains (zip nodes stated) r × (r.0 ≡ node → ⊥) × (r.1.core ≡ core))
others-some nodes stated node i core same h = elim h.some [
  | inl none ↦ inl none
  | inr found ↦ inr (pair found.0, (found.0, within found.0 found.1, at found.0 found.1), found.2, found.3)
] where
  pair : ℕ → Replica
  pair k = (get_or nodes k 0, get_or stated k none_stated)

  within : (k : ℕ) → k < length nodes → k < length (zip nodes stated)
  within k l = let short = length-zip nodes stated in omega (arith, short, l, same)

  at : (k : ℕ) → k < length nodes → get_or (zip nodes stated) k (pair k) ≡ pair k
  at k l =
      get_or-zip nodes stated k (pair k) l (omega (arith, l, same)) ∙ (λ i. (get_or_default nodes k (pair k).0 0 l i, get_or_default stated k (pair k).1 none_stated (omega (arith, l, same)) i))

-- ---- the core counts beside one place

-- each member that is not at the place names at most the count or is left, and the count is 0 or named by such a member
pub record IsCoreBeside (entries rest : Entries) (p node core : ℕ) : Type 0 where
  pub among : (e : ℕ × List Replica) → Contains rest e → Contains entries e
  pub most : (x : Member) → Contains (members_in entries) x → (IsAt p node x → ⊥) → (x.core ≤ core) ⊎ Contains (members_in rest) x
  pub some : (core ≡ 0) ⊎ ((x : Member) × Contains (members_in entries) x × (IsAt p node x → ⊥) × (x.core ≡ core))

pub beside-start : (entries : Entries) (p node : ℕ) → IsCoreBeside entries entries p node 0
beside-start entries p node = record { among = λ e there. there; most = λ x there not. inr there; some = inl refl }

pub beside-next : (entries rest : Entries) (e : ℕ × List Replica) (p node core own most : ℕ) → ((r : Replica) → Contains e.1 r → (IsAt p node (member_at e.0 r) → ⊥) → r.1.core ≤ own)
    → (own ≡ 0) ⊎ ((r : Replica) × Contains e.1 r × (IsAt p node (member_at e.0 r) → ⊥) × (r.1.core ≡ own)) → most ≡ max core own → IsCoreBeside entries (e ∷ rest) p node core → IsCoreBeside entries rest p node most
beside-next entries rest e p node core own most own_most own_some is h = record {
  among = λ x there. h.among x (Contains-later e rest x there);
  most = λ x there not. elim (h.most x there not) [
    | inl le ↦ inl (omega (arith, is, le))
    | inr left ↦ elim (Contains-append_cases (map (member_at e.0) e.1) (members_in rest) x left) [
      | inl first ↦ inl (named x not first)
      | inr later ↦ inr later
    ]
  ];
  some = elim (cases_lt core own) [
    | inl less ↦ elim own_some [
      | inl none ↦ absurd (omega (arith, less, none))
      | inr found ↦ inr (member_at e.0 found.0, there found.0 found.1, found.2, found.3 ∙ omega (arith, is, less))
    ]
    | inr le ↦ elim h.some [
      | inl none ↦ inl (omega (arith, is, le, none))
      | inr found ↦ inr (found.0, found.1, found.2, found.3 ∙ omega (arith, is, le))
    ]
  ];
} where
  named : (x : Member) → (IsAt p node x → ⊥) → Contains (map (member_at e.0) e.1) x → x.core ≤ most
  named x not first =
      let r = Contains-map (member_at e.0) e.1 x first in
      let le = own_most r.0 r.1 (λ at. not (subst (IsAt p node) r.2 at)) in
      let same = ap (λ (y : Member). y.core) r.2 in
      omega (arith, le, same, is)

  there : (r : Replica) → Contains e.1 r → Contains (members_in entries) (member_at e.0 r)
  there r inside =
      Contains-flat_map_back (λ (e : ℕ × List Replica). map (member_at e.0) e.1) entries e (member_at e.0 r) (h.among e (0, omega arith, refl)) (Contains-map_back (member_at e.0) e.1 r inside)

-- the count of the members that are left once the place is taken out
left_core : (entries : Entries) (left : List Member) (p node core : ℕ) → RemovesPlace (members_in entries) left p node → core_count left ≤ core
    → (core ≡ 0) ⊎ ((x : Member) × Contains (members_in entries) x × (IsAt p node x → ⊥) × (x.core ≡ core)) → core ≡ core_count left
left_core entries left p node core removes up (inl none) = omega (arith, up, none)
left_core entries left p node core removes up (inr found) =
    let low = core_count-member left found.0 ((removes found.0).1 (found.1, found.2)) in
    let is = found.3 in
    omega (arith, up, low, is)

pub beside-bound : (entries rest : Entries) (left : List Member) (p node core bound : ℕ) → RemovesPlace (members_in entries) left p node → core_count (members_in entries) ≤ bound → core ≡ bound → IsCoreBeside entries rest p node core → core ≡ core_count left
beside-bound entries rest left p node core bound removes le is h =
    let down = core_count-removes (members_in entries) left p node removes in
    left_core entries left p node core removes (omega (arith, down, le, is)) h.some

pub beside-end : (entries : Entries) (left : List Member) (p node core : ℕ) → RemovesPlace (members_in entries) left p node → IsCoreBeside entries [] p node core → core ≡ core_count left
beside-end entries left p node core removes h =
    left_core entries left p node core removes (core_count-least left core (λ x there. each x ((removes x).0 there))) h.some where
      each : (x : Member) → Contains (members_in entries) x × (IsAt p node x → ⊥) → x.core ≤ core
      each x was = elim (h.most x was.0 was.1) [
        | inl le ↦ le
        | inr none ↦ absurd (Contains-nil x none)
      ]

-- some member names the count, or it is 0
pub core_count-some : (ms : List Member) → (core_count ms ≡ 0) ⊎ ((x : Member) × Contains ms x × (x.core ≡ core_count ms))
core_count-some [] = inl refl
core_count-some (m ∷ ms) = elim (cases_lt m.core (core_count ms)) [
  | inl less ↦ elim (core_count-some ms) [
    | inl none ↦ absurd (omega (arith, less, none))
    | inr found ↦ inr (found.0, Contains-later m ms found.0 found.1, found.2 ∙ omega (arith, less))
  ]
  | inr le ↦ inr (m, (0, omega arith, refl), omega (arith, le))
]

-- ---- one of the members that is not at a place

cases_at : (m : Member) (p node : ℕ) → IsAt p node m ⊎ (IsAt p node m → ⊥)
cases_at m p node = elim (cases_eq m.partition p) [
  | inr other ↦ inr (λ at. other at.0)
  | inl same ↦ elim (cases_eq m.node node) [
    | inl is ↦ inl (same, is)
    | inr other ↦ inr (λ at. other at.1)
  ]
]

all_at_or : (ms : List Member) (p node : ℕ) → AllAt ms p node ⊎ ((x : Member) × Contains ms x × (IsAt p node x → ⊥))
all_at_or [] p node = inl (λ x there. absurd (Contains-nil x there))
all_at_or (m ∷ ms) p node = elim (cases_at m p node) [
  | inr not ↦ inr (m, (0, omega arith, refl), not)
  | inl at ↦ elim (all_at_or ms p node) [
    | inl all ↦ inl (λ x there. elim (Contains-cons m ms x there) [
      | inl here ↦ subst (IsAt p node) here at
      | inr later ↦ all x later
    ])
    | inr found ↦ inr (found.0, Contains-later m ms found.0 found.1, found.2)
  ]
]

abbrev AllOf : List Member → ℕ → ℕ → Type 0
AllOf ms p node = (x : Member) → Contains ms x → x.partition ≡ p → x.node ≡ node

all_of_or : (ms : List Member) (p node : ℕ) → AllOf ms p node ⊎ ((x : Member) × Contains ms x × (x.partition ≡ p) × (x.node ≡ node → ⊥))
all_of_or [] p node = inl (λ x there at. absurd (Contains-nil x there))
all_of_or (m ∷ ms) p node = elim (all_of_or ms p node) [
  | inr found ↦ inr (found.0, Contains-later m ms found.0 found.1, found.2, found.3)
  | inl all ↦ elim (cases_eq m.partition p) [
    | inr other ↦ inl (λ x there at. elim (Contains-cons m ms x there) [
      | inl here ↦ absurd (other (ap (λ (y : Member). y.partition) here ∙ at))
      | inr later ↦ all x later at
    ])
    | inl same ↦ elim (cases_eq m.node node) [
      | inr other ↦ inr (m, (0, omega arith, refl), same, other)
      | inl is ↦ inl (λ x there at. elim (Contains-cons m ms x there) [
        | inl here ↦ sym (ap (λ (y : Member). y.node) here) ∙ is
        | inr later ↦ all x later at
      ])
    ]
  ]
]

-- ---- complete, or not

pub complete_with : (m : Slots) → tree.IsOrdered nat_cmp m → NoneEmpty m → (new : List Member) (a : Member) (core : ℕ) → core ≡ max (core_count (members_in m.entries)) a.core → Adds (members_in m.entries) new a
    → ((q : ℕ) → q < core → (q ≡ a.partition) ⊎ IsSome (tree.get nat_cmp m q)) ↔ IsComplete new
complete_with m om none new a core is adds = (forth, back) where
  count : core_count new ≡ max (core_count (members_in m.entries)) a.core
  count = core_count-adds (members_in m.entries) new a adds

  own : Contains new a
  own = (adds a).1 (inl refl)

  forth : ((q : ℕ) → q < core → (q ≡ a.partition) ⊎ IsSome (tree.get nat_cmp m q)) → IsComplete new
  forth all = record {
    some = (a, own);
    cores = λ q l. elim (all q (omega (arith, count, is, l))) [
      | inl here ↦ (a, own, sym here)
      | inr there ↦ let x = (kept-HasPartition m q om none).0 there in (x.0, (adds x.0).1 (inr x.1), x.2)
    ];
  }

  back : IsComplete new → (q : ℕ) → q < core → (q ≡ a.partition) ⊎ IsSome (tree.get nat_cmp m q)
  back whole q l =
      let x = whole.cores q (omega (arith, count, is, l)) in
      elim ((adds x.0).0 x.1) [
        | inl same ↦ inl (sym x.2 ∙ ap (λ (y : Member). y.partition) same)
        | inr was ↦ inr ((kept-HasPartition m q om none).1 (x.0, was, x.2))
      ]

pub complete_without : (m : Slots) → tree.IsOrdered nat_cmp m → NoneEmpty m → (left : List Member) (p node core : ℕ) → core ≡ core_count left → RemovesPlace (members_in m.entries) left p node
    → (AllAt (members_in m.entries) p node → ⊥) → ((p < core) × IsAlone (members_in m.entries) p node → ⊥) → (kept_below m core ≡ core) ↔ IsComplete left
complete_without m om none left p node core is removes some stays = (forth, back) where
  ms : List Member
  ms = members_in m.entries

  still : (q : ℕ) → q < core → HasPartition ms q → HasPartition left q
  still q l x = elim (cases_eq q p) [
    | inr other ↦ (x.0, (removes x.0).1 (x.1, λ at. other (sym x.2 ∙ at.0)), x.2)
    | inl same ↦ elim (all_of_or ms p node) [
      | inl all ↦ absurd (stays (omega (arith, l, same), ((x.0, x.1, x.2 ∙ same), all)))
      | inr found ↦ (found.0, (removes found.0).1 (found.1, λ at. found.3 at.1), found.2 ∙ sym same)
    ]
  ]

  forth : kept_below m core ≡ core → IsComplete left
  forth whole = record {
    some = elim (all_at_or ms p node) [
      | inl all ↦ absurd (some all)
      | inr found ↦ (found.0, (removes found.0).1 (found.1, found.2))
    ];
    cores = λ q l. let below : q < core = omega (arith, is, l) in still q below ((kept-HasPartition m q om none).0 (kept_below-all m core whole q below));
  }

  back : IsComplete left → kept_below m core ≡ core
  back whole =
      kept_below-whole m core (λ q l. let x = whole.cores q (omega (arith, is, l)) in (kept-HasPartition m q om none).1 (x.0, ((removes x.0).0 x.1).0, x.2))
