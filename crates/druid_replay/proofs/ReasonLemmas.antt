-- The reason of a line that is no command is the first of its rules that it breaks.
use Rattle.std.proofs.Common.{◌≡◌, ◌≤◌, ◌&&◌, ◌⊎◌, ℕ, Bool, true, false, nat_lt, List, [], ◌∷◌, codes, length, Option, None, Some, option_map, option_and_then, inl, inr, refl, sym, ap, ◌∙◌, arith, if◌then◌else◌}
use Rattle.std.specs.Option.{unwrap_or}
use Rattle.std.specs.Str.{bytes_eq}
use Rattle.std.proofs.lemmas.Bool.{false≢true, ltb-true, ltb-false}
use Rattle.std.proofs.lemmas.Option.{same_Some, none-some}
use Rattle.std.proofs.lemmas.Slice.Eq.{bytes_eq-Decides}
use Rattle.serde_json.specs.Data.{Data, Items}
use Rattle.serde_json.specs.Find.{get, as_array, as_str}
use Rattle.druid_base.specs.Fields.{text_at, number_at, limited_at}
use Rattle.druid_base.specs.Each.{each_of}
use Rattle.druid_base.specs.Options.{◌>>=◌}
use Rattle.druid_inventory.specs.Entry.{max_nodes}
use Rattle.druid_replay.specs.Commands.{Command, reply, lookup, marks, join, equal, max_brokers, is_from_one, is_among, brokers_at, reply_at, lookup_at, marks_at, join_at, equal_at, opening_at, command_of, asked_at, command_at}
use Rattle.druid_replay.specs.Reasons.{names_at, brokers_fault, opening_fault, reply_fault, lookup_fault, join_fault, equal_fault, fault_of, asked_fault, missing_fault, command_fault, opening_rules, rules_of, rules_at, IsFirst}
use Rattle.druid_replay.specs.declared.reason.BadLine.{BadLine}
use Rattle.druid_replay.specs.declared.reason.BadLine.TheVariants.{NoCommand, Count, Nodes, OutOfRange, NoNumber, NoBroker, Node, Reply, Interval, Source}
use Rattle.druid_replay.specs.declared.reason.BrokerKey.TheVariants as keys

has : {A : Type 0} (o : Option A) (x : A) → o ≡ Some x → o ≡ None → ⊥
has o x e none = none-some x (sym none ∙ e)

abbrev among : ℕ → Command → Option Command
among count c = if is_among count c then Some c else None

not_among : {A : Type 0} (b : Bool) (x : A) → (if b then Some x else None) ≡ None → b ≡ false
not_among true x e = absurd cc
not_among false x e = refl

-- a broker that stands is there
stands : (o : Option ℕ) (n count : ℕ) → o ≡ Some n → nat_lt n count ≡ true → (m : ℕ) × (o ≡ Some m) × (count ≤ m) → ⊥
stands o n count e low broken =
    let same : n ≡ broken.0 = same_Some n broken.0 (sym e ∙ broken.1) in
    omega (arith, same, broken.2, ltb-true n count low)

-- ---- each command

reply_first : (count : ℕ) (d : Data) → (reply_at d >>= among count) ≡ None
    → IsFirst count d (NoNumber keys.Broker ∷ Node ∷ Reply ∷ NoBroker keys.Broker ∷ []) (unwrap_or (option_map (missing_fault count) (reply_at d)) (reply_fault d))
unfolding reply_at reply_fault
reply_first count d none = by (number_at (codes "broker") d) refl (limited_at 65_535 (codes "node") d) refl (get (codes "reply") d) refl
  where
    by : (b : Option ℕ) → number_at (codes "broker") d ≡ b → (n : Option ℕ) → limited_at 65_535 (codes "node") d ≡ n → (r : Option Data) → get (codes "reply") d ≡ r
        → IsFirst count d (NoNumber keys.Broker ∷ Node ∷ Reply ∷ NoBroker keys.Broker ∷ []) (unwrap_or (option_map (missing_fault count) (reply_at d)) (reply_fault d))
    by None e n f r g = inl (e, rw e refl)
    by (Some x) e None f r g = inr (has _ x e, inl (f, rw (e, f) refl))
    by (Some x) e (Some y) f None g = inr (has _ x e, inr (has _ y f, inl (g, rw (e, f, g) refl)))
    by (Some x) e (Some y) f (Some z) g =
        let low : nat_lt x count ≡ false = not_among (nat_lt x count) (reply x y z) (rw (e, f, g) at none) in
        inr (has _ x e, inr (has _ y f, inr (has _ z g, inl ((x, e, ltb-false x count low), rw (e, f, g) refl))))

lookup_first : (count : ℕ) (d : Data) → (lookup_at d >>= among count) ≡ None
    → IsFirst count d (NoNumber keys.Broker ∷ Interval ∷ Source ∷ NoBroker keys.Broker ∷ []) (unwrap_or (option_map (missing_fault count) (lookup_at d)) (lookup_fault d))
unfolding lookup_at lookup_fault
lookup_first count d none = by (number_at (codes "broker") d) refl (text_at (codes "interval") d) refl (text_at (codes "source") d) refl
  where
    by : (b : Option ℕ) → number_at (codes "broker") d ≡ b → (i : Option (List ℕ)) → text_at (codes "interval") d ≡ i → (s : Option (List ℕ)) → text_at (codes "source") d ≡ s
        → IsFirst count d (NoNumber keys.Broker ∷ Interval ∷ Source ∷ NoBroker keys.Broker ∷ []) (unwrap_or (option_map (missing_fault count) (lookup_at d)) (lookup_fault d))
    by None e i f s g = inl (e, rw e refl)
    by (Some x) e None f s g = inr (has _ x e, inl (f, rw (e, f) refl))
    by (Some x) e (Some y) f None g = inr (has _ x e, inr (has _ y f, inl (g, rw (e, f, g) refl)))
    by (Some x) e (Some y) f (Some z) g =
        let low : nat_lt x count ≡ false = not_among (nat_lt x count) (lookup x y z) (rw (e, f, g) at none) in
        inr (has _ x e, inr (has _ y f, inr (has _ z g, inl ((x, e, ltb-false x count low), rw (e, f, g) refl))))

marks_first : (count : ℕ) (d : Data) → (marks_at d >>= among count) ≡ None
    → IsFirst count d (NoNumber keys.Broker ∷ NoBroker keys.Broker ∷ []) (unwrap_or (option_map (missing_fault count) (marks_at d)) (NoNumber keys.Broker))
unfolding marks_at
marks_first count d none = by (number_at (codes "broker") d) refl
  where
    by : (b : Option ℕ) → number_at (codes "broker") d ≡ b
        → IsFirst count d (NoNumber keys.Broker ∷ NoBroker keys.Broker ∷ []) (unwrap_or (option_map (missing_fault count) (marks_at d)) (NoNumber keys.Broker))
    by None e = inl (e, rw e refl)
    by (Some x) e =
        let low : nat_lt x count ≡ false = not_among (nat_lt x count) (marks x) (rw e at none) in
        inr (has _ x e, inl ((x, e, ltb-false x count low), rw e refl))

join_first : (count : ℕ) (d : Data) → (join_at d >>= among count) ≡ None
    → IsFirst count d (NoNumber keys.From ∷ NoNumber keys.Into ∷ NoBroker keys.From ∷ NoBroker keys.Into ∷ []) (unwrap_or (option_map (missing_fault count) (join_at d)) (join_fault d))
unfolding join_at join_fault
join_first count d none = by (number_at (codes "from") d) refl (number_at (codes "into") d) refl
  where
    by : (b : Option ℕ) → number_at (codes "from") d ≡ b → (n : Option ℕ) → number_at (codes "into") d ≡ n
        → IsFirst count d (NoNumber keys.From ∷ NoNumber keys.Into ∷ NoBroker keys.From ∷ NoBroker keys.Into ∷ []) (unwrap_or (option_map (missing_fault count) (join_at d)) (join_fault d))
    by None e n f = inl (e, rw e refl)
    by (Some x) e None f = inr (has _ x e, inl (f, rw (e, f) refl))
    by (Some x) e (Some y) f = at_count (nat_lt x count) refl
      where
        at_count : (b : Bool) → nat_lt x count ≡ b
            → IsFirst count d (NoNumber keys.From ∷ NoNumber keys.Into ∷ NoBroker keys.From ∷ NoBroker keys.Into ∷ []) (unwrap_or (option_map (missing_fault count) (join_at d)) (join_fault d))
        at_count false is = inr (has _ x e, inr (has _ y f, inl ((x, e, ltb-false x count is), rw (e, f, is) refl)))
        at_count true is =
            let low : nat_lt y count ≡ false = not_among (nat_lt y count) (join x y) (rw (e, f, is) at none) in
            inr (has _ x e, inr (has _ y f, inr (stands _ x count e is, inl ((y, f, ltb-false y count low), rw (e, f, is) refl))))

equal_first : (count : ℕ) (d : Data) → (equal_at d >>= among count) ≡ None
    → IsFirst count d (NoNumber keys.Left ∷ NoNumber keys.Right ∷ NoBroker keys.Left ∷ NoBroker keys.Right ∷ []) (unwrap_or (option_map (missing_fault count) (equal_at d)) (equal_fault d))
unfolding equal_at equal_fault
equal_first count d none = by (number_at (codes "left") d) refl (number_at (codes "right") d) refl
  where
    by : (b : Option ℕ) → number_at (codes "left") d ≡ b → (n : Option ℕ) → number_at (codes "right") d ≡ n
        → IsFirst count d (NoNumber keys.Left ∷ NoNumber keys.Right ∷ NoBroker keys.Left ∷ NoBroker keys.Right ∷ []) (unwrap_or (option_map (missing_fault count) (equal_at d)) (equal_fault d))
    by None e n f = inl (e, rw e refl)
    by (Some x) e None f = inr (has _ x e, inl (f, rw (e, f) refl))
    by (Some x) e (Some y) f = at_count (nat_lt x count) refl
      where
        at_count : (b : Bool) → nat_lt x count ≡ b
            → IsFirst count d (NoNumber keys.Left ∷ NoNumber keys.Right ∷ NoBroker keys.Left ∷ NoBroker keys.Right ∷ []) (unwrap_or (option_map (missing_fault count) (equal_at d)) (equal_fault d))
        at_count false is = inr (has _ x e, inr (has _ y f, inl ((x, e, ltb-false x count is), rw (e, f, is) refl)))
        at_count true is =
            let low : nat_lt y count ≡ false = not_among (nat_lt y count) (equal x y) (rw (e, f, is) at none) in
            inr (has _ x e, inr (has _ y f, inr (stands _ x count e is, inl ((y, f, ltb-false y count low), rw (e, f, is) refl))))

-- ---- by its name

-- by five tests, in their order
abbrev pick : {A : Type 0} → Bool → Bool → Bool → Bool → Bool → A → A → A → A → A → A → A
pick a b c e f u v w x y z = if a then u else (if b then v else (if c then w else (if e then x else (if f then y else z))))

abbrev rules_by : Bool → Bool → Bool → Bool → Bool → List BadLine
rules_by a b c e f = pick a b c e f (NoNumber keys.Broker ∷ Node ∷ Reply ∷ NoBroker keys.Broker ∷ [])
    (NoNumber keys.Broker ∷ Interval ∷ Source ∷ NoBroker keys.Broker ∷ []) (NoNumber keys.Broker ∷ NoBroker keys.Broker ∷ [])
    (NoNumber keys.From ∷ NoNumber keys.Into ∷ NoBroker keys.From ∷ NoBroker keys.Into ∷ [])
    (NoNumber keys.Left ∷ NoNumber keys.Right ∷ NoBroker keys.Left ∷ NoBroker keys.Right ∷ []) []

abbrev command_by : Data → Bool → Bool → Bool → Bool → Bool → Option Command
command_by d a b c e f = pick a b c e f (reply_at d) (lookup_at d) (marks_at d) (join_at d) (equal_at d) None

abbrev fault_by : Data → Bool → Bool → Bool → Bool → Bool → BadLine
fault_by d a b c e f = pick a b c e f (reply_fault d) (lookup_fault d) (NoNumber keys.Broker) (join_fault d) (equal_fault d) NoCommand

abbrev IsFirstOf : ℕ → Data → List BadLine → BadLine → Type 0
IsFirstOf count d rules reason = ((rules ≡ []) × (reason ≡ NoCommand)) ⊎ ((rules ≡ [] → ⊥) × IsFirst count d rules reason)

first_by : (count : ℕ) (d : Data) (a b c e f : Bool) → (command_by d a b c e f >>= among count) ≡ None
    → IsFirstOf count d (rules_by a b c e f) (unwrap_or (option_map (missing_fault count) (command_by d a b c e f)) (fault_by d a b c e f))
first_by count d true b c e f none = inr (λ nil. absurd cc, reply_first count d none)
first_by count d false true c e f none = inr (λ nil. absurd cc, lookup_first count d none)
first_by count d false false true e f none = inr (λ nil. absurd cc, marks_first count d none)
first_by count d false false false true f none = inr (λ nil. absurd cc, join_first count d none)
first_by count d false false false false true none = inr (λ nil. absurd cc, equal_first count d none)
first_by count d false false false false false none = inl (refl, refl)

named_first : (count : ℕ) (d : Data) (name : List ℕ) → (command_of name d >>= among count) ≡ None
    → IsFirstOf count d (rules_of name) (unwrap_or (option_map (missing_fault count) (command_of name d)) (fault_of name d))
named_first count d name =
    first_by count d (bytes_eq name (codes "reply")) (bytes_eq name (codes "lookup")) (bytes_eq name (codes "marks")) (bytes_eq name (codes "join")) (bytes_eq name (codes "equal"))

pub command_first : (count : ℕ) (d : Data) → command_at count d ≡ None → IsFirst count d (NoCommand ∷ rules_at d) (command_fault count d)
unfolding command_at asked_at command_fault asked_fault
command_first count d none = by (text_at (codes "do") d) refl
  where
    by : (o : Option (List ℕ)) → text_at (codes "do") d ≡ o → IsFirst count d (NoCommand ∷ rules_at d) (command_fault count d)
    by None e = inl (rw e refl, rw e refl)
    by (Some name) e = rw e (named_first count d name (rw e at none))

-- ---- the brokers that a script begins with

brokers_first : (d : Data) → brokers_at d ≡ None → IsFirst 0 d (Count ∷ Nodes ∷ OutOfRange ∷ []) (brokers_fault d)
unfolding brokers_at brokers_fault names_at
brokers_first d none = by (number_at (codes "count") d) refl (option_and_then as_array (get (codes "nodes") d)) refl
  where
    by : (c : Option ℕ) → number_at (codes "count") d ≡ c → (n : Option Items) → option_and_then as_array (get (codes "nodes") d) ≡ n
        → IsFirst 0 d (Count ∷ Nodes ∷ OutOfRange ∷ []) (brokers_fault d)
    by None e n f = inl (e, rw e refl)
    by (Some x) e None f = inr (has _ x e, inl (rw f refl, rw (e, f) refl))
    by (Some x) e (Some items) f = of_texts (each_of as_str items) refl
      where
        of_texts : (t : Option (List (List ℕ))) → each_of as_str items ≡ t → IsFirst 0 d (Count ∷ Nodes ∷ OutOfRange ∷ []) (brokers_fault d)
        of_texts None g = inr (has _ x e, inl (rw (f, g) refl, rw (e, f, g) refl))
        of_texts (Some names) g =
            let read : names_at d ≡ Some names = rw (f, g) refl in
            let apart : (is_from_one max_brokers x && is_from_one max_nodes (length names)) ≡ false =
            not_among _ (record { count = x; names = names }) (rw (e, f, g) at none) in
            inr (has _ x e, inr (has _ names read, inl ((x, names, e, read, apart), rw (e, f, g) refl)))

pub opening_first : (d : Data) → opening_at d ≡ None → IsFirst 0 d opening_rules (opening_fault d)
unfolding opening_at opening_fault
opening_first d none = by (text_at (codes "do") d) refl
  where
    by : (o : Option (List ℕ)) → text_at (codes "do") d ≡ o → IsFirst 0 d opening_rules (opening_fault d)
    by None e = inl (λ some. none-some (codes "brokers") (sym e ∙ some), rw e refl)
    by (Some name) e = named (bytes_eq name (codes "brokers")) refl
      where
        named : (b : Bool) → bytes_eq name (codes "brokers") ≡ b → IsFirst 0 d opening_rules (opening_fault d)
        named false is = inl (
          (λ some. false≢true (sym is ∙ (bytes_eq-Decides name (codes "brokers")).1 (same_Some name (codes "brokers") (sym e ∙ some)))),
          rw (e, is) refl,
        )
        named true is = inr (
          (λ not. not (e ∙ ap Some ((bytes_eq-Decides name (codes "brokers")).0 is))),
          rw (e, is) (brokers_first d (rw (e, is) at none)),
        )
