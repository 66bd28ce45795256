-- What every run keeps: the world is one, every packet that was put tells the truth of it, and so does each inventory.
use Rattle.std.proofs.Common.{◌≡◌, ◌+◌, ◌<◌, ◌≤◌, ℕ, Bool, true, false, cond, ◌&&◌, List, [], ◌∷◌, ◌++◌, length, map, replicate, set, Option, Some, None, refl, sym, ap, ◌∙◌, subst, inl, inr, arith, append_assoc, length-append, nat_eq, nat_le, nat_lt}
use Rattle.std.specs.List.{AllByRecursion, AllZip, Contains, slice_get}
use Rattle.std.specs.Option.{is_some}
use Rattle.std.proofs.lemmas.Bool.{leb-false, ltb-true, and_parts}
use Rattle.std.proofs.lemmas.List.{append-nil, length-replicate, take-append-le}
use Rattle.std.proofs.lemmas.List.Elements.{All-from_recursion, All-contains}
use Rattle.std.proofs.lemmas.List.FromFn.{length-map-range_with_len}
use Rattle.std.proofs.lemmas.Option.{same_Some}
use Rattle.druid_inventory.proofs.JoinLemmas.{names-set}
use Rattle.druid_segment_descriptor.specs.Described.{Described}
use Rattle.druid_segment_descriptor.specs.Mark.{same_mark}
use Rattle.druid_segment_descriptor.specs.Reply.{max_page}
use Rattle.druid_segment_descriptor.specs.Replay.{replay}
use Rattle.druid_segment_descriptor.specs.declared.change.Ask.{Ask}
use Rattle.druid_segment_descriptor.specs.declared.change.Ask.TheVariants as asks
use Rattle.druid_segment_descriptor.specs.declared.change.Change.{Change}
use Rattle.druid_segment_descriptor.specs.declared.reply.Body.{Body}
use Rattle.druid_segment_descriptor.specs.declared.reply.Body.TheVariants as bodies
use Rattle.druid_sync_history.specs.Answer.{answer}
use Rattle.druid_sync_history.specs.Kept.{still_frozen}
use Rattle.druid_sync_pages.specs.Pages.{pages_in}
use Rattle.druid_sync_pages.specs.Assembly.{Parts}
use Rattle.druid_inventory.specs.Entry.{Entry, fresh, answer_of, page_of, cause_of}
use Rattle.druid_inventory.specs.Join.{names_of}
use Rattle.druid_inventory.specs.Step.{Steps}
use Rattle.druid_inventory.specs.declared.fault.Outcome.{Outcome}
use Rattle.druid_inventory.specs.declared.fault.Outcome.TheVariants.{Moved}
use Rattle.druid_inventory.proofs.StepLemmas.{Steps-left}
use Rattle.druid_laws_world.specs.World.{Era, Life, IsEra, IsLife, IsThere, IsWorld, IsHonest, IsTrueEntry, IsInventoryOf, IsHonestAt, Grows, eras_of, marks_of, set_at, with_more}
use Rattle.druid_laws_world.specs.Run.{State, Next, Run, IsReached, Applies, AppliesGiven, TakesPage, Delivers, Folds, AreHonest, newborn, node_name, node_names, opening, takes, recorded, restarted, last_incarnation, seed_ask, with_frozen, with_node, with_packet, with_broker}
use Rattle.druid_laws_world.specs.declared.event.Event.{Event}
use Rattle.druid_laws_world.specs.declared.event.Event.TheVariants.{Record, Restart, Ask as Asks, Answer, Seed, Deliver, Cut, Fail}
use Rattle.druid_laws_world.specs.declared.event.Packet.{Packet}
use Rattle.druid_laws_world.specs.declared.event.Packet.TheVariants.{Request, Reply}
use Rattle.druid_laws_world.proofs.ListLemmas.{each_get, each_set, each_more, each_front, each_last, each_weaker, each_replicate, below_get, length_set, pairs_at, pairs_set, pairs_self, pairs_over, pairs_find, pairs_replicate}
use Rattle.druid_laws_world.proofs.WorldLemmas.{HasFrozen, rising_same, rising_more, grows_self, honest-grows, entry-grows, step_true, answer_true}
use Rattle.druid_laws_world.proofs.PageLemmas.{AreTrue, IsGivenTrue, true-grows, take_true}

-- ---- the world grows

recorded-grows : (life : Life) (c : Change) → Grows life (recorded life c)
recorded-grows life c = (c ∷ [], [], refl)

restarted-grows : (life : Life) → Grows life (restarted life)
restarted-grows life =
    let next : Era = record { incarnation = life.last.incarnation + 1; changes = [] } in (
      [],
      next ∷ [],
      append_assoc life.ended (life.last ∷ []) (next ∷ [])
          ∙ ap (λ cs. life.ended ++ record { incarnation = life.last.incarnation; changes = cs } ∷ next ∷ []) (sym (append-nil life.last.changes)),
    )

frozen-grows : (life : Life) (frozen : Option ℕ) → Grows life (with_frozen life frozen)
frozen-grows life frozen = grows_self life

node_grows : (world : List Life) (node : ℕ) (life new : Life) → slice_get world node ≡ Some life → Grows life new → AllZip Grows world (set world node new)
node_grows world node life new e g = pairs_set Grows world world node life new (pairs_self Grows world grows_self) e g

unchanged : (s t : State) → s.world ≡ t.world → AllZip Grows s.world t.world
unchanged s t e = subst (λ (w : List Life). AllZip Grows s.world w) e (pairs_self Grows s.world grows_self)

pub next-grows : (s t : State) (event : Event) → Next s event t → AllZip Grows s.world t.world
next-grows s t (Record node change) h =
    subst (λ (u : State). AllZip Grows s.world u.world) (sym h.3) (node_grows s.world node h.0 (recorded h.0 change) h.1 (recorded-grows h.0 change))
next-grows s t (Restart node) h =
    subst (λ (u : State). AllZip Grows s.world u.world) (sym h.3) (node_grows s.world node h.0 (restarted h.0) h.1 (restarted-grows h.0))
next-grows s t (Asks broker node kind) h = unchanged s t (ap (λ (u : State). u.world) (sym h.10))
next-grows s t (Answer packet) h =
    subst (λ (u : State). AllZip Grows s.world u.world) (sym h.9) (node_grows s.world h.1 h.3 (with_frozen h.3 h.5) h.7 (frozen-grows h.3 h.5))
next-grows s t (Seed peer broker node page) h = unchanged s t (ap (λ (u : State). u.world) (sym h.9))
next-grows s t (Deliver packet) h = unchanged s t (ap (λ (u : State). u.world) (sym h.13))
next-grows s t (Cut packet) h = unchanged s t (ap (λ (u : State). u.world) (sym h.2))
next-grows s t (Fail broker node) h = unchanged s t (ap (λ (u : State). u.world) (sym h.4))

-- ---- the world stays one

some_of : {A : Type 0} (o : Option A) → is_some o ≡ true → (x : A) × (o ≡ Some x)
some_of None e = absurd (cc)
some_of (Some x) e = (x, refl)

-- a node's history takes the change
pub takes-is : (life : Life) (c : Change) → takes life c ≡ true
    → ((set : List Described) × (replay (life.last.changes ++ c ∷ []) ≡ Some set)) × (nat_lt (length life.last.changes) last_incarnation ≡ true)
unfolding takes
takes-is life c e =
    let parts = and_parts (is_some (replay (life.last.changes ++ c ∷ []))) (nat_lt (length life.last.changes) last_incarnation) e in
    (some_of (replay (life.last.changes ++ c ∷ [])) parts.0, parts.1)

there_more : (limit n m : ℕ) (frozen : Option ℕ) → n ≤ m → IsThere frozen n → IsThere (still_frozen limit m frozen) m
there_more limit n m None l h = tt
there_more limit n m (Some f) l h = by (nat_le m (f + limit)) where
  by : (b : Bool) → IsThere (cond b (Some f) None) m
  by true = omega (arith, l, h)
  by false = tt

-- what is still frozen is the set after so many changes
frozen_more : (limit m : ℕ) (changes : List Change) (c : Change) (frozen : Option ℕ) → HasFrozen changes frozen
    → HasFrozen (changes ++ c ∷ []) (still_frozen limit m frozen)
frozen_more limit m changes c None h = tt
frozen_more limit m changes c (Some f) h = by (nat_le m (f + limit)) where
  by : (b : Bool) → HasFrozen (changes ++ c ∷ []) (cond b (Some f) None)
  by true =
      let total = length-append changes (c ∷ []) in
      let within = h.within in
      record { within = omega (arith, within, total); set = h.set; there = ap replay (take-append-le f changes (c ∷ []) within) ∙ h.there; many = h.many }
  by false = tt

recorded-there : (life : Life) (c : Change) → IsThere life.frozen (length life.last.changes) → IsThere (recorded life c).frozen (length (recorded life c).last.changes)
recorded-there life c h =
    subst (IsThere (recorded life c).frozen) (sym (length-append life.last.changes (c ∷ [])))
    (there_more life.kept (length life.last.changes) (length life.last.changes + 1) life.frozen (omega arith) h)

recorded-life : (life : Life) (c : Change) → takes life c ≡ true → IsLife life → IsLife (recorded life c)
recorded-life life c e h =
    let last = each_last IsEra life.ended life.last h.eras in
    let taken = (takes-is life c e).0 in
    let new : Era = with_more life.last (c ∷ []) in
    let era : IsEra new = record { incarnation = last.incarnation; set = taken.0; replayed = taken.1 } in
    record {
      eras = each_more IsEra life.ended new (each_front IsEra life.ended (life.last ∷ []) h.eras) era;
      rising = rising_same life.ended life.last new refl h.rising;
      frozen = recorded-there life c h.frozen;
    }

restarted-life : (life : Life) → IsLife life → IsLife (restarted life)
restarted-life life h =
    let new : Era = record { incarnation = life.last.incarnation + 1; changes = [] } in
    let era : IsEra new = record { incarnation = omega arith; set = []; replayed = refl } in
    record { eras = each_more IsEra (eras_of life) new h.eras era; rising = rising_more life.ended life.last new (omega arith) h.rising; frozen = tt }

newborn-life : (kept : ℕ) → IsLife (newborn kept)
newborn-life kept =
    let new : Era = record { incarnation = 1; changes = [] } in
    let era : IsEra new = record { incarnation = omega arith; set = []; replayed = refl } in
    record { eras = (era, tt); rising = tt; frozen = tt }

frozen_there : (changes : List Change) (frozen : Option ℕ) → HasFrozen changes frozen → IsThere frozen (length changes)
frozen_there changes None h = tt
frozen_there changes (Some f) h = h.within

frozen-life : (life : Life) (frozen : Option ℕ) → HasFrozen life.last.changes frozen → IsLife life → IsLife (with_frozen life frozen)
frozen-life life frozen stands h = record { eras = h.eras; rising = h.rising; frozen = frozen_there life.last.changes frozen stands }

-- ---- what holds of every state that a run comes to

-- a packet that was put: it is of a node and a broker, and a reply is true
abbrev pub IsPut : List Life → ℕ → Packet → Type 0
IsPut world brokers (Request broker node ask) = ((life : Life) × (slice_get world node ≡ Some life)) × (broker < brokers)
IsPut world brokers (Reply broker node reply) = IsHonestAt world node reply × (broker < brokers)

-- what a node froze is what it served
abbrev pub FrozenStands : Life → Type 0
FrozenStands life = HasFrozen life.last.changes life.frozen

pub record Holds (names : List (List ℕ)) (s : State) : Type 0 where
  pub world : IsWorld s.world
  pub packets : AllByRecursion (IsPut s.world (length s.brokers)) s.packets
  pub brokers : AllByRecursion (IsInventoryOf s.world) s.brokers
  pub named : AllByRecursion (λ inventory. names_of inventory ≡ names) s.brokers
  pub frozen : AllByRecursion FrozenStands s.world
  pub assemblies : AllByRecursion (AllZip AreTrue s.world) s.assemblies
  pub long : length s.assemblies ≡ length s.brokers

honest_at-grows : (world new : List Life) (node : ℕ) (reply : Body) → AllZip Grows world new → IsHonestAt world node reply → IsHonestAt new node reply
honest_at-grows world new node reply g h =
    let found = pairs_find Grows world new node h.0 g h.1 in
    (found.0, found.1, honest-grows h.0 found.0 reply found.2 h.2)

put-grows : (world new : List Life) (n : ℕ) (p : Packet) → AllZip Grows world new → IsPut world n p → IsPut new n p
put-grows world new n (Request broker node ask) g h =
    let found = pairs_find Grows world new node h.0.0 g h.0.1 in
    ((found.0, found.1), h.1)
put-grows world new n (Reply broker node reply) g h = (honest_at-grows world new node reply g h.0, h.1)

pub inventory-grows : (world new : List Life) (inventory : List Entry) → AllZip Grows world new → IsInventoryOf world inventory → IsInventoryOf new inventory
inventory-grows world new inventory g h = pairs_over Grows IsTrueEntry world new inventory entry-grows g h

arrived-grows : (world new : List Life) (pages : List (Option Parts)) → AllZip Grows world new → AllZip AreTrue world pages → AllZip AreTrue new pages
arrived-grows world new pages g h = pairs_over Grows AreTrue world new pages true-grows g h

-- the world grew
holds-grown : (names : List (List ℕ)) (s : State) (new : List Life) → Holds names s → IsWorld new → AllByRecursion FrozenStands new → AllZip Grows s.world new
    → Holds names (record { world = new; packets = s.packets; brokers = s.brokers; assemblies = s.assemblies })
holds-grown names s new h valid frozen g = record {
  world = valid;
  packets = each_weaker (IsPut s.world (length s.brokers)) (IsPut new (length s.brokers)) s.packets (λ p. put-grows s.world new (length s.brokers) p g) h.packets;
  brokers = each_weaker (IsInventoryOf s.world) (IsInventoryOf new) s.brokers (λ inventory. inventory-grows s.world new inventory g) h.brokers;
  named = h.named;
  frozen = frozen;
  assemblies = each_weaker (AllZip AreTrue s.world) (AllZip AreTrue new) s.assemblies (λ pages. arrived-grows s.world new pages g) h.assemblies;
  long = h.long;
}

-- a packet was put
holds-put : (names : List (List ℕ)) (s : State) (p : Packet) → Holds names s → IsPut s.world (length s.brokers) p → Holds names (with_packet s p)
holds-put names s p h put = record {
  world = h.world;
  packets = each_more (IsPut s.world (length s.brokers)) s.packets p h.packets put;
  brokers = h.brokers;
  named = h.named;
  frozen = h.frozen;
  assemblies = h.assemblies;
  long = h.long;
}

-- a broker knows something else, and other pages came to it
holds-broker : (names : List (List ℕ)) (s : State) (broker : ℕ) (after : List Entry) (pages : List (Option Parts)) → Holds names s → IsInventoryOf s.world after
    → names_of after ≡ names → AllZip AreTrue s.world pages → Holds names (with_broker s broker after pages)
holds-broker names s broker after pages h is is_named are =
    let long = length_set s.brokers broker after in
    record {
      world = h.world;
      packets = subst (λ (n : ℕ). AllByRecursion (IsPut s.world n) s.packets) (sym long) h.packets;
      brokers = each_set (IsInventoryOf s.world) s.brokers broker after h.brokers is;
      named = each_set (λ (inventory : List Entry). names_of inventory ≡ names) s.brokers broker after h.named is_named;
      frozen = h.frozen;
      assemblies = each_set (AllZip AreTrue s.world) s.assemblies broker pages h.assemblies are;
      long = length_set s.assemblies broker pages ∙ h.long ∙ sym long;
    }

-- ---- a broker applies a true reply

step_name : (e new : Entry) (reply : Body) (outcome : Outcome) → Steps e reply outcome new → new.name ≡ e.name
step_name e new (bodies.Delta from to changes) Moved h = ap (λ (x : Entry). x.name) h.3
step_name e new (bodies.Snapshot at set) Moved h = ap (λ (x : Entry). x.name) h.1
step_name e new reply outcome h = elim (Steps-left e reply outcome new h) [
  | inl moved ↦ moved_name reply (subst (λ (o : Outcome). Steps e reply o new) moved h)
  | inr left ↦ ap (λ (x : Entry). x.name) left
] where
  moved_name : (b : Body) → Steps e b Moved new → new.name ≡ e.name
  moved_name (bodies.Delta from to changes) k = ap (λ (x : Entry). x.name) k.3
  moved_name (bodies.Snapshot at set) k = ap (λ (x : Entry). x.name) k.1
  moved_name (bodies.Page at page of segments) k = absurd k
  moved_name (bodies.Reset cause at) k = absurd k

pub applies_true : (world : List Life) (inventory after : List Entry) (node : ℕ) (reply : Body) → IsWorld world → IsInventoryOf world inventory
    → IsHonestAt world node reply → Applies inventory node reply after → IsInventoryOf world after × (names_of after ≡ names_of inventory)
applies_true world inventory after node reply valid is honest (inl h) =
    let at = h.2 in
    let life = each_get IsLife world node honest.0 valid honest.1 in
    let known = pairs_at IsTrueEntry world inventory node honest.0 at.0 is honest.1 at.1 in
    let new = step_true honest.0 at.0 h.1 reply h.0 life known honest.2 at.2 in (
      subst (IsInventoryOf world) (sym h.3) (pairs_set IsTrueEntry world inventory node honest.0 h.1 is honest.1 new),
      ap names_of h.3 ∙ names-set inventory node at.0 h.1 at.1 (step_name at.0 h.1 reply h.0 at.2),
    )
applies_true world inventory after node reply valid is honest (inr h) = (subst (IsInventoryOf world) (sym h.2) is, ap names_of h.2)

-- ---- each event keeps it

replaced_world : (world : List Life) (node : ℕ) (life new : Life) → slice_get world node ≡ Some life → IsWorld world → (IsLife life → IsLife new) → IsWorld (set world node new)
replaced_world world node life new e h made = each_set IsLife world node new h (made (each_get IsLife world node life h e))

replaced_frozen : (world : List Life) (node : ℕ) (life new : Life) → slice_get world node ≡ Some life → AllByRecursion FrozenStands world
    → (FrozenStands life → FrozenStands new) → AllByRecursion FrozenStands (set world node new)
replaced_frozen world node life new e h made = each_set FrozenStands world node new h (made (each_get FrozenStands world node life h e))

holds-answer : (names : List (List ℕ)) (s : State) (broker node : ℕ) (life : Life) (ask : Ask) (reply : Body) (frozen : Option ℕ) → Holds names s
    → IsPut s.world (length s.brokers) (Request broker node ask) → slice_get s.world node ≡ Some life
    → answer life.last.incarnation life.last.changes life.kept life.frozen ask ≡ Some (reply, frozen)
    → Holds names (with_packet (with_node s node (with_frozen life frozen)) (Reply broker node reply))
holds-answer names s broker node life ask reply frozen h put e answered =
    let valid = each_get IsLife s.world node life h.world e in
    let stands = each_get FrozenStands s.world node life h.frozen e in
    let is = answer_true life ask reply frozen valid stands answered in
    let new = with_frozen life frozen in
    let grown = node_grows s.world node life new e (frozen-grows life frozen) in
    let held = holds-grown names s (set s.world node new) h (replaced_world s.world node life new e h.world (frozen-life life frozen is.1))
    (replaced_frozen s.world node life new e h.frozen (λ _. is.1)) grown in
    holds-put names (with_node s node new) (Reply broker node reply) held
    (honest_at-grows s.world (set s.world node new) node reply grown (life, e, is.0), put.1)

-- what is known of a node is sent truly, whole or a page of it
seed_true : (life : Life) (e : Entry) (page : ℕ) → IsTrueEntry life e → IsHonest (eras_of life) (answer_of e (seed_ask e page))
seed_true life e page known = by (nat_eq page 0) where
  whole : (b : Bool) → nat_le (length e.set) max_page ≡ b → IsHonest (eras_of life) (cond b (bodies.Snapshot e.mark e.set) (page_of e 0))
  whole true few = known
  whole false many =
      let long = leb-false (length e.set) max_page many in
      record { set = e.set; there = known; several = long; count = refl; within = omega (arith, long); segments_are = refl }

  part : (a b c : Bool) → nat_lt max_page (length e.set) ≡ b → nat_lt page (pages_in (length e.set)) ≡ c
      → IsHonest (eras_of life) (cond (a && b && c) (page_of e page) (bodies.Reset (cause_of e e.mark) e.mark))
  part true true true many within =
      record { set = e.set; there = known; several = ltb-true max_page (length e.set) many; count = refl; within = ltb-true page (pages_in (length e.set)) within; segments_are = refl }
  part true true false many within = tt
  part true false c many within = tt
  part false b c many within = tt

  by : (b : Bool) → IsHonest (eras_of life) (answer_of e (cond b asks.Whole (asks.Page e.mark page)))
  by true = whole (nat_le (length e.set) max_page) refl
  by false = part (same_mark e.mark e.mark) (nat_lt max_page (length e.set)) (nat_lt page (pages_in (length e.set))) refl refl

-- what a true reply, or what pages give, makes of an inventory
given_true : (world : List Life) (inventory after : List Entry) (node : ℕ) (given : Option Body) (life : Life) → IsWorld world → IsInventoryOf world inventory
    → slice_get world node ≡ Some life → IsGivenTrue life given → AppliesGiven inventory node given after
    → IsInventoryOf world after × (names_of after ≡ names_of inventory)
given_true world inventory after node None life valid is e honest h = (subst (IsInventoryOf world) (sym h) is, ap names_of h)
given_true world inventory after node (Some reply) life valid is e honest h = applies_true world inventory after node reply valid is (life, e, honest) h

page_taken : (world : List Life) (inventory after : List Entry) (node : ℕ) (reply : Body) (parts left : Option Parts) (life : Life) → IsWorld world
    → IsInventoryOf world inventory → slice_get world node ≡ Some life → IsHonest (eras_of life) reply → AreTrue life parts
    → TakesPage inventory parts node reply after left → IsInventoryOf world after × (names_of after ≡ names_of inventory) × AreTrue life left
page_taken world inventory after node reply parts left life valid is e honest are (inl h) =
    let made = take_true life parts reply h.0 left are honest h.1 in
    let known = given_true world inventory after node h.0 life valid is e made.1 h.2 in
    (known.0, known.1, made.0)
page_taken world inventory after node reply parts left life valid is e honest are (inr h) =
    (subst (IsInventoryOf world) (sym h.1) is, ap names_of h.1, subst (AreTrue life) (sym h.2) are)

delivers_true : (world : List Life) (inventory after : List Entry) (node : ℕ) (reply : Body) (parts left : Option Parts) (life : Life) → IsWorld world
    → IsInventoryOf world inventory → slice_get world node ≡ Some life → IsHonest (eras_of life) reply → AreTrue life parts
    → Delivers inventory parts node reply after left → IsInventoryOf world after × (names_of after ≡ names_of inventory) × AreTrue life left
delivers_true world inventory after node reply parts left life valid is e honest are (inl h) = page_taken world inventory after node reply parts left life valid is e honest are h.1
delivers_true world inventory after node reply parts left life valid is e honest are (inr h) =
    let known = applies_true world inventory after node reply valid is (life, e, honest) h.1 in
    (known.0, known.1, subst (AreTrue life) (sym h.2) are)

pub holds-next : (names : List (List ℕ)) (s t : State) (event : Event) → Holds names s → Next s event t → Holds names t
holds-next names s t (Record node change) h step =
    let new = recorded step.0 change in
    let grown = node_grows s.world node step.0 new step.1 (recorded-grows step.0 change) in
    let valid = replaced_world s.world node step.0 new step.1 h.world (recorded-life step.0 change step.2) in
    let frozen = replaced_frozen s.world node step.0 new step.1 h.frozen
    (frozen_more step.0.kept (length step.0.last.changes + 1) step.0.last.changes change step.0.frozen) in
    subst (Holds names) (sym step.3) (holds-grown names s (set s.world node new) h valid frozen grown)
holds-next names s t (Restart node) h step =
    let grown = node_grows s.world node step.0 (restarted step.0) step.1 (restarted-grows step.0) in
    let valid = replaced_world s.world node step.0 (restarted step.0) step.1 h.world (restarted-life step.0) in
    let frozen = replaced_frozen s.world node step.0 (restarted step.0) step.1 h.frozen (λ _. tt) in
    subst (Holds names) (sym step.3) (holds-grown names s (set s.world node (restarted step.0)) h valid frozen grown)
holds-next names s t (Asks broker node kind) h step =
    subst (Holds names) (sym step.10)
    (holds-put names s (Request broker node step.4) h ((step.0, step.5), below_get s.brokers broker step.1 step.6))
holds-next names s t (Answer packet) h step =
    let put = each_get (IsPut s.world (length s.brokers)) s.packets packet (Request step.0 step.1 step.2) h.packets step.6 in
    subst (Holds names) (sym step.9) (holds-answer names s step.0 step.1 step.3 step.2 step.4 step.5 h put step.7 step.8)
holds-next names s t (Seed peer broker node page) h step =
    let is = each_get (IsInventoryOf s.world) s.brokers peer step.1 h.brokers step.5 in
    let known = pairs_at IsTrueEntry s.world step.1 node step.0 step.3 is step.4 step.7 in
    subst (Holds names) (sym step.9)
    (holds-put names s (Reply broker node (answer_of step.3 (seed_ask step.3 page))) h
    ((step.0, step.4, seed_true step.0 step.3 page known), below_get s.brokers broker step.2 step.6))
holds-next names s t (Deliver packet) h step =
    let put = each_get (IsPut s.world (length s.brokers)) s.packets packet (Reply step.0 step.1 step.2) h.packets step.8 in
    let life = put.0.0 in
    let is = each_get (IsInventoryOf s.world) s.brokers step.0 step.3 h.brokers step.9 in
    let named = each_get (λ (inventory : List Entry). names_of inventory ≡ names) s.brokers step.0 step.3 h.named step.9 in
    let pages = each_get (AllZip AreTrue s.world) s.assemblies step.0 step.5 h.assemblies step.10 in
    let are = pairs_at AreTrue s.world step.5 step.1 life step.6 pages put.0.1 step.11 in
    let after = delivers_true s.world step.3 step.4 step.1 step.2 step.6 step.7 life h.world is put.0.1 put.0.2 are step.12 in
    subst (Holds names) (sym step.13)
    (holds-broker names s step.0 step.4 (set step.5 step.1 step.7) h after.0 (after.1 ∙ named)
    (pairs_set AreTrue s.world step.5 step.1 life step.7 pages put.0.1 after.2))
holds-next names s t (Cut packet) h step = subst (Holds names) (sym step.2) h
holds-next names s t (Fail broker node) h step = subst (Holds names) (sym step.4) h

pub holds-run : (names : List (List ℕ)) (s t : State) (events : List Event) → Holds names s → Run s events t → Holds names t
holds-run names s t [] h run = subst (Holds names) (sym run) h
holds-run names s t (event ∷ events) h run = holds-run names run.0 t events (holds-next names s run.0 event h run.1) run.2

-- ---- and the opening state has it

unsynced : (life : Life) (name : List ℕ) → IsTrueEntry life (fresh name)
unfolding set_at
unsynced life name = refl

pub fresh_true : (world : List Life) (names : List (List ℕ)) → length names ≡ length world → IsInventoryOf world (map fresh names)
fresh_true [] [] e = tt
fresh_true [] (name ∷ names) e = absurd (omega arith)
fresh_true (life ∷ world) [] e = absurd (omega arith)
fresh_true (life ∷ world) (name ∷ names) e = (unsynced life name, fresh_true world names (omega arith))

fresh_names : (names : List (List ℕ)) → names_of (map fresh names) ≡ names
fresh_names [] = refl
fresh_names (name ∷ names) = ap (λ ns. name ∷ ns) (fresh_names names)

opening-holds : (nodes brokers kept : ℕ) → Holds (node_names nodes) (opening nodes brokers kept)
unfolding opening
opening-holds nodes brokers kept =
    let world = replicate nodes (newborn kept) in
    let long : length (node_names nodes) ≡ length world = length-map-range_with_len node_name 0 nodes ∙ sym (length-replicate nodes (newborn kept)) in
    record {
      world = each_replicate IsLife nodes (newborn kept) (newborn-life kept);
      packets = tt;
      brokers = each_replicate (IsInventoryOf world) brokers (map fresh (node_names nodes)) (fresh_true world (node_names nodes) long);
      named = each_replicate (λ (inventory : List Entry). names_of inventory ≡ node_names nodes) brokers (map fresh (node_names nodes)) (fresh_names (node_names nodes));
      frozen = each_replicate FrozenStands nodes (newborn kept) tt;
      assemblies = each_replicate (AllZip AreTrue world) brokers (replicate nodes None) (pairs_replicate AreTrue nodes (newborn kept) None tt);
      long = length-replicate brokers (replicate {A = Option Parts} nodes None) ∙ sym (length-replicate brokers (map fresh (node_names nodes)));
    }

pub reached-holds : (s : State) → (h : IsReached s) → Holds (node_names h.nodes) s
reached-holds s h = holds-run (node_names h.nodes) (opening h.nodes h.brokers h.kept) s h.events (opening-holds h.nodes h.brokers h.kept) h.run

-- ---- a run goes on

run-more : (s t u : State) (events : List Event) (event : Event) → Run s events t → Next t event u → Run s (events ++ event ∷ []) u
run-more s t u [] event run next = (u, subst (λ (v : State). Next v event u) run next, refl)
run-more s t u (e ∷ events) event run next = (run.0, run.1, run-more run.0 t u events event run.2 next)

pub goes_on : (s t : State) (event : Event) → IsReached s → Next s event t → IsReached t
goes_on s t event h next = record {
  nodes = h.nodes;
  brokers = h.brokers;
  kept = h.kept;
  events = h.events ++ event ∷ [];
  run = run-more _ s t h.events event h.run next;
}

pub opening-reached : (nodes brokers kept : ℕ) → IsReached (opening nodes brokers kept)
opening-reached nodes brokers kept = record { nodes = nodes; brokers = brokers; kept = kept; events = []; run = refl }

-- ---- the laws

-- names and marks determine what is known
pub determined : (world : List Life) (a b : List Entry) → IsInventoryOf world a → IsInventoryOf world b → names_of a ≡ names_of b → marks_of a ≡ marks_of b → a ≡ b
determined [] [] [] h k names marks = refl
determined [] [] (y ∷ b) h k names marks = absurd k
determined [] (x ∷ a) b h k names marks = absurd h
determined (life ∷ world) [] b h k names marks = absurd h
determined (life ∷ world) (x ∷ a) [] h k names marks = absurd k
determined (life ∷ world) (x ∷ a) (y ∷ b) h k names marks =
    let name : x.name ≡ y.name = cc in
    let mark : x.mark ≡ y.mark = cc in
    let more_names : names_of a ≡ names_of b = cc in
    let more_marks : marks_of a ≡ marks_of b = cc in
    let sets : x.set ≡ y.set = same_Some x.set y.set (sym h.0 ∙ ap (set_at (eras_of life)) mark ∙ k.0) in
    let rest = determined world a b h.1 k.1 more_names more_marks in
    λ i. record { name = name i; mark = mark i; set = sets i } ∷ rest i

-- what was known at a moment of a run is true later on
known_later : (s t : State) (events : List Event) (inventory : List Entry) → Run s events t → IsInventoryOf s.world inventory → IsInventoryOf t.world inventory
known_later s t [] inventory run is = subst (λ (u : State). IsInventoryOf u.world inventory) (sym run) is
known_later s t (event ∷ events) inventory run is =
    known_later run.0 t events inventory run.2 (inventory-grows s.world run.0.world inventory (next-grows s run.0 event run.1) is)

each_in : {X : Type 0} (P : X → Type 0) (xs : List X) (x : X) → AllByRecursion P xs → Contains xs x → P x
each_in P xs x all there = All-contains P xs x (All-from_recursion P xs all) there

pub equal_marks : (s t : State) (events : List Event) (a b : List Entry) → IsReached s → Run s events t → Contains s.brokers a → Contains t.brokers b
    → marks_of a ≡ marks_of b → a ≡ b
equal_marks s t events a b h run in_a in_b marks =
    let names = node_names h.nodes in
    let before = reached-holds s h in
    let after = holds-run names s t events before run in
    let known_a = known_later s t events a run (each_in (IsInventoryOf s.world) s.brokers a before.brokers in_a) in
    let known_b = each_in (IsInventoryOf t.world) t.brokers b after.brokers in_b in
    let named_a : names_of a ≡ names = each_in (λ (inventory : List Entry). names_of inventory ≡ names) s.brokers a before.named in_a in
    let named_b : names_of b ≡ names = each_in (λ (inventory : List Entry). names_of inventory ≡ names) t.brokers b after.named in_b in
    determined t.world a b known_a known_b (named_a ∙ sym named_b) marks

folds_true : (world : List Life) (reported : List (ℕ × Body)) (before after : List Entry) → IsWorld world → AreHonest world reported → IsInventoryOf world before
    → Folds before reported after → IsInventoryOf world after
folds_true world [] before after valid honest is folds = subst (IsInventoryOf world) (sym folds) is
folds_true world (pair ∷ reported) before after valid honest is folds =
    let mid = applies_true world before folds.0 pair.0 pair.1 valid is honest.0 folds.1 in
    folds_true world reported folds.0 after valid honest.1 mid.0 folds.2

pub folded : (world : List Life) (names : List (List ℕ)) (reported : List (ℕ × Body)) (inventory : List Entry) → IsWorld world → length names ≡ length world → AreHonest world reported
    → Folds (map fresh names) reported inventory → IsInventoryOf world inventory
folded world names reported inventory valid long honest folds = folds_true world reported (map fresh names) inventory valid honest (fresh_true world names long) folds
