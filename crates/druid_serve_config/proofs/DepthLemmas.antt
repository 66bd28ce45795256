-- What stands in JSON nests no deeper than it, and the text of a query.
use Rattle.std.proofs.Common.{◌≡◌, ℕ, suc, zero, ◌<◌, ◌≤◌, List, [], ◌∷◌, length, get_or, codes, Option, Some, None, option_and_then, false, sym, subst, ap, ◌∙◌, arith}
use Rattle.std.specs.Ordering.{nat_cmp, match_ordering}
use Rattle.std.specs.declared.cmp.Ordering.{Ordering}
use Rattle.std.specs.declared.cmp.Ordering.TheVariants.{Less, Equal, Greater}
use Rattle.std.specs.Cmp.Lexicographic.{slice_cmp}
use Rattle.std.proofs.lemmas.Option.{same_Some}
use Rattle.serde_json.specs.Data.{Data, null, boolean, number, string, array, object, Items, Members, no_members, member, depth, items_depth, members_depth}
use Rattle.serde_json.specs.Find.{get, get_member, as_array, as_object}
use Rattle.serde_json.specs.Read.{read, max_depth}
use Rattle.serde_json.specs.View.{view, items_view}
use Rattle.serde_json.specs.Written.{compact_text, has_float}
use Rattle.serde_json.specs.declared.value.Value.{Value}
use Rattle.druid_base.specs.Options.{◌>>=◌}
use Rattle.druid_base.specs.Fields.{list_at}
use Rattle.druid_serve_config.specs.Configs.{Asked, IsCompact, asked_of, place_at, object_at, query_at}

abbrev IsShallow : ℕ → Option Data → Type 0
IsShallow n None = Unit {0}
IsShallow n (Some d) = depth d ≤ n

one_shallow : (n : ℕ) (o : Ordering) (less equal greater : Option Data) → IsShallow n less → IsShallow n equal → IsShallow n greater → IsShallow n (match_ordering o less equal greater)
one_shallow n Less a b h p q r = p
one_shallow n Equal a b h p q r = q
one_shallow n Greater a b h p q r = r

member_shallow : (k : List ℕ) (ms : Members) (n : ℕ) → members_depth ms ≤ n → IsShallow n (get_member k ms)
member_shallow k no_members n h = tt
member_shallow k (member l d ms) n h =
    let rest = member_shallow k ms n (omega (arith, h)) in
    let here : depth d ≤ n = omega (arith, h) in
    one_shallow n (slice_cmp nat_cmp k l) (get_member k ms) (Some d) (get_member k ms) rest here rest

get_shallow : (k : List ℕ) (d : Data) (n : ℕ) → depth d ≤ n → IsShallow n (get k d)
get_shallow k null n h = tt
get_shallow k (boolean b) n h = tt
get_shallow k (number x) n h = tt
get_shallow k (string s) n h = tt
get_shallow k (array ds) n h = tt
get_shallow k (object ms) n h = member_shallow k ms n (omega (arith, h))

object_so : (o : Option Data) (n : ℕ) (q : Data) → IsShallow n o → option_and_then (λ q. option_and_then (λ _. Some q) (as_object q)) o ≡ Some q → depth q ≤ n
object_so None n q h read = absurd cc
object_so (Some (object ms)) n q h read = subst (λ e. depth e ≤ n) (same_Some (object ms) q read) h
object_so (Some null) n q h read = absurd cc
object_so (Some (boolean b)) n q h read = absurd cc
object_so (Some (number x)) n q h read = absurd cc
object_so (Some (string s)) n q h read = absurd cc
object_so (Some (array ds)) n q h read = absurd cc

-- a query nests no deeper than what it stands in
pub object_shallow : (d q : Data) (n : ℕ) → object_at d ≡ Some q → depth d ≤ n → depth q ≤ n
object_shallow d q n read h = object_so (get (codes "query") d) n q (get_shallow (codes "query") d n h) read

list_so : (o : Option Data) (n : ℕ) (ds : Items) → IsShallow n o → option_and_then as_array o ≡ Some ds → items_depth ds ≤ n
list_so None n ds h read = absurd cc
list_so (Some (array es)) n ds h read = subst (λ (e : Items). items_depth e ≤ n) (same_Some es ds read) (omega (arith, h))
list_so (Some null) n q h read = absurd cc
list_so (Some (boolean b)) n q h read = absurd cc
list_so (Some (number x)) n q h read = absurd cc
list_so (Some (string s)) n q h read = absurd cc
list_so (Some (object ms)) n q h read = absurd cc

-- nor does a list
pub list_shallow : (key : List ℕ) (d : Data) (ds : Items) (n : ℕ) → list_at key d ≡ Some ds → depth d ≤ n → items_depth ds ≤ n
list_shallow key d ds n read h = list_so (get key d) n ds (get_shallow key d n h) read

pub queries_shallow : (d : Data) (vs : List Value) → Some (items_view vs) ≡ list_at (codes "queries") d → depth d ≤ max_depth → items_depth (items_view vs) ≤ max_depth
queries_shallow d vs there h = list_shallow (codes "queries") d (items_view vs) max_depth (sym there) h

item_at : (vs : List Value) (i : ℕ) (w : Value) (n : ℕ) → i < length vs → items_depth (items_view vs) ≤ n → depth (view (get_or vs i w)) ≤ n
item_at [] i w n below h = absurd (omega (arith, below))
item_at (v ∷ vs) zero w n below h = omega (arith, h)
item_at (v ∷ vs) (suc i) w n below h = item_at vs i w n (omega (arith, below)) (omega (arith, h))

-- nor an item of a list
pub item_shallow : (vs : List Value) (i : ℕ) (v : Value) (n : ℕ) → i < length vs → v ≡ get_or vs i v → items_depth (items_view vs) ≤ n → depth (view v) ≤ n
item_shallow vs i v n below is h = subst (λ w. depth (view w) ≤ n) (sym is) (item_at vs i v n below h)

-- the text of a value is compact
pub text_compact : (d : Data) (text : List ℕ) → read text ≡ Some d → (has_float d ≡ false → text ≡ compact_text d) → IsCompact text
text_compact d text reads plain e read_e none =
    let same : d ≡ e = same_Some d e (sym reads ∙ read_e) in
    subst (λ x. has_float x ≡ false → text ≡ compact_text x) same plain none

abbrev asked_made : ℕ → Option Data → Asked
asked_made broker query = record { broker = broker; query = query }

-- a query is what its text reads as
pub query_built : (brokers : ℕ) (d q : Data) (broker : ℕ) (text : List ℕ) → Some broker ≡ place_at brokers d → Some q ≡ object_at d → read text ≡ Some q
    → query_at brokers d ≡ Some (asked_of (record { broker = broker; text = text }))
unfolding query_at
query_built brokers d q broker text place is reads =
    ap (λ o. o >>= λ b. object_at d >>= λ x. Some (asked_made b (Some x))) (sym place)
    ∙ ap (λ o. o >>= λ x. Some (asked_made broker (Some x))) (sym is)
    ∙ ap (λ o. Some (asked_made broker o)) (sym reads)
