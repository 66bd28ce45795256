-- Lists of servers and of queries, judged, and then built.
use Rattle.std.proofs.Common.{◌≡◌, ℕ, List, [], ◌∷◌, length, codes, Option, Some, None, is_some, IsSome, option_map, option_and_then, Bool, true, false, ◌&&◌, cond, refl, sym, subst, ap, ◌∙◌}
use Rattle.std.specs.List.{list_all}
use Rattle.std.proofs.lemmas.Option.{same_Some}
use Rattle.serde_json.specs.Data.{Data, Items}
use Rattle.serde_json.specs.Find.{as_str}
use Rattle.serde_json.specs.View.{view, items_view}
use Rattle.serde_json.specs.declared.value.Value.{Value}
use Rattle.druid_base.specs.Options.{◌>>=◌}
use Rattle.druid_base.specs.Each.{each_of}
use Rattle.druid_base.proofs.EachLemmas.{all_read, not_all_read, all_reads, each_of_length}
use Rattle.druid_base.specs.Fields.{list_at}
use Rattle.druid_serve_config.specs.Configs.{Node, Broker, name_at, tombstone_at, node_at, broker_at, query_at, are_few, names_of, nodes_in, brokers_in, nodes_at, brokers_at}
use Rattle.druid_base.specs.Distinct.{are_distinct}
use Rattle.druid_serve_config.specs.Borrowed.{text_or, names_in}
use Rattle.druid_serve_config.proofs.PartLemmas.{node_parts, some_of}

pub texts_judged : (vs : List Value) → list_all (λ v. is_some (as_str (view v))) vs ≡ is_some (each_of as_str (items_view vs))
texts_judged vs = all_reads as_str vs

pub chunks_judged : (vs : List Value) → list_all (λ v. is_some (tombstone_at (view v))) vs ≡ is_some (each_of tombstone_at (items_view vs))
chunks_judged vs = all_reads tombstone_at vs

pub queries_judged : (brokers : ℕ) (vs : List Value) → list_all (λ v. is_some (query_at brokers (view v))) vs ≡ is_some (each_of (query_at brokers) (items_view vs))
queries_judged brokers vs = all_reads (query_at brokers) vs

-- a value that is kept where a test passes
kept_if : {A : Type 0} (b : Bool) (x : A) → is_some (cond b (Some x) None) ≡ b
kept_if true x = refl
kept_if false x = refl

same_if : {A : Type 0} (b : Bool) (x : A) → IsSome (cond b (Some x) None) → cond b (Some x) None ≡ Some x
same_if true x some = refl
same_if false x some = absurd cc

-- ---- brokers

abbrev brokers_if : List Broker → Option (List Broker)
brokers_if brokers = cond (are_few (length brokers)) (Some brokers) None

pub brokers_none : (network : Bool) (vs : List Value) → list_all (λ v. is_some (broker_at network (view v))) vs ≡ false → is_some (brokers_in network (items_view vs)) ≡ false
unfolding brokers_in
brokers_none network vs not = ap (λ o. is_some (o >>= brokers_if)) (not_all_read (broker_at network) vs not)

pub brokers_some : (network : Bool) (vs : List Value) → list_all (λ v. is_some (broker_at network (view v))) vs ≡ true → is_some (brokers_in network (items_view vs)) ≡ are_few (length vs)
unfolding brokers_in
brokers_some network vs all =
    let read = all_read (broker_at network) vs all in
    ap (λ o. is_some (o >>= brokers_if)) read.1 ∙ kept_if (are_few (length read.0)) read.0 ∙ ap are_few (each_of_length (broker_at network) vs read.0 read.1)

brokers_next : (o : Option (List Broker)) → IsSome (o >>= brokers_if) → (o >>= brokers_if) ≡ o
brokers_next None some = refl
brokers_next (Some bs) some = same_if (are_few (length bs)) bs some

-- where there are brokers, each item is one
pub brokers_each : (network : Bool) (items : Items) → IsSome (brokers_in network items) → brokers_in network items ≡ each_of (broker_at network) items
unfolding brokers_in
brokers_each network items some = brokers_next (each_of (broker_at network) items) some

pub brokers_listed : (network : Bool) (d : Data) (vs : List Value) → Some (items_view vs) ≡ list_at (codes "brokers") d → IsSome (brokers_at network d) → brokers_at network d ≡ each_of (broker_at network) (items_view vs)
brokers_listed network d vs there some =
    ap (λ o. option_and_then (brokers_in network) o) (sym there)
    ∙ brokers_each network (items_view vs) (subst (λ o. IsSome (option_and_then (brokers_in network) o)) (sym there) some)

pub brokers_list_reads : (network : Bool) (d : Data) (vs : List Value) → Some (items_view vs) ≡ list_at (codes "brokers") d → IsSome (brokers_at network d) → IsSome (each_of (broker_at network) (items_view vs))
brokers_list_reads network d vs there some = subst (λ o. IsSome o) (brokers_listed network d vs there some) some

pub brokers_counted : (network : Bool) (d : Data) (vs : List Value) → Some (items_view vs) ≡ list_at (codes "brokers") d → is_some (brokers_in network (items_view vs)) ≡ true
    → option_map length (brokers_at network d) ≡ Some (length vs)
brokers_counted network d vs there some =
    let same = brokers_each network (items_view vs) some in
    let read = some_of (brokers_in network (items_view vs)) some in
    ap (λ o. option_map length (option_and_then (brokers_in network) o)) (sym there)
    ∙ ap (λ o. option_map length o) read.1
    ∙ ap Some (each_of_length (broker_at network) vs read.0 (sym same ∙ read.1))

none_there : (o : Option (List Broker)) → is_some o ≡ false → option_map length o ≡ None
none_there None not = refl
none_there (Some bs) not = absurd cc

pub no_brokers_counted : (network : Bool) (d : Data) (vs : List Value) → Some (items_view vs) ≡ list_at (codes "brokers") d → is_some (brokers_in network (items_view vs)) ≡ false
    → option_map length (brokers_at network d) ≡ None
no_brokers_counted network d vs there not =
    ap (λ o. option_map length (option_and_then (brokers_in network) o)) (sym there) ∙ none_there (brokers_in network (items_view vs)) not

-- ---- nodes

abbrev nodes_if : List Node → Option (List Node)
nodes_if nodes = cond (are_few (length nodes) && are_distinct (names_of nodes)) (Some nodes) None

pub nodes_none : (network : Bool) (vs : List Value) → list_all (λ v. is_some (node_at network (view v))) vs ≡ false → is_some (nodes_in network (items_view vs)) ≡ false
unfolding nodes_in
nodes_none network vs not = ap (λ o. is_some (o >>= nodes_if)) (not_all_read (node_at network) vs not)

-- the name of what reads as a node is that of the node
name_back : (network : Bool) (d : Data) (node : Node) → node_at network d ≡ Some node → text_or (name_at d) ≡ node.name
name_back network d node read = ap text_or (node_parts network d node read).name

names_next : (d : Data) (o : Option Node) (rest : Option (List Node)) (names : List (List ℕ)) (all : List Node)
    → ((node : Node) → o ≡ Some node → text_or (name_at d) ≡ node.name) → ((nodes : List Node) → rest ≡ Some nodes → names ≡ names_of nodes)
    → (o >>= λ node. rest >>= λ nodes. Some (node ∷ nodes)) ≡ Some all → text_or (name_at d) ∷ names ≡ names_of all
names_next d None rest names all one more read = absurd cc
names_next d (Some node) None names all one more read = absurd cc
names_next d (Some node) (Some nodes) names all one more read =
    ap (λ n. n ∷ names) (one node refl) ∙ ap (λ ns. node.name ∷ ns) (more nodes refl) ∙ ap names_of (same_Some (node ∷ nodes) all read)

pub names_back : (network : Bool) (vs : List Value) (nodes : List Node) → each_of (node_at network) (items_view vs) ≡ Some nodes → names_in vs ≡ names_of nodes
names_back network [] nodes read = ap names_of (same_Some [] nodes read)
names_back network (v ∷ vs) nodes read =
    names_next (view v) (node_at network (view v)) (each_of (node_at network) (items_view vs)) (names_in vs) nodes (name_back network (view v)) (names_back network vs) read

nodes_some : (network : Bool) (vs : List Value) → list_all (λ v. is_some (node_at network (view v))) vs ≡ true → is_some (nodes_in network (items_view vs)) ≡ (are_few (length vs) && are_distinct (names_in vs))
unfolding nodes_in
nodes_some network vs all =
    let read = all_read (node_at network) vs all in
    ap (λ o. is_some (o >>= nodes_if)) read.1
    ∙ kept_if (are_few (length read.0) && are_distinct (names_of read.0)) read.0
    ∙ ap (λ n. are_few n && are_distinct (names_of read.0)) (each_of_length (node_at network) vs read.0 read.1)
    ∙ ap (λ names. are_few (length vs) && are_distinct names) (sym (names_back network vs read.0 read.1))

pub nodes_many : (network : Bool) (vs : List Value) → list_all (λ v. is_some (node_at network (view v))) vs ≡ true → are_few (length vs) ≡ false → is_some (nodes_in network (items_view vs)) ≡ false
nodes_many network vs all many = nodes_some network vs all ∙ ap (λ b. b && are_distinct (names_in vs)) many

pub nodes_few : (network : Bool) (vs : List Value) → list_all (λ v. is_some (node_at network (view v))) vs ≡ true → are_few (length vs) ≡ true → is_some (nodes_in network (items_view vs)) ≡ are_distinct (names_in vs)
nodes_few network vs all few = nodes_some network vs all ∙ ap (λ b. b && are_distinct (names_in vs)) few

nodes_next : (o : Option (List Node)) → IsSome (o >>= nodes_if) → (o >>= nodes_if) ≡ o
nodes_next None some = refl
nodes_next (Some ns) some = same_if (are_few (length ns) && are_distinct (names_of ns)) ns some

-- where there are nodes, each item is one
pub nodes_each : (network : Bool) (items : Items) → IsSome (nodes_in network items) → nodes_in network items ≡ each_of (node_at network) items
unfolding nodes_in
nodes_each network items some = nodes_next (each_of (node_at network) items) some

pub nodes_listed : (network : Bool) (d : Data) (vs : List Value) → Some (items_view vs) ≡ list_at (codes "nodes") d → IsSome (nodes_at network d) → nodes_at network d ≡ each_of (node_at network) (items_view vs)
nodes_listed network d vs there some =
    ap (λ o. option_and_then (nodes_in network) o) (sym there)
    ∙ nodes_each network (items_view vs) (subst (λ o. IsSome (option_and_then (nodes_in network) o)) (sym there) some)

pub nodes_list_reads : (network : Bool) (d : Data) (vs : List Value) → Some (items_view vs) ≡ list_at (codes "nodes") d → IsSome (nodes_at network d) → IsSome (each_of (node_at network) (items_view vs))
nodes_list_reads network d vs there some = subst (λ o. IsSome o) (nodes_listed network d vs there some) some
