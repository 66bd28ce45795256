-- What is tested of the words of a part.
use Rattle.std.proofs.Common.{◌≡◌, ◌∙◌, ◌||◌, ℕ, List, [], ◌∷◌, map, Option, Some, Bool, Bor, bytes_eq, refl, ap, sym}
use Rattle.std.specs.List.{list_any, list_all}
use Rattle.std.proofs.lemmas.List.Folds.{list_all-map}
use Rattle.druid_serve_config.specs.Configs.{Node, Broker}
use Rattle.druid_serve_config.specs.Parts.{is_at, broker_named, words_of, is_known, is_part, has_node, has_broker}

any_map : {X : Type 0} (p : X → Bool) {Y : Type 0} (h : Y → X) (ys : List Y) → list_any p (map h ys) ≡ list_any (λ y. p (h y)) ys
any_map p h [] = refl
any_map p h (y ∷ ys) = ap (λ b. p (h y) || b) (any_map p h ys)

abbrev texts_of : List (Bor (List ℕ)) → List (List ℕ)
texts_of words = map (λ word. word.now) words

pub node_had : (part : Option (List (List ℕ))) (words : List (Bor (List ℕ))) (node : Node) (b : Bool) → part ≡ Some (texts_of words)
    → b ≡ list_any (λ word. bytes_eq node.name word.now) words → b ≡ has_node part node
node_had part words node b is found =
    found ∙ sym (any_map (bytes_eq node.name) (λ word. word.now) words) ∙ ap (λ p. has_node p node) (sym is)

pub broker_had : (part : Option (List (List ℕ))) (words : List (Bor (List ℕ))) (place : ℕ) (b : Bool) → part ≡ Some (texts_of words)
    → b ≡ list_any (λ word. is_at place (broker_named word.now)) words → b ≡ has_broker part place
broker_had part words place b is found =
    found ∙ sym (any_map (λ w. is_at place (broker_named w)) (λ word. word.now) words) ∙ ap (λ p. has_broker p place) (sym is)

pub known : (nodes : List Node) (brokers : List Broker) (words : List (Bor (List ℕ))) (text : List ℕ) (b : Bool) → texts_of words ≡ words_of text
    → b ≡ list_all (λ word. is_known nodes brokers word.now) words → is_part nodes brokers text ≡ b
known nodes brokers words text b are all =
    ap (λ ws. list_all (is_known nodes brokers) ws) (sym are) ∙ list_all-map (is_known nodes brokers) (λ word. word.now) words ∙ sym all
