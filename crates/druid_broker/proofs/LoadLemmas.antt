-- What is known of the nodes, looked up node by node.
use Rattle.std.proofs.Common.{◌≡◌, ◌⊎◌, ℕ, ◌+◌, ◌<◌, ◌≤◌, ◌&&◌, true, false, List, ◌∷◌, length, drop, Option, Some, None, slice_get, option_map, nat_le, refl, sym, ap, ◌∙◌, arith, inl, inr, drop_of_length-le}
use Rattle.std.proofs.lemmas.Bool.{le-leb}
use Rattle.std.proofs.lemmas.Bool.Decides.{leb_tells}
use Rattle.std.proofs.lemmas.List.{drop_more}
use Rattle.std.proofs.lemmas.Option.{slice_get_past, slice_get_within, get_or_from_slice_get}
use Rattle.druid_segment_descriptor.specs.Mark.{Point}
use Rattle.druid_segment_descriptor.specs.declared.change.Ask.{Ask}
use Rattle.druid_segment_descriptor.specs.declared.reply.Body.{Body}
use Rattle.druid_inventory.specs.Entry.{Entry, IsUnsynced, IsAnswerOf, answer_of}
use Rattle.druid_broker.specs.Routes.{is_loaded}

of_some : (o : Option Entry) (m : Point) → Some m ≡ option_map (λ e. e.mark) o → (e : Entry) × (o ≡ Some e) × (m ≡ e.mark)
of_some None m h = absurd (cc)
of_some (Some e) m h = (e, refl, cc)

next : (entries : List Entry) (i : ℕ) (m : Point) → Some m ≡ option_map (λ e. e.mark) (slice_get entries i)
    → is_loaded (drop i entries) ≡ (nat_le 1 m.incarnation && is_loaded (drop (i + 1) entries))
next entries i m h =
    let found = of_some (slice_get entries i) m h in
    let e : Entry = found.0 in
    ap is_loaded (drop_more entries i e (slice_get_within entries i e found.1))
    ∙ ap (λ x. is_loaded (x ∷ drop (i + 1) entries)) (get_or_from_slice_get entries i e e found.1)
    ∙ ap (λ (p : Point). nat_le 1 p.incarnation && is_loaded (drop (i + 1) entries)) (sym found.2)

never : (n : ℕ) → n < 1 → nat_le 1 n ≡ false
never n h = by (leb_tells 1 n)
  where
    by : ((nat_le 1 n ≡ true) × (1 ≤ n)) ⊎ ((nat_le 1 n ≡ false) × (n < 1)) → nat_le 1 n ≡ false
    by (inl (is, some)) = absurd (omega (arith, h, some))
    by (inr (is, none)) = is

pub not_loaded : (entries : List Entry) (i : ℕ) (m : Point) → Some m ≡ option_map (λ e. e.mark) (slice_get entries i)
    → m.incarnation < 1 → is_loaded (drop i entries) ≡ false
not_loaded entries i m h few = next entries i m h ∙ ap (λ b. b && is_loaded (drop (i + 1) entries)) (never m.incarnation few)

pub loaded_more : (entries : List Entry) (i : ℕ) (m : Point) → Some m ≡ option_map (λ e. e.mark) (slice_get entries i)
    → 1 ≤ m.incarnation → is_loaded (drop i entries) ≡ is_loaded (drop (i + 1) entries)
loaded_more entries i m h some = next entries i m h ∙ ap (λ b. b && is_loaded (drop (i + 1) entries)) (le-leb 1 m.incarnation some)

pub loaded_end : (entries : List Entry) (i : ℕ) → length entries ≤ i → is_loaded (drop i entries) ≡ true
loaded_end entries i h = ap is_loaded (drop_of_length-le entries h)

-- ---- what is known of a node

pub no_node : (entries : List Entry) (node : ℕ) → length entries ≤ node → slice_get entries node ≡ None
no_node entries node h = slice_get_past entries node h

answer_in : (entries : List Entry) (node : ℕ) (ask : Ask) (o : Option Entry) → slice_get entries node ≡ o → (slice_get entries node ≡ None → ⊥) → (IsUnsynced entries node → ⊥)
    → (reply : Body) × IsAnswerOf entries node ask reply
answer_in entries node ask None is known synced = absurd (known is)
answer_in entries node ask (Some e) is known synced = (answer_of e ask, (e, is, (λ never. synced (e, is, never)), refl))

-- of a node that was synced there is something to tell
pub an_answer : (entries : List Entry) (node : ℕ) (ask : Ask) → (slice_get entries node ≡ None → ⊥) → (IsUnsynced entries node → ⊥) → (reply : Body) × IsAnswerOf entries node ask reply
an_answer entries node ask known synced = answer_in entries node ask (slice_get entries node) refl known synced
