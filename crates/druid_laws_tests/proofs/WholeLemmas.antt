-- From the laws of the headline to what a broker that followed two nodes answers.
use Rattle.std.proofs.Common.{◌≡◌, ◌⊎◌, inl, inr, ℕ, zero, suc, List, [], ◌∷◌, Some, refl, sym, ap, ◌∙◌, subst}
use Rattle.std.specs.Prelude.{Contains, slice_get}
use Rattle.std.proofs.lemmas.Option.{same_Some}
use Rattle.std.proofs.lemmas.List.Elements.{All-contains}
use Rattle.druid_segment_descriptor.specs.Described.{Described, IsDescribed}
use Rattle.druid_segment_descriptor.specs.Mark.{Point}
use Rattle.druid_segment_descriptor.specs.declared.reply.Body.{Body}
use Rattle.druid_inventory.specs.Entry.{fresh}
use Rattle.druid_segment_rows.specs.Segment.{Segment}
use Rattle.druid_query.specs.Query.{Query}
use Rattle.druid_query.specs.Asked.{Asked}
use Rattle.druid_query.specs.SubQuery.{IsAsked}
use Rattle.druid_node.specs.State.{State}
use Rattle.druid_inventory_views.specs.Fold.{fold_of}
use Rattle.druid_laws_world.specs.World.{Life, eras_of, set_at, marks_of}
use Rattle.druid_laws_world.specs.World as world
use Rattle.druid_laws_world.specs.Run.{AreHonest}
use Rattle.druid_laws_headline.specs.Headline.{ServesAt, AreAmong, IsExactAt}
use Rattle.druid_laws_tests.specs.Nodes.{IsNode, mark_of}
use Rattle.druid_laws_tests.specs.Exchanges.{ExchangesWithNode}
use Rattle.druid_laws_tests.specs.Answers.{HoldsAmong, IsExactOver}
use Rattle.druid_laws_tests.proofs.ExchangeLemmas.{AnswersHonestly, honest_of_two}
use Rattle.druid_laws_tests.proofs.NodeLemmas.{snapshot_of}
use Rattle.druid_laws_tests.proofs.MarkLemmas.{two_marks}

-- what is held of the source is among what is asked for of it
among : (state : State) (source : List ℕ) (segments : List Segment) (asked : List Asked) → HoldsAmong state source segments → IsAsked source asked → AreAmong asked state.held segments
among state source segments asked holds is a s there named = holds a.0 s (is.sources a there) named

-- the nodes' answers to one request are honest where what each holds of the source stands in the list
abbrev pub NodesAreHonest : Query → Type 0
NodesAreHonest asked =
    (state : State) (pieces : List Asked) (node : ℕ) (segments : List Segment) → IsNode state → IsAsked asked.source pieces → AreAmong pieces state.held segments
    → AnswersHonestly state asked pieces node segments

module _ (first second : Life) (left right : State) (is_left : IsNode left) (is_right : IsNode right)
    (honest_left : world.IsHonest (eras_of first) (snapshot_of left)) (honest_right : world.IsHonest (eras_of second) (snapshot_of right)) where
  abbrev both : List Life
  both = first ∷ second ∷ []

  abbrev marks : List Point
  marks = mark_of left ∷ mark_of right ∷ []

  -- what either serves at its mark has identifiers
  described : (node : ℕ) (d : Described) → ServesAt both marks node d → IsDescribed d
  described zero d s =
      let life : first ≡ s.0 = same_Some _ _ s.3 in
      let mark : mark_of left ≡ s.1 = same_Some _ _ s.4 in
      let sets : Some left.history.set ≡ Some s.2 = sym honest_left ∙ ap (λ (l : Life). set_at (eras_of l) (mark_of left)) life ∙ ap (set_at (eras_of s.0)) mark ∙ s.5 in
      All-contains IsDescribed left.history.set d is_left.described (subst (λ (set : List Described). Contains set d) (sym (same_Some _ _ sets)) s.6)
  described (suc zero) d s =
      let life : second ≡ s.0 = same_Some _ _ s.3 in
      let mark : mark_of right ≡ s.1 = same_Some _ _ s.4 in
      let sets : Some right.history.set ≡ Some s.2 = sym honest_right ∙ ap (λ (l : Life). set_at (eras_of l) (mark_of right)) life ∙ ap (set_at (eras_of s.0)) mark ∙ s.5 in
      All-contains IsDescribed right.history.set d is_right.described (subst (λ (set : List Described). Contains set d) (sym (same_Some _ _ sets)) s.6)
  described (suc (suc n)) d s = absurd (nothing s.3)
    where
      nothing : slice_get both (suc (suc n)) ≡ Some s.0 → ⊥
      nothing e = cc

  exact_over : (asked : Query) (new : List State) (status : ℕ) (body : List ℕ) → NodesAreHonest asked
      → IsExactAt ExchangesWithNode both marks asked (left ∷ right ∷ []) new status body → IsExactOver both left right asked status body
  exact_over asked new status body honest at = record {
    missing = at.missing;
    groups = at.groups;
    whole = at.whole;
    rows = at.rows;
    short = at.short;
    exact = λ segments held sees served held_at seen holds_left holds_right.
        at.exact segments held sees served held_at seen
        (λ e there.
        let may = at.may_be_asked described e there in
        honest_of_two asked at.exchanges left right new segments at.made e there (at.listed e there)
        (honest left e.asked e.node segments is_left may (among left asked.source segments e.asked holds_left may))
        (honest right e.asked e.node segments is_right may (among right asked.source segments e.asked holds_right may)));
  }

-- the replies of both are honest
pub both_honest : (first second : Life) (left right : Body) → world.IsHonest (eras_of first) left → world.IsHonest (eras_of second) right
    → AreHonest (first ∷ second ∷ []) ((0, left) ∷ (1, right) ∷ [])
both_honest first second left right honest_left honest_right = ((first, refl, honest_left), ((second, refl, honest_right), tt))

-- ---- the whole

pub whole : (first second : Life) (left right : State) (x y : List ℕ) (asked : Query) (new : List State) (status : ℕ) (body : List ℕ) (Other : Type 0)
    (is_left : IsNode left) (is_right : IsNode right)
    → world.IsHonest (eras_of first) (snapshot_of left) → world.IsHonest (eras_of second) (snapshot_of right) → NodesAreHonest asked
    → IsExactAt ExchangesWithNode (first ∷ second ∷ []) (marks_of (fold_of (fresh x ∷ fresh y ∷ []) ((0, snapshot_of left) ∷ (1, snapshot_of right) ∷ []))) asked (left ∷ right ∷ []) new status body ⊎ Other
    → IsExactOver (first ∷ second ∷ []) left right asked status body ⊎ Other
whole first second left right x y asked new status body Other is_left is_right honest_left honest_right honest (inl exact) =
    inl (exact_over first second left right is_left is_right honest_left honest_right asked new status body honest
    (subst (λ (marks : List Point). IsExactAt ExchangesWithNode (first ∷ second ∷ []) marks asked (left ∷ right ∷ []) new status body)
    (two_marks x y left right is_left.kept.incarnation is_right.kept.incarnation) exact))
whole first second left right x y asked new status body Other is_left is_right honest_left honest_right honest (inr other) = inr other
