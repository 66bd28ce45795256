use Rattle.std.proofs.Common.{◌≡◌, ◌∙◌, ◌<◌, ◌≤◌, ℕ, List, [], length, slice_index_or, slice_range, string_bytes, ap, sym, subst, subst₂, arith}
use Rattle.std.proofs.lemmas.List.{get_or_default}
use Rattle.std.proofs.lemmas.Str.{IsCharBoundary-start, IsUtf8-string_bytes}
use Rattle.std.specs.Str.{IsCharBoundary}
use Rattle.druid_segment_rows.specs.Texts.{start_from, texts_from, AreEnds}
use Rattle.druid_segment_rows.proofs.TextsLemmas.{stands_at, length_texts}
use Rattle.druid_segment_rows.proofs.texts.Texts.get.Goals as goal

pub start_of-start-requires : goal.start_of-start-requires
start_of-start-requires c =
    omega (arith, c.requires, ap length c.self.view_is, length_texts (string_bytes c.self.inside.text) 0 c.self.inside.ends.items, ap length c.deref.ensures.value)

pub index-requires : goal.index-requires
index-requires c =
    omega (arith, c.requires, ap length c.self.view_is, length_texts (string_bytes c.self.inside.text) 0 c.self.inside.ends.items, ap length c.deref.ensures.value, c.deref.ensures.len)

-- what the loop-free steps know of the place
stands : (bytes : List ℕ) (ends now : List ℕ) (place start end : ℕ) → IsCharBoundary bytes 0 → AreEnds bytes 0 ends → place < length ends → now ≡ ends
    → start ≡ start_from 0 now place → end ≡ slice_index_or ends place end
    → (start ≤ end) × IsCharBoundary bytes start × IsCharBoundary bytes end × (slice_index_or (texts_from bytes 0 ends) place [] ≡ slice_range bytes start end)
stands bytes ends now place start end begins are lt same from to =
    let at = stands_at bytes 0 ends place begins are lt in
    let s : start_from 0 ends place ≡ start = sym (from ∙ ap (λ xs. start_from 0 xs place) same) in
    let e : slice_index_or ends place 0 ≡ end = get_or_default ends place 0 end lt ∙ sym to in (
      subst₂ (λ a b. a ≤ b) s e at.rises,
      subst (IsCharBoundary bytes) s at.begins,
      subst (IsCharBoundary bytes) e at.stops,
      at.text ∙ ap (λ a. slice_range bytes a (slice_index_or ends place 0)) s ∙ ap (slice_range bytes start) e,
    )

within : (c : goal.After-deref-2) → c.args.place < length c.self.inside.ends.items
within c = omega (arith, c.requires, ap length c.self.view_is, length_texts (string_bytes c.self.inside.text) 0 c.self.inside.ends.items)

cut : (c : goal.After-deref-2) → (c.start_of-start.result ≤ c.index.result.now) × IsCharBoundary c.deref-2.result.now c.start_of-start.result × IsCharBoundary c.deref-2.result.now c.index.result.now
    × (slice_index_or c.args.self.now c.args.place [] ≡ slice_range c.deref-2.result.now c.start_of-start.result c.index.result.now)
cut c =
    let bytes = string_bytes c.self.inside.text in
    let (le, begins, stops, text) = stands bytes c.self.inside.ends.items c.deref.result.now c.args.place c.start_of-start.result c.index.result.now
    (IsCharBoundary-start bytes (IsUtf8-string_bytes c.self.inside.text)) c.self.invariant.0 (within c) c.deref.ensures.value c.start_of-start.ensures c.index.ensures in
    let same = sym c.deref-2.ensures in (
      le,
      subst (λ bs. IsCharBoundary bs c.start_of-start.result) same begins,
      subst (λ bs. IsCharBoundary bs c.index.result.now) same stops,
      ap (λ xs. slice_index_or xs c.args.place []) (sym c.self.view_is) ∙ text ∙ ap (λ bs. slice_range bs c.start_of-start.result c.index.result.now) same,
    )

pub range-requires-clause-start_le_end : goal.range-requires-clause-start_le_end
range-requires-clause-start_le_end c = (cut c).0

pub range-requires-clause-start_boundary : goal.range-requires-clause-start_boundary
range-requires-clause-start_boundary c = λ more. (cut c).1

pub range-requires-clause-end_boundary : goal.range-requires-clause-end_boundary
range-requires-clause-end_boundary c = (cut c).2

pub returns : goal.returns
returns c =
    let bytes = string_bytes c.self.inside.text in
    let lt : c.args.place < length c.self.inside.ends.items = omega (arith, c.requires, ap length c.self.view_is, length_texts bytes 0 c.self.inside.ends.items) in
    let at = stands bytes c.self.inside.ends.items c.deref.result.now c.args.place c.start_of-start.result c.index.result.now
    (IsCharBoundary-start bytes (IsUtf8-string_bytes c.self.inside.text)) c.self.invariant.0 lt c.deref.ensures.value c.start_of-start.ensures c.index.ensures in
    c.range.ensures.value ∙ ap (λ bs. slice_range bs c.start_of-start.result c.index.result.now) c.deref-2.ensures ∙ sym at.3
    ∙ ap (λ xs. slice_index_or xs c.args.place []) c.self.view_is
