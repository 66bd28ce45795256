use Rattle.std.proofs.Common.{◌≡◌, ◌+◌, ◌-◌, Some, slice_get, length, ap, subst, ◌∙◌, refl, arith}
use Rattle.std.proofs.lemmas.Bool.{false≢true}
use Rattle.std.proofs.lemmas.List.{length-set}
use Rattle.druid_sync_pages.specs.Assembly.{Parts, AreParts, with_page}
use Rattle.druid_sync_pages.proofs.PartLemmas.{are_pages_with}
use Rattle.druid_sync_pages.proofs.OrderLemmas.{rising_whole, whole_rising}
use Rattle.druid_sync_pages.proofs.parts.Parts.rises_with.Goals as goal

pub returns-then-not-ends_before : goal.returns-then-not-ends_before
returns-then-not-ends_before c = λ set whole.
    let P : Parts → Type 0 = λ p. AreParts p.pages in
    let are = are_pages_with c.args.self.now.pages c.args.page c.args.segments.now (subst P c.self.view_is c.self.invariant).each (c.requires.some, c.requires.few, c.requires.sorted) in
    let pages = (with_page c.args.self.now c.args.page c.args.segments.now).pages in
    let next : c.loop-place.place - 1 + 1 ≡ c.loop-place.place = omega (arith, c.loop-place.auto.place) in (
      λ none. absurd (false≢true none),
      λ sorted. c.if-not-ends_before.ensures.1
          (whole_rising pages set are whole sorted (c.loop-place.place - 1) c.in-Some.before.now c.in-Some-page_with.after.now
          c.in-Some.ensures (ap (slice_get pages) next ∙ c.in-Some-page_with.ensures)),
    )

pub returns : goal.returns
returns c = λ set whole.
    let P : Parts → Type 0 = λ p. AreParts p.pages in
    let are = are_pages_with c.args.self.now.pages c.args.page c.args.segments.now (subst P c.self.view_is c.self.invariant).each (c.requires.some, c.requires.few, c.requires.sorted) in
    let count : length c.self.inside.pages.items ≡ length c.args.self.now.pages = ap (λ (p : Parts). length p.pages) c.self.view_is in
    let same = length-set c.args.self.now.pages c.args.page (Some c.args.segments.now) in (
      λ _. rising_whole (with_page c.args.self.now c.args.page c.args.segments.now).pages set are whole
          (λ i within. c.loop-place.invariant i (omega (arith, within, same, count, c.loop-place-test.false, c.len-place-end.ensures))),
      λ _. refl,
    )
