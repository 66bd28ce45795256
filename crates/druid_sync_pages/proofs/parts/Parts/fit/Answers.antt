use Rattle.std.proofs.Common.{Some, sym, ap, ◌∙◌, arith, inl, inr}
use Rattle.std.proofs.lemmas.Bool.{false≢true}
use Rattle.druid_sync_pages.specs.Assembly.{with_page}
use Rattle.druid_sync_pages.proofs.WholeLemmas.{all_with, still_lacks, whole_there}
use Rattle.druid_sync_pages.proofs.parts.Parts.fit.Goals as goal

pub returns-then-are_same : goal.returns-then-are_same
returns-then-are_same c =
    (omega (arith, c.count.ensures, c.if-count-of.false), c.in-Some.ensures ∙ ap (λ s. Some (Some s)) (c.are_same.ensures.0 c.if-are_same.true))

pub returns-else-are_same : goal.returns-else-are_same
returns-else-are_same c = inr (inl (c.in-Some.found.now, c.in-Some.ensures, λ same. false≢true (c.if-are_same.ensures.1 same)))

pub returns-then-not-lacks_only : goal.returns-then-not-lacks_only
returns-then-not-lacks_only c = (
  (omega (arith, c.count.ensures, c.if-count-of.false), c.in_default.ensures),
  still_lacks c.args.self.now.pages c.args.page c.args.segments.now (λ others. false≢true (c.if-not-lacks_only.ensures.1 others)),
)

pub rises_with-requires-clause-there : goal.rises_with-requires-clause-there
rises_with-requires-clause-there c = all_with c.args.self.now.pages c.args.page c.args.segments.now (c.lacks_only.ensures.0 c.if-not-lacks_only.false)

pub returns-then-not-rises_with : goal.returns-then-not-rises_with
returns-then-not-rises_with c =
    let all = all_with c.args.self.now.pages c.args.page c.args.segments.now (c.lacks_only.ensures.0 c.if-not-lacks_only.false) in
    let whole = whole_there (with_page c.args.self.now c.args.page c.args.segments.now).pages all in
    inr (inr (
      whole.0,
      (omega (arith, c.count.ensures, c.if-count-of.false), c.in_default.ensures),
      whole.1,
      λ sorted. false≢true (sym c.if-not-rises_with.true ∙ (c.rises_with.ensures whole.0 whole.1).1 sorted),
    ))

pub returns : goal.returns
returns c =
    let all = all_with c.args.self.now.pages c.args.page c.args.segments.now (c.lacks_only.ensures.0 c.if-not-lacks_only.false) in
    let whole = whole_there (with_page c.args.self.now c.args.page c.args.segments.now).pages all in (
      (omega (arith, c.count.ensures, c.if-count-of.false), c.in_default.ensures),
      all,
      whole.0,
      whole.1,
      (c.rises_with.ensures whole.0 whole.1).0 c.if-not-rises_with.false,
    )
