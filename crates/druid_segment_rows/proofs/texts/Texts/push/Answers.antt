use Rattle.std.proofs.Common.{◌≡◌, ◌∙◌, ◌+◌, ◌<◌, [], ◌∷◌, ◌++◌, length, string_bytes, ap, sym, subst₂, arith, rules}
use Rattle.std.proofs.lemmas.List.{length-append}
use Rattle.druid_segment_rows.specs.Texts.{texts_from, AreEnds}
use Rattle.druid_segment_rows.proofs.TextsLemmas.{pushed_ends, pushed_texts}
use Rattle.druid_segment_rows.proofs.texts.Texts.push.Goals as goal

pub invariant_of-self-2 : goal.invariant_of-self-2
invariant_of-self-2 c =
    let old = string_bytes c.self.inside.text in
    let bytes : string_bytes c.push_str.new.self ≡ old ++ c.args.text.now = search rules in
    let items : c.push_reserved.new.self.items ≡ c.self.inside.ends.items ++ c.in-Ok.end ∷ [] = search rules in
    let at : c.in-Ok.end ≡ length old + length c.args.text.now = search rules in
    let few : c.in-Ok.end < 4294967296 = search rules in (
      subst₂ (λ bs es. AreEnds bs 0 es) (sym bytes) (sym items) (pushed_ends old c.args.text.now 0 c.self.inside.ends.items c.in-Ok.end c.utf8.text at c.self.invariant.0),
      omega (arith, few, at, ap length bytes, length-append old c.args.text.now),
    )

pub returns-clause-ok : goal.returns-clause-ok
returns-clause-ok c =
    let old = string_bytes c.self.inside.text in
    let bytes : string_bytes c.push_str.new.self ≡ old ++ c.args.text.now = search rules in
    let items : c.push_reserved.new.self.items ≡ c.self.inside.ends.items ++ c.in-Ok.end ∷ [] = search rules in
    let at : c.in-Ok.end ≡ length old + length c.args.text.now = search rules in
    (λ i. texts_from (bytes i) 0 (items i)) ∙ pushed_texts old c.args.text.now 0 c.self.inside.ends.items c.in-Ok.end at c.self.invariant.0 ∙ ap (λ xs. xs ++ c.args.text.now ∷ []) c.self.view_is
