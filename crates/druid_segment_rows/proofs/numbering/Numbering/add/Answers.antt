use Rattle.std.proofs.Common.{◌≡◌, ◌∙◌, suc, ◌∷◌, ◌++◌, [], Some, length, string_bytes, ap, sym, rules}
use Rattle.std.proofs.lemmas.List.{map_push, length-map}
use Rattle.druid_segment_rows.specs.Columns.{value_at}
use Rattle.druid_segment_rows.specs.Numbering.{Entry, texts_in}
use Rattle.druid_segment_rows.proofs.NumberingLemmas.{last_number}
use Rattle.druid_segment_rows.proofs.numbering.Numbering.add.Goals as goal

pub returns-clause-number : goal.returns-clause-number
returns-clause-number c =
    let es = c.self.inside.entries.items in
    let e : Entry = (c.in_ok-text.text, c.in-Ok.number) in
    let f = λ (e : Entry). string_bytes e.0 in
    let texts : texts_in c.push.new.self.items ≡ texts_in es ++ f e ∷ [] = ap texts_in (search rules) ∙ map_push f es e in
    let number : c.in-Ok.number ≡ suc (length (texts_in es)) = search rules ∙ ap suc (sym (length-map es f)) in
    ap (λ ts. value_at ts c.in-Ok.number) texts ∙ ap (value_at (texts_in es ++ f e ∷ [])) number ∙ last_number (texts_in es) (f e) ∙ ap Some c.in_ok-text.ensures.ok
