use Rattle.std.proofs.Common.{◌≡◌, ◌<◌, ◌^◌, ◌∙◌, length, ap, sym, string_bytes, arith, rules}
use Rattle.druid_segment_rows.proofs.TextsLemmas.{length_texts}
use Rattle.druid_segment_rows.proofs.texts.Texts.len.Goals as goal

pub returns-clause-value : goal.returns-clause-value
returns-clause-value c =
    let len : c.len.result ≡ length c.self.inside.ends.items = search rules in
    len ∙ sym (length_texts (string_bytes c.self.inside.text) 0 c.self.inside.ends.items) ∙ ap length c.self.view_is

pub returns-clause-fits : goal.returns-clause-fits
returns-clause-fits c =
    let len : c.len.result ≡ length c.self.inside.ends.items = search rules in
    let room : c.len.result < 2 ^ 63 = search rules in
    omega (arith, room, len, length_texts (string_bytes c.self.inside.text) 0 c.self.inside.ends.items, ap length c.self.view_is)
