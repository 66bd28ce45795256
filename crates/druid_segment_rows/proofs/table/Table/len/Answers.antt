use Rattle.std.proofs.Common.{◌≡◌, ◌∙◌, length, sym, rules}
use Rattle.druid_segment_rows.proofs.TableLemmas.{length_of_table}
use Rattle.druid_segment_rows.proofs.table.Table.len.Goals as goal

pub returns : goal.returns
returns c =
    let a = c.self.inside in
    let len : c.len.result ≡ length a.times.items = search rules in
    len ∙ sym (length_of_table a.times.items a.dimensions.items a.metrics.items c.args.self.now c.self.view_is)
