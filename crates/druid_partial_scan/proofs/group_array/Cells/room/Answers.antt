use Rattle.std.proofs.Common.{◌∙◌, length, ap, sym}
use Rattle.druid_partial_scan.specs.Cells.{Cells}
use Rattle.druid_partial_scan.proofs.FlatLemmas.{groups_long}
use Rattle.druid_partial_scan.proofs.group_array.Cells.room.Goals as goal

pub returns : goal.returns
returns g c =
    c.len.ensures ∙ c.self.inside.kept.ok.0 ∙ sym (groups_long c.self.inside.width c.self.inside.kept.items c.self.inside.numbers.items)
    ∙ ap (λ (v : Cells g.row.K.Denot). length v.groups) c.self.view_is
