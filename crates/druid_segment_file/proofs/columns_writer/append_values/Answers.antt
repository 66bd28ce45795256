use Rattle.std.proofs.Common.{◌≤◌, length, [], sym, subst, arith}
use Rattle.druid_segment_rows.specs.Rows.{max_value}
use Rattle.druid_segment_file.proofs.columns_writer.append_values.Goals as goal

pub append_value-requires : goal.append_value-requires
append_value-requires c =
    subst (λ text. length text ≤ max_value) (sym c.get.ensures) (c.requires c.loop-place.place [] (omega (arith, c.loop-place-test.true, c.len-place-end.ensures.value)))
