use Rattle.std.proofs.Common.{◌≡◌, false, string_bytes, ◌∙◌, ap, sym, arith}
use Rattle.std.specs.Str.{bytes_eq}
use Rattle.druid_segment_rows.proofs.FilterLemmas.{value_later}
use Rattle.druid_segment_rows.proofs.filter.value_of.Goals as goal

pub loop-place-preserved : goal.loop-place-preserved
loop-place-preserved c =
    let other : bytes_eq (string_bytes c.index-names-place.result) c.args.name.now ≡ false =
    ap (λ l. bytes_eq l c.args.name.now) (sym c.as_str.ensures.value) ∙ sym c.eq.ensures ∙ c.if-eq.false in
    value_later c.args.names.now c.args.values.now c.args.name.now c.loop-place.place c.index-names-place.result (omega arith) c.index-names-place.is other
    ∙ c.loop-place.invariant
