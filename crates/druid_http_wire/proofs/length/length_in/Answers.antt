use Rattle.druid_http_wire.proofs.LengthLemmas.{length_passed, length_here, length_again}
use Rattle.std.proofs.Common.{sym, ap, ◌∙◌}
use Rattle.httparse.specs.Spans.{header_bytes}
use Rattle.druid_http_wire.specs.Heads.{length_value}
use Rattle.druid_http_wire.proofs.length.length_in.Goals.{then-is_named+in-Unsaid, else-is_named}
use Rattle.druid_http_wire.proofs.length.length_in.Goals as goal

pub returns-in_default : goal.returns-in_default
returns-in_default c = sym (length_again (header_bytes c.args.head.now) c.args.fields.now c.loop-field.field-index _ c.loop-field-test.true (sym c.is_named.ensures ∙ c.if-is_named.true) (λ e. c.in_default.not-Unsaid (c.loop-field.invariant ∙ e)))

pub loop-field-preserved : goal.loop-field-preserved
loop-field-preserved c =
    elim c.if-is_named.branch [
      | then-is_named+in-Unsaid w ↦ w.length-is ∙ w.length_value-length.ensures ∙ ap length_value w.of.ensures ∙ sym (length_here (header_bytes c.args.head.now) c.args.fields.now c.loop-field.field-index _ c.loop-field-test.true (sym c.is_named.ensures ∙ w.if-is_named.true) (sym c.loop-field.invariant ∙ w.in-Unsaid.is))
      | else-is_named w ↦ w.length-is ∙ c.loop-field.invariant ∙ sym (length_passed (header_bytes c.args.head.now) c.args.fields.now c.loop-field.field-index _ c.loop-field-test.true (sym c.is_named.ensures ∙ w.if-is_named.false))
    ]
