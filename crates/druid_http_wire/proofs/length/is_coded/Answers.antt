use Rattle.druid_http_wire.proofs.LengthLemmas.{coded_here, uncoded}
use Rattle.std.proofs.Common.{sym, ◌∙◌}
use Rattle.httparse.specs.Spans.{header_bytes}
use Rattle.druid_http_wire.proofs.length.is_coded.Goals as goal

pub returns-then-is_named : goal.returns-then-is_named
returns-then-is_named c = sym (coded_here (header_bytes c.args.head.now) c.args.fields.now c.loop-field.field-index _ c.loop-field-test.true (sym c.is_named.ensures ∙ c.if-is_named.true))

pub loop-field-preserved : goal.loop-field-preserved
loop-field-preserved c = uncoded (header_bytes c.args.head.now) c.args.fields.now c.loop-field.field-index _ c.loop-field-test.true c.loop-field.invariant (sym c.is_named.ensures ∙ c.if-is_named.false)
