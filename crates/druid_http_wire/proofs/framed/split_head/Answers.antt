use Rattle.std.proofs.Common.{◌∷◌, refl, sym, append-nil, ◌∙◌, arith}
use Rattle.std.proofs.lemmas.Bool.{false≢true}
use Rattle.druid_http_wire.proofs.SplitLemmas.{begins, text_line, blank_line, head_ends, head_is_long}
use Rattle.druid_http_wire.proofs.framed.split_head.Goals as goal

pub loop-line-init : goal.loop-line-init
loop-line-init c = begins c.args.bytes.now

pub returns-then-bytes-beyond-gt-MAX_HEAD-clause-err : goal.returns-then-bytes-beyond-gt-MAX_HEAD-clause-err
returns-then-bytes-beyond-gt-MAX_HEAD-clause-err c =
    head_is_long _ _ _ c.in-Some.line.now (10 ∷ c.in-Some.beyond.now) c.loop-line.invariant c.in-Some.ensures.some.0 c.in-Some.ensures.some.1 (omega arith) (omega arith)

pub loop-line-preserved-then-not-is_blank : goal.loop-line-preserved-then-not-is_blank
loop-line-preserved-then-not-is_blank c =
    text_line _ _ _ c.in-Some.line.now _ c.loop-line.invariant c.in-Some.ensures.some.0 c.in-Some.ensures.some.1 (λ blank. false≢true (sym c.if-not-is_blank.true ∙ c.is_blank.ensures.1 blank))

pub returns-then-rest-text-clause-ok : goal.returns-then-rest-text-clause-ok
returns-then-rest-text-clause-ok c =
    rw c.split_at.ensures.front
    (head_ends _ _ _ c.in-Some.line.now _ _ c.loop-line.invariant (omega arith) (c.is_blank.ensures.0 c.if-not-is_blank.false) c.in-Some.ensures.some.1 refl (omega arith))

pub loop-line-preserved : goal.loop-line-preserved
loop-line-preserved c =
    blank_line _ _ _ c.in-Some.line.now _ c.loop-line.invariant c.in-Some.ensures.some.1 (c.is_blank.ensures.0 c.if-not-is_blank.false) (omega arith)

pub returns-clause-err : goal.returns-clause-err
returns-clause-err c =
    head_is_long _ _ _ _ _ c.loop-line.invariant c.in_default.ensures.none (sym (append-nil c.loop-line.rest.now)) (omega arith) (omega arith)
