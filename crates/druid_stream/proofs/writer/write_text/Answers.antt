use Rattle.std.proofs.Common.{take, sym, ap, ◌++◌, ◌∙◌, ℕ, List}
use Rattle.std.proofs.lemmas.List.{take-append-drop}
use Rattle.druid_stream.proofs.WriteLemmas.{goes_on}
use Rattle.druid_stream.proofs.writer.write_text.Goals as goal

pub loop-rest-preserved : goal.loop-rest-preserved
loop-rest-preserved g c =
    goes_on c.args.text.now c.loop-rest.rest.now (take c.in_ok-written.written c.loop-rest.rest.now) c.split_at.result.1.now _ _ _ c.loop-rest.invariant
    (sym (take-append-drop c.in_ok-written.written c.loop-rest.rest.now) ∙ ap (λ (l : List ℕ). take c.in_ok-written.written c.loop-rest.rest.now ++ l) (sym c.split_at.ensures.back))
    c.in_ok-written.ensures.ok
