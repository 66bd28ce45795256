use Rattle.std.proofs.Common.{◌∙◌, length, sym, arith}
use Rattle.druid_partial_scan.proofs.RunLemmas.{run_same}
use Rattle.druid_partial_scan.proofs.scan.Scan.run_end.Goals as goal

pub returns-clause-same : goal.returns-clause-same
returns-clause-same c = λ row low high.
    let scan = c.args.self.now in
    let first = c.loop-step.invariant.after in
    let after = c.last_of.ensures.after in
    run_same scan c.bucket-bucket.result c.args.from c.last_of.result (length scan.segment.rows) c.requires.rise (omega (arith, first, after)) c.last_of.ensures.there (omega arith)
    (sym c.bucket-bucket.ensures) c.last_of.ensures.last row low high ∙ c.bucket-bucket.ensures
