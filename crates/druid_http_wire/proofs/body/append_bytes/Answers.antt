use Rattle.std.proofs.Common.{[], take, sym, subst, ◌∙◌, arith, append-nil, length-take-le}
use Rattle.std.proofs.lemmas.Bool.{not-false, eqb-true}
use Rattle.std.specs.Io.BufRead.{FillKeeps}
use Rattle.std.proofs.KnownBytes.{Consumes-nil, Consumes-kept}
use Rattle.std.proofs.BufReadLemmas.{Consumes_shown}
use Rattle.druid_stream.proofs.PartLemmas.{shown_end}
use Rattle.druid_http_wire.proofs.body.append_bytes.Goals as goal

pub returns-then-is_interrupted-clause-more : goal.returns-then-is_interrupted-clause-more
returns-then-is_interrupted-clause-more g c =
    record {
      front = [];
      grown = sym (append-nil c.args.body.now.items);
      short = omega arith;
      taken = Consumes-kept _ _ _ [] (Consumes-nil _) c.fill_buf.follows.holds-at-none.0;
      ended = λ e. absurd cc;
    }

pub returns-clause-more : goal.returns-clause-more
returns-clause-more g c =
    let rested = c.fill_buf.follows.lender-at-none in
    let filled = subst (FillKeeps _ (g.R.Read.remaining rested) (g.R.BufRead.consumable_len rested)) c.in-Ok.is c.fill_buf.follows.holds-at-none in
    let moved = Consumes_shown _ _ _ _ c.in-Ok.available.now c.min-taken.result (omega (arith, c.min-taken.ensures)) c.in-Ok.ensures.front c.in-Ok.ensures.end filled.0 filled.1 c.consume.ensures.bytes in
    record {
      front = take c.min-taken.result c.in-Ok.available.now;
      grown = c.in_ok-extend_from_slice.ensures.items;
      short = omega (arith, c.min-taken.ensures, length-take-le c.min-taken.result c.in-Ok.available.now (omega (arith, c.min-taken.ensures)));
      taken = moved.0;
      ended = λ e. shown_end _ c.in-Ok.available.now c.in-Ok.ensures.end (eqb-true _ _ (sym c.is_empty-more.ensures ∙ not-false _ e));
    }
