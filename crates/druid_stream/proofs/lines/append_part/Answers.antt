use Rattle.std.proofs.Common.{◌≢◌, [], take, length, sym, subst, arith, ◌+◌, append-nil, length-take-le}
use Rattle.std.proofs.lemmas.List.Elements.{All-nil}
use Rattle.std.specs.Io.KnownBytes.{Consumes}
use Rattle.std.specs.Io.BufRead.{FillKeeps, DropsConsumable}
use Rattle.std.proofs.KnownBytes.{Consumes-nil, Consumes-kept}
use Rattle.std.proofs.BufReadLemmas.{Consumes_shown}
use Rattle.druid_stream.specs.Parts.{feed_of}
use Rattle.druid_stream.proofs.PartLemmas.{shown_end}
use Rattle.druid_stream.proofs.lines.append_part.Goals as goal

pub returns-then-is_interrupted-clause-part : goal.returns-then-is_interrupted-clause-part
returns-then-is_interrupted-clause-part g c =
    record {
      front = [];
      grown = sym (append-nil c.args.line.now.items);
      plain = All-nil (λ b. b ≢ 10);
      short = omega arith;
      taken = Consumes-kept _ _ _ [] (Consumes-nil _) c.fill_buf.follows.holds-at-none.0;
      ended = λ e. absurd cc;
    }

pub returns-clause-part : goal.returns-clause-part
returns-clause-part g c =
    let rested = c.fill_buf.follows.lender-at-none in
    let filled = subst (FillKeeps _ (g.R.Read.remaining rested) (g.R.BufRead.consumable_len rested)) c.in-Ok.is c.fill_buf.follows.holds-at-none in
    let found = c.scan-end.ensures in
    let moved = Consumes_shown _ _ _ _ c.in-Ok.available.now (c.scan-end.result.0 + length (feed_of c.scan-end.result.1)) found.bound c.in-Ok.ensures.front c.in-Ok.ensures.end filled.0 filled.1 (subst (DropsConsumable (g.R.Read.remaining rested) (g.R.Read.remaining c.consume.new.self) (g.R.BufRead.consumable_len rested)) (omega (arith, c.feed_len.ensures)) c.consume.ensures.bytes) in
    record {
      front = take c.scan-end.result.0 c.in-Ok.available.now;
      grown = c.in_ok-extend_from_slice.ensures.items;
      plain = found.plain;
      short = omega (arith, found.short, found.bound, length-take-le c.scan-end.result.0 c.in-Ok.available.now (omega (arith, found.bound)));
      taken = subst (Consumes _ _) found.taken moved.0;
      ended = λ e. shown_end _ c.in-Ok.available.now c.in-Ok.ensures.end (found.ended e);
    }
