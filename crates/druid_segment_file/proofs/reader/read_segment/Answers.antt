use Rattle.std.proofs.Common.{List, ℕ, sym, subst}
use Rattle.druid_segment_file.proofs.FrontLemmas.{gives_no_write}
use Rattle.druid_segment_file.proofs.SegmentLemmas.{IsFront, known_found, known_only, known_columns, known_exact}
use Rattle.druid_segment_file.proofs.reader.read_segment.Goals as goal

pub returns-clause-found : goal.returns-clause-found
returns-clause-found g c =
    let is : IsFront c.deref.result.now (g.R.Read.remaining c.args.reader.now) = subst (λ (front : List ℕ). IsFront front (g.R.Read.remaining c.args.reader.now)) (sym c.deref.ensures.value) c.in_ok-bytes.ensures.front in
    known_found (g.R.Read.remaining c.args.reader.now) c.deref.result.now c.segment_of.result c.segment_of.ensures.found c.segment_of.ensures.exact is

pub returns-clause-only : goal.returns-clause-only
returns-clause-only g c =
    let is : IsFront c.deref.result.now (g.R.Read.remaining c.args.reader.now) = subst (λ (front : List ℕ). IsFront front (g.R.Read.remaining c.args.reader.now)) (sym c.deref.ensures.value) c.in_ok-bytes.ensures.front in
    known_only (g.R.Read.remaining c.args.reader.now) c.deref.result.now c.segment_of.result is c.segment_of.ensures.exact

pub returns-clause-columns : goal.returns-clause-columns
returns-clause-columns g c =
    let is : IsFront c.deref.result.now (g.R.Read.remaining c.args.reader.now) = subst (λ (front : List ℕ). IsFront front (g.R.Read.remaining c.args.reader.now)) (sym c.deref.ensures.value) c.in_ok-bytes.ensures.front in
    known_columns (g.R.Read.remaining c.args.reader.now) c.deref.result.now c.segment_of.result is c.segment_of.ensures.exact

pub returns-clause-exact : goal.returns-clause-exact
returns-clause-exact g c =
    let is : IsFront c.deref.result.now (g.R.Read.remaining c.args.reader.now) = subst (λ (front : List ℕ). IsFront front (g.R.Read.remaining c.args.reader.now)) (sym c.deref.ensures.value) c.in_ok-bytes.ensures.front in
    known_exact (g.R.Read.remaining c.args.reader.now) c.deref.result.now c.segment_of.result is c.segment_of.ensures.exact

pub returns-clause-no_write : goal.returns-clause-no_write
returns-clause-no_write g c = gives_no_write c.deref.result.now c.segment_of.result c.segment_of.ensures.exact
