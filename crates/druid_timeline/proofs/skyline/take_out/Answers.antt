use Rattle.std.proofs.Common.{◌≡◌, ◌<◌, ◌≤◌, ◌++◌, ℕ, length, take, drop, sym, ap, ◌∙◌, arith, rules}
use Rattle.std.proofs.lemmas.List.{take-append-drop}
use Rattle.druid_timeline.proofs.SkylineLemmas.{length-taken_out, one_out}
use Rattle.druid_timeline.proofs.skyline.take_out.Goals as goal

pub loop-end-init : goal.loop-end-init
loop-end-init c = record {
  low = c.requires.0;
  high = omega arith;
  items = sym (take-append-drop c.args.to c.args.sky.now.items);
}

pub remove-requires : goal.remove-requires
remove-requires c =
    let low = c.loop-end.invariant.low in
    let high = c.loop-end.invariant.high in
    let l = ap length c.loop-end.invariant.items ∙ length-taken_out c.args.sky.now.items c.loop-end.end c.args.to high c.requires.1 in
    let more : c.args.from < c.loop-end.end = search rules in
    omega (arith, l, high, more, c.requires.1)

pub loop-end-preserved : goal.loop-end-preserved
loop-end-preserved c =
    let low = c.loop-end.invariant.low in
    let high = c.loop-end.invariant.high in
    let more : c.args.from < c.loop-end.end = search rules in
    record {
      low = omega (arith, more);
      high = omega (arith, high);
      items = one_out c.args.sky.now.items c.loop-end.sky.items c.remove.new.self.items c.loop-end.end c.args.to (omega (arith, more)) high c.requires.1 c.loop-end.invariant.items c.remove.ensures.items;
    }

pub returns : goal.returns
returns c =
    let low = c.loop-end.invariant.low in
    let done : c.loop-end.end ≤ c.args.from = search rules in
    let e : c.loop-end.end ≡ c.args.from = omega (arith, low, done) in
    c.loop-end.invariant.items ∙ ap (λ (n : ℕ). take n c.args.sky.now.items ++ drop c.args.to c.args.sky.now.items) e
