use Rattle.std.proofs.Common.{◌≡◌, ◌≤◌, ◌+◌, length, map, set, Some, sym, ap, subst, ◌∙◌, arith, List}
use Rattle.std.specs.Arc.{arc_value}
use Rattle.std.specs.List.{slice_get}
use Rattle.std.proofs.lemmas.List.{length-map}
use Rattle.std.proofs.lemmas.Result.{IfOk-weaker}
use Rattle.druid_inventory.specs.Entry.{Entry, max_nodes}
use Rattle.druid_inventory.specs.Join.{later}
use Rattle.druid_inventory.specs.Timelines.{AreTimelinesOf}
use Rattle.druid_inventory.proofs.JoinLemmas.{later_first-more, later_first-all, later_read}
use Rattle.druid_inventory.proofs.inventory.Inventory.caught_up.Goals as goal

pub loop-node-init : goal.loop-node-init
loop-node-init c =
    let long = ap (λ (es : List Entry). length es) c.in_ok-entries.ensures.entries in
    let same = length-map c.in_ok-entries.entries.items arc_value in
    let kept = c.in_ok-entries.entries.ok in
    record {
      entries = c.in_ok-entries.ensures.entries;
      few = c.in_ok-entries.ensures.few;
      long = kept.0 ∙ sym same ∙ long;
      over = subst (λ (es : List Entry). AreTimelinesOf es c.in_ok-timelines.timelines) (sym c.in_ok-entries.ensures.entries) c.in_ok-timelines.ensures;
    }

pub loop-node-preserved : goal.loop-node-preserved
loop-node-preserved c =
    let a = c.args.self.now in
    let b = map arc_value c.args.others.now in
    let n = c.loop-node.node in
    let made = c.in_ok-catch_up.ensures.entries in
    let other : slice_get b n ≡ Some (arc_value c.index-others-node.result) =
    later_read arc_value c.args.others.now n c.index-others-node.result c.loop-node-test.true c.index-others-node.is in
    record {
      entries = later_first-more n (n + 1) a b (map arc_value c.catch_up.new.entries.items) made.0 (arc_value c.index-others-node.result)
          (omega arith) (ap (λ (es : List Entry). slice_get es n) (sym c.loop-node.invariant.entries) ∙ made.1) other
          (made.2 ∙ ap (λ (es : List Entry). set es n (later made.0 (arc_value c.index-others-node.result))) c.loop-node.invariant.entries);
      few = subst (λ m. m ≤ max_nodes) (sym c.in_ok-catch_up.ensures.long) c.loop-node.invariant.few;
      long = c.in_ok-catch_up.ensures.long ∙ c.loop-node.invariant.long;
      over = c.in_ok-catch_up.ensures.over;
    }

pub returns : goal.returns
returns c =
    let wide = length-map c.args.others.now arc_value in
    let all = later_first-all c.loop-node.node c.args.self.now (map arc_value c.args.others.now) (omega arith) (omega arith) in
    IfOk-weaker c.changed.result _ _ (λ inventory e. e ∙ c.loop-node.invariant.entries ∙ all) c.changed.ensures
