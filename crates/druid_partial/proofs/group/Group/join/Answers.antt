use Rattle.std.proofs.Common.{arith}
use Rattle.druid_partial.specs.Groups.{AreWords}
use Rattle.druid_partial.proofs.JoinLemmas.{joined_words, written_words}
use Rattle.druid_partial.proofs.group.Group.join.Goals as goal

pub invariant_of-self : goal.invariant_of-self
invariant_of-self c =
    let mine : AreWords c.deref_mut.result.now = rw c.deref_mut.ensures.value c.self.invariant in
    let theirs : AreWords c.deref.result.now = rw c.deref.ensures.value c.other.invariant in
    written_words _ c.join_numbers.new.mine c.self.inside.numbers.items (let a = c.join_numbers.auto.mine in let b = c.deref_mut.ensures in omega arith)
    (rw c.join_numbers.ensures (joined_words c.args.kinds.now c.deref_mut.result.now c.deref.result.now mine theirs))
