-- Lists of entries after pointers.
use Rattle.std.proofs.Common.{◌≡◌, List, set, Result, Ok, Err, subst}
use Rattle.std.specs.Result.{IfOk, MatchResult, OnErr}
use Rattle.std.proofs.lemmas.List.Sorted.{Contains-permutation, IsPermutation-sym}
use Rattle.druid_segment_descriptor.specs.Described.{Described}
use Rattle.druid_segment_descriptor.specs.Mark.{Point}
use Rattle.druid_segment_descriptor.specs.Reply.{AreSorted}
use Rattle.druid_segment_descriptor.specs.ReplyBody.{IsSnapshotOf}
use Rattle.druid_segment_descriptor.specs.declared.reply.Body.{Body}
use Rattle.druid_segment_descriptor.specs.declared.reply.Body.TheVariants.{Delta, Snapshot, Page, Reset}
use Rattle.druid_segment_descriptor.proofs.ReplayLemmas.{sorted-one_list}

-- what is reported of a value, without what is reported of an error
pub ok_case : {T E : Type 0} (r : Result T E) (P : T → Type 0) (Q : E → Type 0) → MatchResult r P Q → IfOk r P
ok_case (Ok x) P Q h = h
ok_case (Err e) P Q h = tt

-- a snapshot of a set in order has it as it is
pub snapshot_is : (at : Point) (set : List Described) (reply : Body) → AreSorted set → IsSnapshotOf at set reply → reply ≡ Snapshot at set
snapshot_is at set (Delta from to changes) h k = absurd k
snapshot_is at set (Snapshot mark segments) h k =
    let same : segments ≡ set = sorted-one_list segments set k.2.sorted h
    (λ x. (Contains-permutation segments set x (IsPermutation-sym set segments k.1), Contains-permutation set segments x k.1)) in
    (λ i. Snapshot (k.0 i) (same i))
snapshot_is at set (Page mark page of segments) h k = absurd k
snapshot_is at set (Reset cause mark) h k = absurd k

-- what is reported of an error, where there is one
pub err_case : {T E X : Type 0} (r : Result T E) (e : E) → r ≡ Err e → OnErr r X → X
err_case {X = X} r e is h = subst (λ (s : _). OnErr s X) is h
