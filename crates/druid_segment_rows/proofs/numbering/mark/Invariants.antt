use Rattle.std.proofs.Common.{◌≡◌, ◌↔◌, ℕ, suc, ◌<◌, length, take, get_or, Contains}
use Rattle.druid_segment_rows.proofs.numbering.mark.Given as goal

abbrev pub invariant-loop-code : goal.invariant-loop-code
invariant-loop-code l = record {
  len : length l.ranks ≡ length l.initial.ranks;
  marks : (number : ℕ) → number < length l.ranks → 0 < get_or l.ranks number 0 ↔ Contains (take l.code-index l.codes) (suc number);
}
