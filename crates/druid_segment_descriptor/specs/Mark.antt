-- How far a node's history has been followed.
use Rattle.std.specs.Prelude.{◌<◌, ◌^◌, ℕ, Bool, ◌==◌, ◌&&◌}
use Rattle.std.specs.declared.cmp.Ordering.{Ordering}
use Rattle.std.specs.Ordering.{nat_cmp, ordering_then}

-- a number of changes of one incarnation of a node; (0, 0) is never synced
pub record Point : Type 0 where
  pub incarnation : ℕ
  pub count : ℕ

-- both numbers of a mark fit 64 bits
pub record IsWord (m : Point) : Type 0 where
  pub incarnation : m.incarnation < 2 ^ 64
  pub count : m.count < 2 ^ 64

abbrev pub never : Point
never = record { incarnation = 0; count = 0 }

-- the test of equal marks
abbrev pub same_mark : Point → Point → Bool
same_mark a b = a.incarnation == b.incarnation && a.count == b.count

-- by incarnation, and then by count
abbrev pub mark_cmp : Point → Point → Ordering
mark_cmp a b = ordering_then (nat_cmp a.incarnation b.incarnation) (nat_cmp a.count b.count)
