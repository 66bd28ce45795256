-- What a stop leaves while one call of a folder follows another.
use Rattle.std.proofs.Common.{inl, inr, ⊎_elim, ℕ, arith}
use Rattle.druid_folder.specs.Folder.{Content, Elapses, LeavesOnly}

module _ {F : Type 0} (moment : F → ℕ) (left_since : F → ℕ → Content → Type 0) (may_leave : F → Content → Type 0) where
  -- one call
  pub leaves_one : (P : Content → Type 0) (old new : F) → ((c : Content) → left_since old (moment old) c → may_leave old c)
      → Elapses (moment old) (moment new) (left_since old) (left_since new) (may_leave new)
      → ((c : Content) → may_leave old c → P c) → ((c : Content) → may_leave new c → P c) → LeavesOnly moment left_since old new P
  leaves_one P old new alone time before now = record {
    later = time.later;
    each = λ c left. ⊎_elim (λ was. before c (alone c was)) (now c) (time.nothing_else (moment old) c (omega arith) left);
    before = λ t c le left. ⊎_elim (λ was. inl was) (λ here. inr (now c here)) (time.nothing_else t c le left);
  }

  -- one run of calls after another
  pub leaves_both : (P Q R : Content → Type 0) (old mid new : F) → LeavesOnly moment left_since old mid P → LeavesOnly moment left_since mid new Q
      → ((c : Content) → P c → R c) → ((c : Content) → Q c → R c) → LeavesOnly moment left_since old new R
  leaves_both P Q R old mid new first second from_first from_second = record {
    later = omega (arith, first.later, second.later);
    each = λ c left. ⊎_elim (λ was. from_first c (first.each c was)) (from_second c) (second.before (moment old) c first.later left);
    before = λ t c le left. ⊎_elim
        (λ was. ⊎_elim (λ old. inl old) (λ p. inr (from_first c p)) (first.before t c le was))
        (λ q. inr (from_second c q))
        (second.before t c (omega (arith, le, first.later)) left);
  }

  -- a call, and a sync after it
  pub leaves_synced : (P : Content → Type 0) (old mid new : F) → ((c : Content) → left_since old (moment old) c → may_leave old c) → ((c : Content) → left_since mid (moment mid) c → may_leave mid c)
      → Elapses (moment old) (moment mid) (left_since old) (left_since mid) (may_leave mid) → Elapses (moment mid) (moment new) (left_since mid) (left_since new) (may_leave new)
      → ((c : Content) → may_leave old c → P c) → ((c : Content) → may_leave mid c → P c) → ((c : Content) → may_leave new c → may_leave mid c) → LeavesOnly moment left_since old new P
  leaves_synced P old mid new alone_old alone_mid time synced before now kept = leaves_both P P P old mid new
      (leaves_one P old mid alone_old time before now) (leaves_one P mid new alone_mid synced now (λ c left. now c (kept c left))) (λ c p. p) (λ c p. p)
