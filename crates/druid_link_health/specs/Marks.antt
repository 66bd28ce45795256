-- What is remembered of the exchanges with a node.
use Rattle.std.specs.Prelude.{ℕ, ◌+◌, ◌*◌, ◌-◌, ◌==◌, Bool, true, false, ◌||◌, ◌&&◌, max, min, nat_le, if◌then◌else◌, Result, Ok, Err}
use Rattle.druid_http_message.specs.declared.fault.WireFault.{WireFault}
use Rattle.druid_http_message.specs.declared.fault.WireFault.TheVariants.{Cut, Read, Write, BadHead, HeadTooLong, NoLength, BodyTooLong, Connect, Memory}
use Rattle.druid_link_health.specs.declared.standing.Asker.{Asker}
use Rattle.druid_link_health.specs.declared.standing.Asker.TheVariants.{Query, Syncer}
use Rattle.druid_link_health.specs.declared.standing.Standing.{Standing}
use Rattle.druid_link_health.specs.declared.standing.Standing.TheVariants.{Well, Ailing, Due}
use Rattle.druid_link_health.specs.Limits.{last_milli}

-- whether a query's exchange failed, and whether a syncer's did, since the last that clears it; whether a query tries the node; and
-- when the last failure was, or the last try began, in milliseconds
pub record Mark : Type 0 where
  pub by_query : Bool
  pub by_syncer : Bool
  pub tried : Bool
  pub at : ℕ

-- nothing failed
abbrev pub well : Mark
well = record { by_query = false; by_syncer = false; tried = false; at = 0 }

abbrev pub ails : Mark → Bool
ails m = m.by_query || m.by_syncer

-- the time as a mark keeps it
abbrev pub capped : ℕ → ℕ
capped now = min now last_milli

-- ---- after an exchange

-- the node ails, for whom it failed
abbrev pub after_failure : Asker → ℕ → Mark → Mark
after_failure Query now m = record { by_query = true; by_syncer = m.by_syncer; tried = false; at = max m.at (capped now) }
after_failure Syncer now m = record { by_query = m.by_query; by_syncer = true; tried = false; at = max m.at (capped now) }

-- a query that succeeds clears all, and a syncer what syncers noted
abbrev pub after_success : Asker → Mark → Mark
after_success Query m = well
after_success Syncer m = if m.by_query then record { by_query = true; by_syncer = false; tried = m.tried; at = m.at } else well

-- a fault of the device is the node's failure; out of memory is the broker's own and says nothing; with any other there were bytes
abbrev pub after_fault : Asker → WireFault → ℕ → Mark → Mark
after_fault asker Cut now m = after_success asker m
after_fault asker Read now m = after_failure asker now m
after_fault asker Write now m = after_failure asker now m
after_fault asker BadHead now m = after_success asker m
after_fault asker HeadTooLong now m = after_success asker m
after_fault asker NoLength now m = after_success asker m
after_fault asker BodyTooLong now m = after_success asker m
after_fault asker Connect now m = after_failure asker now m
after_fault asker Memory now m = m

abbrev pub after : {A : Type 0} → Asker → Result A WireFault → ℕ → Mark → Mark
after asker (Ok bytes) now m = after_success asker m
after asker (Err fault) now m = after_fault asker fault now m

-- a query's own deadline cut the exchange short: that says nothing of the node, but a query that was to try it did
abbrev pub after_cut : Mark → Mark
after_cut m = record m { tried = false }

-- ---- before a query

-- an ailing node is due once the pause is over since its last failure, or its last try
abbrev pub standing : ℕ → ℕ → Mark → Standing
standing pause now m = if ails m then (if nat_le pause (now - m.at) then Due else Ailing) else Well

-- a query tries the node
abbrev pub after_try : ℕ → Mark → Mark
after_try now m = record m { tried = true; at = capped now }

-- whether the query whose try began then tries the node still
abbrev pub is_tried_since : ℕ → Mark → Bool
is_tried_since began m = m.tried && m.at == capped began

-- no query tried it after all: it is due as before
abbrev pub untried : Mark → Mark
untried m = record m { tried = false; at = 0 }

-- ---- as a word

abbrev pub digit : Bool → ℕ
digit true = 1
digit false = 0

-- the time, and three digits of two
abbrev pub word_of : Mark → ℕ
word_of m = m.at * 8 + digit m.by_query * 4 + digit m.by_syncer * 2 + digit m.tried
