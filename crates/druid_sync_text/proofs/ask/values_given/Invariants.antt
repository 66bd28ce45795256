use Rattle.std.proofs.Common.{◌≡◌, ◌++◌, ℕ, List}
use Rattle.form_urlencoded.specs.Parse.{raw_pairs_left}
use Rattle.druid_sync_text.specs.Asks.{values_at, values_of}
use Rattle.druid_sync_text.specs.Given.{IsGiven}
use Rattle.druid_sync_text.proofs.ask.values_given.Given as goal

abbrev pub invariant-loop-key : goal.invariant-loop-key
invariant-loop-key l =
    (done : List (List ℕ)) × IsGiven l.given done × (done ++ values_at l.name (raw_pairs_left l.key-iterator) ≡ values_of l.name l.query)
