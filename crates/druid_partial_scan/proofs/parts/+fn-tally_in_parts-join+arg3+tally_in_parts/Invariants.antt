use Rattle.druid_partial_scan.proofs.parts.+fn-tally_in_parts-join+arg3+tally_in_parts.Given as goal

abbrev pub decreases-tally_in_parts : goal.decreases-tally_in_parts
decreases-tally_in_parts g l = l.threads

abbrev pub decreases-join+arg3 : goal.decreases-join+arg3
decreases-join+arg3 g l = l.rest
