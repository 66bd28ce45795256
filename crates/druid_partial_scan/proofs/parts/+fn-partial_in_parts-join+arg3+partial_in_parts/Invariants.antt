use Rattle.druid_partial_scan.proofs.parts.+fn-partial_in_parts-join+arg3+partial_in_parts.Given as goal

abbrev pub decreases-partial_in_parts : goal.decreases-partial_in_parts
decreases-partial_in_parts g l = l.threads

abbrev pub decreases-join+arg3 : goal.decreases-join+arg3
decreases-join+arg3 g l = l.rest
