use Rattle.std.proofs.Common.{sym}
use Rattle.druid_serve_node.proofs.KnownLemmas.{searchable, is_found, is_absent}
use Rattle.druid_serve_node.proofs.known_files.has_name.Goals as goal

pub returns-in-Ok : goal.returns-in-Ok
returns-in-Ok c = sym (is_found c.args.names.now c.args.name.now c.in-Ok.field-0 c.in-Ok.ensures.bound (c.in-Ok.ensures.ok c.args.name.now))

pub returns-in-Err : goal.returns-in-Err
returns-in-Err c =
    sym (is_absent c.args.names.now c.args.name.now c.in-Err.field-0 (c.in-Err.ensures.position (searchable c.args.names.now c.args.name.now c.requires)))
