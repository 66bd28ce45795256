use Rattle.druid_folder_store.proofs.Order.{valid_names}
use Rattle.druid_folder_store.proofs.disk.files_in.Goals as goal

pub returns-clause-file_names : goal.returns-clause-file_names
returns-clause-file_names g c = valid_names _ _ c.put_in_order.ensures.same c.loop-entry.invariant
