use Rattle.druid_folder_store.proofs.Calls.{torn_unchanged, torn_left}
use Rattle.druid_folder_store.proofs.memory.MemoryFolderFolder.write.Goals as goal

pub returns-then-burns-clause-failed : goal.returns-then-burns-clause-failed
returns-then-burns-clause-failed c honest = torn_unchanged c.args.name.now c.args.self.now.files.calls.items c.fail.new.self.calls.items c.fail.ensures.calls

pub returns-then-burns-clause-stop : goal.returns-then-burns-clause-stop
returns-then-burns-clause-stop c honest = torn_left c.args.name.now c.args.self.now.files.calls.items c.fail.new.self.calls.items c.fail.ensures.calls
