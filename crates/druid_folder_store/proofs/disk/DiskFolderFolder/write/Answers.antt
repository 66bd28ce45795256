use Rattle.std.proofs.Common.{length}
use Rattle.druid_folder.proofs.Files.{torn_same}
use Rattle.druid_folder_store.specs.Disk.{calls_made}
use Rattle.druid_folder_store.proofs.disk.DiskFolderFolder.write.Goals as goal

pub returns-then-not-is_file_name-clause-failed : goal.returns-then-not-is_file_name-clause-failed
returns-then-not-is_file_name-clause-failed g c honest = torn_same (g.D.Device.content (length (calls_made c.args.self.now))) c.args.name.now

pub returns-then-not-is_file_name-clause-stop : goal.returns-then-not-is_file_name-clause-stop
returns-then-not-is_file_name-clause-stop g c honest files now = (files, now, torn_same files c.args.name.now)
