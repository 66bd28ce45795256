use Rattle.std.specs.Prelude.{[]}
use Rattle.druid_folder_store.specs.Model.{has_after, LeavesAfter, first_calls}
use Rattle.druid_device_tests.specs.TwoFolders.{keeping}
use Rattle.druid_device_tests.proofs.two_folders.two_devices.Given as goal

-- each folder is on a device that does as it is called
abbrev pub ghosts-kept_apart-D-Device : goal.ghosts-kept_apart-D-Device
ghosts-kept_apart-D-Device g a = record {
  content = λ n. has_after (first_calls n (keeping a.bytes.now []));
  left = λ n. LeavesAfter (first_calls n (keeping a.bytes.now []));
  during = λ n. LeavesAfter (first_calls n (keeping a.bytes.now []));
}

abbrev pub ghosts-kept_apart-E-Device : goal.ghosts-kept_apart-E-Device
ghosts-kept_apart-E-Device g a = record {
  content = λ n. has_after (first_calls n (keeping a.other.now []));
  left = λ n. LeavesAfter (first_calls n (keeping a.other.now []));
  during = λ n. LeavesAfter (first_calls n (keeping a.other.now []));
}
