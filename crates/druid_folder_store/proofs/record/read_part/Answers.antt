use Rattle.std.proofs.Common.{◌+◌, refl, arith}
use Rattle.druid_folder.specs.Folder.{max_file}
use Rattle.druid_folder.proofs.ReadPart.{whole_read, cut_read, cut_length}
use Rattle.druid_folder_store.proofs.record.read_part.Goals as goal

pub returns-then-bytes-le-MAX_FILE-clause-part : goal.returns-then-bytes-le-MAX_FILE-clause-part
returns-then-bytes-le-MAX_FILE-clause-part c = whole_read c.from_slice.result c.args.bytes.now (omega arith) c.from_slice.ensures.items

pub returns-clause-part : goal.returns-clause-part
returns-clause-part c = cut_read c.from_slice-2.result (max_file + 1) c.args.bytes.now c.from_slice-2.ensures.items refl

pub returns-clause-bound : goal.returns-clause-bound
returns-clause-bound c = cut_length c.from_slice-2.result (max_file + 1) c.args.bytes.now c.from_slice-2.ensures.items (omega arith)
