use Rattle.std.proofs.Common.{rules, string_bytes}
use Rattle.std.specs.declared.alloc.Global.{Global}
use Rattle.std.specs.declared.string.String.{String}
use Rattle.std.proofs.lemmas.Fn.{filter_same}
use Rattle.druid_serve_node.specs.Files.{is_segment_file}
use Rattle.druid_serve_node.proofs.segment_files.keep_segment_files.Goals as goal

pub returns : goal.returns
returns c = filter_same _ (λ (name : String Global). is_segment_file (string_bytes name)) _ (λ x b f' k. search rules) _ _ c.retain.ensures.filtered
