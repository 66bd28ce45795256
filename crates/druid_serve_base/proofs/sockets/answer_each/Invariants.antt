use Rattle.std.proofs.Common.{List}
use Rattle.std.specs.List.{FoldsTo}
use Rattle.std.specs.declared.net.tcp.TcpStream.{TcpStream}
use Rattle.druid_serve_base.proofs.sockets.answer_each.Given as goal

abbrev pub invariant-loop-stream : goal.invariant-loop-stream
invariant-loop-stream g l =
    (streams : List TcpStream) × FoldsTo (λ before stream after. goal.F-post g l.answer before stream after) l.initial.worker streams l.worker
