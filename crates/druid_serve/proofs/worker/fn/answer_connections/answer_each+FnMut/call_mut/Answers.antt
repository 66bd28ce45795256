-- That the handle may go to other threads is among what the closure asks.
use Rattle.druid_serve.proofs.worker.fn.answer_connections.answer_each+FnMut.call_mut.Goals as goal

pub answer_each-requires : goal.answer_each-requires
answer_each-requires g c = c.requires.1.1
