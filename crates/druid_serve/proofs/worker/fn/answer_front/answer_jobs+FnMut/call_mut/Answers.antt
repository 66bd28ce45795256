-- That the handle may go to other threads is among what the closure asks.
use Rattle.druid_serve.proofs.worker.fn.answer_front.answer_jobs+FnMut.call_mut.Goals as goal

pub answer_jobs-requires : goal.answer_jobs-requires
answer_jobs-requires g c = c.requires.1.1
