use Rattle.std.proofs.Common.{ap}
use Rattle.thread_stacks.specs.Stacks.{frames_by}
use Rattle.thread_stacks.proofs.Found.{frame_read, no_frame}
use Rattle.thread_stacks.proofs.reading.frame_in.Goals as goal

pub returns-in-Invocation : goal.returns-in-Invocation
returns-in-Invocation c = frame_read c.args.end c.args.words.now c.args.entry c.requires.room c.requires.within c.in-Invocation.is

pub returns-in-Initialisation : goal.returns-in-Initialisation
returns-in-Initialisation c = no_frame c.args.end c.args.words.now c.args.entry (ap frames_by c.in-Initialisation.is)
