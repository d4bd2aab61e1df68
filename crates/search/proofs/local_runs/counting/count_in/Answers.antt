use Rattle.thread_stacks.specs.Stacks.{shown_frame}
use Rattle.search.proofs.local_runs.Frames.{can_do}
use Rattle.search.proofs.local_runs.counting.count_in.Goals as goal

pub returns-clause-can : goal.returns-clause-can
returns-clause-can c =
    can_do c.args.program.now (shown_frame c.args.frame.now) c.code_of.result.now c.in_ok-words.words.frame _ c.run.result c.code_of.ensures c.in_ok-words.ensures c.run.ensures.did
