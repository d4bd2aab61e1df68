use Rattle.thread_stacks.specs.Stacks.{shown_frame}
use Rattle.search.proofs.local_runs.Frames.{local_if}
use Rattle.search.proofs.local_runs.counting.local_count.Goals as goal

pub returns-in-Some-clause-local : goal.returns-in-Some-clause-local
returns-in-Some-clause-local c =
    local_if c.instructions_are_local.ensures.holds c.args.program.now c.args.shared.now c.args.thread (shown_frame c.in-Some.frame) c.in-Some.ensures c.count_in.result c.count_in.ensures.can
