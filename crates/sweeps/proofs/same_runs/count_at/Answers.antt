use Rattle.std.proofs.Common.{◌<◌, ◌+◌, ◌^◌, arith, lit<}
use Rattle.sweeps.proofs.Counting.{few_at}
use Rattle.sweeps.proofs.same_runs.count_at.Goals as goal

pub overflow_add-index_mut : goal.overflow_add-index_mut
overflow_add-index_mut c =
    let few = few_at (2 ^ 64) c.args.listed.now.items c.args.at c.index_mut.result.now (omega (arith, c.requires.within)) c.index_mut.ensures.value c.requires.few in
    let fits : 2 ^ 64 + 1 < 2 ^ 128 = lit< tt in
    omega (arith, few, fits)
