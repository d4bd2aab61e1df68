use Rattle.std.proofs.Common.{arith}
use Rattle.hierarchy.proofs.set.ClassSet.file_count.Goals as goal
use Rattle.hierarchy.proofs.Indices.{count_behind}

pub returns-clause-count : goal.returns-clause-count
returns-clause-count c = omega (arith, c.count.ensures, count_behind c.args.self.now)
