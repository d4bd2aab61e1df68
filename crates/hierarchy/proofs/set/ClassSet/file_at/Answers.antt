use Rattle.std.proofs.Common.{◌∙◌}
use Rattle.hierarchy.proofs.set.ClassSet.file_at.Goals as goal
use Rattle.hierarchy.proofs.Indices.{file_behind}

pub returns : goal.returns
returns c = c.class_at.ensures ∙ file_behind c.args.self.now c.args.number
