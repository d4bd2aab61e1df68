use Rattle.std.proofs.Common.{◌∙◌}
use Rattle.classfile.proofs.profile.Operands.{row_said}
use Rattle.classfile.proofs.profile.described.text_says.Goals as goal

pub returns : goal.returns
returns c = c.row.ensures ∙ row_said c.args.file.now.pool c.args.rows.now c.args.index c.requires
