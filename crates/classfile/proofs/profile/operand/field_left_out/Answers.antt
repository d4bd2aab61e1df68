use Rattle.std.proofs.Common.{rules, ◌≡◌, true, ap, ◌∙◌}
use Rattle.std.specs.Prelude.{is_some}
use Rattle.model.specs.Pool.{field_at}
use Rattle.model.specs.Profile.{has_left_out_type}
use Rattle.classfile.specs.declared.profile.described.Described.{Described}
use Rattle.classfile.proofs.profile.Operands.{field_there}
use Rattle.classfile.proofs.profile.operand.field_left_out.Goals as goal

pub returns-then-is_some : goal.returns-then-is_some
returns-then-is_some c =
    let there : is_some (field_at c.args.file.now.pool c.args.index) ≡ true = search rules in
    ap (λ (d : Described). d.leaves_out) c.member_says.ensures ∙ field_there has_left_out_type c.args.file.now.pool c.args.index there
