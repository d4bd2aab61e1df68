use Rattle.std.proofs.Common.{rules, ◌≡◌, true, ap, ◌∙◌}
use Rattle.std.specs.Prelude.{is_some}
use Rattle.model.specs.Pool.{method_at}
use Rattle.model.specs.Profile.{has_left_out_type}
use Rattle.classfile.specs.declared.profile.described.Described.{Described}
use Rattle.classfile.proofs.profile.Operands.{method_there}
use Rattle.classfile.proofs.profile.operand.method_left_out.Goals as goal

pub returns-then-is_some : goal.returns-then-is_some
returns-then-is_some c =
    let there : is_some (method_at c.args.file.now.pool c.args.index) ≡ true = search rules in
    ap (λ (d : Described). d.leaves_out) c.member_says.ensures ∙ method_there has_left_out_type c.args.file.now.pool c.args.index there
