use Rattle.std.proofs.Common.{sym, ◌∙◌}
use Rattle.classfile.specs.View.{file_of}
use Rattle.constant_pool.specs.View.{reference_of}
use Rattle.link_conditions.proofs.class_rules.Declared.{declared_at}
use Rattle.link_conditions.proofs.class_rules.method.declared_method.Goals as goal

pub returns : goal.returns
returns c =
    let files = c.args.set.now in
    c.method_at.ensures ∙ declared_at files (reference_of c.args.method) c.in-Some.place (file_of c.in-Some-class_at.class.now) c.requires (sym c.in-Some.ensures.found) c.in-Some.ensures.place (sym c.in-Some-class_at.ensures)
