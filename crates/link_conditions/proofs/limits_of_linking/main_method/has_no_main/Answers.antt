use Rattle.std.proofs.Common.{None, Some, not, sym, ap, ◌∙◌}
use Rattle.classfile.specs.View.{file_of}
use Rattle.model.specs.Classes.{class_of}
use Rattle.link_conditions.proofs.limits_of_linking.MainLaws.{no_first, of_first}
use Rattle.link_conditions.proofs.limits_of_linking.main_method.has_no_main.Goals as goal

pub returns-in_default : goal.returns-in_default
returns-in_default c = no_first c.args.set.now (sym c.in_default.ensures)

pub returns-in-Some-class_of : goal.returns-in-Some-class_of
returns-in-Some-class_of c =
    ap not c.declares_static_main.ensures
    ∙ of_first c.args.set.now (file_of c.in-Some.first.now) (Some (file_of c.in-Some-class_of.class.now)) (sym c.in-Some.ensures) (ap (class_of c.args.set.now) (sym c.class_name.ensures) ∙ sym c.in-Some-class_of.ensures)

pub returns-in-None : goal.returns-in-None
returns-in-None c =
    of_first c.args.set.now (file_of c.in-Some.first.now) None (sym c.in-Some.ensures) (ap (class_of c.args.set.now) (sym c.class_name.ensures) ∙ sym c.in-None.ensures)
