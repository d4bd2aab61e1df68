use Rattle.std.proofs.Common.{Some, None, sym, ap, ◌∙◌}
use Rattle.classfile.specs.View.{file_of}
use Rattle.hierarchy.specs.Places.{place_of}
use Rattle.link_conditions.specs.limits_of_linking.Climbing.{capped}
use Rattle.link_conditions.proofs.limits_of_linking.ClimbLaws.{one_step_is, no_step}
use Rattle.link_conditions.proofs.limits_of_linking.climb.one_step.Goals as goal

pub returns-in_default : goal.returns-in_default
returns-in_default c = no_step c.args.set.now c.args.class.now (sym c.in_default.ensures)

pub returns-in-Some-superclass_of : goal.returns-in-Some-superclass_of
returns-in-Some-superclass_of c =
    ap (λ o. record { next = o; cells = c.min-cells.result }) c.place_of.ensures.place
    ∙ ap (λ n. record { next = place_of c.args.set.now c.in-Some-superclass_of.superclass.now; cells = n }) (c.min-cells.ensures ∙ ap (λ n. capped n) c.own_cells.ensures)
    ∙ one_step_is c.args.set.now c.args.class.now (file_of c.in-Some.file.now) (Some c.in-Some-superclass_of.superclass.now) (sym c.in-Some.ensures) (sym c.in-Some-superclass_of.ensures)

pub returns-in-None : goal.returns-in-None
returns-in-None c =
    ap (λ n. record { next = None; cells = n }) (c.min-cells.ensures ∙ ap (λ n. capped n) c.own_cells.ensures)
    ∙ one_step_is c.args.set.now c.args.class.now (file_of c.in-Some.file.now) None (sym c.in-Some.ensures) (sym c.in-None.ensures)
