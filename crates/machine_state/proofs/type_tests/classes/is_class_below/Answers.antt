use Rattle.std.proofs.Common.{◌∙◌}
use Rattle.machine_state.proofs.type_tests.Numbered.{small}
use Rattle.machine_state.proofs.type_tests.classes.is_class_below.Goals as goal

pub returns : goal.returns
returns c = λ files trees linkable program column class other is above.
    c.is_numbered_below.ensures (small files trees linkable c.args.class class is) (small files trees linkable c.args.above other above)
    ∙ program.subclasses c.args.class c.args.above class other is above column
