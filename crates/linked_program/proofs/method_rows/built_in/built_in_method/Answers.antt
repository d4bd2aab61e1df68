use Rattle.std.proofs.Common.{◌∙◌, ap, sym}
use Rattle.std.specs.Option.{option_map}
use Rattle.linked_code.specs.Methods.{built_in_of}
use Rattle.linked_program.proofs.method_rows.Facts.{with_row, without_row}
use Rattle.linked_program.proofs.method_rows.built_in.built_in_method.Goals as goal

pub returns-in-Some : goal.returns-in-Some
returns-in-Some c =
    with_row c.in-Some.declared _ _ (ap (option_map built_in_of) (sym c.in-Some.is) ∙ c.declared_among.ensures)

pub returns-in-None : goal.returns-in-None
returns-in-None c =
    without_row c.constructor.result _ _ (ap (option_map built_in_of) (sym c.in-None.is) ∙ c.declared_among.ensures) c.constructor.ensures
