use Rattle.std.proofs.Common.{sym, subst}
use Rattle.std.specs.Prelude.{IfSome}
use Rattle.types.specs.subclass_table.Made.{IsMade}
use Rattle.types.proofs.subclass_table.Making.{made_at, of_value}
use Rattle.types.proofs.subclass_table.class_rows.rows_of_name.Goals as goal

pub returns : goal.returns
returns c columns width steps are =
    let is = IsMade c.args.set.now columns width steps c.args.name.now in
    of_value is c.rows_at.result
    (subst (λ o. IfSome o is) (sym c.rows_at.ensures) (made_at c.args.set.now columns width steps c.args.made.now c.in-Some.place c.args.name.now are (sym c.in-Some.ensures.place)))
