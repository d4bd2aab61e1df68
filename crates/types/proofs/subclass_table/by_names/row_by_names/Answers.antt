use Rattle.std.proofs.Common.{◌∙◌, ℕ, Vec, Global, length, sym, ap, arith, false}
use Rattle.std.specs.Option.{option_map_or}
use Rattle.model.specs.Tree.{FileTree}
use Rattle.model.specs.Classes.{name_of}
use Rattle.model.specs.ReferenceTypes.{is_subclass_or_implements}
use Rattle.types.specs.subclass_table.Rows.{has_bit, is_above_at}
use Rattle.types.proofs.subclass_table.Placing.{column_within, done_without, done_more, rest_more}
use Rattle.types.proofs.subclass_table.by_names.row_by_names.Goals.{in-Some, in_default}
use Rattle.types.proofs.subclass_table.by_names.row_by_names.Goals as goal

pub loop-place-preserved : goal.loop-place-preserved
loop-place-preserved c =
    let columns = c.args.columns.now in
    let width = c.args.width in
    let test = is_above_at c.args.hierarchy.now c.args.class.now in
    let row = c.loop-place.row.items in
    let place = c.loop-place.place in
    let inv = c.loop-place.invariant in
    elim c.match-column_at.branch [
      | in-Some w ↦
          let new = ap (λ (v : Vec ℕ Global). v.items) w.row-is in
          let own = w.in-Some.column in
          let is = sym w.in-Some.ensures in
          let made = w.add_class.new.row.items in
          record {
            wide = ap length new ∙ w.add_class.ensures.wide ∙ inv.wide;
            done = λ class column less at. ap (λ l. has_bit l column) new ∙ done_more columns width c.requires test row place inv.done inv.rest made own is w.add_class.ensures.bits class column less at;
            rest = λ class column more at. ap (λ l. has_bit l column) new ∙ rest_more columns width c.requires test row place inv.done inv.rest made own is w.add_class.ensures.bits class column more at;
          }
      | in_default w ↦
          let new = ap (λ (v : Vec ℕ Global). v.items) w.row-is in
          record {
            wide = ap length new ∙ inv.wide;
            done = λ class column less at. ap (λ l. has_bit l column) new ∙ done_without columns width c.requires test row place inv.done inv.rest (sym w.in_default.ensures) class column less at;
            rest = λ class column more at. ap (λ l. has_bit l column) new ∙ inv.rest class column (omega (arith, more)) at;
          }
    ]

pub returns-clause-row : goal.returns-clause-row
returns-clause-row c = λ class column above at there.
    let within = column_within c.args.columns.now class column at in
    c.loop-place.invariant.done class column (omega (arith, within, c.loop-place-test.false)) at
    ∙ ap (λ o. option_map_or (λ (file : FileTree). is_subclass_or_implements c.args.hierarchy.now c.args.class.now (name_of file)) o false) there
