use Rattle.std.proofs.Common.{◌≡◌, ◌∙◌, ℕ, Bool, List, Option, Vec, Global, length, sym, ap, subst, rules}
use Rattle.classfile.specs.View.{file_of}
use Rattle.model.specs.Names.{Name}
use Rattle.types.specs.subclass_table.Rows.{IsRow}
use Rattle.types.specs.subclass_table.Made.{AreMade, IsNearRow, IsWithSuperclass}
use Rattle.types.proofs.subclass_table.Making.{rows_made, of_some}
use Rattle.types.proofs.subclass_table.class_rows.class_rows.Goals as goal

pub returns : goal.returns
returns c = λ steps few are.
    let files = c.args.set.now in
    let columns = c.args.columns.now in
    let width = c.args.width in
    let file = file_of c.in-Some.file.now in
    let wide : length c.in-Some-2.near.items ≡ width = search rules in
    rows_made files columns width steps c.args.place file (record { near = c.in-Some-2.near; below = c.in-Some-3.below })
    c.requires.own (sym c.in-Some.ensures) few wide (search rules)
    (of_some (λ (row : Vec ℕ Global). (steps : ℕ) → AreMade files columns width steps c.args.made.now → IsNearRow files columns steps file row.items) c.in_ok-near.field-0 c.in-Some-2.near c.in-Some-2.is c.in_ok-near.ensures.near steps are)
    (λ p is.
    of_some (λ (row : Vec ℕ Global). (columns : List (Option ℕ)) (steps : ℕ) (p : Name → Bool) → AreMade files columns (length c.deref.result.now) steps c.args.made.now → IsRow files columns p c.deref.result.now
    → IsWithSuperclass files columns steps file p row.items)
    c.in_ok-below.field-0 c.in-Some-3.below c.in-Some-3.is c.in_ok-below.ensures.row columns steps p
    (subst (λ n. AreMade files columns n steps c.args.made.now) (sym (ap length c.deref.ensures.value ∙ wide)) are) (subst (IsRow files columns p) (sym c.deref.ensures.value) is))
