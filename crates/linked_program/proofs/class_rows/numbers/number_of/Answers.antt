use Rattle.std.proofs.Common.{rules, arith, ◌≡◌, Some}
use Rattle.model.specs.Classes.{classes_of, is_named}
use Rattle.hierarchy.specs.Places.{place_of}
use Rattle.hierarchy.proofs.Finding.{position_within}
use Rattle.linker.proofs.class_constants.Sizes.{few_classes}
use Rattle.linked_program.proofs.class_rows.numbers.number_of.Goals as goal

pub overflow_cast-result : goal.overflow_cast-result
overflow_cast-result c =
    let files = c.args.set.now in
    let is : place_of files c.args.name.now ≡ Some c.in-Some.place = search rules in
    omega (arith, position_within (is_named c.args.name.now) (classes_of files) c.in-Some.place is, few_classes files c.requires)
