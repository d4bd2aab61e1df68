use Rattle.std.proofs.Common.{arith, ◌≡◌, Some, sym}
use Rattle.std.specs.Prelude.{slice_get}
use Rattle.classfile.specs.View.{method_of, file_of}
use Rattle.hierarchy.specs.Places.{class_at}
use Rattle.types.proofs.method_code.Declared.{method_at}
use Rattle.method_tables.specs.method_links.Calls.{IsCallOf}
use Rattle.method_tables.specs.method_links.Methods.{member_of}
use Rattle.linked_program.proofs.method_rows.Facts.{class_fits, operands_fit, row_is, told_there}
use Rattle.linked_program.proofs.method_rows.row.row_at.Goals as goal

pub overflow_cast-result : goal.overflow_cast-result
overflow_cast-result c =
    omega (arith, class_fits c.args.set.now c.requires.linked c.args.place.class (file_of c.in-Some.file.now) (sym c.in-Some.ensures))

pub overflow_cast-result-2 : goal.overflow_cast-result-2
overflow_cast-result-2 c =
    let files = c.args.set.now in
    let file = file_of c.in-Some.file.now in
    let m = method_of c.in-Some-get.method.now in
    let class : class_at files c.args.place.class ≡ Some file = sym c.in-Some.ensures in
    let method : slice_get file.methods c.args.place.member ≡ Some m = method_at c.deref.result.now c.in-Some.file.now.methods.items c.args.place.member c.in-Some-get.method.now c.deref.ensures.value c.in-Some-get.ensures.lookup.0 c.in-Some-get.ensures.lookup.1 in
    let told : IsCallOf files (member_of file m) c.args.call.now = told_there files c.args.place.class c.args.place.member file m class method c.args.call.now c.requires.told in
    omega (arith, operands_fit files c.requires.linked c.args.place.class c.args.place.member file m class method c.args.call.now told)

pub returns : goal.returns
returns c =
    let files = c.args.set.now in
    let file = file_of c.in-Some.file.now in
    let m = method_of c.in-Some-get.method.now in
    let class : class_at files c.args.place.class ≡ Some file = sym c.in-Some.ensures in
    let method : slice_get file.methods c.args.place.member ≡ Some m = method_at c.deref.result.now c.in-Some.file.now.methods.items c.args.place.member c.in-Some-get.method.now c.deref.ensures.value c.in-Some-get.ensures.lookup.0 c.in-Some-get.ensures.lookup.1 in
    let told : IsCallOf files (member_of file m) c.args.call.now = told_there files c.args.place.class c.args.place.member file m class method c.args.call.now c.requires.told in
    row_is files c.requires.linked c.args.place.class c.args.place.member file m class method c.args.call.now told c.kind_of.result
    (c.kind_of.ensures files c.requires.linked c.args.place.class c.args.place.member class method told)
