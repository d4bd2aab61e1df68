use Rattle.std.proofs.Common.{◌≡◌, Some, sym}
use Rattle.std.specs.Prelude.{slice_get}
use Rattle.classfile.specs.View.{method_of, file_of}
use Rattle.hierarchy.specs.Places.{class_at}
use Rattle.types.proofs.method_code.Declared.{method_at}
use Rattle.method_tables.proofs.method_links.ByName.{told_is}
use Rattle.method_tables.proofs.method_links.make_call.told_at.Goals as goal

pub returns : goal.returns
returns c =
    let files = c.args.set.now in
    let file = file_of c.in-Some.file.now in
    let m = method_of c.in-Some-get.method.now in
    let class : class_at files c.args.place.class ≡ Some file = sym c.in-Some.ensures in
    let method : slice_get file.methods c.args.place.member ≡ Some m = method_at c.deref.result.now c.in-Some.file.now.methods.items c.args.place.member c.in-Some-get.method.now c.deref.ensures.value c.in-Some-get.ensures.lookup.0 c.in-Some-get.ensures.lookup.1 in
    told_is files c.requires c.args.place.class c.args.place.member file m class method c.in_ok-told_by.field-0 c.in_ok-told_by.ensures
