use Rattle.std.proofs.Common.{◌≡◌, ◌∙◌, Some, sym, ap}
use Rattle.std.specs.Prelude.{slice_get}
use Rattle.model.specs.Classes.{code_in}
use Rattle.class_tree.specs.View.{method_of, file_of, code_of}
use Rattle.hierarchy.specs.Places.{class_at}
use Rattle.types.proofs.method_code.Declared.{declared_at, method_at, shown_here}
use Rattle.types.proofs.method_code.declaration.MethodCode.new.Goals as goal

pub invariant_of-result : goal.invariant_of-result
invariant_of-result c =
    let files = c.args.hierarchy.now in
    let file = file_of c.in-Some.file.now in
    let m = method_of c.in-Some-get.found.now in
    let class : class_at files c.args.class ≡ Some file = sym (c.in-Some.ensures ∙ ap (λ f. class_at f c.args.class) c.set.ensures) in
    let method : slice_get file.methods c.args.method ≡ Some m = method_at c.deref.result.now c.in-Some.file.now.methods.items c.args.method c.in-Some-get.found.now c.deref.ensures.value c.in-Some-get.ensures.lookup.0 c.in-Some-get.ensures.lookup.1 in
    let code : code_in m.parts ≡ Some (code_of c.in-Some-code.code.now) = sym c.in-Some-code.ensures in
    record { declared = declared_at files c.args.class c.args.method file m (code_of c.in-Some-code.code.now) c.requires class method code }

pub returns-clause-value : goal.returns-clause-value
returns-clause-value c =
    let files = c.args.hierarchy.now in
    let file = file_of c.in-Some.file.now in
    let m = method_of c.in-Some-get.found.now in
    let class : class_at files c.args.class ≡ Some file = sym (c.in-Some.ensures ∙ ap (λ f. class_at f c.args.class) c.set.ensures) in
    let method : slice_get file.methods c.args.method ≡ Some m = method_at c.deref.result.now c.in-Some.file.now.methods.items c.args.method c.in-Some-get.found.now c.deref.ensures.value c.in-Some-get.ensures.lookup.0 c.in-Some-get.ensures.lookup.1 in
    let code : code_in m.parts ≡ Some (code_of c.in-Some-code.code.now) = sym c.in-Some-code.ensures in
    shown_here files c.args.class c.args.method file m (code_of c.in-Some-code.code.now) class method code
