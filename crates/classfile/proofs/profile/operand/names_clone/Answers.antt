use Rattle.std.proofs.Common.{rules, ◌≡◌, Some, true, not, ap, ◌∙◌}
use Rattle.model.specs.Names.{member_eq, java_lang_object, object_clone}
use Rattle.model.specs.Tree.{Method}
use Rattle.model.specs.Spelling.{entry_at}
use Rattle.model.specs.Lookup.{in_class}
use Rattle.model.specs.Pool.{method_at}
use Rattle.constant_pool.specs.View.{reference_of}
use Rattle.classfile.specs.declared.profile.described.Described.{Described}
use Rattle.classfile.proofs.profile.Operands.{clone_told}
use Rattle.classfile.proofs.profile.operand.names_clone.Goals as goal

pub returns-then-is_clone : goal.returns-then-is_clone
returns-then-is_clone c =
    let pool = c.args.file.now.pool in
    let class = c.in-Some-Method.class in
    let member = c.in-Some-Method.field-0-1 in
    let m = reference_of c.in-Some.method in
    let at : entry_at pool c.args.index ≡ Method class member = search rules in
    let named : method_at pool c.args.index ≡ Some m = search rules in
    let is : member_eq (in_class java_lang_object m) object_clone ≡ true = search rules in
    ap (λ (d : Described). not d.leaves_out) c.class_says.ensures ∙ clone_told pool c.args.index class member m at named is
