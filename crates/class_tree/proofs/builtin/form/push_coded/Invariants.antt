use Rattle.std.proofs.Common.{◌≡◌, ◌++◌, drop, map}
use Rattle.model.specs.BuiltInForm.{methods_with_code}
use Rattle.class_tree.specs.View.{method_of}
use Rattle.class_tree.specs.builtin.View.{codes_in}
use Rattle.class_tree.proofs.builtin.form.push_coded.Given as goal

abbrev pub invariant-loop-method : goal.invariant-loop-method
invariant-loop-method l =
    map method_of l.methods.items ++ methods_with_code l.name (codes_in (drop l.method-index l.coded))
    ≡ map method_of l.initial.methods.items ++ methods_with_code l.name (codes_in l.coded)
