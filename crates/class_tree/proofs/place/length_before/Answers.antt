use Rattle.std.proofs.Common.{◌≡◌, ◌-◌, ◌∙◌, ◌++◌, subst, arith, length, map}
use Rattle.model.specs.Spelling.{method}
use Rattle.constant_pool.specs.Checking.{saturated}
use Rattle.class_tree.specs.View.{method_of}
use Rattle.class_tree.specs.CodePlace.{before_parts, before_code, methods_front}
use Rattle.class_tree.proofs.Fronts.{found_method, past_method, all_methods_past}
use Rattle.class_tree.proofs.place.length_before.Goals as goal

pub returns-then-left-eq0 : goal.returns-then-left-eq0
returns-then-left-eq0 c =
    let methods = c.args.methods.now in
    let inside : c.length_in_method.result ≡ saturated (length (before_parts (method_of c.method-item.result) ++ before_code (method_of c.method-item.result).parts)) = c.length_in_method.ensures in
    c.saturating_add.ensures
    ∙ found_method method_of methods c.methods.method-index c.method-item.result c.methods.left c.methods.sum (length (methods_front (map method_of methods) c.args.index)) c.length_in_method.result c.methods-test.true (omega arith)
    (subst (λ x. c.length_in_method.result ≡ saturated (length (before_parts (method_of x) ++ before_code (method_of x).parts))) c.method-item.is inside) c.methods.invariant.1

pub methods-preserved : goal.methods-preserved
methods-preserved c =
    let methods = c.args.methods.now in
    let next : c.length.result ≡ saturated (length (method (method_of c.method-item.result))) = c.length.ensures in (
      omega (arith, c.saturating_add-sum.ensures),
      rw c.saturating_add-sum.ensures (past_method method_of methods c.methods.method-index c.method-item.result c.methods.left (c.methods.left - 1) c.methods.sum (length (methods_front (map method_of methods) c.args.index)) c.length.result c.methods-test.true (omega arith)
          (subst (λ x. c.length.result ≡ saturated (length (method (method_of x)))) c.method-item.is next) c.methods.invariant.1),
    )

pub returns : goal.returns
returns c = all_methods_past method_of c.args.methods.now c.methods.method-index c.methods.left c.methods.sum (length (methods_front (map method_of c.args.methods.now) c.args.index)) c.methods-test.false c.methods.invariant.0 c.methods.invariant.1
