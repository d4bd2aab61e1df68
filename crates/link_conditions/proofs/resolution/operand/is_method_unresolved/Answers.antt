use Rattle.std.proofs.Common.{rules, ◌≡◌, Some, true, false, Option, refl, ap, sym, ◌∙◌}
use Rattle.std.specs.Option.{option_map_or}
use Rattle.model.specs.Names.{Member}
use Rattle.model.specs.Classes.{is_interface}
use Rattle.model.specs.Pool.{method_at}
use Rattle.model.specs.Resolution.{found_in_class}
use Rattle.constant_pool.specs.View.{reference_of}
use Rattle.classfile.specs.View.{file_of}
use Rattle.hierarchy.specs.Places.{member_in}
use Rattle.link_conditions.specs.resolution.Operands.{fails_call}
use Rattle.link_conditions.proofs.resolution.Operands.{called_lacks_class, call_fails, is_static_call, method_asked}
use Rattle.link_conditions.proofs.resolution.operand.is_method_unresolved.Goals as goal
use Rattle.link_conditions.proofs.resolution.operand.is_method_unresolved.Goals.{then-method_lacks_class-via-then-method_lacks_class, then-method_lacks_class-via-else-method_lacks_class+then-is_interface}

pub returns-then-method_lacks_class : goal.returns-then-method_lacks_class
returns-then-method_lacks_class c =
    let files = c.args.hierarchy.now in
    let file = file_of c.args.file.now in
    let m = reference_of c.in-Some.method in
    let fails = λ (m : Member). call_fails files (called_lacks_class files m) (found_in_class files) (is_static_call c.args.invocation) false m in
    let named : method_at file.pool c.args.index ≡ Some m = search rules in
    let asked = method_asked files file c.args.index c.args.invocation ∙ ap (λ (o : Option Member). option_map_or fails o false) named in
    elim c.then-method_lacks_class.branch [
      | then-method_lacks_class-via-then-method_lacks_class w ↦
          let lacks : called_lacks_class files m ≡ true = search rules in
          sym (asked ∙ rw lacks refl)
      | then-method_lacks_class-via-else-method_lacks_class+then-is_interface w ↦
          let complete : called_lacks_class files m ≡ false = search rules in
          let interface : is_interface files m.class ≡ true = search rules in
          sym (asked ∙ rw (complete, interface) refl)
    ]

pub returns-in-Some-found_in_class : goal.returns-in-Some-found_in_class
returns-in-Some-found_in_class c =
    let files = c.args.hierarchy.now in
    let file = file_of c.args.file.now in
    let m = reference_of c.in-Some.method in
    let asked = method_asked files file c.args.index c.args.invocation in
    let named : method_at file.pool c.args.index ≡ Some m = search rules in
    let complete : called_lacks_class files m ≡ false = search rules in
    let plain : is_interface files m.class ≡ false = search rules in
    let static : c.match-matches.matches ≡ is_static_call c.args.invocation = search rules in
    let fails : c.fails_call.result ≡ option_map_or (fails_call files (is_static_call c.args.invocation)) (found_in_class files m) true =
    c.fails_call.ensures
    ∙ (λ i. fails_call (c.set-set.ensures i) (static i) (member_in (c.set-set.ensures i) m c.in-Some-found_in_class.place))
    ∙ ap (λ (o : Option Member). option_map_or (fails_call files (is_static_call c.args.invocation)) o true) c.in-Some-found_in_class.ensures.found in
    fails ∙ sym (asked ∙ ap (λ (o : Option Member). option_map_or (λ m. call_fails files (called_lacks_class files m) (found_in_class files) (is_static_call c.args.invocation) false m) o false) named ∙ rw (complete, plain) refl)
