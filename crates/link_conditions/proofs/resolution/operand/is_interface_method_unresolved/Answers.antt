use Rattle.std.proofs.Common.{rules, ◌≡◌, Some, true, false, Option, refl, ap, sym, ◌∙◌}
use Rattle.std.specs.Option.{option_map_or}
use Rattle.model.specs.Names.{Member}
use Rattle.model.specs.Classes.{is_interface}
use Rattle.model.specs.Lookup.{find_interface_method}
use Rattle.model.specs.Pool.{interface_method_at}
use Rattle.constant_pool.specs.View.{reference_of}
use Rattle.classfile.specs.View.{file_of}
use Rattle.hierarchy.specs.Places.{member_in}
use Rattle.link_conditions.specs.resolution.Operands.{fails_call}
use Rattle.link_conditions.proofs.resolution.Operands.{member_lacks_class, call_fails, interface_method_asked}
use Rattle.link_conditions.proofs.resolution.operand.is_interface_method_unresolved.Goals as goal

pub returns-in-Some-find_interface_method : goal.returns-in-Some-find_interface_method
returns-in-Some-find_interface_method c =
    let files = c.args.hierarchy.now in
    let file = file_of c.args.file.now in
    let m = reference_of c.in-Some.method in
    let asked = interface_method_asked files file c.args.index in
    let named : interface_method_at file.pool c.args.index ≡ Some m = search rules in
    let complete : member_lacks_class files m ≡ false = search rules in
    let plain : is_interface files m.class ≡ true = search rules in
    let fails : c.fails_call.result ≡ option_map_or (fails_call files false) (find_interface_method files m) true =
    c.fails_call.ensures
    ∙ ap (λ f. fails_call f false (member_in f m c.in-Some-find_interface_method.place)) c.set-set.ensures
    ∙ ap (λ (o : Option Member). option_map_or (fails_call files false) o true) c.in-Some-find_interface_method.ensures.found in
    fails ∙ sym (asked ∙ ap (λ (o : Option Member). option_map_or (λ m. call_fails files (member_lacks_class files m) (find_interface_method files) false true m) o false) named ∙ rw (complete, plain) refl)
