use Rattle.std.proofs.Common.{Some, ◌≡◌, ◌∙◌, false, true, refl, sym, subst}
use Rattle.std.specs.Option.{option_map_or}
use Rattle.model.specs.Classes.{Program}
use Rattle.model.specs.Lookup.{method_of, find_interface_method}
use Rattle.model.specs.Operands.{values}
use Rattle.model.specs.Calls.{of_class, is_instance_one, interface_call}
use Rattle.model.specs.Resolution.{is_missing, member_classes}
use Rattle.std.specs.List.{list_any}
use Rattle.std.proofs.lemmas.Bool.{or_left}
use Rattle.constant_pool.specs.View.{reference_of}
use Rattle.hierarchy.specs.Places.{member_in}
use Rattle.instruction_types.specs.Wants.{TellsCallOn}
use Rattle.instruction_types.proofs.Calling.{answers_call_on, member_lacks, picked_method}
use Rattle.instruction_types.proofs.calls.invoke_interface.Goals as goal

pub returns : goal.returns
returns c = λ site others.
    let files = c.args.hierarchy.now in
    let m = reference_of c.args.method in
    let found = member_in files m c.in-Some.found in
    let kind : option_map_or is_instance_one (method_of files found) false ≡ true =
    sym (subst (λ (p : Program). c.is_method_of_kind.result ≡ option_map_or is_instance_one (method_of p (member_in p m c.in-Some.found)) false) c.set-set.ensures c.is_method_of_kind.ensures) ∙ c.if-not-is_method_of_kind.false in
    answers_call_on files site m (member_classes (Some m)) (member_lacks files m) others (of_class files m.class) (is_missing files m.class) _ (interface_call values files site m.class found) c.call_on_interface.result
    (picked_method files is_instance_one (interface_call values files site m.class) (find_interface_method files m) found c.in-Some.ensures.found kind) refl (λ ts ops rest. refl)
    (subst (λ (p : Program). TellsCallOn p m (of_class p m.class) (is_missing p m.class) c.call_on_interface.result) c.set-set.ensures c.call_on_interface.ensures)
    (λ h. or_left (list_any (is_missing files) (member_classes (Some m))) others (or_left (is_missing files m.class) _ h))
