use Rattle.std.proofs.Common.{◌||◌, ◌≡◌, ◌∙◌, Some, cond, false, true, refl, sym, subst, ap}
use Rattle.std.specs.Option.{option_map_or}
use Rattle.model.specs.Classes.{Program}
use Rattle.model.specs.Lookup.{method_of, find_method}
use Rattle.model.specs.Operands.{values}
use Rattle.model.specs.Calls.{of_named, is_instance_one, virtual_call, virtual_of}
use Rattle.model.specs.DescribedTypes.{type_named}
use Rattle.model.specs.Resolution.{called_classes}
use Rattle.types.specs.described_types.Described.{type_missing}
use Rattle.instruction_types.specs.Answers.{is_no_type}
use Rattle.model.specs.Meanings.{println_meaning}
use Rattle.constant_pool.specs.View.{reference_of}
use Rattle.hierarchy.specs.Places.{member_in}
use Rattle.instruction_types.specs.Wants.{TellsCallOn}
use Rattle.instruction_types.proofs.Calling.{answers_call_on, called_lacks, named_lacks, picked_method}
use Rattle.instruction_types.proofs.Telling.{answers_told, narrowed}
use Rattle.instruction_types.proofs.calls.invoke_virtual.Goals as goal

pub returns-then-is_println : goal.returns-then-is_println
returns-then-is_println c = λ site others.
    let files = c.args.hierarchy.now in
    let m = reference_of c.args.method in
    let M = println_meaning values site.next in
    let is = sym c.is_println.ensures ∙ c.if-is_println.true in
    answers_told files site _ _ M c.println.result (ap (λ b. cond b (Some M) (virtual_of values files site m)) is) (narrowed files site c.println.result (λ site. println_meaning values site.next) c.println.ensures.means) c.println.ensures.memory

pub returns : goal.returns
returns c = λ site others.
    let files = c.args.hierarchy.now in
    let m = reference_of c.args.method in
    let found = member_in files m c.in-Some.found in
    let kind : option_map_or is_instance_one (method_of files found) false ≡ true =
    sym (subst (λ (p : Program). c.is_method_of_kind.result ≡ option_map_or is_instance_one (method_of p (member_in p m c.in-Some.found)) false) c.set-set.ensures c.is_method_of_kind.ensures) ∙ c.if-not-is_method_of_kind.false in
    let other = sym c.is_println.ensures ∙ c.if-is_println.false in
    answers_call_on files site m (called_classes (Some m)) (called_lacks files m) (others || is_no_type m.class) (of_named files m.class) (type_missing files (type_named m.class)) _ (virtual_call values files site m.class found) c.call_on_named.result
    (ap (λ b. cond b (Some (println_meaning values site.next)) (virtual_of values files site m)) other ∙ picked_method files is_instance_one (virtual_call values files site m.class) (find_method files m) found c.in-Some.ensures.found kind) refl (λ ts ops rest. refl)
    (subst (λ (p : Program). TellsCallOn p m (of_named p m.class) (type_missing p (type_named m.class)) c.call_on_named.result) c.set-set.ensures c.call_on_named.ensures)
    (named_lacks files m others)
