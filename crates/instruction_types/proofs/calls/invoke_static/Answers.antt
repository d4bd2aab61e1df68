use Rattle.std.proofs.Common.{◌≡◌, ◌∙◌, Some, None, false, true, refl, sym, subst}
use Rattle.std.specs.Option.{option_map_or}
use Rattle.model.specs.Classes.{Program}
use Rattle.model.specs.AccessFlags.{is_static_method}
use Rattle.model.specs.Lookup.{method_of, find_method}
use Rattle.model.specs.Resolution.{called_classes}
use Rattle.model.specs.Operands.{values}
use Rattle.model.specs.Calls.{static_call}
use Rattle.constant_pool.specs.View.{reference_of}
use Rattle.hierarchy.specs.Places.{member_in}
use Rattle.instruction_types.specs.Wants.{CallsOn, TellsCall}
use Rattle.instruction_types.proofs.Calling.{answers_call, called_lacks, picked_method}
use Rattle.instruction_types.proofs.calls.invoke_static.Goals as goal

pub returns : goal.returns
returns c = λ site others.
    let files = c.args.hierarchy.now in
    let m = reference_of c.args.method in
    let found = member_in files m c.in-Some.found in
    let kind : option_map_or is_static_method (method_of files found) false ≡ true =
    sym (subst (λ (p : Program). c.is_method_of_kind.result ≡ option_map_or is_static_method (method_of p (member_in p m c.in-Some.found)) false) c.set-set.ensures c.is_method_of_kind.ensures) ∙ c.if-not-is_method_of_kind.false in
    answers_call files site m (called_classes (Some m)) (called_lacks files m) others None _ (static_call values files site found) c.ordinary_call.result
    (picked_method files is_static_method (static_call values files site) (find_method files m) found c.in-Some.ensures.found kind) refl (λ ts ops rest. refl)
    (subst (λ (p : Program). TellsCall p m (CallsOn p m None) c.ordinary_call.result) c.set-set.ensures c.ordinary_call.ensures)
