use Rattle.std.proofs.Common.{⊎_elim, ◌≡◌, ◌∙◌, ◌||◌, ◌∷◌, [], Some, Option, cond, false, true, refl, sym, subst, ap}
use Rattle.std.specs.List.{list_any}
use Rattle.std.specs.Option.{option_and_then, option_map_or}
use Rattle.model.specs.declared.value.Value.{Value}
use Rattle.model.specs.Classes.{Program}
use Rattle.model.specs.Lookup.{method_of, find_method}
use Rattle.model.specs.DescriptorParts.{classes_in}
use Rattle.model.specs.Resolution.{is_missing, called_classes}
use Rattle.std.proofs.lemmas.Bool.{or_cases, or_left, or_right}
use Rattle.model.specs.Operands.{values}
use Rattle.model.specs.Sites.{MeaningOf}
use Rattle.model.specs.Calls.{is_instance_one, of_class, call_wants, if_method, special_call, constructor_call}
use Rattle.constant_pool.specs.View.{reference_of}
use Rattle.hierarchy.specs.Places.{name_at, member_in}
use Rattle.instruction_types.specs.operand_types.View.{want_in}
use Rattle.instruction_types.specs.Answers.{Answers}
use Rattle.instruction_types.specs.Wants.{CallsOn, TellsCall}
use Rattle.instruction_types.proofs.Calling.{answers_call, answers_more, called_lacks, picked_method}
use Rattle.instruction_types.proofs.calls.invoke_special.Goals as goal

pub returns-then-is_constructor : goal.returns-then-is_constructor
returns-then-is_constructor c = λ site others current.
    let files = c.args.hierarchy.now in
    let m = reference_of c.args.method in
    let is = sym c.is_constructor.ensures ∙ c.if-is_constructor.true in
    let constructs = if_method is_instance_one files (constructor_call values files site) m in
    let calls = option_and_then (if_method is_instance_one files (special_call values files site m.class)) (find_method files m) in
    let classes = list_any (is_missing files) (called_classes (Some m)) in
    let described = list_any (is_missing files) (classes_in m.descriptor) in
    subst (λ (o : Option (MeaningOf Value)). Answers files site (classes || others) o c.invoke_constructor.result)
    (sym (ap (λ b. cond b constructs calls) is))
    (answers_more files site (described || others) (classes || others) constructs c.invoke_constructor.result
    (λ h. ⊎_elim (λ d. or_left classes others (called_lacks files m d)) (λ o. or_right classes others o) (or_cases described others h))
    (subst (λ (p : Program). Answers p site (list_any (is_missing p) (classes_in m.descriptor) || others) (if_method is_instance_one p (constructor_call values p site) m) c.invoke_constructor.result) c.set-set.ensures (c.invoke_constructor.ensures site others)))

pub returns : goal.returns
returns c = λ site others current.
    let files = c.args.hierarchy.now in
    let m = reference_of c.args.method in
    let found = member_in files m c.in-Some.found in
    let kind : option_map_or is_instance_one (method_of files found) false ≡ true =
    sym (subst (λ (p : Program). c.is_method_of_kind.result ≡ option_map_or is_instance_one (method_of p (member_in p m c.in-Some.found)) false) c.set-set.ensures c.is_method_of_kind.ensures) ∙ c.if-not-is_method_of_kind.false in
    let other = sym c.is_constructor.ensures ∙ c.if-is_constructor.false in
    let constructs = if_method is_instance_one files (constructor_call values files site) m in
    let calls = option_and_then (if_method is_instance_one files (special_call values files site m.class)) (find_method files m) in
    let receiver : want_in files c.object_at.result ≡ of_class files (name_at files c.args.current) =
    subst (λ (p : Program). want_in p c.object_at.result ≡ of_class p (name_at p c.args.current)) c.set-set.ensures c.object_at.ensures in
    answers_call files site m (called_classes (Some m)) (called_lacks files m) others (Some c.object_at.result) _ (special_call values files site m.class found) c.ordinary_call.result
    (ap (λ b. cond b constructs calls) other ∙ picked_method files is_instance_one (special_call values files site m.class) (find_method files m) found c.in-Some.ensures.found kind)
    (ap (λ class. call_wants files m (of_class files class ∷ [])) current ∙ ap (λ w. call_wants files m (w ∷ [])) (sym receiver))
    (λ ts ops rest. refl)
    (subst (λ (p : Program). TellsCall p m (CallsOn p m (Some c.object_at.result)) c.ordinary_call.result) c.set-set.ensures c.ordinary_call.ensures)
