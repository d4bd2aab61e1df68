use Rattle.std.proofs.Common.{arith, ◌≡◌, ◌+◌, ◌++◌, suc, append_assoc, sym, ap, subst, ◌∙◌}
use Rattle.std.specs.Option.{option_map_or, option_to_list}
use Rattle.std.specs.List.{filter}
use Rattle.std.specs.Prelude.{length}
use Rattle.std.proofs.lemmas.List.{append-nil}
use Rattle.model.specs.Lookup.{own_instance_fields}
use Rattle.model.specs.Tree.{FileTree}
use Rattle.hierarchy.specs.Places.{class_at, place_of}
use Rattle.data_races.specs.EventActions.{is_variable}
use Rattle.field_names.specs.instance_variables.Declared.{AreFields, variable_at}
use Rattle.field_names.proofs.instance_variables.Lists.{pushed}
use Rattle.field_names.proofs.instance_variables.Own.{none_own, own_is, variables_to}
use Rattle.field_names.proofs.instance_variables.push_own.Goals as goal

pub returns-in_default : goal.returns-in_default
returns-in_default c before h =
    let files = c.args.linked.now in
    let none = none_own files c.args.class.now (c.in_default.ensures.place ∙ ap (λ f. place_of f c.args.class.now) c.set.ensures.same) in
    subst (λ l. AreFields files l c.args.told.now.items) (sym (ap (λ l. before ++ l) none ∙ append-nil before)) h

pub fields-preserved : goal.fields-preserved
fields-preserved c before h =
    let files = c.args.linked.now in
    let so_far = variables_to files c.in-Some.place c.fields.field in
    let field = variable_at files c.in-Some.place c.fields.field in
    let next : suc c.fields.field ≡ c.fields.field + 1 = omega arith in
    subst (λ k. AreFields files (before ++ variables_to files c.in-Some.place k) c.push.new.told.items) next
    (subst (λ l. AreFields files l c.push.new.told.items) (append_assoc before so_far (option_to_list field))
    (pushed files (before ++ so_far) c.fields.told.items c.push.new.told.items field c.instance_variable.result (c.fields.invariant before h) c.instance_variable.ensures c.in_ok-push.ensures))

pub returns : goal.returns
returns c before h =
    let files = c.args.linked.now in
    let count = c.field_count-count.result in
    let counted : count ≡ option_map_or (λ (file : FileTree). length file.fields) (class_at files c.in-Some.place) 0 =
    c.field_count-count.ensures ∙ ap (λ f. option_map_or (λ (file : FileTree). length file.fields) (class_at f c.in-Some.place) 0) c.set-2.ensures.same in
    let all : c.fields.field ≡ count = omega (arith, c.fields-test.false, c.fields.auto.field-end) in
    let own : variables_to files c.in-Some.place c.fields.field ≡ filter is_variable (own_instance_fields files c.args.class.now) =
    ap (variables_to files c.in-Some.place) all
    ∙ own_is files c.args.class.now c.in-Some.place (c.in-Some.ensures.place ∙ ap (λ f. place_of f c.args.class.now) c.set.ensures.same) count counted in
    subst (λ l. AreFields files (before ++ l) c.fields.told.items) own (c.fields.invariant before h)
