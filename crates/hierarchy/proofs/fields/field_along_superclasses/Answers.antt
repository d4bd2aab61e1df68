use Rattle.std.proofs.Common.{◌≡◌, ◌∙◌, ◌∷◌, [], ◌-◌, ◌<◌, List, Option, None, Some, length, refl, sym, ap, subst}
use Rattle.std.specs.Option.{option_or}
use Rattle.std.specs.List.{flat_map}
use Rattle.constant_pool.specs.View.{reference_of}
use Rattle.model.specs.Names.{Name, Member}
use Rattle.model.specs.Classes.{Program, class_of, classes_of, lineage_of, interfaces_above}
use Rattle.model.specs.Lookup.{field_in_class, first_found, find_field}
use Rattle.hierarchy.specs.Places.{name_at, member_in}
use Rattle.hierarchy.specs.MembersAt.{first_near}
use Rattle.hierarchy.specs.Fields.{SuperinterfacesAreFlat}
use Rattle.hierarchy.proofs.SetLaws.{field_of_none}
use Rattle.hierarchy.proofs.Walks.{found-append}
use Rattle.hierarchy.proofs.LineageLaws.{named_at}
use Rattle.hierarchy.proofs.Chains.{next_step}
use Rattle.hierarchy.proofs.UpLaws.{stood_at, one_up, none_above, none_further, found_first}
use Rattle.hierarchy.proofs.PlaceLaws.{of_sought}
use Rattle.hierarchy.proofs.FieldLaws.{along_superclasses}
use Rattle.hierarchy.proofs.fields.field_along_superclasses.Goals as goal

-- what is found in lists one after the other is found in all of them together
found_in_each : (f : Name → Option Member) (g : Name → List Name) (xs : List Name)
    → first_found f (flat_map g xs) ≡ first_found (λ x. first_found f (g x)) xs
found_in_each f g [] = refl
found_in_each f g (x ∷ xs) = found-append f (g x) (flat_map g xs) ∙ ap (option_or (first_found f (g x))) (found_in_each f g xs)

-- a name of no class has no field, and no superinterfaces
none_near : (files : Program) (m : Member) (class : Name) → class_of files class ≡ None → first_near (field_in_class files m) files class ≡ None
none_near files m class e = rw (field_of_none files m class e, e) refl

along : (files : Program) (m : Member) → SuperinterfacesAreFlat files
    → first_found (first_near (field_in_class files m) files) (lineage_of files (length (classes_of files) - 0) m.class) ≡ find_field files m
along files m flat =
    sym (found_in_each (field_in_class files m) (λ c. c ∷ interfaces_above files c) (lineage_of files (length (classes_of files) - 0) m.class)) ∙ along_superclasses files flat m

pub returns-in_default-clause-found : goal.returns-in_default-clause-found
returns-in_default-clause-found c =
    let files = c.args.set.now in
    let m = reference_of c.args.field in
    sym (none_above files (first_near (field_in_class files m) files) (none_near files m) (length (classes_of files) - 0) m.class (sym c.in_default.ensures.place))
    ∙ along files m c.requires.along

pub loop-step-init : goal.loop-step-init
loop-step-init c =
    let files = c.args.set.now in
    let m = reference_of c.args.field in
    record {
      stood = stood_at files m.class c.in-Some.start (sym c.in-Some.ensures.place);
      same =
          ap (λ (n : Name). first_found (first_near (field_in_class files m) files) (lineage_of files (length (classes_of files) - 0) n)) (named_at files m.class c.in-Some.start (sym c.in-Some.ensures.place))
          ∙ along files m c.requires.along;
    }

pub returns-in-Some-field_near-clause-found : goal.returns-in-Some-field_near-clause-found
returns-in-Some-field_near-clause-found c =
    let files = c.args.set.now in
    let m = reference_of c.args.field in
    let class = name_at files c.loop-step.class in
    let more : c.loop-step._step < length (classes_of files) = subst (λ k. c.loop-step._step < k) c.count-step-end.ensures c.loop-step-test.true in
    let here : Some (member_in files m c.in-Some-field_near.found) ≡ first_near (field_in_class files m) files class =
    of_sought (λ f n. Some (member_in f n c.in-Some-field_near.found) ≡ first_near (field_in_class f n) f (name_at f c.loop-step.class)) c.sought-sought.result files m c.sought-sought.ensures.files c.sought-sought.ensures.member c.in-Some-field_near.ensures.found in
    sym (found_first files (first_near (field_in_class files m) files) (length (classes_of files)) c.loop-step._step class (member_in files m c.in-Some-field_near.found) more (sym here))
    ∙ c.loop-step.invariant.same

pub returns-in_default-superclass_place-clause-found : goal.returns-in_default-superclass_place-clause-found
returns-in_default-superclass_place-clause-found c =
    let files = c.args.set.now in
    let m = reference_of c.args.field in
    let class = name_at files c.loop-step.class in
    let none : None ≡ first_near (field_in_class files m) files class =
    of_sought (λ f n. None ≡ first_near (field_in_class f n) f (name_at f c.loop-step.class)) c.sought-sought.result files m c.sought-sought.ensures.files c.sought-sought.ensures.member c.in_default-field_near.ensures.found in
    sym (none_further files (first_near (field_in_class files m) files) (none_near files m) (length (classes_of files) - c.loop-step._step) c.loop-step.class c.loop-step.invariant.stood (sym c.in_default-superclass_place.ensures) (sym none))
    ∙ c.loop-step.invariant.same

pub loop-step-preserved : goal.loop-step-preserved
loop-step-preserved c =
    let files = c.args.set.now in
    let m = reference_of c.args.field in
    let class = name_at files c.loop-step.class in
    let next = c.in-Some-superclass_place.next in
    let none : None ≡ first_near (field_in_class files m) files class =
    of_sought (λ f n. None ≡ first_near (field_in_class f n) f (name_at f c.loop-step.class)) c.sought-sought.result files m c.sought-sought.ensures.files c.sought-sought.ensures.member c.in_default-field_near.ensures.found in
    let up = one_up files c.loop-step.class next c.loop-step.invariant.stood (sym c.in-Some-superclass_place.ensures) in
    let more : c.loop-step._step < length (classes_of files) = subst (λ k. c.loop-step._step < k) c.count-step-end.ensures c.loop-step-test.true in
    record {
      stood = up.stood;
      same =
          sym (next_step files (length (classes_of files)) c.loop-step._step class (name_at files next) (first_near (field_in_class files m) files) more (sym none) up.above)
          ∙ c.loop-step.invariant.same;
    }
