use Rattle.std.proofs.Common.{◌≡◌, ◌∙◌, ◌-◌, ◌<◌, length, arith, None, Some, sym, ap, subst}
use Rattle.std.specs.Option.{option_map}
use Rattle.constant_pool.specs.View.{reference_of}
use Rattle.model.specs.Names.{Name}
use Rattle.model.specs.Classes.{classes_of, lineage, lineage_of}
use Rattle.model.specs.Lookup.{method_in_class, first_found}
use Rattle.hierarchy.specs.Places.{name_at, member_in}
use Rattle.hierarchy.specs.MembersAt.{method_at}
use Rattle.hierarchy.specs.Wanted.{wants}
use Rattle.hierarchy.proofs.SetLaws.{method_of_none}
use Rattle.hierarchy.proofs.PlaceLaws.{method_by_place}
use Rattle.hierarchy.proofs.LineageLaws.{named_at}
use Rattle.hierarchy.proofs.Chains.{next_step}
use Rattle.hierarchy.proofs.UpLaws.{stood_at, one_up, none_above, none_further, found_first}
use Rattle.hierarchy.proofs.set.ClassSet.method_above.Goals as goal

pub returns-in_default-clause-found : goal.returns-in_default-clause-found
returns-in_default-clause-found c =
    let files = c.args.self.now in
    let m = reference_of c.args.method in
    sym (none_above files (method_in_class files (wants c.args.wanted) m) (method_of_none files (wants c.args.wanted) m) (length (classes_of files)) c.args.class.now (sym c.in_default.ensures.place))

pub loop-step-init : goal.loop-step-init
loop-step-init c =
    let files = c.args.self.now in
    let found = method_in_class files (wants c.args.wanted) (reference_of c.args.method) in
    let whole : length (classes_of files) - 0 ≡ length (classes_of files) = omega arith in
    record {
      stood = stood_at files c.args.class.now c.in-Some.start (sym c.in-Some.ensures.place);
      same =
          ap (λ n. first_found found (lineage_of files n (name_at files c.in-Some.start))) whole
          ∙ ap (λ (n : Name). first_found found (lineage files n)) (named_at files c.args.class.now c.in-Some.start (sym c.in-Some.ensures.place));
    }

pub returns-in-Some-method_at-clause-found : goal.returns-in-Some-method_at-clause-found
returns-in-Some-method_at-clause-found c =
    let files = c.args.self.now in
    let m = reference_of c.args.method in
    let wanted = wants c.args.wanted in
    let place = c.loop-step.place in
    let at : Some c.in-Some-method_at.found ≡ method_at files wanted m place =
    c.in-Some-method_at.ensures ∙ ap (λ f. method_at f wanted c.sought-sought.result.member place) c.sought-sought.ensures.files
    ∙ ap (λ n. method_at files wanted n place) c.sought-sought.ensures.member in
    let here = method_by_place files m wanted (name_at files place) place c.loop-step.invariant.stood in
    let more : c.loop-step._step < length (classes_of files) = subst (λ k. c.loop-step._step < k) c.count-step-end.ensures c.loop-step-test.true in
    sym (found_first files (method_in_class files wanted m) (length (classes_of files)) c.loop-step._step (name_at files place) (member_in files m c.in-Some-method_at.found) more (sym here ∙ ap (option_map (member_in files m)) (sym at)))
    ∙ c.loop-step.invariant.same

pub returns-in_default-superclass_place-clause-found : goal.returns-in_default-superclass_place-clause-found
returns-in_default-superclass_place-clause-found c =
    let files = c.args.self.now in
    let m = reference_of c.args.method in
    let wanted = wants c.args.wanted in
    let place = c.loop-step.place in
    let at : method_at files wanted m place ≡ None =
    sym (c.in_default-method_at.ensures ∙ ap (λ f. method_at f wanted c.sought-sought.result.member place) c.sought-sought.ensures.files
    ∙ ap (λ n. method_at files wanted n place) c.sought-sought.ensures.member) in
    let here = method_by_place files m wanted (name_at files place) place c.loop-step.invariant.stood in
    sym (none_further files (method_in_class files wanted m) (method_of_none files wanted m) (length (classes_of files) - c.loop-step._step) place c.loop-step.invariant.stood (sym c.in_default-superclass_place.ensures) (sym here ∙ ap (option_map (member_in files m)) at))
    ∙ c.loop-step.invariant.same

pub loop-step-preserved : goal.loop-step-preserved
loop-step-preserved c =
    let files = c.args.self.now in
    let m = reference_of c.args.method in
    let wanted = wants c.args.wanted in
    let place = c.loop-step.place in
    let next = c.in-Some-superclass_place.next in
    let at : method_at files wanted m place ≡ None =
    sym (c.in_default-method_at.ensures ∙ ap (λ f. method_at f wanted c.sought-sought.result.member place) c.sought-sought.ensures.files
    ∙ ap (λ n. method_at files wanted n place) c.sought-sought.ensures.member) in
    let here = method_by_place files m wanted (name_at files place) place c.loop-step.invariant.stood in
    let up = one_up files place next c.loop-step.invariant.stood (sym c.in-Some-superclass_place.ensures) in
    let more : c.loop-step._step < length (classes_of files) = subst (λ k. c.loop-step._step < k) c.count-step-end.ensures c.loop-step-test.true in
    record {
      stood = up.stood;
      same =
          sym (next_step files (length (classes_of files)) c.loop-step._step (name_at files place) (name_at files next) (method_in_class files wanted m) more (sym here ∙ ap (option_map (member_in files m)) at) up.above)
          ∙ c.loop-step.invariant.same;
    }
