use Rattle.std.proofs.Common.{◌∙◌, ◌<◌, length, false, sym, ap, subst}
use Rattle.std.specs.Option.{option_map_or}
use Rattle.model.specs.Names.{name_eq}
use Rattle.model.specs.Classes.{classes_of}
use Rattle.hierarchy.specs.Places.{name_at}
use Rattle.hierarchy.proofs.Chains.{subclass_next}
use Rattle.hierarchy.proofs.UpLaws.{one_up}
use Rattle.hierarchy.proofs.BelowLaws.{present_differs, named_above, within_last}
use Rattle.hierarchy.proofs.set.ClassSet.is_below_absent.Goals as goal

pub returns-in_default : goal.returns-in_default
returns-in_default c =
    let files = c.args.self.now in
    let place = c.loop-step.place in
    let name = c.args.name.now in
    let more : c.loop-step._step < length (classes_of files) = subst (λ k. c.loop-step._step < k) c.count-step-end.ensures c.loop-step-test.true in
    let other = present_differs files place name c.loop-step.invariant.stood c.requires.absent in
    c.names_superclass.ensures
    ∙ ap (λ o. option_map_or (λ s. name_eq s name) o false) (sym (named_above files place c.loop-step.invariant.stood))
    ∙ sym (within_last files (length (classes_of files)) c.loop-step._step place name more c.loop-step.invariant.stood (sym c.in_default.ensures) other)
    ∙ c.loop-step.invariant.same

pub loop-step-preserved : goal.loop-step-preserved
loop-step-preserved c =
    let files = c.args.self.now in
    let place = c.loop-step.place in
    let name = c.args.name.now in
    let more : c.loop-step._step < length (classes_of files) = subst (λ k. c.loop-step._step < k) c.count-step-end.ensures c.loop-step-test.true in
    let other = present_differs files place name c.loop-step.invariant.stood c.requires.absent in
    let up = one_up files place c.in-Some.next c.loop-step.invariant.stood (sym c.in-Some.ensures) in
    record {
      stood = up.stood;
      same =
          sym (subclass_next files (length (classes_of files)) c.loop-step._step (name_at files place) (name_at files c.in-Some.next) name more other up.above)
          ∙ c.loop-step.invariant.same;
    }
