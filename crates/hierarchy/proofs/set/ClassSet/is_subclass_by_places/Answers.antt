use Rattle.std.proofs.Common.{◌∙◌, ◌<◌, length, sym, subst}
use Rattle.model.specs.Classes.{classes_of}
use Rattle.hierarchy.specs.Places.{name_at}
use Rattle.hierarchy.proofs.Chains.{subclass_next}
use Rattle.hierarchy.proofs.UpLaws.{one_up}
use Rattle.hierarchy.proofs.BelowLaws.{apart, within_nothing}
use Rattle.hierarchy.proofs.set.ClassSet.is_subclass_by_places.Goals as goal

pub returns-in_default : goal.returns-in_default
returns-in_default c =
    let files = c.args.self.now in
    let place = c.loop-step.place in
    let superclass = c.args.superclass in
    let more : c.loop-step._step < length (classes_of files) = subst (λ k. c.loop-step._step < k) c.count-step-end.ensures c.loop-step-test.true in
    let other = apart files place superclass c.loop-step.invariant.stood c.requires.superclass c.if-place-superclass.false in
    sym (within_nothing files (length (classes_of files)) c.loop-step._step place superclass (name_at files superclass) more c.loop-step.invariant.stood (sym c.in_default.ensures) other c.requires.superclass)
    ∙ c.loop-step.invariant.same

pub loop-step-preserved : goal.loop-step-preserved
loop-step-preserved c =
    let files = c.args.self.now in
    let place = c.loop-step.place in
    let superclass = c.args.superclass in
    let more : c.loop-step._step < length (classes_of files) = subst (λ k. c.loop-step._step < k) c.count-step-end.ensures c.loop-step-test.true in
    let other = apart files place superclass c.loop-step.invariant.stood c.requires.superclass c.if-place-superclass.false in
    let up = one_up files place c.in-Some.next c.loop-step.invariant.stood (sym c.in-Some.ensures) in
    record {
      stood = up.stood;
      same =
          sym (subclass_next files (length (classes_of files)) c.loop-step._step (name_at files place) (name_at files c.in-Some.next) (name_at files superclass) more other up.above)
          ∙ c.loop-step.invariant.same;
    }
