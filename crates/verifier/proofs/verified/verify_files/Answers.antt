use Rattle.std.proofs.Common.{◌≡◌, ◌<◌, ◌≤◌, ◌+◌, ◌-◌, ◌∙◌, length, ap, subst, ⊎_elim, arith}
use Rattle.std.proofs.lemmas.Bool.{cases_lt}
use Rattle.model.specs.Classes.{classes_of}
use Rattle.verifier.specs.Places.{AreTypedIn}
use Rattle.verifier.specs.Steps.{steps_of_class, all_steps}
use Rattle.verifier.proofs.Members.{are_typed, none_past_classes}
use Rattle.verifier.proofs.Counting.{classes_steps, class_more, classes_within, refuses_more}
use Rattle.verifier.proofs.verified.verify_files.Goals as goal

pub loop-class-init : goal.loop-class-init
loop-class-init c =
    record { behind = omega arith; typed = λ k from below. absurd (omega (arith, from, below)); taken = λ costs are. omega arith }

pub loop-class-preserved : goal.loop-class-preserved
loop-class-preserved c =
    let files = c.args.hierarchy.now in
    let class = c.loop-class.class in
    let from = c.loop-class.invariant.behind in
    let place : 37 + (class - 37) ≡ class = omega (arith, from) in
    let next : (class - 37) + 1 ≡ (class + 1) - 37 = omega (arith, from) in
    record {
      behind = omega (arith, from);
      typed = λ k more below.
          ⊎_elim
          (λ (l : k < class). c.loop-class.invariant.typed k more l)
          (λ (l : class ≤ k). let same : class ≡ k = omega (arith, l, below) in subst (AreTypedIn files) same c.in_default.ensures.typed)
          (cases_lt k class);
      taken = λ costs are.
          let steps = class_more files costs (class - 37) in
          let of_class = ap (λ n. steps_of_class files n costs) place in
          let whole = ap (λ n. classes_steps files n costs) next in
          omega (arith, c.loop-class.invariant.taken costs are, c.in_default.ensures.taken costs are, steps, of_class, whole);
    }

pub returns-in-Err-clause-refused : goal.returns-in-Err-clause-refused
returns-in-Err-clause-refused c =
    let files = c.args.hierarchy.now in
    let class = c.loop-class.class in
    let from = c.loop-class.invariant.behind in
    let place : 37 + (class - 37) ≡ class = omega (arith, from) in
    refuses_more files (steps_of_class files class) (all_steps files) c.loop-class.steps.left c.args.steps.now.left c.in-Err.refusal
    (λ costs are fewer.
    let of_class = ap (λ n. steps_of_class files n costs) place in
    omega (arith, fewer, c.loop-class.invariant.taken costs are, class_more files costs (class - 37), of_class, classes_within files costs ((class - 37) + 1)))
    c.in-Err.ensures.refused

pub returns-clause-typed : goal.returns-clause-typed
returns-clause-typed c =
    let files = c.args.hierarchy.now in
    let count : c.count-class-end.result ≡ length (classes_of files) = c.count-class-end.ensures ∙ ap (λ s. length (classes_of s)) c.set.ensures in
    are_typed files
    (λ number.
    let class = 37 + number in
    let from : 37 ≤ class = omega arith in
    ⊎_elim (λ (l : class < c.count-class-end.result). c.loop-class.invariant.typed class from (omega arith)) (λ (l : c.count-class-end.result ≤ class). none_past_classes files class (omega (arith, count, l))) (cases_lt class c.count-class-end.result))
