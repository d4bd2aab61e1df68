use Rattle.std.proofs.Common.{◌≡◌, ◌<◌, ◌≤◌, ◌+◌, ◌∙◌, Some, length, ap, sym, ⊎_elim, below_none, below_more, arith}
use Rattle.std.proofs.lemmas.Bool.{cases_lt}
use Rattle.std.proofs.lemmas.List.{length-map}
use Rattle.hierarchy.specs.Places.{class_at}
use Rattle.classfile.specs.View.{file_of}
use Rattle.verifier.specs.Places.{IsTypedAt}
use Rattle.verifier.specs.Steps.{steps_at, steps_of_class}
use Rattle.verifier.proofs.Members.{none_past_methods}
use Rattle.verifier.proofs.Counting.{method_more, methods_within, refuses_more}
use Rattle.verifier.proofs.verified.verify_class.Goals as goal

pub loop-member-init : goal.loop-member-init
loop-member-init c =
    record { typed = below_none (IsTypedAt c.args.hierarchy.now c.args.class); taken = λ costs are. omega arith }

pub loop-member-preserved : goal.loop-member-preserved
loop-member-preserved c =
    let files = c.args.hierarchy.now in
    record {
      typed = below_more (IsTypedAt files c.args.class) _ c.loop-member.invariant.typed c.in_default-verify_at.ensures.typed;
      taken = λ costs are. omega (arith, c.loop-member.invariant.taken costs are, c.in_default-verify_at.ensures.taken costs are, method_more costs files c.args.class c.loop-member.member);
    }

pub returns-in-Err-clause-refused : goal.returns-in-Err-clause-refused
returns-in-Err-clause-refused c =
    let files = c.args.hierarchy.now in
    let class = c.args.class in
    let member = c.loop-member.member in
    refuses_more files (steps_at files class member) (steps_of_class files class) c.loop-member.steps.left c.args.steps.now.left c.in-Err.refusal
    (λ costs are fewer. omega (arith, fewer, c.loop-member.invariant.taken costs are, method_more costs files class member, methods_within costs files class (member + 1)))
    c.in-Err.ensures.refused

pub returns-clause-typed : goal.returns-clause-typed
returns-clause-typed c method =
    let files = c.args.hierarchy.now in
    let file = file_of c.in-Some.file.now in
    let at : class_at files c.args.class ≡ Some file = ap (λ s. class_at s c.args.class) (sym c.set.ensures) ∙ sym c.in-Some.ensures in
    let count : c.len-member-end.result ≡ length c.in-Some.file.now.methods.items = omega arith in
    let mapped : length file.methods ≡ length c.in-Some.file.now.methods.items = length-map _ _ in
    ⊎_elim (λ (l : method < c.len-member-end.result). c.loop-member.invariant.typed method (omega arith)) (λ (l : c.len-member-end.result ≤ method). none_past_methods files file c.args.class method at (omega (arith, count, mapped, l))) (cases_lt method c.len-member-end.result)

pub returns-clause-taken : goal.returns-clause-taken
returns-clause-taken c costs are =
    omega (arith, c.loop-member.invariant.taken costs are, methods_within costs c.args.hierarchy.now c.args.class c.loop-member.member)
