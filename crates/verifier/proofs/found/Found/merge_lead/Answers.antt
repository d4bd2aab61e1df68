use Rattle.std.proofs.Common.{◌∷◌, [], subst, sym}
use Rattle.types.specs.method_code.View.{files_of}
use Rattle.verifier.specs.Found.{led_to, ClashesWith}
use Rattle.verifier.specs.Verified.{OnUnverified}
use Rattle.verifier.proofs.Entries.{lead_caught}
use Rattle.verifier.proofs.Nears.{raised_near}
use Rattle.verifier.proofs.found.Found.merge_lead.Goals as goal

pub returns-in-Err-clause-clash : goal.returns-in-Err-clause-clash
returns-in-Err-clause-clash c =
    let m = c.args.method.now in
    subst (λ o. OnUnverified c.in-Err.fault (ClashesWith m c.args.self.now ((c.args.lead.offset, led_to (files_of m) c.args.origin.now.before c.args.origin.now.after o) ∷ []))) (sym c.in-None.is) c.in-Err.ensures.clash

pub returns-in-Err-merge-clause-clash : goal.returns-in-Err-merge-clause-clash
returns-in-Err-merge-clause-clash c =
    let m = c.args.method.now in
    let kept = c.in_ok-leave_on_stack-in-Some.ensures in
    let same = c.in_ok-raise_near-in-Some.ensures.same c.if-branch.false in
    subst (λ found. OnUnverified c.in-Err-merge.fault (ClashesWith m found ((c.args.lead.offset, led_to (files_of m) c.args.origin.now.before c.args.origin.now.after c.args.lead.handler) ∷ []))) same
    (subst (λ t. OnUnverified c.in-Err-merge.fault (ClashesWith m c.raise_near.new.self ((c.args.lead.offset, t) ∷ []))) (lead_caught (files_of m) c.args.origin.now.before c.args.origin.now.after c.leave_on_stack.new.self c.in-Some.handler _ kept.locals kept.stack kept.constructed c.in-Some.is) c.in-Err-merge.ensures.clash)

pub returns-then-branch-clause-merged : goal.returns-then-branch-clause-merged
returns-then-branch-clause-merged c =
    let m = c.args.method.now in
    let origin = c.args.origin.now in
    (raised_near m c.args.self.now c.raise_near.new.self origin.before origin.after origin.near c.args.lead c.in-Some.handler c.in-Some.is (c.in_ok-raise_near-in-Some.ensures.raised c.if-branch.true) c.requires.known).0

pub returns-then-branch-clause-looks : goal.returns-then-branch-clause-looks
returns-then-branch-clause-looks c =
    let m = c.args.method.now in
    let origin = c.args.origin.now in
    (raised_near m c.args.self.now c.raise_near.new.self origin.before origin.after origin.near c.args.lead c.in-Some.handler c.in-Some.is (c.in_ok-raise_near-in-Some.ensures.raised c.if-branch.true) c.requires.known).1
