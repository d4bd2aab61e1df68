use Rattle.std.proofs.Common.{subst}
use Rattle.run_laws.proofs.typing_search.Linking.{ordered_from}
use Rattle.verifier.specs.Steps.{all_steps}
use Rattle.verifier.specs.Places.{RefusesPart}
use Rattle.verifier.proofs.Limited.{refusal_limited}
use Rattle.verifier.proofs.verified.verify_within.Goals as goal

pub returns-in-Err-clause-refused : goal.returns-in-Err-clause-refused
returns-in-Err-clause-refused c =
    let refused = subst (λ files. RefusesPart files (all_steps files) c.new-steps.result.left c.in-Err.refusal) c.hierarchy.ensures.same c.in-Err.ensures.refused in
    subst (λ steps. RefusesPart c.args.linked (all_steps c.args.linked) steps c.in-Err.refusal) c.new-steps.ensures refused

pub returns-in-Err-clause-limited : goal.returns-in-Err-clause-limited
returns-in-Err-clause-limited c =
    refusal_limited c.args.linked (ordered_from c.args.linked c.hierarchy.ensures.linked.1.no_refusal) c.args.most c.in-Err.refusal (returns-in-Err-clause-refused c)
