use Rattle.std.proofs.Common.{Some, None, codes, subst, sym}
use Rattle.std.specs.Prelude.{IfOk, IfErr}
use Rattle.command_line.specs.CommandLine.{Refuses}
use Rattle.command_line.specs.Sweeps.{IsSweepPolicy}
use Rattle.command_line.specs.declared.sweep_options.SweepPolicy.{SweepPolicy}
use Rattle.command_line.specs.declared.sweep_options.SweepPolicy.TheVariants.{Mixed}
use Rattle.command_line.proofs.CommandLineLemmas.{first_is}
use Rattle.command_line.proofs.sweep_arguments.sweep_policy_of.Goals as goal

pub returns-in-None-clause-policy : goal.returns-in-None-clause-policy
returns-in-None-clause-policy c = subst (λ t. IsSweepPolicy t Mixed) (sym (first_is c.args.matches.now (codes "policy") None c.in-None.ensures)) tt

pub returns-in-Some-clause-policy : goal.returns-in-Some-clause-policy
returns-in-Some-clause-policy c =
    subst (λ t. IfOk c.sweep_policy_by.result (IsSweepPolicy t)) (sym (first_is c.args.matches.now (codes "policy") (Some c.in-Some.word.now) c.in-Some.ensures)) c.sweep_policy_by.ensures.policy

pub returns-in-Some-clause-none : goal.returns-in-Some-clause-none
returns-in-Some-clause-none c =
    subst (λ t. IfErr c.sweep_policy_by.result (λ usage. Refuses usage ((policy : SweepPolicy) → IsSweepPolicy t policy → ⊥)))
    (sym (first_is c.args.matches.now (codes "policy") (Some c.in-Some.word.now) c.in-Some.ensures)) c.sweep_policy_by.ensures.none
