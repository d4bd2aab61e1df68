use Rattle.std.proofs.Common.{Some, None, subst, sym}
use Rattle.std.proofs.lemmas.Result.{IfOk-weaker}
use Rattle.command_line.specs.Paths.{IsApart}
use Rattle.command_line.proofs.CommandLineLemmas.{first_is, refused_more}
use Rattle.command_line.proofs.paths.check_file.Goals as goal

pub returns-in-None-clause-apart : goal.returns-in-None-clause-apart
returns-in-None-clause-apart c = subst (λ w. IsApart w c.args.read.now) (sym (first_is c.args.matches.now c.args.option.now None c.in-None.ensures)) tt

pub returns-in-Some-clause-apart : goal.returns-in-Some-clause-apart
returns-in-Some-clause-apart c =
    let written = first_is c.args.matches.now c.args.option.now (Some c.in-Some.written.now) c.in-Some.ensures in
    IfOk-weaker c.check_path.result _ _ (λ done apart. subst (λ w. IsApart w c.args.read.now) (sym written) apart) c.check_path.ensures.apart

pub returns-in-Some-clause-none : goal.returns-in-Some-clause-none
returns-in-Some-clause-none c =
    let written = first_is c.args.matches.now c.args.option.now (Some c.in-Some.written.now) c.in-Some.ensures in
    refused_more c.check_path.result _ _ (λ none apart. none (subst (λ w. IsApart w c.args.read.now) written apart)) c.check_path.ensures.none
