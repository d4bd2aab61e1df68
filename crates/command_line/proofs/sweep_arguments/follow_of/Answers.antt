use Rattle.std.proofs.Common.{◌∙◌, Some, None, codes, sym}
use Rattle.std.proofs.lemmas.Bool.{true≢false}
use Rattle.std.proofs.lemmas.Result.{IfOk-weaker}
use Rattle.clap.specs.Words.{found_of, rows_of}
use Rattle.command_line.proofs.CommandLineLemmas.{first_is, refused_more}
use Rattle.command_line.proofs.SweepLemmas.{not_followed}
use Rattle.command_line.proofs.sweep_arguments.follow_of.Goals as goal

pub returns-in-Some-clause-follow : goal.returns-in-Some-clause-follow
returns-in-Some-clause-follow c =
    IfOk-weaker c.unfollowed.result _ _
    (λ same off. record { flag = off.0 ∙ sym off.1 ∙ c.is_set-follow.ensures; alone = λ on. absurd (true≢false (sym on ∙ off.0)) }) c.unfollowed.ensures.none

pub returns-in-Some-clause-none : goal.returns-in-Some-clause-none
returns-in-Some-clause-none c =
    let is = first_is c.args.matches.now (codes "seeds") (Some c.in-Some.field-0.now) c.in-Some.ensures in
    refused_more c.unfollowed.result _ _ (not_followed (rows_of (found_of c.args.matches.now)) _ c.is_set-follow.ensures c.in-Some.field-0.now is) c.unfollowed.ensures.refused

pub returns-in-None-clause-follow : goal.returns-in-None-clause-follow
returns-in-None-clause-follow c =
    record { flag = c.is_set-follow.ensures; alone = λ _. first_is c.args.matches.now (codes "seeds") None c.in-None.ensures }
