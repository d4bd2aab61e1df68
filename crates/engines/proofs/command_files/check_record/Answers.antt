use Rattle.std.proofs.Common.{inl, inr, map, string_bytes, subst}
use Rattle.std.proofs.lemmas.Result.{IfOk-weaker, err_from_is_err_and}
use Rattle.command_line.proofs.CommandLineLemmas.{refused_more, refuses_more}
use Rattle.engines.specs.Commands.{IsReadAt, IsReadIn, IsUnreadAt, IsUnreadIn, outcome_folder}
use Rattle.engines.proofs.command_files.check_record.Goals as goal

pub returns-in_err-check_path-clause-read : goal.returns-in_err-check_path-clause-read
returns-in_err-check_path-clause-read c =
    let p = err_from_is_err_and c.from_residual.result c.from_residual.ensures.1 in
    rw (p.1, p.2)
    (refuses_more c.in_err-check_path.field-0.0 _ _
    (λ read. inl (subst (λ path. IsReadAt path (map string_bytes c.args.files.now)) c.record_path.ensures read)) c.in_err-check_path.ensures.read)

pub returns-in_err-check_outcomes-clause-read : goal.returns-in_err-check_outcomes-clause-read
returns-in_err-check_outcomes-clause-read c =
    let p = err_from_is_err_and c.from_residual-in_err-check_outcomes.result c.from_residual-in_err-check_outcomes.ensures.1 in
    rw (p.1, p.2)
    (refuses_more c.in_err-check_outcomes.field-0.0 _ _
    (λ read. inr (inl (subst (λ folder. IsReadIn folder (map string_bytes c.args.files.now)) c.outcome_folder.ensures read))) c.in_err-check_outcomes.ensures.read)

pub returns-clause-apart : goal.returns-clause-apart
returns-clause-apart c =
    let files = map string_bytes c.args.files.now in
    let at = subst (λ path. IsUnreadAt path files) c.record_path.ensures c.in_ok-check_path.ensures.apart in
    let outcomes = subst (λ folder. IsUnreadIn folder files) c.outcome_folder.ensures c.in_ok-check_outcomes.ensures.apart in
    IfOk-weaker c.check_outcomes-2.result _ _
    (λ _ apart. (
      at,
      outcomes,
      subst (λ texts. IsUnreadIn (outcome_folder c.args.command.now) texts) c.sweep_texts.ensures
          (subst (λ folder. IsUnreadIn folder (map string_bytes c.sweep_texts.result.now)) c.outcome_folder-2.ensures apart),
    ))
    c.check_outcomes-2.ensures.apart

pub returns-clause-read : goal.returns-clause-read
returns-clause-read c =
    refused_more c.check_outcomes-2.result _ _
    (λ read. inr (inr (subst (λ texts. IsReadIn (outcome_folder c.args.command.now) texts) c.sweep_texts.ensures
    (subst (λ folder. IsReadIn folder (map string_bytes c.sweep_texts.result.now)) c.outcome_folder-2.ensures read))))
    c.check_outcomes-2.ensures.read
