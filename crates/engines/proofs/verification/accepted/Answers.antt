use Rattle.std.proofs.Common.{map, vec_items, sym, subst}
use Rattle.std.proofs.lemmas.Result.{err_from_is_err_and}
use Rattle.model.specs.Linkable.{IsLinkable}
use Rattle.engines.proofs.VerificationLemmas.{linking_refuses, verification_refuses}
use Rattle.engines.proofs.verification.accepted.Goals as goal

pub returns-in_err-linked-clause-refused : goal.returns-in_err-linked-clause-refused
returns-in_err-linked-clause-refused c =
    let p = err_from_is_err_and c.from_residual.result c.from_residual.ensures.1 in
    rw (p.1, p.2) (linking_refuses (map vec_items c.args.files.now) c.in_err-linked.field-0.0 c.in_err-linked.ensures.only c.in_err-linked.ensures.refused c.in_err-linked.ensures.line)

pub returns-in_err-verified-clause-refused : goal.returns-in_err-verified-clause-refused
returns-in_err-verified-clause-refused c =
    let p = err_from_is_err_and c.from_residual-in_err-verified.result c.from_residual-in_err-verified.ensures.1 in
    rw (p.1, p.2) (verification_refuses (map vec_items c.args.files.now) c.in_ok-linked.linked c.in_err-verified.field-0.0
    c.in_ok-linked.ensures.linked c.in_ok-linked.ensures.only c.in_err-verified.ensures.refused)

pub returns-clause-accepted : goal.returns-clause-accepted
returns-clause-accepted c =
    let verified = c.in_ok-verified.ensures.verified in
    record { linkable = subst (IsLinkable (map vec_items c.args.files.now)) (sym verified) c.in_ok-linked.ensures.linked; typed = c.linked.ensures.typed }
