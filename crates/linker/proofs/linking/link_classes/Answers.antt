use Rattle.std.proofs.Common.{◌∙◌, subst}
use Rattle.std.proofs.lemmas.Result.{err_from_is_err_and}
use Rattle.linker.specs.Linking.{RefusesTrees}
use Rattle.linker.specs.Telling.{TellsLine}
use Rattle.linker.proofs.linking.link_classes.Goals as goal

pub returns-in_err-check_profile-clause-refused : goal.returns-in_err-check_profile-clause-refused
returns-in_err-check_profile-clause-refused c =
    let e = c.in_err-check_profile.field-0.0 in
    let p = err_from_is_err_and c.from_residual-in_err-check_profile.result c.from_residual-in_err-check_profile.ensures.1 in
    rw (p.1, p.2) (subst (λ files. RefusesTrees files e.kind e.file e.cause) (c.in_ok-set.ensures.set) c.in_err-check_profile.ensures.refused)

pub returns-in_err-check_links-clause-refused : goal.returns-in_err-check_links-clause-refused
returns-in_err-check_links-clause-refused c =
    let e = c.in_err-check_links.field-0.0 in
    let p = err_from_is_err_and c.from_residual-in_err-check_links.result c.from_residual-in_err-check_links.ensures.1 in
    rw (p.1, p.2) (subst (λ files. RefusesTrees files e.kind e.file e.cause) (c.in_ok-hierarchy.ensures.set ∙ c.in_ok-set.ensures.set) c.in_err-check_links.ensures.refused)

pub returns-in_err-check_profile-clause-line : goal.returns-in_err-check_profile-clause-line
returns-in_err-check_profile-clause-line c =
    let e = c.in_err-check_profile.field-0.0 in
    let p = err_from_is_err_and c.from_residual-in_err-check_profile.result c.from_residual-in_err-check_profile.ensures.1 in
    rw (p.1, p.2) (subst (λ files. TellsLine files e.kind e) (c.in_ok-set.ensures.set) c.in_err-check_profile.ensures.line)

pub returns-in_err-check_links-clause-line : goal.returns-in_err-check_links-clause-line
returns-in_err-check_links-clause-line c =
    let e = c.in_err-check_links.field-0.0 in
    let p = err_from_is_err_and c.from_residual-in_err-check_links.result c.from_residual-in_err-check_links.ensures.1 in
    rw (p.1, p.2) (subst (λ files. TellsLine files e.kind e) (c.in_ok-hierarchy.ensures.set ∙ c.in_ok-set.ensures.set) c.in_err-check_links.ensures.line)
