use Rattle.std.proofs.Common.{◌∙◌, length, vec_items, ap}
use Rattle.std.proofs.lemmas.List.{length-map}
use Rattle.engines.proofs.VerificationLemmas.{spelled_count}
use Rattle.engines.proofs.verification.accepted_count.Goals as goal

pub returns-clause-accepted : goal.returns-clause-accepted
returns-clause-accepted c =
    let accepted = c.in_ok-verified.ensures.accepted in
    let count = c.file_count.ensures ∙ ap length c.linked.ensures.same ∙ spelled_count _ _ accepted.linkable.spelled ∙ length-map c.args.files.now vec_items in
    (c.in_ok-verified.verified, accepted, count)
