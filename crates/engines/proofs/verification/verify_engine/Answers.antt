use Rattle.std.proofs.Common.{arith, ◌<◌, ◌∙◌, length, map, vec_items, inr, refl, ap, subst, sym}
use Rattle.std.proofs.lemmas.List.{length-map}
use Rattle.std.proofs.lemmas.Result.{err_from_is_err_and}
use Rattle.std.specs.Io.KnownBytes.{Appends}
use Rattle.model.specs.Devices.{AppendsFront}
use Rattle.model.specs.Accepted.{IsAccepted}
use Rattle.engines.specs.Refusals.{IsRefused}
use Rattle.library_files.specs.Adding.{library_file}
use Rattle.engines.specs.Verifications.{verified_text}
use Rattle.engines.proofs.VerificationLemmas.{unread_is_unaccepted, none_written, front_is_unaccepted}
use Rattle.engines.proofs.verification.verify_engine.Goals as goal

pub returns-in_err-files-clause-faulty : goal.returns-in_err-files-clause-faulty
returns-in_err-files-clause-faulty g c =
    let p = err_from_is_err_and c.from_residual.result c.from_residual.ensures.1 in
    let of_file = c.in_err-files.ensures.of_file in
    let remaining = g.S.Source.remaining in
    let within : of_file.0 < length (map remaining c.args.files.now) = omega (arith, of_file.1, length-map c.args.files.now remaining) in
    rw (p.1, p.2) (unread_is_unaccepted _ _ _ _ _ of_file.0 within of_file.2)

pub returns-in_err-count-clause-faulty : goal.returns-in_err-count-clause-faulty
returns-in_err-count-clause-faulty g c =
    let p = err_from_is_err_and c.from_residual-in_err-count.result c.from_residual-in_err-count.ensures.1 in
    let refused = subst (λ files. IsRefused (map vec_items files) c.in_err-count.field-0.0) c.as_slice.ensures.value c.in_err-count.ensures.refused in
    rw (p.1, p.2) (refl, inr (map vec_items c.in_ok-files.files.items, c.in_ok-files.ensures.read, refused))

pub returns-in_err-text-clause-faulty : goal.returns-in_err-text-clause-faulty
returns-in_err-text-clause-faulty g c =
    let p = err_from_is_err_and c.from_residual-in_err-text.result c.from_residual-in_err-text.ensures.1 in
    let told = c.in_ok-count.ensures.accepted in
    let accepted = subst (λ files. IsAccepted (map vec_items files) told.0) c.as_slice.ensures.value told.1 in
    rw (p.1, p.2) (_, (map vec_items c.in_ok-files.files.items, told.0, c.in_ok-files.ensures.read, accepted, refl), none_written _ _)

pub returns-in_err-write_all-clause-faulty : goal.returns-in_err-write_all-clause-faulty
returns-in_err-write_all-clause-faulty g c =
    let p = err_from_is_err_and c.from_residual-in_err-write_all.result c.from_residual-in_err-write_all.ensures.1 in
    let contents = g.W.Sink.contents in
    let told = c.in_ok-count.ensures.accepted in
    let accepted = subst (λ files. IsAccepted (map vec_items files) told.0) c.as_slice.ensures.value told.1 in
    let count = told.2 ∙ ap length c.as_slice.ensures.value ∙ sym (length-map c.in_ok-files.files.items vec_items) in
    let line = c.as_slice-2.ensures.value ∙ c.in_ok-text.ensures ∙ ap (verified_text c.args.given (map library_file c.args.own.now)) count in
    let written = subst (AppendsFront (contents c.args.line.now) (contents c.write_all.new.self)) line c.in_err-write_all.ensures.part in
    rw (p.1, p.2) (front_is_unaccepted _ _ _ _ _ _ (_, (map vec_items c.in_ok-files.files.items, told.0, c.in_ok-files.ensures.read, accepted, refl), written))

pub returns-clause-verified : goal.returns-clause-verified
returns-clause-verified g c =
    let contents = g.W.Sink.contents in
    let told = c.in_ok-count.ensures.accepted in
    let accepted = subst (λ files. IsAccepted (map vec_items files) told.0) c.as_slice.ensures.value told.1 in
    let count = told.2 ∙ ap length c.as_slice.ensures.value ∙ sym (length-map c.in_ok-files.files.items vec_items) in
    let line = c.as_slice-2.ensures.value ∙ c.in_ok-text.ensures ∙ ap (verified_text c.args.given (map library_file c.args.own.now)) count in
    let written = subst (Appends (contents c.args.line.now) (contents c.write_all.new.self)) line c.in_ok-write_all.ensures.written in
    (_, refl, (map vec_items c.in_ok-files.files.items, told.0, c.in_ok-files.ensures.read, accepted, refl), written)
