use Rattle.std.proofs.Common.{arith, ◌≡◌, ◌⊎◌, ◌<◌, ◌∙◌, ℕ, [], length, map, vec_items, inl, inr, refl, ap, subst, sym}
use Rattle.std.proofs.lemmas.List.{length-map}
use Rattle.std.proofs.lemmas.Result.{err_from_is_err_and}
use Rattle.model.specs.Linkable.{AreSpelled}
use Rattle.classfile.specs.View.{file_of}
use Rattle.listings.specs.class_listings.Listings.{IsFirstMalformed, no_memory}
use Rattle.engines.proofs.ListingLemmas.{unread_is_unnamed, undecoded_is_unnamed, front_is_unnamed}
use Rattle.engines.proofs.VerificationLemmas.{none_written}
use Rattle.engines.proofs.names.names_engine.Goals as goal

pub returns-in_err-files-clause-faulty : goal.returns-in_err-files-clause-faulty
returns-in_err-files-clause-faulty g c =
    let p = err_from_is_err_and c.from_residual.result c.from_residual.ensures.1 in
    let of_file = c.in_err-files.ensures.of_file in
    let remaining = g.S.Source.remaining in
    let within : of_file.0 < length (map remaining c.args.files.now) = omega (arith, of_file.1, length-map c.args.files.now remaining) in
    rw (p.1, p.2) (unread_is_unnamed _ _ _ of_file.0 within of_file.2)

pub returns-in_err-trees-clause-faulty : goal.returns-in_err-trees-clause-faulty
returns-in_err-trees-clause-faulty g c =
    let p = err_from_is_err_and c.from_residual-in_err-trees.result c.from_residual-in_err-trees.ensures.1 in
    let items = c.in_ok-files.files.items in
    let told = c.in_err-trees.ensures.refused in
    let same = c.as_slice.ensures.value in
    let count = ap length same ∙ sym (length-map items vec_items) in
    let refused : ((number : ℕ) × (number < length (map vec_items items)) × (c.in_err-trees.field-0.0 ≡ no_memory number)) ⊎ IsFirstMalformed (map vec_items items) c.in_err-trees.field-0.0 =
    elim told [
      | inl memory ↦ inl (memory.0, subst (λ n. memory.0 < n) count memory.1, memory.2)
      | inr first ↦ inr (subst (λ files. IsFirstMalformed (map vec_items files) c.in_err-trees.field-0.0) same first)
    ] in
    rw (p.1, p.2) (undecoded_is_unnamed _ (map vec_items items) _ _ c.in_ok-files.ensures.read refused)

pub returns-in_err-text-clause-faulty : goal.returns-in_err-text-clause-faulty
returns-in_err-text-clause-faulty g c =
    let p = err_from_is_err_and c.from_residual-in_err-text.result c.from_residual-in_err-text.ensures.1 in
    let spelled = subst (λ files. AreSpelled (map vec_items files) (map file_of c.in_ok-trees.trees.items)) c.as_slice.ensures.value c.in_ok-trees.ensures.spelled in
    rw (p.1, p.2) ((map vec_items c.in_ok-files.files.items, map file_of c.in_ok-trees.trees.items, c.in_ok-files.ensures.read, spelled), [], none_written _ _)

pub returns-in_err-write_all-clause-faulty : goal.returns-in_err-write_all-clause-faulty
returns-in_err-write_all-clause-faulty g c =
    let p = err_from_is_err_and c.from_residual-in_err-write_all.result c.from_residual-in_err-write_all.ensures.1 in
    let spelled = subst (λ files. AreSpelled (map vec_items files) (map file_of c.in_ok-trees.trees.items)) c.as_slice.ensures.value c.in_ok-trees.ensures.spelled in
    rw (p.1, p.2) (front_is_unnamed _ _ _ _ ((map vec_items c.in_ok-files.files.items, map file_of c.in_ok-trees.trees.items, c.in_ok-files.ensures.read, spelled), _, c.in_err-write_all.ensures.part))

pub returns-clause-listed : goal.returns-clause-listed
returns-clause-listed g c =
    let spelled = subst (λ files. AreSpelled (map vec_items files) (map file_of c.in_ok-trees.trees.items)) c.as_slice.ensures.value c.in_ok-trees.ensures.spelled in
    (_, refl, (map vec_items c.in_ok-files.files.items, map file_of c.in_ok-trees.trees.items, c.in_ok-files.ensures.read, spelled), c.in_ok-write_all.ensures.written)
