use Rattle.std.proofs.Common.{arith, ◌≡◌, ◌⊎◌, ◌<◌, ◌∙◌, ℕ, length, map, vec_items, inl, inr, refl, ap, subst, sym}
use Rattle.std.proofs.lemmas.List.{length-map}
use Rattle.std.proofs.lemmas.Result.{err_from_is_err_and}
use Rattle.std.specs.Io.KnownBytes.{Appends}
use Rattle.model.specs.Devices.{AppendsFront}
use Rattle.model.specs.Linkable.{AreSpelled}
use Rattle.classfile.specs.View.{file_of}
use Rattle.listings.specs.class_listings.Listings.{IsFirstMalformed, listings, no_memory}
use Rattle.engines.proofs.ListingLemmas.{unread_is_unlisted, undecoded_is_unlisted, front_is_unlisted, listed_trees}
use Rattle.engines.proofs.listing.disasm_engine.Goals as goal

pub returns-in_err-files-clause-faulty : goal.returns-in_err-files-clause-faulty
returns-in_err-files-clause-faulty g c =
    let p = err_from_is_err_and c.from_residual.result c.from_residual.ensures.1 in
    let of_file = c.in_err-files.ensures.of_file in
    let remaining = g.S.Source.remaining in
    let within : of_file.0 < length (map remaining c.args.files.now) = omega (arith, of_file.1, length-map c.args.files.now remaining) in
    rw (p.1, p.2) (unread_is_unlisted _ _ _ of_file.0 within of_file.2)

pub returns-in_err-trees-clause-faulty : goal.returns-in_err-trees-clause-faulty
returns-in_err-trees-clause-faulty g c =
    let p = err_from_is_err_and c.from_residual-in_err-trees.result c.from_residual-in_err-trees.ensures.1 in
    let items = c.in_ok-files.files.items in
    let told = c.in_err-trees.ensures.refused in
    let same = c.as_slice.ensures.value in
    let count = ap length same ∙ sym (length-map items vec_items) in
    let refused : ((number : ℕ) × (number < length (map vec_items items)) × (c.in_err-trees.field-0.0 ≡ no_memory number)) ⊎ IsFirstMalformed (map vec_items items) c.in_err-trees.field-0.0 =
    elim told [
      | inl memory ↦ inl (memory.0, subst (λ n. memory.0 < n) count memory.1, memory.2)
      | inr first ↦ inr (subst (λ files. IsFirstMalformed (map vec_items files) c.in_err-trees.field-0.0) same first)
    ] in
    rw (p.1, p.2) (undecoded_is_unlisted _ (map vec_items items) _ _ c.in_ok-files.ensures.read refused)

pub returns-in_err-list_files-clause-faulty : goal.returns-in_err-list_files-clause-faulty
returns-in_err-list_files-clause-faulty g c =
    let p = err_from_is_err_and c.from_residual-in_err-list_files.result c.from_residual-in_err-list_files.ensures.1 in
    let contents = g.W.Sink.contents in
    let items = c.in_ok-files.files.items in
    let trees = c.in_ok-trees.trees.items in
    let spelled = subst (λ files. AreSpelled (map vec_items files) (map file_of trees)) c.as_slice.ensures.value c.in_ok-trees.ensures.spelled in
    let text = listed_trees c.as_slice-2.result.now ∙ ap (λ trees. listings (map file_of trees)) c.as_slice-2.ensures.value in
    let written = subst (AppendsFront (contents c.args.listing.now) (contents c.list_files.new.writer)) text c.in_err-list_files.ensures.written in
    rw (p.1, p.2) (front_is_unlisted _ _ _ _ (_, (map vec_items items, map file_of trees, c.in_ok-files.ensures.read, spelled, refl), written))

pub returns-clause-listed : goal.returns-clause-listed
returns-clause-listed g c =
    let contents = g.W.Sink.contents in
    let items = c.in_ok-files.files.items in
    let trees = c.in_ok-trees.trees.items in
    let spelled = subst (λ files. AreSpelled (map vec_items files) (map file_of trees)) c.as_slice.ensures.value c.in_ok-trees.ensures.spelled in
    let text = listed_trees c.as_slice-2.result.now ∙ ap (λ trees. listings (map file_of trees)) c.as_slice-2.ensures.value in
    let written = subst (Appends (contents c.args.listing.now) (contents c.list_files.new.writer)) text c.in_ok-list_files.ensures.written in
    (listings (map file_of trees), refl, (map vec_items items, map file_of trees, c.in_ok-files.ensures.read, spelled, refl), written)
