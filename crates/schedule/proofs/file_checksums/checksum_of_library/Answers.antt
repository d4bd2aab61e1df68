use Rattle.std.proofs.Common.{◌≡◌, ◌+◌, ◌++◌, [], ◌∷◌, map, take, vec_items, subst, sym, ap, ◌∙◌}
use Rattle.std.specs.List.{concat}
use Rattle.std.proofs.lemmas.List.{append-nil, map_more}
use Rattle.std.proofs.lemmas.List.Folds.{concat-append}
use Rattle.sha2.specs.Hashers.{Holds256}
use Rattle.schedule.proofs.file_checksums.checksum_of_library.Goals as goal

pub files-preserved : goal.files-preserved
files-preserved c =
    let i = c.files.file-index in
    let files = c.args.added.now in
    let file = c.file-item.result in
    let before = map vec_items (take i files) in
    let all : map vec_items (take (i + 1) files) ≡ before ++ vec_items file ∷ [] =
    map_more vec_items files i file c.files-test.true ∙ ap (λ f. before ++ vec_items f ∷ []) (sym c.file-item.is) in
    let more : concat before ++ vec_items file ≡ concat (map vec_items (take (i + 1) files)) =
    sym (ap concat all ∙ concat-append before (vec_items file ∷ []) ∙ ap (λ l. concat before ++ l) (append-nil (vec_items file))) in
    subst (λ m. Holds256 c.update.new.self m) (ap (λ bytes. concat before ++ bytes) c.as_slice.ensures.value ∙ more) (c.update.ensures (concat before) c.files.invariant)
