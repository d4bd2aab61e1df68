use Rattle.std.proofs.Common.{◌≡◌, ◌∙◌, List, true, false, ℕ, drop, map, take, vec_items, ap, subst, sym}
use Rattle.std.specs.Prelude.{is_some}
use Rattle.std.proofs.lemmas.List.{drop-map, take-map}
use Rattle.schedule.specs.Files.{AreRecorded}
use Rattle.engines.proofs.recording.differ.Goals as goal

pub returns-in-None-clause-fit : goal.returns-in-None-clause-fit
returns-in-None-clause-fit c = λ same.
    let files = c.args.files.now in
    let n = c.args.given in
    let given : map vec_items c.given_files.result.now ≡ take n (map vec_items files) = ap (map vec_items) c.given_files.ensures ∙ sym (take-map vec_items n files) in
    let added : map vec_items c.added_files.result.now ≡ drop n (map vec_items files) = ap (map vec_items) c.added_files.ensures ∙ sym (drop-map vec_items n files) in
    let recorded = c.difference.ensures.0 (ap is_some c.in-None.is) in
    subst (AreRecorded c.args.recording.now (take n (map vec_items files))) added
    (subst (λ (f : List (List ℕ)). AreRecorded c.args.recording.now f (map vec_items c.added_files.result.now)) given recorded)

pub returns-in-Some-clause-differ : goal.returns-in-Some-clause-differ
returns-in-Some-clause-differ c = λ other are.
    let files = c.args.files.now in
    let n = c.args.given in
    let given : map vec_items c.given_files.result.now ≡ take n (map vec_items files) = ap (map vec_items) c.given_files.ensures ∙ sym (take-map vec_items n files) in
    let added : map vec_items c.added_files.result.now ≡ drop n (map vec_items files) = ap (map vec_items) c.added_files.ensures ∙ sym (drop-map vec_items n files) in
    let recorded : AreRecorded c.args.recording.now (map vec_items c.given_files.result.now) (map vec_items c.added_files.result.now) =
    subst (AreRecorded c.args.recording.now (map vec_items c.given_files.result.now)) (sym added)
    (subst (λ (f : List (List ℕ)). AreRecorded c.args.recording.now f (drop n (map vec_items files))) (sym given) are) in
    let none : is_some c.difference.result ≡ false = c.difference.ensures.1 recorded in
    let some : is_some c.difference.result ≡ true = ap is_some c.in-Some.is in
    absurd cc
