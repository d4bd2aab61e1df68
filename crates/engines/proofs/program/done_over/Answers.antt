use Rattle.std.proofs.Common.{◌≡◌, List, ℕ, map, refl, subst, sym, vec_items}
use Rattle.std.specs.Prelude.{IfErr, IfOk, None}
use Rattle.std.specs.Io.KnownBytes.{Appends}
use Rattle.std.proofs.lemmas.Result.{IfErr-weaker, IfOk-weaker}
use Rattle.library_files.specs.Adding.{library_file}
use Rattle.engines.specs.Commands.{IsDoneOver, IsRacesDone, IsUndoneOver, Leaves, LeavesAt}
use Rattle.engines.specs.Files.{known}
use Rattle.engines.specs.Placings.{IsPlacesDone, IsPlacesUndone}
use Rattle.engines.specs.declared.status.Status.TheVariants.{Returned}
use Rattle.engines.proofs.program.done_over.Goals as goal

pub returns-in-Races-clause-done : goal.returns-in-Races-clause-done
returns-in-Races-clause-done g c =
    let held = g.F.Folder.held c.args.folder.now in
    let contents = g.W.Sink.contents in
    let old = contents c.args.output.now in
    let new = contents c.races.new.output in
    let given = c.args.given in
    let own = map library_file c.args.handed.now.own.items in
    let files = known (map vec_items c.args.handed.now.files.items) in
    let input = g.I.Source.remaining c.args.input.now in
    let raced = subst (λ whole. IfOk c.races.result (λ status. (text : List ℕ) × IsRacesDone held given (known (map vec_items whole)) c.in-Races.options text None status × Appends old new text))
    c.as_slice-files.ensures.value c.races.ensures.raced in
    subst (λ command. IfOk c.races.result (Leaves (IsDoneOver held given own files input command) old new held held)) (sym c.in-Races.is)
    (IfOk-weaker c.races.result _ _ (λ status done. (done.0, None, done.1, done.2, λ path. refl)) raced)

pub returns-in-Places-clause-done : goal.returns-in-Places-clause-done
returns-in-Places-clause-done g c =
    let held = g.F.Folder.held c.args.folder.now in
    let contents = g.W.Sink.contents in
    let old = contents c.args.output.now in
    let new = contents c.places.new.output in
    let given = c.args.given in
    let own = map library_file c.args.handed.now.own.items in
    let files = known (map vec_items c.args.handed.now.files.items) in
    let input = g.I.Source.remaining c.args.input.now in
    let placed = subst (λ whole. IfOk c.places.result (λ status. (text : List ℕ) × (status ≡ Returned) × IsPlacesDone held given (known (map vec_items whole)) c.in-Places.options text × Appends old new text))
    c.as_slice-files.ensures.value c.places.ensures.placed in
    subst (λ command. IfOk c.places.result (Leaves (IsDoneOver held given own files input command) old new held held)) (sym c.in-Places.is)
    (IfOk-weaker c.places.result _ _ (λ status done. (done.0, None, (done.2, refl, done.1), done.3, λ path. refl)) placed)

pub returns-in-Places-clause-faulty : goal.returns-in-Places-clause-faulty
returns-in-Places-clause-faulty g c =
    let held = g.F.Folder.held c.args.folder.now in
    let contents = g.W.Sink.contents in
    let old = contents c.args.output.now in
    let new = contents c.places.new.output in
    let given = c.args.given in
    let own = map library_file c.args.handed.now.own.items in
    let files = known (map vec_items c.args.handed.now.files.items) in
    let input = g.I.Source.remaining c.args.input.now in
    let unplaced = subst (λ whole. IfErr c.places.result (λ fault. IsPlacesUndone held given (known (map vec_items whole)) c.in-Places.options old new fault))
    c.as_slice-files.ensures.value c.places.ensures.faulty in
    subst (λ command. IfErr c.places.result (LeavesAt (IsUndoneOver held given own files input command old new) held held)) (sym c.in-Places.is)
    (IfErr-weaker c.places.result _ _ (λ fault undone. (None, (undone, refl), λ path. refl)) unplaced)
