use Rattle.std.proofs.Common.{◌∙◌, [], List, map, ap, subst}
use Rattle.std.specs.List.{flat_map}
use Rattle.std.proofs.lemmas.Result.{IfOk-weaker}
use Rattle.class_tree.specs.View.{file_of}
use Rattle.library_files.specs.Needs.{needed_classes}
use Rattle.library_files.specs.Adding.{library_file, kept_at}
use Rattle.library_files.specs.Offers.{AddsPlaces, is_among}
use Rattle.library_files.proofs.Turns.{files_added, are_added}
use Rattle.library_files.proofs.Missing.{nothing_added, no_classes}
use Rattle.library_files.proofs.adding.added_classes.Goals as goal

pub returns-clause-added : goal.returns-clause-added
returns-clause-added c =
    let library = map library_file c.args.library.now in
    let files = map file_of c.args.files.now in
    let first = c.add_all_needed.new.places.items in
    let places = c.add_in_turn.new.places.items in
    let begun : AddsPlaces library files [] first (flat_map needed_classes files) =
    subst (λ old. AddsPlaces library files old first (flat_map needed_classes files)) c.new-places.ensures.items (c.in_ok-add_all_needed.ensures files (c.deref.ensures.value ∙ c.in_ok-offers.ensures)) in
    let turned = c.in_ok-add_in_turn.ensures files (c.deref-2.ensures.value ∙ c.in_ok-offers.ensures) (files_added library files first begun) in
    IfOk-weaker c.classes_at.result _ _ (λ added are. are_added library files first places (map library_file added.items) begun turned (are ∙ ap (λ l. kept_at (is_among l) 0 library) c.deref-3.ensures.value)) c.classes_at.ensures

pub returns-clause-none : goal.returns-clause-none
returns-clause-none c = λ resolved.
    let library = map library_file c.args.library.now in
    let files = map file_of c.args.files.now in
    let first = c.add_all_needed.new.places.items in
    let places = c.add_in_turn.new.places.items in
    let begun : AddsPlaces library files [] first (flat_map needed_classes files) =
    subst (λ old. AddsPlaces library files old first (flat_map needed_classes files)) c.new-places.ensures.items (c.in_ok-add_all_needed.ensures files (c.deref.ensures.value ∙ c.in_ok-offers.ensures)) in
    let turned = c.in_ok-add_in_turn.ensures files (c.deref-2.ensures.value ∙ c.in_ok-offers.ensures) (files_added library files first begun) in
    IfOk-weaker c.classes_at.result _ _
    (λ added are. no_classes added.items (nothing_added library files (map library_file added.items) (are_added library files first places (map library_file added.items) begun turned (are ∙ ap (λ l. kept_at (is_among l) 0 library) c.deref-3.ensures.value)) resolved))
    c.classes_at.ensures
