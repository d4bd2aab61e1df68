-- A frame type that is put where another was, or none: what is merged by it, and what is known after it.
use Rattle.std.proofs.Common.{◌≡◌, ℕ, ◌<◌, List, [], ◌∷◌, length, get_or, true, Option, Some, None, refl, ap, ◌∙◌}
use Rattle.std.specs.Prelude.{slice_get, slice_set}
use Rattle.std.proofs.lemmas.Option.{slice_get_read}
use Rattle.model.specs.InstructionStarts.{is_start}
use Rattle.model.specs.TypeOrder.{is_frame_below}
use Rattle.model.specs.TypeJoin.{frame_join}
use Rattle.model.specs.Typing.{IsSized}
use Rattle.types.specs.declared.method_code.declaration.MethodCode.{MethodCode}
use Rattle.types.specs.method_code.View.{files_of, body_of}
use Rattle.run_laws.specs.typing_search.Orders.{IsOrdered}
use Rattle.run_laws.specs.typing_search.Tables.{entry_of, waiting_at}
use Rattle.verifier.specs.declared.found.Found.{Found}
use Rattle.verifier.specs.Looks.{KeepsLooks, NotesChange}
use Rattle.verifier.specs.Packed.{Parts, parts_in}
use Rattle.verifier.specs.Found.{tables_in, AreOver, MergesInto}
use Rattle.verifier.proofs.Entries.{entry_written}
use Rattle.verifier.proofs.Looked.{kept_forgetting, kept_noting}
use Rattle.verifier.proofs.Merges as merges
use Rattle.verifier.proofs.Nears.{typed_in}

pub there_at : (types : List (Option Parts)) (k : ℕ) (x y : Option Parts) → k < length types → x ≡ get_or types k x → x ≡ y → slice_get types k ≡ Some y
there_at types k x y l g e = slice_get_read types (length types) k x refl l g ∙ ap (λ o. Some o) e

module _ (m : MethodCode) (ordered : IsOrdered (files_of m)) (before after : Found) (over : AreOver (body_of m) (tables_in (files_of m) before))
    (to : ℕ) (t : Parts) (waiting : after.waiting ≡ waiting_at before.waiting to) where
  abbrev Merges : Type 0
  Merges = MergesInto m before ((to, parts_in (files_of m) t) ∷ []) after × KeepsLooks m before after

  pub first_put : slice_get (tables_in (files_of m) before).types to ≡ Some None → is_start (body_of m).code.code to ≡ true
      → IsSized (body_of m) (parts_in (files_of m) t) → after.types.items ≡ slice_set before.types.items to (Some t)
      → after.looks.items ≡ slice_set before.looks.items to None → Merges
  first_put at start size types looks =
      let files = files_of m in
      let merged : MergesInto m before ((to, parts_in files t) ∷ []) after =
      merges.first files ordered (body_of m) (tables_in files before) over to (parts_in files t) (tables_in files after) at start size (entry_written files before.types.items after.types.items to t types) waiting in
      (merged, λ hs are. kept_forgetting m ordered.rooted before after to t types merged.merged.raised hs are looks)

  pub joined_put : (there join : Parts) → slice_get before.types.items to ≡ Some (Some there)
      → (is_frame_below (files_of m) (parts_in (files_of m) t) (parts_in (files_of m) there) ≡ true → ⊥)
      → frame_join (files_of m) (parts_in (files_of m) there) (parts_in (files_of m) t) ≡ Some (parts_in (files_of m) join)
      → after.types.items ≡ slice_set before.types.items to (Some join) → NotesChange to join before after → Merges
  joined_put there join at misfit joins types notes =
      let files = files_of m in
      let typed = typed_in files before to there at in
      let merged : MergesInto m before ((to, parts_in files t) ∷ []) after =
      merges.joined files ordered (body_of m) (tables_in files before) over to (parts_in files t) (tables_in files after) (parts_in files there) (parts_in files join) typed misfit joins (entry_written files before.types.items after.types.items to join types) waiting in
      (merged, λ hs are. kept_noting m ordered.rooted before after to join types merged.merged.raised hs are notes.changed there (ap entry_of typed) (notes.differ there at) notes.notes)
