-- What is known of an instruction that was looked at: where it led from a frame type, and in which local variables that before it
-- differs by now.
use Rattle.std.specs.Prelude.{◌≡◌, ℕ, ◌≤◌, length, List, [], ◌∷◌, Option, Some, true, false, map, slice_get, slice_set, IfSome}
use Rattle.std.specs.Global.{Vec}
use Rattle.model.specs.Sites.{Site, site_at}
use Rattle.model.specs.Typing.{Typing, Reaches, flow}
use Rattle.model.specs.TypeOrder as frames
use Rattle.types.specs.declared.method_code.declaration.MethodCode.{MethodCode}
use Rattle.types.specs.method_code.View.{files_of, member_of, body_of}
use Rattle.run_laws.specs.typing_search.Search.{AreReached}
use Rattle.run_laws.specs.typing_search.Tables.{typing_of, waits}
use Rattle.verifier.specs.declared.flow.handler.Handler.{Handler}
use Rattle.verifier.specs.declared.flow.lead.Lead.{Lead}
use Rattle.verifier.specs.declared.found.Found.{Found}
use Rattle.verifier.specs.declared.look.Look.{Look}
use Rattle.verifier.specs.flow.Leads.{all_leads}
use Rattle.verifier.specs.flow.Untouched.{leaves}
use Rattle.verifier.specs.Agreeing.{is_among, AgreeAt, DifferIn, HaveMoved}
use Rattle.verifier.specs.Changes.{PartsDiffer}
use Rattle.verifier.specs.Packed.{Parts, parts_in}
use Rattle.verifier.specs.Worklist.{look_steps}
use Rattle.verifier.specs.Found.{tables_in, MergesInto}

abbrev pub offset_of : Lead → ℕ
offset_of lead = lead.offset

-- the typing that was found
abbrev pub typing_in : MethodCode → Found → Typing
typing_in m found = typing_of (tables_in (files_of m) found).types

-- the instruction at an offset neither reads nor writes any of these local variables
abbrev pub LeavesAt : MethodCode → ℕ → List ℕ → Type 0
LeavesAt m offset locals = (site : Site) → site_at (member_of m) (body_of m) offset ≡ Some site → leaves site locals ≡ true

-- ---- looks

-- From a frame type that differs from this one in the local variables of the look alone the instruction led to the offsets of the
-- look, and all that it led to is reached.
pub record IsLook (m : MethodCode) (hs : List Handler) (F : Typing) (offset : ℕ) (t : frames.FrameType) (look : Look) : Type 0 where
  pub before : frames.FrameType
  pub leads : List (ℕ × frames.FrameType)
  pub since : DifferIn look.changed.items before t
  pub flows : flow (files_of m) (member_of m) (body_of m) offset before ≡ Some leads
  pub to : map (λ (lead : ℕ × frames.FrameType). lead.0) leads ≡ map offset_of (all_leads offset hs look.targets.items)
  pub reached : AreReached (files_of m) F leads

-- so it is at each offset of which there is a look
abbrev pub AreLooks : MethodCode → List Handler → Found → Type 0
AreLooks m hs found =
    (k : ℕ) (look : Look) → slice_get found.looks.items k ≡ Some (Some look) → (t : frames.FrameType) → typing_in m found k ≡ Some t
    → IsLook m hs (typing_in m found) k t look

-- each look that is kept was kept before
abbrev pub AddsNoLook : List (Option Look) → List (Option Look) → Type 0
AddsNoLook before after = (k : ℕ) (look : Look) → slice_get after k ≡ Some (Some look) → slice_get before k ≡ Some (Some look)

abbrev pub KeepsLooks : MethodCode → Found → Found → Type 0
KeepsLooks m before after = (hs : List Handler) → AreLooks m hs before → AreLooks m hs after

-- An instruction was looked at, and has nothing to do with what changed since. This frame type has in these local variables what that
-- before the instruction has.
pub record MayPass (m : MethodCode) (hs : List Handler) (found : Found) (offset : ℕ) (frame : Parts) (look : Look) : Type 0 where
  pub t : frames.FrameType
  pub typed : typing_in m found offset ≡ Some t
  pub looked : IsLook m hs (typing_in m found) offset t look
  pub left : LeavesAt m offset look.changed.items
  pub holds : AgreeAt look.changed.items (parts_in (files_of m) frame).slots.locals t.slots.locals

-- ---- as frame types change

-- a look after more local variables changed
pub record IsLookAfter (locals : List ℕ) (before after : Look) : Type 0 where
  pub targets : after.targets.items ≡ before.targets.items
  pub changed : (k : ℕ) → is_among after.changed.items k ≡ false → (is_among before.changed.items k ≡ false) × (is_among locals k ≡ false)

-- at an offset nothing is known any more, or local variables were noted that changed
pub record NotesAt (offset : ℕ) (changed : List ℕ) (before after : List (Option Look)) : Type 0 where
  pub entry : Option Look
  pub set : after ≡ slice_set before offset entry
  pub noted : (look : Look) → entry ≡ Some look → (old : Look) × ((slice_get before offset ≡ Some (Some old)) × IsLookAfter changed old look)

-- so it is of local variables in which a frame type differs from that there, where something is known still
pub record NotesChange (offset : ℕ) (join : Parts) (before after : Found) : Type 0 where
  pub changed : List ℕ
  pub differ : (there : Parts) → slice_get before.types.items offset ≡ Some (Some there) → (look : Look)
      → slice_get after.looks.items offset ≡ Some (Some look) → PartsDiffer changed there join
  pub notes : NotesAt offset changed before.looks.items after.looks.items

-- at an offset that doesn't wait it is known that its instruction led to these, and that nothing changed since
pub record SettlesAt (offset : ℕ) (targets : List ℕ) (before after : Found) : Type 0 where
  pub stays : waits before.waiting offset ≡ true → after.looks.items ≡ before.looks.items
  pub settled : waits before.waiting offset ≡ false → (look : Look) × ((after.looks.items ≡ slice_set before.looks.items offset (Some look))
      × (look.targets.items ≡ targets) × (look.changed.items ≡ []))

-- ---- changes that are merged

-- into the frame type at an offset: it is at or above one that differs from another in these local variables alone, and that one is merged
abbrev pub RaisesTo : MethodCode → Found → ℕ → Parts → List ℕ → Found → Type 0
RaisesTo m before to frame changed after =
    (u t : frames.FrameType) → Reaches (files_of m) (typing_in m before) to u → DifferIn changed u t
    → AgreeAt changed t.slots.locals (parts_in (files_of m) frame).slots.locals
    → MergesInto m before ((to, t) ∷ []) after × KeepsLooks m before after

-- into those at some offsets
abbrev pub RaisesAll : MethodCode → Found → List ℕ → Parts → List ℕ → Found → Type 0
RaisesAll m before tos frame changed after =
    (xs ys : List (ℕ × frames.FrameType)) → map (λ (lead : ℕ × frames.FrameType). lead.0) xs ≡ tos
    → AreReached (files_of m) (typing_in m before) xs → HaveMoved changed (parts_in (files_of m) frame) xs ys
    → MergesInto m before ys after × KeepsLooks m before after

-- an instruction led to these offsets, and then to its handlers, and all that it led to was merged
pub record HasLed (m : MethodCode) (hs : List Handler) (before : Found) (offset : ℕ) (targets : List ℕ) (after : Found) : Type 0 where
  pub t : frames.FrameType
  pub leads : List (ℕ × frames.FrameType)
  pub typed : typing_in m before offset ≡ Some t
  pub flows : flow (files_of m) (member_of m) (body_of m) offset t ≡ Some leads
  pub to : map (λ (lead : ℕ × frames.FrameType). lead.0) leads ≡ map offset_of (all_leads offset hs targets)
  pub merged : MergesInto m before leads after
  pub looks : KeepsLooks m before after

-- so many steps are no more than a look takes that leads to these offsets and to the handlers
abbrev pub IsLookOver : MethodCode → List Handler → ℕ → List ℕ → ℕ → Type 0
IsLookOver m hs offset targets steps = steps ≤ look_steps (body_of m) offset (length (all_leads offset hs targets))

-- so it was to some offsets, which are told or not, by a look
pub record HasLedTo (m : MethodCode) (hs : List Handler) (before : Found) (offset : ℕ) (told : Option (Vec ℕ)) (steps : ℕ) (after : Found) : Type 0 where
  pub targets : List ℕ
  pub led : HasLed m hs before offset targets after
  pub are : IfSome told (λ v. v.items ≡ targets)
  pub within : IsLookOver m hs offset targets steps
