-- Changes of a frame type that are merged where its instruction leads.
use Rattle.std.proofs.Common.{◌≡◌, ℕ, zero, suc, ◌+◌, ◌<◌, ◌≤◌, List, [], ◌∷◌, ◌++◌, length, map, take, get_or, true, false, Option, Some, None, refl, sym, ap, ◌∙◌, subst, arith}
use Rattle.std.specs.Prelude.{slice_get, slice_set, option_map}
use Rattle.std.specs.List.{list_all}
use Rattle.std.proofs.lemmas.Option.{same_Some, slice_get-map, slice_get-get_or, slice_get_past}
use Rattle.std.proofs.lemmas.List.{length-map, length-set, take_all}
use Rattle.model.specs.TypeOrder.{FrameType, is_frame_below}
use Rattle.model.specs.Typing.{Typing, Reaches}
use Rattle.types.specs.declared.method_code.declaration.MethodCode.{MethodCode}
use Rattle.types.specs.method_code.View.{files_of, member_of, body_of}
use Rattle.run_laws.specs.typing_search.Orders.{IsOrdered}
use Rattle.run_laws.specs.typing_search.Search.{AreReached}
use Rattle.run_laws.specs.typing_search.Tables.{entry_of, waiting_at}
use Rattle.run_laws.proofs.typing_search.Searching.{raised_self, reaches_up}
use Rattle.verifier.specs.declared.flow.handler.Handler.{Handler}
use Rattle.verifier.specs.declared.flow.lead.Lead.{Lead}
use Rattle.verifier.specs.declared.found.Found.{Found}
use Rattle.verifier.specs.declared.look.Look.{Look}
use Rattle.verifier.specs.flow.Leads.{all_leads}
use Rattle.verifier.specs.Agreeing.{AgreeAt, DifferIn, HaveMoved}
use Rattle.verifier.specs.Changes.{fits, PartsDiffer, IsJoined}
use Rattle.verifier.specs.Looks.{offset_of, typing_in, MayPass, KeepsLooks, NotesAt, RaisesTo, RaisesAll, HasLed}
use Rattle.verifier.specs.Packed.{Parts, parts_in}
use Rattle.verifier.specs.Found.{tables_in, one_lead, AreOver, MergesInto}
use Rattle.verifier.proofs.Entries.{entry_written}
use Rattle.verifier.proofs.Looked.{kept_noting}
use Rattle.verifier.proofs.Merges as merges
use Rattle.verifier.proofs.Nears.{typed_in}
use Rattle.verifier.proofs.Raising.{differ_in, still_below, joined_is, each_fits, not_below, joins_at}
use Rattle.verifier.proofs.Untouched.{flow_moves}

none_some : {A : Type 0} (x : A) → None ≡ Some x → ⊥
none_some x e = cc

abbrev Led : Type 0
Led = ℕ × FrameType

abbrev place : Led → ℕ
place lead = lead.0

-- ---- one offset

module _ (m : MethodCode) (ordered : IsOrdered (files_of m)) where
  -- the tables are as long as before
  pub over_written : (before after : Found) (to : ℕ) (entry : Option Parts) → after.types.items ≡ slice_set before.types.items to entry
      → after.waiting ≡ waiting_at before.waiting to → AreOver (body_of m) (tables_in (files_of m) before) → AreOver (body_of m) (tables_in (files_of m) after)
  over_written before after to entry e f over =
      record {
        types = length-map after.types.items _ ∙ (ap length e ∙ (length-set before.types.items to entry ∙ (sym (length-map before.types.items _) ∙ over.types)));
        waiting = ap length f ∙ (length-set before.waiting to true ∙ over.waiting);
      }

  pub raises_nothing : (found : Found) (to : ℕ) (frame : Parts) (changed : List ℕ) → typing_in m found to ≡ None → RaisesTo m found to frame changed found
  raises_nothing found to frame changed none = λ u t r d a. absurd (none_some r.there (sym none ∙ r.typed))

  pub raises_past : (found : Found) (to : ℕ) (frame : Parts) (changed : List ℕ) → length found.types.items ≤ to → RaisesTo m found to frame changed found
  raises_past found to frame changed l = raises_nothing found to frame changed (ap entry_of (slice_get_past (tables_in (files_of m) found).types to (omega (arith, l, long))))
    where
      long : length (tables_in (files_of m) found).types ≡ length found.types.items
      long = length-map found.types.items (option_map (parts_in (files_of m)))

  module _ (before : Found) (over : AreOver (body_of m) (tables_in (files_of m) before)) (to : ℕ) (there frame : Parts) (changed : List ℕ)
      (at : slice_get before.types.items to ≡ Some (Some there)) where
    typed : slice_get (tables_in (files_of m) before).types to ≡ Some (Some (parts_in (files_of m) there))
    typed = typed_in (files_of m) before to there at

    -- what was merged is below what is there
    below : (u : FrameType) → Reaches (files_of m) (typing_in m before) to u → is_frame_below (files_of m) u (parts_in (files_of m) there) ≡ true
    below u r =
        let same : r.there ≡ parts_in (files_of m) there = same_Some r.there (parts_in (files_of m) there) (sym r.typed ∙ ap entry_of typed) in
        subst (λ t. is_frame_below (files_of m) u t ≡ true) same r.above

    pub raises_fit : list_all (fits (files_of m) there frame) changed ≡ true → RaisesTo m before to frame changed before
    raises_fit fit =
        λ u t r d a. (
          merges.fits (files_of m) ordered (body_of m) (tables_in (files_of m) before) over to t (parts_in (files_of m) there) typed
              (still_below (files_of m) changed u t (parts_in (files_of m) there) (below u r) d (each_fits (files_of m) changed there frame t a fit)),
          λ hs are. are,
        )

    -- a frame type that differs from the one there in what changed alone is merged by that
    pub raises_whole : PartsDiffer changed there frame → (after : Found) → RaisesTo m before to frame changed after
        → MergesInto m before (one_lead m to frame) after × KeepsLooks m before after
    raises_whole differ after raises =
        raises (parts_in (files_of m) there) (parts_in (files_of m) frame)
        (raised_self (files_of m) (typing_in m before) to (parts_in (files_of m) there) (ap entry_of typed))
        (differ_in (files_of m) changed there frame differ) (λ k e. refl)

    pub raises_join : (after : Found) (join : Parts) → list_all (fits (files_of m) there frame) changed ≡ false
        → IsJoined (files_of m) changed there frame join → after.types.items ≡ slice_set before.types.items to (Some join)
        → after.waiting ≡ waiting_at before.waiting to → NotesAt to changed before.looks.items after.looks.items → RaisesTo m before to frame changed after
    raises_join after join some is types waiting notes =
        λ u t r d a.
        let joins = joined_is (files_of m) changed u t (parts_in (files_of m) there) (below u r) d (parts_in (files_of m) join) (differ_in (files_of m) changed there join is.differ) (joins_at (files_of m) changed there frame t a join is) in
        let merged : MergesInto m before ((to, t) ∷ []) after =
        merges.joined (files_of m) ordered (body_of m) (tables_in (files_of m) before) over to t (tables_in (files_of m) after) (parts_in (files_of m) there) (parts_in (files_of m) join) typed
        (not_below (files_of m) changed there frame t a some) joins (entry_written (files_of m) before.types.items after.types.items to join types) waiting in
        (merged, λ hs are. kept_noting m ordered.rooted before after to join types merged.merged.raised hs are changed there (ap entry_of typed) (λ look e. is.differ) notes)

-- ---- several offsets

pub record MovedAt (m : MethodCode) (F : Typing) (ks : List ℕ) (t : FrameType) (ys : List Led) (i to : ℕ) : Type 0 where
  pub old : FrameType
  pub new : FrameType
  pub reached : Reaches (files_of m) F to old
  pub differ : DifferIn ks old new
  pub at : AgreeAt ks new.slots.locals t.slots.locals
  pub more : take (suc i) ys ≡ take i ys ++ (to, new) ∷ []

module _ (m : MethodCode) (F : Typing) (ks : List ℕ) (t : FrameType) where
  moved_at : (xs ys : List Led) (i to : ℕ) → HaveMoved ks t xs ys → AreReached (files_of m) F xs → slice_get (map place xs) i ≡ Some to → MovedAt m F ks t ys i to
  moved_at [] ys i to h r e = absurd cc
  moved_at (x ∷ xs) [] i to h r e = absurd h
  moved_at (x ∷ xs) (y ∷ ys) zero to h r e =
      let is : x.0 ≡ to = cc in
      record {
        old = x.1;
        new = y.1;
        reached = subst (λ k. Reaches (files_of m) F k x.1) is r.0;
        differ = h.1;
        at = h.2;
        more = ap (λ k. (k, y.1) ∷ []) (sym h.0 ∙ is);
      }
  moved_at (x ∷ xs) (y ∷ ys) (suc i) to h r e =
      let rest = moved_at xs ys i to h.3 r.1 e in
      record {
        old = rest.old;
        new = rest.new;
        reached = rest.reached;
        differ = rest.differ;
        at = rest.at;
        more = ap (λ l. y ∷ l) rest.more;
      }

  pub moved_long : (xs ys : List Led) → HaveMoved ks t xs ys → length ys ≡ length xs
  moved_long [] [] h = refl
  moved_long [] (y ∷ ys) h = absurd h
  moved_long (x ∷ xs) [] h = absurd h
  moved_long (x ∷ xs) (y ∷ ys) h = let l = moved_long xs ys h.3 in omega (arith, l)

  pub moved_places : (xs ys : List Led) → HaveMoved ks t xs ys → map place ys ≡ map place xs
  moved_places [] [] h = refl
  moved_places [] (y ∷ ys) h = absurd h
  moved_places (x ∷ xs) [] h = absurd h
  moved_places (x ∷ xs) (y ∷ ys) h = ap (λ k. k ∷ map place ys) (sym h.0) ∙ ap (λ l. x.0 ∷ l) (moved_places xs ys h.3)

-- the first of them
abbrev pub RaisesUpTo : MethodCode → Found → List ℕ → Parts → List ℕ → ℕ → Found → Type 0
RaisesUpTo m before tos frame changed i now =
    (xs ys : List Led) → map place xs ≡ tos → AreReached (files_of m) (typing_in m before) xs
    → HaveMoved changed (parts_in (files_of m) frame) xs ys → MergesInto m before (take i ys) now × KeepsLooks m before now

module _ (m : MethodCode) (ordered : IsOrdered (files_of m)) (before : Found) (leads : List Lead) (frame : Parts) (changed : List ℕ) where
  pub raises_none : AreOver (body_of m) (tables_in (files_of m) before) → RaisesUpTo m before (map offset_of leads) frame changed 0 before
  raises_none over =
      λ xs ys e r h. (merges.nothing (files_of m) ordered (body_of m) (tables_in (files_of m) before) over, λ hs are. are)

  pub raises_more : (i : ℕ) (d : Lead) (now next : Found) → i < length leads → RaisesUpTo m before (map offset_of leads) frame changed i now
      → RaisesTo m now (get_or leads i d).offset frame changed next → RaisesUpTo m before (map offset_of leads) frame changed (i + 1) next
  raises_more i d now next l done raise =
      λ xs ys e r h.
      let to = (get_or leads i d).offset in
      let first = done xs ys e r h in
      let stands : slice_get (map place xs) i ≡ Some to =
      ap (λ ks. slice_get ks i) e ∙ (slice_get-map offset_of leads i ∙ ap (λ o. option_offset o) (slice_get-get_or leads i d l)) in
      let moved = moved_at m (typing_in m before) changed (parts_in (files_of m) frame) xs ys i to h r stands in
      let reached = reaches_up (files_of m) ordered.rooted (typing_in m before) (typing_in m now) first.0.merged.raised to moved.old moved.reached in
      let one = raise moved.old moved.new reached moved.differ moved.at in
      let n : suc i ≡ i + 1 = omega arith in (
        subst (λ ls. MergesInto m before ls next) (sym moved.more ∙ ap (λ k. take k ys) n) (merges.follows (files_of m) ordered (body_of m) (tables_in (files_of m) before) (tables_in (files_of m) now) (tables_in (files_of m) next) (take i ys) ((to, moved.new) ∷ []) first.0 one.0),
        λ hs are. one.1 hs (first.1 hs are),
      )
    where
      option_offset : Option Lead → Option ℕ
      option_offset None = None
      option_offset (Some lead) = Some lead.offset

  pub raises_all : (i : ℕ) (now : Found) → length leads ≤ i → RaisesUpTo m before (map offset_of leads) frame changed i now
      → RaisesAll m before (map offset_of leads) frame changed now
  raises_all i now l done =
      λ xs ys e r h.
      let both = done xs ys e r h in
      let long : length ys ≡ length leads =
      moved_long m (typing_in m before) changed (parts_in (files_of m) frame) xs ys h ∙ (sym (length-map xs place) ∙ (ap length e ∙ length-map leads offset_of)) in
      let whole : take i ys ≡ ys = take_all i ys (omega (arith, long, l)) in
      (subst (λ ls. MergesInto m before ls now) whole both.0, both.1)

-- ---- an instruction that was looked at

-- what the local variables that changed are is all that is asked
moved_as : (ks : List ℕ) (s t : FrameType) → AgreeAt ks s.slots.locals t.slots.locals → (xs ys : List Led) → HaveMoved ks t xs ys → HaveMoved ks s xs ys
moved_as ks s t at [] [] h = tt
moved_as ks s t at [] (y ∷ ys) h = absurd h
moved_as ks s t at (x ∷ xs) [] h = absurd h
moved_as ks s t at (x ∷ xs) (y ∷ ys) h = (h.0, h.1, λ k e. h.2 k e ∙ sym (at k e), moved_as ks s t at xs ys h.3)

module _ (m : MethodCode) (hs : List Handler) (before after : Found) (offset : ℕ) (frame : Parts) (look : Look) (leads : List Lead) where
  pub passed_on : MayPass m hs before offset frame look → leads ≡ all_leads offset hs look.targets.items
      → RaisesAll m before (map offset_of leads) frame look.changed.items after → HasLed m hs before offset look.targets.items after
  passed_on may e raises =
      let l = may.looked in
      let moves = flow_moves look.changed.items (files_of m) l.before may.t l.since (member_of m) (body_of m) offset may.left l.leads l.flows in
      let to : map place l.leads ≡ map offset_of leads = l.to ∙ ap (map offset_of) (sym e) in
      let merged = raises l.leads moves.0 to l.reached (moved_as look.changed.items (parts_in (files_of m) frame) may.t may.holds l.leads moves.0 moves.2) in
      record {
        t = may.t;
        leads = moves.0;
        typed = may.typed;
        flows = moves.1;
        to = moved_places m (typing_in m before) look.changed.items may.t l.leads moves.0 moves.2 ∙ l.to;
        merged = merged.0;
        looks = merged.1;
      }
