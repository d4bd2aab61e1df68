-- What is known of instructions stays so while frame types are merged.
use Rattle.std.proofs.Common.{◌≡◌, ℕ, zero, suc, List, length, [], ◌∷◌, map, Bool, true, false, Option, Some, None, refl, sym, ap, ◌∙◌, subst, ⊎_elim}
use Rattle.std.specs.Prelude.{replicate, slice_get, slice_set, option_map, Result, Ok, Err, IfOk, IfSome}
use Rattle.std.specs.Global.{Vec}
use Rattle.std.proofs.lemmas.Bool.{cases_eq}
use Rattle.std.proofs.lemmas.Option.{same_Some}
use Rattle.model.specs.TypeOrder.{FrameType}
use Rattle.model.specs.Typing.{Typing, flow}
use Rattle.types.specs.declared.method_code.declaration.MethodCode.{MethodCode}
use Rattle.types.specs.method_code.View.{files_of, member_of, body_of}
use Rattle.run_laws.specs.laws.Steps.{Rooted}
use Rattle.run_laws.specs.typing_search.Search.{Raised}
use Rattle.run_laws.specs.typing_search.Tables.{entry_of, typing_of, waits}
use Rattle.run_laws.proofs.typing_search.Merging.{get_set_other}
use Rattle.run_laws.proofs.typing_search.Searching.{all_up}
use Rattle.verifier.specs.declared.flow.handler.Handler.{Handler}
use Rattle.verifier.specs.declared.found.Found.{Found}
use Rattle.verifier.specs.declared.look.Look.{Look}
use Rattle.verifier.specs.flow.Leads.{all_leads}
use Rattle.verifier.specs.Agreeing.{is_among, AgreeBut, DifferIn}
use Rattle.verifier.specs.Changes.{PartsDiffer, DiffersAt}
use Rattle.verifier.specs.Looks.{offset_of, typing_in, AddsNoLook, IsLook, AreLooks, NotesAt, NotesChange, SettlesAt, HasLed}
use Rattle.verifier.specs.Packed.{Parts, parts_in}
use Rattle.verifier.specs.Found.{tables_in}
use Rattle.verifier.proofs.Agreeing.{but_self}
use Rattle.verifier.proofs.Entries.{entry_written}
use Rattle.verifier.proofs.Raising.{differ_in}

-- ---- frame types that differ

pub differ_self : (ks : List ℕ) (t : FrameType) → DifferIn ks t t
differ_self ks t = record { locals = but_self ks t.slots.locals; stack = refl; constructed = refl }

-- the places at which lists differ, after they differed at some and then at others
pub but_either : {A : Type 0} (ks js ls : List ℕ) (xs ys zs : List A)
    → ((k : ℕ) → is_among ls k ≡ false → (is_among ks k ≡ false) × (is_among js k ≡ false)) → AgreeBut ks xs ys → AgreeBut js ys zs
    → AgreeBut ls xs zs
but_either ks js ls xs ys zs h a b =
    record {
      long = a.long ∙ b.long;
      same = λ k n. let parts = h k n in a.same k parts.0 ∙ b.same k parts.1;
    }

differ_either : (ks js ls : List ℕ) (a b c : FrameType)
    → ((k : ℕ) → is_among ls k ≡ false → (is_among ks k ≡ false) × (is_among js k ≡ false)) → DifferIn ks a b → DifferIn js b c → DifferIn ls a c
differ_either ks js ls a b c h d e =
    record {
      locals = but_either ks js ls a.slots.locals b.slots.locals c.slots.locals h d.locals e.locals;
      stack = d.stack ∙ e.stack;
      constructed = d.constructed ∙ e.constructed;
    }

-- ---- entries

value_set : {A : Type 0} (xs : List A) (k : ℕ) (v w : A) → slice_get (slice_set xs k v) k ≡ Some w → v ≡ w
value_set [] k v w e = absurd cc
value_set (x ∷ xs) zero v w e = cc
value_set (x ∷ xs) (suc k) v w e = value_set xs k v w e

-- where there is something to be set
is_set : {A : Type 0} (xs : List A) (k : ℕ) (v w : A) → slice_get (slice_set xs k v) k ≡ Some w → (x : A) × (slice_get xs k ≡ Some x)
is_set [] k v w e = absurd cc
is_set (x ∷ xs) zero v w e = (x, refl)
is_set (x ∷ xs) (suc k) v w e = is_set xs k v w e

none_is : {A : Type 0} (x : A) → None ≡ Some x → ⊥
none_is x e = cc

module _ (m : MethodCode) (rooted : Rooted (files_of m)) where
  -- the same look, of what is reached still
  up : (hs : List Handler) (F G : Typing) (k : ℕ) (t : FrameType) (look : Look) → Raised (files_of m) F G → IsLook m hs F k t look → IsLook m hs G k t look
  up hs F G k t look r l =
      record {
        before = l.before;
        leads = l.leads;
        since = l.since;
        flows = l.flows;
        to = l.to;
        reached = all_up (files_of m) rooted F G r l.leads l.reached;
      }

  module _ (before after : Found) where
    abbrev F : Typing
    F = typing_in m before

    abbrev G : Typing
    G = typing_in m after

    -- ---- a frame type that is put

    module _ (to : ℕ) (next : Parts) (types : after.types.items ≡ slice_set before.types.items to (Some next)) (raised : Raised (files_of m) F G) where
      put : (tables_in (files_of m) after).types ≡ slice_set (tables_in (files_of m) before).types to (Some (parts_in (files_of m) next))
      put = entry_written (files_of m) before.types.items after.types.items to next types

      elsewhere : (k : ℕ) → (k ≡ to → ⊥) → G k ≡ F k
      elsewhere k n =
          ap (λ l. entry_of (slice_get l k)) put
          ∙ ap entry_of (get_set_other (tables_in (files_of m) before).types to k (Some (parts_in (files_of m) next)) n)

      here : (t : FrameType) → G to ≡ Some t → t ≡ parts_in (files_of m) next
      here t e = by (slice_get (slice_set (tables_in (files_of m) before).types to (Some (parts_in (files_of m) next))) to) refl (sym (ap (λ l. entry_of (slice_get l to)) put) ∙ e)
        where
          by : (o : Option (Option FrameType)) → slice_get (slice_set (tables_in (files_of m) before).types to (Some (parts_in (files_of m) next))) to ≡ o
              → entry_of o ≡ Some t → t ≡ parts_in (files_of m) next
          by None q f = absurd (none_is t f)
          by (Some x) q f =
              let same : Some (parts_in (files_of m) next) ≡ x = value_set (tables_in (files_of m) before).types to (Some (parts_in (files_of m) next)) x q in
              sym (same_Some (parts_in (files_of m) next) t (same ∙ f))

      module _ (hs : List Handler) (are : AreLooks m hs before) where
        other : (entry : Option Look) → after.looks.items ≡ slice_set before.looks.items to entry → (k : ℕ) (look : Look) → (k ≡ to → ⊥)
            → slice_get after.looks.items k ≡ Some (Some look) → (t : FrameType) → G k ≡ Some t → IsLook m hs G k t look
        other entry set k look n e t f =
            let at : slice_get before.looks.items k ≡ Some (Some look) =
            sym (get_set_other before.looks.items to k entry n) ∙ (ap (λ l. slice_get l k) (sym set) ∙ e) in
            up hs F G k t look raised (are k look at t (sym (elsewhere k n) ∙ f))

        is_entry : (entry : Option Look) → after.looks.items ≡ slice_set before.looks.items to entry → (look : Look)
            → slice_get after.looks.items to ≡ Some (Some look) → entry ≡ Some look
        is_entry entry set look e = value_set before.looks.items to entry (Some look) (ap (λ l. slice_get l to) (sym set) ∙ e)

        -- nothing is known there any more
        pub kept_forgetting : after.looks.items ≡ slice_set before.looks.items to None → AreLooks m hs after
        kept_forgetting set k look e t f =
            ⊎_elim
            (λ q. absurd (none_is look (is_entry None set look (subst (λ j. slice_get after.looks.items j ≡ Some (Some look)) q e))))
            (λ n. other None set k look n e t f)
            (cases_eq k to)

        module _ (changed : List ℕ) (there : Parts) (at : F to ≡ Some (parts_in (files_of m) there))
            (differ : (look : Look) → slice_get after.looks.items to ≡ Some (Some look) → PartsDiffer changed there next)
            (notes : NotesAt to changed before.looks.items after.looks.items) where
          noted_here : (look : Look) → slice_get after.looks.items to ≡ Some (Some look) → (t : FrameType) → G to ≡ Some t → IsLook m hs G to t look
          noted_here look e t f =
              let old = notes.noted look (is_entry notes.entry notes.set look e) in
              let l = are to old.0 old.1.0 (parts_in (files_of m) there) at in
              record {
                before = l.before;
                leads = l.leads;
                since =
                    subst (DifferIn look.changed.items l.before) (sym (here t f))
                    (differ_either old.0.changed.items changed look.changed.items l.before (parts_in (files_of m) there) (parts_in (files_of m) next) old.1.1.changed l.since (differ_in (files_of m) changed there next (differ look e)));
                flows = l.flows;
                to = l.to ∙ ap (λ tos. map offset_of (all_leads to hs tos)) (sym old.1.1.targets);
                reached = all_up (files_of m) rooted F G raised l.leads l.reached;
              }

          pub kept_noting : AreLooks m hs after
          kept_noting k look e t f =
              ⊎_elim
              (λ q. subst (λ j. IsLook m hs G j t look) (sym q) (noted_here look (subst (λ j. slice_get after.looks.items j ≡ Some (Some look)) q e) t (subst (λ j. G j ≡ Some t) q f)))
              (λ n. other notes.entry notes.set k look n e t f)
              (cases_eq k to)

    -- ---- the same frame types

    module _ (same : after.types.items ≡ before.types.items) (hs : List Handler) where
      abbrev over : List (Option Parts) → Typing
      over types = typing_of (map (option_map (parts_in (files_of m))) types)

      same_look : (k : ℕ) (look : Look) → ((t : FrameType) → F k ≡ Some t → IsLook m hs F k t look) → (t : FrameType) → G k ≡ Some t → IsLook m hs G k t look
      same_look k look h = subst (λ types. (t : FrameType) → over types k ≡ Some t → IsLook m hs (over types) k t look) (sym same) h

      pub kept_fewer : AddsNoLook before.looks.items after.looks.items → AreLooks m hs before → AreLooks m hs after
      kept_fewer fewer are k look e = same_look k look (are k look (fewer k look e))

      kept_all : after.looks.items ≡ before.looks.items → AreLooks m hs before → AreLooks m hs after
      kept_all set are k look e = same_look k look (are k look (ap (λ l. slice_get l k) (sym set) ∙ e))

      -- what is known once all is merged to which an instruction led
      module _ (begun : Found) (offset : ℕ) (targets : List ℕ) (led : HasLed m hs begun offset targets before) (settles : SettlesAt offset targets before after) (are : AreLooks m hs before) where
        by_waits : (b : Bool) → waits before.waiting offset ≡ b → AreLooks m hs after
        by_waits true w = kept_all (settles.stays w) are
        by_waits false w = settled
          where
            new : (look : Look) × ((after.looks.items ≡ slice_set before.looks.items offset (Some look)) × (look.targets.items ≡ targets) × (look.changed.items ≡ []))
            new = settles.settled w

            settled_here : (look : Look) → Some (Some look) ≡ Some (Some new.0) → (t : FrameType) → F offset ≡ Some t → IsLook m hs F offset t look
            settled_here look e t f =
                let is : new.0 ≡ look = sym (same_Some look new.0 (same_Some (Some look) (Some new.0) e)) in
                let was : led.t ≡ t = same_Some led.t t (sym led.typed ∙ (led.merged.merged.waiting offset t f w).0) in
                record {
                  before = t;
                  leads = led.leads;
                  since = differ_self look.changed.items t;
                  flows = subst (λ x. flow (files_of m) (member_of m) (body_of m) offset x ≡ Some led.leads) was led.flows;
                  to = led.to ∙ ap (λ tos. map offset_of (all_leads offset hs tos)) (sym new.1.1 ∙ ap (λ (l : Look). l.targets.items) is);
                  reached = led.merged.merged.reached;
                }

            settled : AreLooks m hs after
            settled k look e =
                let at : slice_get (slice_set before.looks.items offset (Some new.0)) k ≡ Some (Some look) = ap (λ l. slice_get l k) (sym new.1.0) ∙ e in
                ⊎_elim
                (λ q. subst (λ j. (t : FrameType) → G j ≡ Some t → IsLook m hs G j t look) (sym q)
                (same_look offset look (settled_here look (ap (λ o. Some o) (sym (value_set before.looks.items offset (Some new.0) (Some look) (subst (λ j. slice_get (slice_set before.looks.items offset (Some new.0)) j ≡ Some (Some look)) q at)))))))
                (λ n. same_look k look (are k look (sym (get_set_other before.looks.items offset k (Some new.0) n) ∙ at)))
                (cases_eq k offset)

        pub kept_settling : AreLooks m hs after
        kept_settling = by_waits (waits before.waiting offset) refl

-- ---- what is taken

pub taken_adds_none : (offset : ℕ) (before after : List (Option Look)) → after ≡ slice_set before offset None → AddsNoLook before after
taken_adds_none offset before after set k look e =
    let at : slice_get (slice_set before offset None) k ≡ Some (Some look) = ap (λ l. slice_get l k) (sym set) ∙ e in
    ⊎_elim
    (λ q. absurd (none_is look (value_set before offset None (Some look) (subst (λ j. slice_get (slice_set before offset None) j ≡ Some (Some look)) q at))))
    (λ n. sym (get_set_other before offset k None n) ∙ at)
    (cases_eq k offset)

pub adds_none_twice : (before between after : List (Option Look)) → AddsNoLook before between → AddsNoLook between after → AddsNoLook before after
adds_none_twice before between after f g k look e = f k look (g k look e)

pub known_before : (offset : ℕ) (before after : List (Option Look)) (o : Option Look) → AddsNoLook before after
    → IfSome o (λ look. slice_get after offset ≡ Some (Some look)) → IfSome o (λ look. slice_get before offset ≡ Some (Some look))
known_before offset before after None f e = tt
known_before offset before after (Some look) f e = f offset look e

-- ---- what is noted

set_twice : {A : Type 0} (xs : List A) (k : ℕ) (v w : A) → slice_set (slice_set xs k v) k w ≡ slice_set xs k w
set_twice [] k v w = refl
set_twice (x ∷ xs) zero v w = refl
set_twice (x ∷ xs) (suc k) v w = ap (λ l. x ∷ l) (set_twice xs k v w)

pub notes_nothing : (offset : ℕ) (changed : List ℕ) (before after : List (Option Look)) → after ≡ slice_set before offset None → NotesAt offset changed before after
notes_nothing offset changed before after e = record { entry = None; set = e; noted = λ look f. absurd (none_is look f) }

pub notes_more : (offset : ℕ) (changed : List ℕ) (before taken after : List (Option Look)) (old : Look) (entry : Option Look)
    → slice_get before offset ≡ Some (Some old) → taken ≡ slice_set before offset None → after ≡ slice_set taken offset entry
    → IfSome entry (λ look. look.targets.items ≡ old.targets.items)
    → IfSome entry (λ look. (k : ℕ) → is_among look.changed.items k ≡ false → (is_among old.changed.items k ≡ false) × (is_among changed k ≡ false))
    → NotesAt offset changed before after
notes_more offset changed before taken after old entry at e f targets changes =
    record {
      entry = entry;
      set = f ∙ (ap (λ l. slice_set l offset entry) e ∙ set_twice before offset None entry);
      noted = λ look q. (
        old,
        (
          at,
          record {
            targets = subst (λ o. IfSome o (λ l. l.targets.items ≡ old.targets.items)) q targets;
            changed = subst (λ o. IfSome o (λ l. (k : ℕ) → is_among l.changed.items k ≡ false → (is_among old.changed.items k ≡ false) × (is_among changed k ≡ false))) q changes;
          },
        ),
      );
    }

-- nothing is known where a frame type was put that was not there
pub changes_nothing : (offset : ℕ) (join : Parts) (before after : Found) → after.looks.items ≡ slice_set before.looks.items offset None
    → NotesChange offset join before after
changes_nothing offset join before after e =
    record {
      changed = [];
      differ = λ there f look g. absurd (none_is look (value_set before.looks.items offset None (Some look) (ap (λ l. slice_get l offset) (sym e) ∙ g)));
      notes = notes_nothing offset [] before.looks.items after.looks.items e;
    }

pub changes_some : (offset : ℕ) (join : Parts) (changed : List ℕ) (before after : Found) → DiffersAt changed offset join before.types.items
    → NotesAt offset changed before.looks.items after.looks.items → NotesChange offset join before after
changes_some offset join changed before after differ notes =
    record { changed = changed; differ = λ there f look g. differ there f; notes = notes }

pub differs_there : {E : Type 0} (offset : ℕ) (there join : Parts) (types : List (Option Parts)) → slice_get types offset ≡ Some (Some there)
    → (r : Result (Option (Vec ℕ)) E) → IfOk r (λ o. IfSome o (λ v. PartsDiffer v.items there join))
    → IfOk r (λ o. IfSome o (λ v. DiffersAt v.items offset join types))
differs_there offset there join types at (Ok None) d = tt
differs_there offset there join types at (Ok (Some v)) d =
    λ other f. subst (λ p. PartsDiffer v.items p join) (same_Some there other (same_Some (Some there) (Some other) (sym at ∙ f))) d
differs_there offset there join types at (Err e) d = tt

pub differ_nowhere : (ks : List ℕ) (a b : Parts) → a ≡ b → PartsDiffer ks a b
differ_nowhere ks a b e =
    record {
      locals = record { long = ap (λ (p : Parts). length p.locals) e; same = λ k f. ap (λ (p : Parts). slice_get p.locals k) e };
      stack = ap (λ (p : Parts). p.stack) e;
      constructed = ap (λ (p : Parts). p.constructed) e;
    }

-- ---- what is settled

true_false : true ≡ false → ⊥
true_false e = cc

pub settles_waiting : (offset : ℕ) (targets : List ℕ) (before after : Found) → waits before.waiting offset ≡ true → after.looks.items ≡ before.looks.items
    → SettlesAt offset targets before after
settles_waiting offset targets before after w e = record { stays = λ v. e; settled = λ v. absurd (true_false (sym w ∙ v)) }

pub settles_new : (offset : ℕ) (targets : List ℕ) (before after : Found) (look : Look) → waits before.waiting offset ≡ false
    → after.looks.items ≡ slice_set before.looks.items offset (Some look) → look.targets.items ≡ targets → look.changed.items ≡ []
    → SettlesAt offset targets before after
settles_new offset targets before after look w e f g =
    record { stays = λ v. absurd (true_false (sym v ∙ w)); settled = λ v. (look, (e, f, g)) }

-- ---- nothing is known yet

none_known : (n k : ℕ) (look : Look) → slice_get (replicate n None) k ≡ Some (Some look) → ⊥
none_known zero k look e = cc
none_known (suc n) zero look e = cc
none_known (suc n) (suc k) look e = none_known n k look e

pub none_added : (n : ℕ) (before after : List (Option Look)) → after ≡ replicate n None → AddsNoLook before after
none_added n before after e k look f = absurd (none_known n k look (ap (λ l. slice_get l k) (sym e) ∙ f))

pub unknown : (m : MethodCode) (found : Found) → found.looks.items ≡ [] → (hs : List Handler) → AreLooks m hs found
unknown m found e hs k look f t g = absurd (none_known zero k look (ap (λ l. slice_get l k) (sym e) ∙ f))
