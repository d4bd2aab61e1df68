-- A class that a thread begins to initialise, and events that take nothing.
use Rattle.std.proofs.Common.{◌≡◌, ℕ, List, [], ◌∷◌, Option, Some, None, Vec, Global, Result, Ok, Err, length, refl, sym, ap, subst, ◌∙◌, inl}
use Rattle.std.specs.Prelude.{slice_get, slice_set}
use Rattle.std.specs.Option.{option_map, option_map_or}
use Rattle.std.specs.Result.{IsErrAnd}
use Rattle.std.specs.List.{filter_map, cons_option}
use Rattle.std.proofs.lemmas.Option.{same_Some}
use Rattle.model.specs.Names.{Name, Member}
use Rattle.model.specs.Tree.{Entry, FieldTree, FileTree}
use Rattle.model.specs.Classes.{Program, class_of}
use Rattle.model.specs.Lookup.{field_member}
use Rattle.model.specs.Operands.{words}
use Rattle.model.specs.State as model
use Rattle.model.specs.State.{StackOf, WorldOf}
use Rattle.model.specs.LimitStands.{Bounds}
use Rattle.model.specs.Outcomes.{Free}
use Rattle.model.specs.Worlds.{with_static, put_value, with_value}
use Rattle.model.specs.ClassInitialisation as initialisation
use Rattle.model.specs.ClassInitialisation.{constant_value, with_class_status, with_class_begun}
use Rattle.model.specs.Step.{PartOf, part, on_to, begun_class}
use Rattle.linked_code.specs.declared.class.LinkedClass.{LinkedClass}
use Rattle.linked_code.specs.declared.class.LinkedConstant.{LinkedConstant}
use Rattle.linked_code.specs.declared.program.LinkedProgram.{LinkedProgram}
use Rattle.linked_code.specs.ClassRows.{constant_in, AreConstants}
use Rattle.linked_code.specs.Numbers.{IsClassAt}
use Rattle.thread_stacks.specs.declared.entry.Phase.TheVariants as phase
use Rattle.thread_stacks.specs.Stacks.{ShownEntry, Initialisation}
use Rattle.machine_state.specs.shown_objects.Shown.{ShowsStatics}
use Rattle.machine_state.proofs.Memory.{grown_by_one, takes_by_growth}
use Rattle.machine_state.proofs.shown_objects.Objects.{are_statics}
use Rattle.machine_state.specs.shown_stacks.Shown.{ShowsStack}
use Rattle.machine_state.specs.declared.answers.Answer.{Answer}
use Rattle.machine_state.specs.declared.refusals.EventRefusal.{EventRefusal}
use Rattle.machine_state.specs.declared.refusals.EventRefusal.TheVariants as refusal
use Rattle.machine_state.specs.declared.state.Shared.{Shared}
use Rattle.machine_state.specs.Shown.{IsProgram, Represents}
use Rattle.machine_state.specs.Events.{IsDone, MayBeRefused, Becomes}
use Rattle.machine_state.specs.Memory.{shown_counts, takes_memory}
use Rattle.machine_state.specs.method_selection.Rows.{HasClass, AreClassesRead}
use Rattle.machine_state.specs.class_initialisation.Constants.{with_constants}
use Rattle.machine_state.proofs.class_initialisation.Setting.{kind_of, its_class}

-- ---- events that take nothing

pub free_done : (trees : Program) (p : LinkedProgram) (bounds : Bounds) (inflated : List ℕ) (world after : WorldOf ℕ) (own : StackOf ℕ) (old new : Shared) (to : List ShownEntry)
    → Represents trees p bounds new after → ShowsStack trees p to own → new.heap ≡ old.heap → new.stacks ≡ old.stacks → new.threads ≡ old.threads
    → IsDone trees p bounds inflated world (on_to after own) old new to
free_done trees p bounds inflated world after own old new to r s heap stacks threads =
    record {
      cost = Free;
      next = part after own;
      is = refl;
      becomes = record {
        within = refl;
        there = tt;
        represents = r;
        stack = s;
        flags = λ i. (heap i).locks.fat;
        others = inl (record { stacks = λ i. (stacks i).items; threads = λ i. length (threads i).threads });
      };
    }

-- there is no memory for the entry of the class, which is one more
pub lacks_entry : (trees : Program) (p : LinkedProgram) (bounds : Bounds) (inflated : List ℕ) (world : WorldOf ℕ) (own : StackOf ℕ) (old : Shared) (from : List ShownEntry)
    → ShowsStack trees p from own
    → (class : Name) (t : ℕ) (result : Result Answer EventRefusal) → IsErrAnd result (λ told. told ≡ refusal.Memory)
    → (to : List ShownEntry) → to ≡ from
    → Becomes trees p bounds inflated world (begun_class words trees t class world own) result old old from to
lacks_entry trees p bounds inflated world own old from s class t (Ok answer) e to same = absurd e
lacks_entry trees p bounds inflated world own old from s class t (Err told) e to same = (
  record {
    cost = Free;
    next = after;
    is = refl;
    may = subst (MayBeRefused trees bounds inflated world Free (takes_memory world (shown_counts from) Free after)) (sym e)
        (takes_by_growth world (shown_counts from) Free after (grown_by_one trees p from own s (model.Initialisation class model.Super) own refl));
  },
  record { shared = refl; stack = same },
)
  where
    after : PartOf ℕ
    after = part (with_class_begun words trees t class world) (model.Initialisation class model.Super ∷ own)

-- ---- constants

module _ (trees : Program) (class : Name) (pool : List Entry) where
  -- the words with the constants are those of the static fields with them
  record AreSet (fields : List FieldTree) (constants : List LinkedConstant) (slots : List ℕ) (world : WorldOf ℕ) : Type 0 where
    pub statics : List (Member × ℕ)
    pub is : initialisation.with_constants words trees class pool world fields ≡ record world { statics = statics }
    pub shown : ShowsStatics trees (with_constants constants slots) statics

  are_set : (fields : List FieldTree) (constants : List LinkedConstant) (slots : List ℕ) (world : WorldOf ℕ) → ShowsStatics trees slots world.statics
      → AreConstants trees (filter_map (constant_in trees class pool) fields) constants → AreSet fields constants slots world
  are_set [] [] slots world s h = record { statics = world.statics; is = refl; shown = s }
  are_set [] (l ∷ ls) slots world s h = absurd h
  are_set (f ∷ fs) constants slots world s h =
      let r = by (λ ls slots world s h. are_set fs ls slots world s h) (constant_value words trees pool f) constants h in
      record { statics = r.0; is = r.1; shown = r.2 }
    where
      by : ((ls : List LinkedConstant) (slots : List ℕ) (world : WorldOf ℕ) → ShowsStatics trees slots world.statics → AreConstants trees (filter_map (constant_in trees class pool) fs) ls → AreSet fs ls slots world)
          → (o : Option ℕ) (ls : List LinkedConstant)
          → AreConstants trees (cons_option (option_map (λ (value : ℕ). (field_member class pool f, put_value words (field_member class pool f) value)) o) (filter_map (constant_in trees class pool) fs)) ls
          → (statics : List (Member × ℕ)) × (initialisation.with_constants words trees class pool (option_map_or (λ value. with_static world (field_member class pool f) (put_value words (field_member class pool f) value)) o world) fs ≡ record world { statics = statics }) × ShowsStatics trees (with_constants ls slots) statics
      by rest None ls h = let r = rest ls slots world s h in (r.statics, r.is, r.shown)
      by rest (Some value) [] h = absurd h
      by rest (Some value) (l ∷ ls) h =
          let written = (are_statics trees slots world.statics s (field_member class pool f) l.slot h.0).written l.word in
          let r = rest ls (slice_set slots l.slot l.word) (with_static world (field_member class pool f) (put_value words (field_member class pool f) value))
          (subst (λ w. ShowsStatics trees (slice_set slots l.slot l.word) (with_value (field_member class pool f) w world.statics)) h.1 written) h.2 in
          (r.statics, r.is, r.shown)

-- ---- the class

module _ (read : AreClassesRead) (trees : Program) (p : LinkedProgram) (bounds : Bounds) (inflated : List ℕ) (world : WorldOf ℕ) (own : StackOf ℕ) (program : IsProgram trees p)
    (old : Shared) (from : List ShownEntry) (s : ShowsStack trees p from own) (class : Name) (number t : ℕ) (at : IsClassAt trees number class) where
  -- with its status set
  abbrev marked_world : WorldOf ℕ
  marked_world = with_class_status world class (model.InProgress t)

  module _ (marked : Shared) (kept : marked ≡ record old { statuses = marked.statuses; ready = marked.ready }) (r : Represents trees p bounds marked marked_world)
      (statics : Vec ℕ Global) where
    after : (row : LinkedClass) → slice_get p.classes.items number ≡ Some row → statics.items ≡ with_constants row.constants.items marked.statics.items
        → Represents trees p bounds (record marked { statics = statics }) (with_class_begun words trees t class world)
    after row is_row are =
        subst (λ (w : WorldOf ℕ). Represents trees p bounds (record marked { statics = statics }) w) (sym world_is)
        (record {
          world_is = record {
            objects = r.world_is.objects;
            counted = r.world_is.counted;
            monitors = r.world_is.monitors;
            statics = subst (λ l. ShowsStatics trees l set.statics) (sym are) set.shown;
            statuses = r.world_is.statuses;
            ready = r.world_is.ready;
            threads = r.world_is.threads;
            printed = r.world_is.printed;
            interned = r.world_is.interned;
            unnamed = r.world_is.unnamed;
          };
          limits = record {
            opening = r.limits.opening;
            objects = r.limits.objects;
            cells = r.limits.cells;
            monitors = r.limits.monitors;
            threads = r.limits.threads;
          };
        })
      where
        h : HasClass trees p number class
        h = read trees p program.linked number class at

        class_is : class_of trees class ≡ Some h.file
        class_is =
            let kind = kind_of number in
            subst (λ (n : Name). class_of trees n ≡ Some h.file) h.named (its_class trees program.linkable.no_refusal number kind.0 kind.1 h.file h.there)

        constants : AreConstants trees (filter_map (constant_in trees class h.file.pool) h.file.fields) row.constants.items
        constants =
            let same : h.row ≡ row = same_Some _ _ (sym h.is ∙ is_row) in
            subst (λ (l : LinkedClass). AreConstants trees (filter_map (constant_in trees class h.file.pool) h.file.fields) l.constants.items) same
            (subst (λ (n : Name). AreConstants trees (filter_map (constant_in trees n h.file.pool) h.file.fields) h.row.constants.items) h.named h.linked.constants)

        set : AreSet trees class h.file.pool h.file.fields row.constants.items marked.statics.items marked_world
        set = are_set trees class h.file.pool h.file.fields row.constants.items marked.statics.items marked_world r.world_is.statics constants

        world_is : with_class_begun words trees t class world ≡ record marked_world { statics = set.statics }
        world_is = ap (λ o. option_map_or (λ (file : FileTree). initialisation.with_constants words trees class file.pool marked_world file.fields) o marked_world) class_is ∙ set.is

    pub begun : (row : LinkedClass) → slice_get p.classes.items number ≡ Some row → statics.items ≡ with_constants row.constants.items marked.statics.items
        → (to : List ShownEntry) → to ≡ Initialisation number phase.Super ∷ from
        → IsDone trees p bounds inflated world (begun_class words trees t class world own) old (record marked { statics = statics }) to
    begun row is_row are to to_is =
        free_done trees p bounds inflated world (with_class_begun words trees t class world) (model.Initialisation class model.Super ∷ own) old (record marked { statics = statics }) to
        (after row is_row are)
        (subst (λ (l : List ShownEntry). ShowsStack trees p l (model.Initialisation class model.Super ∷ own)) (sym to_is) ((at, refl), s))
        (ap (λ (m : Shared). m.heap) kept) (ap (λ (m : Shared). m.stacks) kept) (ap (λ (m : Shared). m.threads) kept)

    -- there is a row
    pub no_row : slice_get p.classes.items number ≡ None → ⊥
    no_row none = let h = read trees p program.linked number class at in let e = sym h.is ∙ none in cc
