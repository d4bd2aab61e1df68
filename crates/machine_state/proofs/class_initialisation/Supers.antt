-- The superclass of a class comes first (JVMS 5.5, step 7).
use Rattle.std.proofs.Common.{◌≡◌, ℕ, List, ◌∷◌, Option, Some, None, Result, refl, sym, subst}
use Rattle.model.specs.Names.{Name, initialiser_of}
use Rattle.model.specs.Classes.{Program, body_of}
use Rattle.model.specs.Operands.{words}
use Rattle.model.specs.State as model
use Rattle.model.specs.State.{StackOf, WorldOf}
use Rattle.model.specs.LimitStands.{Bounds}
use Rattle.model.specs.ClassInitialisation.{Look, IsReady, look_at}
use Rattle.model.specs.Step.{before, needing, needing_class, initialiser_event}
use Rattle.linked_code.specs.declared.program.LinkedProgram.{LinkedProgram}
use Rattle.linked_code.specs.Numbers.{IsClassAt, IsClassIf}
use Rattle.thread_stacks.specs.Stacks.{ShownEntry}
use Rattle.machine_state.specs.shown_stacks.Shown.{ShowsStack}
use Rattle.machine_state.specs.declared.answers.Answer.{Answer}
use Rattle.machine_state.specs.declared.refusals.EventRefusal.{EventRefusal}
use Rattle.machine_state.specs.declared.state.Shared.{Shared}
use Rattle.machine_state.specs.Shown.{IsProgram}
use Rattle.machine_state.specs.Events.{Becomes, IsUnchanged}
use Rattle.machine_state.specs.entries.Entered.{IsShared}
use Rattle.machine_state.specs.class_initialisation.Steps.{RunsInitialiser}

pub some_first : (trees : Program) (first : ℕ) (o : Option Name) → IsClassIf trees (Some first) o
    → (superclass : Name) × (o ≡ Some superclass) × IsClassAt trees first superclass
some_first trees first None h = absurd h
some_first trees first (Some superclass) h = (superclass, refl, h)

pub none_first : (trees : Program) (o : Option Name) → IsClassIf trees None o → o ≡ None
none_first trees None h = refl
none_first trees (Some superclass) h = absurd h

module _ (trees : Program) (p : LinkedProgram) (bounds : Bounds) (inflated : List ℕ) (world : WorldOf ℕ) (class : Name) (rest : StackOf ℕ)
    (frames t : ℕ)
    (result : Result Answer EventRefusal) (old new : Shared) (from to : List ShownEntry) where
  -- what becomes of the class, by what comes before it
  abbrev pub Steps : Option Name → Type 0
  Steps first =
      Becomes trees p bounds inflated world
      (needing_class words trees t first world (model.Initialisation class model.Super ∷ rest)
      (initialiser_event words trees frames t (initialiser_of class) world (model.Initialisation class model.End ∷ rest) (body_of trees (initialiser_of class))))
      result old new from to

  pub with_none : IsClassIf trees None (before trees class) → Steps None → Steps (before trees class)
  with_none h = subst Steps (sym (none_first trees (before trees class) h))

  abbrev Runs : Shared → List ShownEntry → Type 0
  Runs m l =
      Becomes trees p bounds inflated world
      (initialiser_event words trees frames t (initialiser_of class) world (model.Initialisation class model.End ∷ rest) (body_of trees (initialiser_of class)))
      result m new l to

  -- the superclass is ready, and nothing has changed
  pub with_ready : (program : IsProgram trees p) (is : IsShared trees p bounds inflated old world) (number : ℕ)
      (at : IsClassAt trees number class)
      → ShowsStack trees p from (model.Initialisation class model.Super ∷ rest)
      → (superclass : Name) → before trees class ≡ Some superclass → look_at t world (Some superclass) ≡ IsReady
      → (mid : Shared) (between : List ShownEntry) → IsUnchanged old mid from between
      → RunsInitialiser p result t number frames mid new between to
      → Steps (before trees class)
  with_ready program is number at s superclass first ready mid between same runs =
      subst Steps (sym first)
      (subst (λ (l : Look).
      Becomes trees p bounds inflated world
      (needing words trees t superclass l world (model.Initialisation class model.Super ∷ rest)
      (initialiser_event words trees frames t (initialiser_of class) world (model.Initialisation class model.End ∷ rest) (body_of trees (initialiser_of class))))
      result old new from to) (sym ready)
      (subst (λ (l : List ShownEntry). Runs old l) same.stack (subst (λ (m : Shared). Runs m between) same.shared
      (runs trees bounds inflated world program (subst (λ (m : Shared). IsShared trees p bounds inflated m world) (sym same.shared) is) class rest at
      (subst (λ (l : List ShownEntry). ShowsStack trees p l (model.Initialisation class model.Super ∷ rest)) (sym same.stack) s)))))
