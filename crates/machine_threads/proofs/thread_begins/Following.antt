-- What follows where the initial class is ready (JVMS 5.5), and in a thread that is not the main one.
use Rattle.std.proofs.Common.{◌≡◌, ℕ, zero, suc, refl, List, [], Some, Result, sym, subst}
use Rattle.model.specs.Names.{main_of}
use Rattle.model.specs.Classes.{Program, body_of}
use Rattle.model.specs.LimitStands.{Bounds}
use Rattle.model.specs.Operands.{words}
use Rattle.model.specs.State.{StateOf, WorldOf}
use Rattle.model.specs.Worlds.{thread_at}
use Rattle.model.specs.ClassInitialisation.{Look, IsReady, look_at}
use Rattle.model.specs.Step.{initial_class, main_frame, main_event, needing, begin_event, run_event}
use Rattle.linked_code.specs.declared.program.LinkedProgram.{LinkedProgram}
use Rattle.thread_stacks.specs.Stacks.{ShownEntry}
use Rattle.machine_state.specs.declared.answers.Answer.{Answer}
use Rattle.machine_state.specs.declared.refusals.EventRefusal.{EventRefusal}
use Rattle.machine_state.specs.declared.state.Shared.{Shared}
use Rattle.machine_state.specs.Shown.{IsProgram, IsLent}
use Rattle.machine_state.specs.Events.{Becomes, IsUnchanged}
use Rattle.machine_threads.specs.thread_begins.Initial.{CallsMain}
use Rattle.machine_threads.specs.thread_begins.Runs.{CanBegin}

-- a thread that can begin still can where nothing has changed
pub still_able : (p : LinkedProgram) (t : ℕ) (old mid : Shared) (from between : List ShownEntry) → IsUnchanged old mid from between
    → CanBegin p t old from → CanBegin p t mid between
still_able p t old mid from between same able =
    subst (λ (l : List ShownEntry). CanBegin p t mid l) (sym same.stack) (subst (λ (m : Shared). CanBegin p t m from) (sym same.shared) able)

module _ (p : LinkedProgram) (result : Result Answer EventRefusal) (frames : ℕ) (old mid new : Shared) (from between to : List ShownEntry)
    (same : IsUnchanged old mid from between) where
  called : CallsMain p result frames mid new between to → CallsMain p result frames old new from to
  called calls =
      subst (λ (l : List ShownEntry). CallsMain p result frames old new l to) same.stack
      (subst (λ (m : Shared). CallsMain p result frames m new between to) same.shared calls)

  pub follows : CallsMain p result frames mid new between to
      → (trees : Program) (bounds : Bounds) (inflated : List ℕ) (state : StateOf ℕ) → IsProgram trees p
      → IsLent trees p bounds inflated 0 old from state []
      → look_at 0 state.world (Some (initial_class trees)) ≡ IsReady
      → Becomes trees p bounds inflated state.world (main_event words trees frames state.world) result old new from to
  follows calls trees bounds inflated state program lent ready =
      subst (λ (l : Look).
      Becomes trees p bounds inflated state.world
      (needing words trees 0 (initial_class trees) l state.world [] (main_frame words trees frames state.world (main_of (initial_class trees)) (body_of trees (main_of (initial_class trees)))))
      result old new from to) (sym ready)
      (called calls trees bounds inflated state program lent)

-- a thread that is not the main one is a started one
pub is_started : (trees : Program) (frames : ℕ) (world : WorldOf ℕ) (t : ℕ) → (t ≡ 0 → ⊥)
    → run_event words trees frames t world (thread_at world t).object ≡ begin_event words trees frames world t
is_started trees frames world zero h = absurd (h refl)
is_started trees frames world (suc t) h = refl
