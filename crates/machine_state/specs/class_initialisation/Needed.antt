-- What comes first of an event that needs a class (JVMS 5.5).
use Rattle.std.specs.Prelude.{◌≡◌, ℕ, List, Option, Some, None, Result, Ok, Err}
use Rattle.model.specs.Names.{Name}
use Rattle.model.specs.Classes.{Program}
use Rattle.model.specs.Operands.{words}
use Rattle.model.specs.State.{StackOf, WorldOf}
use Rattle.model.specs.LimitStands.{Bounds}
use Rattle.model.specs.ClassInitialisation.{IsReady, look_at}
use Rattle.model.specs.Step.{SteppedOf, PartOf, begun_class, needing_class}
use Rattle.linked_code.specs.declared.program.LinkedProgram.{LinkedProgram}
use Rattle.linked_code.specs.Numbers.{IsClassAt}
use Rattle.thread_stacks.specs.Stacks.{ShownEntry}
use Rattle.machine_state.specs.shown_stacks.Shown.{ShowsStack}
use Rattle.machine_state.specs.declared.answers.Answer.{Answer}
use Rattle.machine_state.specs.declared.refusals.EventRefusal.{EventRefusal}
use Rattle.machine_state.specs.declared.state.Shared.{Shared}
use Rattle.machine_state.specs.Shown.{IsProgram, Represents}
use Rattle.machine_state.specs.Events.{IsUnchanged, Becomes}

-- a thread begins to initialise the class of a number (step 6), in each world that is shown, and over each stack of the thread
abbrev pub Begins : LinkedProgram → Result Answer EventRefusal → (t number : ℕ) → (old new : Shared) (from to : List ShownEntry) → Type 0
Begins p result t number old new from to =
    (trees : Program) (bounds : Bounds) (inflated : List ℕ) (world : WorldOf ℕ) (own : StackOf ℕ) → IsProgram trees p → Represents trees p bounds old world → ShowsStack trees p from own
    → (class : Name) → IsClassAt trees number class
    → Becomes trees p bounds inflated world (begun_class words trees t class world own) result old new from to

-- Where the class is ready, the event is what comes after that, and nothing has changed. Else the answer is what becomes of it,
-- whatever comes after that.
abbrev pub NeedsBy : Program → LinkedProgram → Bounds → List ℕ → (t : ℕ) → Name → WorldOf ℕ → StackOf ℕ → Result (Option Answer) EventRefusal
    → (old new : Shared) (from to : List ShownEntry) → Type 0
NeedsBy trees p bounds inflated t class world own (Ok None) old new from to = (look_at t world (Some class) ≡ IsReady) × IsUnchanged old new from to
NeedsBy trees p bounds inflated t class world own (Ok (Some answer)) old new from to =
    (rest : SteppedOf (PartOf ℕ)) → Becomes trees p bounds inflated world (needing_class words trees t (Some class) world own rest) (Ok answer) old new from to
NeedsBy trees p bounds inflated t class world own (Err told) old new from to =
    (rest : SteppedOf (PartOf ℕ)) → Becomes trees p bounds inflated world (needing_class words trees t (Some class) world own rest) (Err told) old new from to

abbrev pub Needs : LinkedProgram → Result (Option Answer) EventRefusal → (t number : ℕ) → (old new : Shared) (from to : List ShownEntry) → Type 0
Needs p result t number old new from to =
    (trees : Program) (bounds : Bounds) (inflated : List ℕ) (world : WorldOf ℕ) (own : StackOf ℕ) → IsProgram trees p → Represents trees p bounds old world → ShowsStack trees p from own
    → (class : Name) → IsClassAt trees number class → NeedsBy trees p bounds inflated t class world own result old new from to
