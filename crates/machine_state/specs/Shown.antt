-- When the words of a machine show a world and a state of the definitions over words (JVMS 2.5, 5.5; JLS 17).
use Rattle.std.specs.Prelude.{◌≡◌, ℕ, List, Some, Bool, true, false, map, slice_get}
use Rattle.model.specs.Names.{Name}
use Rattle.model.specs.Classes.{Program, name_of}
use Rattle.model.specs.Linkable.{IsLinkable}
use Rattle.model.specs.State as model
use Rattle.model.specs.State.{StackOf, WorldOf, StateOf}
use Rattle.model.specs.LimitStands.{Bounds, opening_count, cells_made}
use Rattle.model.specs.ClassInitialisation.{status_of}
use Rattle.model.specs.Words.{AreWellTypedWords}
use Rattle.run_laws.specs.monitor_counts.Counts.{is_inflated, AreMonitorsCounted}
use Rattle.machine_state.specs.limits_at_words.FatLocks.{AreFlags}
use Rattle.linked_code.specs.declared.program.LinkedProgram.{LinkedProgram}
use Rattle.linked_code.specs.Numbers.{IsClassAt}
use Rattle.linked_code.specs.Programs.{IsLinkedProgram}
use Rattle.thread_stacks.specs.Stacks.{ShownEntry}
use Rattle.machine_state.specs.shown_objects.Shown.{ShowsObjects, ShowsStatics}
use Rattle.machine_state.specs.shown_stacks.Shown.{ShowsStack}
use Rattle.machine_state.specs.declared.state.ClassStatus.{ClassStatus}
use Rattle.machine_state.specs.declared.state.ClassStatus.TheVariants as status
use Rattle.machine_state.specs.declared.state.Shared.{Shared}

-- ---- programs

-- files that link, and what they are once linked
pub record IsProgram (trees : Program) (p : LinkedProgram) : Type 0 where
  pub files : List (List ℕ)
  pub linkable : IsLinkable files trees
  pub linked : IsLinkedProgram trees p

-- ---- how far classes are

abbrev pub shown_status : ClassStatus → model.ClassStatus
shown_status status.NotInitialised = model.NotInitialised
shown_status (status.InProgress by) = model.InProgress by
shown_status status.Initialised = model.Initialised
shown_status status.Erroneous = model.Erroneous

-- those of the files, in their order
pub record ShowsStatuses (trees : Program) (statuses : List ClassStatus) (classes : List (Name × model.ClassStatus)) : Type 0 where
  pub names : map (λ (c : Name × model.ClassStatus). c.0) classes ≡ map name_of trees
  pub are : map (λ (c : Name × model.ClassStatus). c.1) classes ≡ map shown_status statuses

abbrev pub is_initialised : model.ClassStatus → Bool
is_initialised model.NotInitialised = false
is_initialised (model.InProgress by) = false
is_initialised model.Initialised = true
is_initialised model.Erroneous = false

-- by the number of a class, whether it is initialised
abbrev pub AreInitialised : Program → List Bool → WorldOf ℕ → Type 0
AreInitialised trees ready world =
    (number : ℕ) (class : Name) → IsClassAt trees number class → slice_get ready number ≡ Some (is_initialised (status_of world class))

-- ---- a world

pub record ShowsWorld (trees : Program) (p : LinkedProgram) (shared : Shared) (world : WorldOf ℕ) : Type 0 where
  pub objects : ShowsObjects trees p.components.items shared.heap.objects world.heap
  pub counted : shared.heap.counted ≡ cells_made trees world
  pub monitors : shared.heap.locks.monitors ≡ world.monitors
  pub statics : ShowsStatics trees shared.statics.items world.statics
  pub statuses : ShowsStatuses trees shared.statuses.items world.classes
  pub ready : AreInitialised trees shared.ready.items world
  pub threads : shared.threads.threads ≡ world.threads
  pub printed : shared.printed.items ≡ world.printed
  pub interned : shared.interned.items ≡ world.interned
  pub unnamed : shared.unnamed ≡ world.unnamed

-- the machine's limits are those of the run; that of frames is the machine's own
pub record HasBounds (trees : Program) (bounds : Bounds) (shared : Shared) : Type 0 where
  pub opening : shared.heap.opening ≡ opening_count trees
  pub objects : shared.heap.object_limit ≡ bounds.objects
  pub cells : shared.heap.cell_limit ≡ bounds.cells
  pub monitors : shared.heap.locks.limit ≡ bounds.monitors
  pub threads : shared.threads.limit ≡ bounds.threads

pub record Represents (trees : Program) (p : LinkedProgram) (bounds : Bounds) (shared : Shared) (world : WorldOf ℕ) : Type 0 where
  pub world_is : ShowsWorld trees p shared world
  pub limits : HasBounds trees bounds shared

-- ---- a state

-- The own stack of a thread is lent, and all else shows words of a well-typed state, in which these locks are inflated.
pub record IsLent (trees : Program) (p : LinkedProgram) (bounds : Bounds) (inflated : List ℕ) (t : ℕ) (shared : Shared)
    (stack : List ShownEntry) (state : StateOf ℕ) (own : StackOf ℕ) : Type 0 where
  pub represents : Represents trees p bounds shared state.world
  pub flags : AreFlags shared.heap.locks.fat inflated
  pub counted : AreMonitorsCounted (is_inflated inflated) state.world
  pub shows_stack : ShowsStack trees p stack own
  pub is_own : slice_get state.stacks t ≡ Some own
  pub typed : AreWellTypedWords trees state
