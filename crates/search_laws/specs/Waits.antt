-- Threads that wait for one another: each is to enter a monitor that the other one owns (JLS 17.1), or needs a class that it
-- initialises (JVMS 5.5).
use Rattle.std.specs.Prelude.{◌≡◌, ℕ, zero, suc, nat_lt, List, [], ◌∷◌, Option, Some, None, if◌then◌else◌, slice_get, IsTrue}
use Rattle.std.specs.Option.{option_map, option_and_then}
use Rattle.model.specs.declared.event.Event.{Event}
use Rattle.model.specs.declared.instr.Instr.{Instr}
use Rattle.model.specs.declared.instr.Instr.TheVariants as instr
use Rattle.model.specs.Accepted.{IsAccepted}
use Rattle.model.specs.Classes.{Program, Body, body_of}
use Rattle.model.specs.ClassInitialisation.{Look, IsReady, IsNew, IsHeld, HasFailed, look_by, status_of}
use Rattle.model.specs.Frames.{entered_by, frame_count}
use Rattle.model.specs.Lookup.{select}
use Rattle.model.specs.Meanings.{meaning_of}
use Rattle.model.specs.Names.{Name, Member, main_of, thread_run}
use Rattle.model.specs.Opening.{class_reference}
use Rattle.model.specs.Operands.{Carrier, values, under}
use Rattle.model.specs.Outcomes.{OutcomeOf, Goes, Raises, Throws, Interrupts, Calls, Returns, Waits}
use Rattle.model.specs.Run.{run_from}
use Rattle.model.specs.Sites.{MeaningOf, Site, site_at, referent}
use Rattle.model.specs.State.{InProgress, ThreadStatus, Running, Waiting, Relock, Ended, FrameOf, Super, End, Invocation, Initialisation, StackOf, WorldOf, World, StateOf, State}
use Rattle.model.specs.Step.{ops_of, before, initial_class, step}
use Rattle.model.specs.Worlds.{thread_at, object_at, class_of_object, is_owner}
use Rattle.search_laws.specs.Alone.{AreOfOthers}
use Rattle.search_laws.specs.KeptStates.{IsReached}
use Rattle.search_laws.specs.Verdicts.{OfWholeSearches, IsMet}

-- what an event needs that another thread may hold
pub data Need : Type 0 where
  MonitorOf : (object : ℕ) → Need
  ClassOf : (class : Name) → Need

-- the thread holds it
abbrev pub IsHeldBy : World → ℕ → Need → Type 0
IsHeldBy world u (MonitorOf object) = IsTrue (is_owner world u object)
IsHeldBy world u (ClassOf class) = status_of world class ≡ InProgress u

-- ---- what the next event of a thread needs

-- a class that is in progress elsewhere comes first; where the event begins with a class, or finds it erroneous, it needs nothing
abbrev pub look_need : Look → Name → Option Need → Option Need
look_need IsReady class next = next
look_need IsNew class next = None
look_need IsHeld class next = Some (ClassOf class)
look_need HasFailed class next = None

-- the object whose monitor the callee enters
abbrev pub callee_entered : {A : Type 0} → OutcomeOf A → Option ℕ
callee_entered (Goes cost world slots to) = None
callee_entered (Raises fault) = None
callee_entered (Throws exception) = None
callee_entered Interrupts = None
callee_entered (Calls callee rest) = callee.entered
callee_entered (Returns world results) = None
callee_entered (Waits cost world rest) = None

module _ {A : Type 0} (C : Carrier A) (files : Program) (frames t : ℕ) (world : WorldOf A) where
  abbrev pub class_need : Option Name → Option Need → Option Need
  class_need None next = next
  class_need (Some class) next = look_need (look_by t (status_of world class)) class next

  -- that of a new frame, where the limit lets it
  abbrev pub frame_need : StackOf A → Option ℕ → Option Need
  frame_need stack entered = if nat_lt (frame_count stack) frames then option_map MonitorOf entered else None

  abbrev pub instruction_need : StackOf A → Instr → List A → OutcomeOf A → Option Need
  instruction_need stack instr.MonitorEnter ops outcome = option_map MonitorOf (referent C ops 0)
  instruction_need stack other ops outcome = frame_need stack (callee_entered outcome)

  abbrev pub meant_need : FrameOf A → StackOf A → Site → MeaningOf A → Option Need
  meant_need frame stack site meaning =
      class_need meaning.looks
      (instruction_need (Invocation frame ∷ stack) site.instr (ops_of C meaning frame.place.slots)
      (meaning.does (record { thread = t; pick = 0 }) world frame.place.slots (ops_of C meaning frame.place.slots) (under meaning.wants frame.place.slots)))

  abbrev pub site_need : FrameOf A → StackOf A → Site → Option Need
  site_need frame stack site = option_and_then (meant_need frame stack site) (meaning_of C files site)

  abbrev pub body_need : FrameOf A → StackOf A → Body → Option Need
  body_need frame stack body = option_and_then (site_need frame stack) (site_at frame.method body frame.place.offset)

  -- main, and then `run` of other threads
  abbrev pub begin_need : ℕ → Option Need
  begin_need zero =
      class_need (Some (initial_class files)) (frame_need [] (entered_by files (main_of (initial_class files)) (class_reference files (initial_class files))))
  begin_need (suc u) =
      let object = (thread_at world (suc u)).object in
      option_and_then (λ (method : Member). option_and_then (λ (body : Body). frame_need [] (entered_by files method object)) (body_of files method)) (select files (class_of_object (object_at world object)) thread_run)

  abbrev pub stack_need : StackOf A → Option Need
  stack_need [] = begin_need t
  stack_need (Invocation frame ∷ stack) = option_and_then (body_need frame stack) (body_of files frame.method)
  stack_need (Initialisation class Super ∷ stack) = class_need (before files class) None
  stack_need (Initialisation class End ∷ stack) = None

  abbrev pub going_need : StackOf A → Option ℕ → Option Need
  going_need stack None = stack_need stack
  going_need stack (Some exception) = None

  abbrev pub status_need : StackOf A → ThreadStatus → Option Need
  status_need stack Running = going_need stack (thread_at world t).pending
  status_need stack (Waiting object count) = None
  status_need stack (Relock object count cause) = Some (MonitorOf object)
  status_need stack (Ended exception) = None

abbrev pub next_need : {A : Type 0} → Carrier A → Program → ℕ → StateOf A → ℕ → Option Need
next_need C files frames state t =
    option_and_then (λ stack. status_need C files frames t state.world stack (thread_at state.world t).status) (slice_get state.stacks t)

-- ---- circles

pub record WaitsFor (files : Program) (frames t u : ℕ) (state : State) : Type 0 where
  pub differ : t ≡ u → ⊥
  pub need : Need
  pub needs : next_need values files frames state t ≡ Some need
  pub held : IsHeldBy state.world u need

-- each thread waits for the next one, and the last for the first
abbrev pub WaitInTurn : Program → ℕ → ℕ → ℕ → List ℕ → State → Type 0
WaitInTurn files frames first t [] state = WaitsFor files frames t first state
WaitInTurn files frames first t (u ∷ threads) state = WaitsFor files frames t u state × WaitInTurn files frames first u threads state

abbrev pub IsCircle : Program → ℕ → ℕ → List ℕ → State → Type 0
IsCircle files frames t threads state = WaitInTurn files frames t t threads state

-- where threads wait in a circle in a state of some run, they do in a kept one
abbrev pub AreCirclesMet : Type 0
AreCirclesMet = OfWholeSearches (λ files frames conflict graph.
    (t : ℕ) (threads : List ℕ) (state : State) → IsReached files frames state → IsCircle files frames t threads state
    → IsMet graph (IsCircle files frames t threads))

-- a circle stays, whatever events follow, and its first thread has none (as any of its threads can be taken for the first)
abbrev pub AreCirclesForEver : Type 0
AreCirclesForEver =
    (files : List (List ℕ)) (trees : Program) → IsAccepted files trees → (frames : ℕ) (state : State) → IsReached trees frames state
    → (t : ℕ) (threads : List ℕ) → IsCircle trees frames t threads state
    → (events : List Event) (later : State) → run_from trees frames state events ≡ Some later
    → IsCircle trees frames t threads later
    × ((pick : ℕ) (next : State) → step trees frames later (record { thread = t; pick = pick }) ≡ Some next → ⊥)

-- a thread that waits for another one waits for it still, and has no event, until that one has
abbrev pub AreWaitersHeldBack : Type 0
AreWaitersHeldBack =
    (files : List (List ℕ)) (trees : Program) → IsAccepted files trees → (frames : ℕ) (state : State) → IsReached trees frames state
    → (t u : ℕ) → WaitsFor trees frames t u state
    → (others : List Event) (later : State) → AreOfOthers u others → run_from trees frames state others ≡ Some later
    → WaitsFor trees frames t u later
    × ((pick : ℕ) (next : State) → step trees frames later (record { thread = t; pick = pick }) ≡ Some next → ⊥)
