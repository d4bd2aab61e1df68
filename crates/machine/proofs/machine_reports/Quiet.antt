-- A state is quiet where no thread stands so that it may go on.
use Rattle.std.proofs.Common.{◌≡◌, ℕ, suc, ◌+◌, List, [], ◌∷◌, length, map, Bool, true, false, not, ◌&&◌, ◌||◌, if◌then◌else◌, Option, Some, None, refl, sym, ap, ◌∙◌, subst, arith}
use Rattle.std.specs.Prelude.{slice_get, slice_index_or}
use Rattle.std.specs.Option.{option_map_or}
use Rattle.std.specs.List.{list_all, list_any}
use Rattle.std.proofs.lemmas.Option.{get_or_from_slice_get}
use Rattle.model.specs.declared.event.Event.{Event}
use Rattle.model.specs.declared.instr.Instr.{Instr}
use Rattle.model.specs.declared.instr.Instr.TheVariants as instr
use Rattle.model.specs.declared.report.EndState.{EndState}
use Rattle.model.specs.Classes.{Program, Body, body_of}
use Rattle.model.specs.Operands.{words}
use Rattle.model.specs.Rows.{counting}
use Rattle.model.specs.State as state
use Rattle.model.specs.State.{FrameOf, Invocation, Initialisation, StackOf, Thread, ThreadStatus, WorldOf, StateOf}
use Rattle.model.specs.Worlds.{no_thread, thread_at}
use Rattle.model.specs.ClassInitialisation.{look_at, is_held}
use Rattle.model.specs.Sites.{MeaningOf, Site, site_at}
use Rattle.model.specs.Meanings.{meaning_of}
use Rattle.model.specs.Step.{NotEnabled, settled, thread_event, with_part, event_of, is_enabled_by, ops_of}
use Rattle.model.specs.Report.{ThreadEnd, Blocked, Initialising, Runnable, end_state_of}
use Rattle.model.specs.Meaning.{ended_by, waiting_at, begin_class}
use Rattle.run_laws.specs.word_reports.Reports.{may_step_of, is_quiet_of, instruction_end_of, site_end_of, frame_end_of, held_end_of, thread_end_of, ends_from_of, thread_ends_of}
use Rattle.machine.specs.machine_reports.Told.{is_runnable, are_quiet, AreQuietAt}

-- ---- what holds a thread

waiting_held : (i : Instr) → is_runnable (waiting_at i) ≡ false
waiting_held instr.MonitorEnter = refl
waiting_held other = refl

either_held : (b : Bool) (x y : ThreadEnd) → is_runnable x ≡ false → is_runnable y ≡ false → is_runnable (if b then x else y) ≡ false
either_held true x y p q = p
either_held false x y p q = q

module _ (files : Program) (world : WorldOf ℕ) (t : ℕ) where
  abbrev event : Event
  event = record { thread = t; pick = 0 }

  meaning_held : (frame : FrameOf ℕ) (site : Site) (o : Option (MeaningOf ℕ))
      → is_runnable (option_map_or (instruction_end_of words world t frame site) o Blocked) ≡ false
  meaning_held frame site None = refl
  meaning_held frame site (Some meant) =
      either_held (is_held (look_at t world meant.looks)) Initialising _ refl
      (either_held (meant.may event world (ops_of words meant frame.place.slots)) Blocked (waiting_at site.instr) refl (waiting_held site.instr))

  site_held : (frame : FrameOf ℕ) (o : Option Site) → is_runnable (site_end_of words files world t frame o) ≡ false
  site_held frame None = refl
  site_held frame (Some site) = meaning_held frame site (meaning_of words files site)

  frame_held : (frame : FrameOf ℕ) (o : Option Body) → is_runnable (frame_end_of words files world t frame o) ≡ false
  frame_held frame None = refl
  frame_held frame (Some body) = site_held frame (site_at frame.method body frame.place.offset)

  held : (stack : StackOf ℕ) → is_runnable (held_end_of words files world t stack) ≡ false
  held [] = either_held (is_held (look_at t world (begin_class files t))) Initialising Blocked refl refl
  held (Invocation frame ∷ stack) = frame_held frame (body_of files frame.method)
  held (Initialisation class phase ∷ stack) = refl

-- ---- a thread

either_runs : (b : Bool) (x : ThreadEnd) → is_runnable x ≡ false → is_runnable (if b then Runnable else x) ≡ b
either_runs true x e = refl
either_runs false x e = e

ended_held : (world : WorldOf ℕ) (o : Option ℕ) → is_runnable (ended_by world o) ≡ false
ended_held world None = refl
ended_held world (Some exception) = refl

module _ (files : Program) (frames : ℕ) (s : StateOf ℕ) (t : ℕ) where
  -- a thread that never goes on by its status may not step
  none_steps : (status : ThreadStatus) → (thread_at s.world t).status ≡ status
      → ((stack : StackOf ℕ) → thread_event words files frames (event files s.world t) s.world stack status ≡ NotEnabled)
      → may_step_of words files frames s t ≡ false
  none_steps status is never = by (slice_get s.stacks t)
    where
      by : (o : Option (StackOf ℕ)) → is_enabled_by (event_of words files frames s (event files s.world t) o) ≡ false
      by None = refl
      by (Some stack) =
          ap (λ x. is_enabled_by (with_part s t (settled t (thread_event words files frames (event files s.world t) s.world stack x)))) is
          ∙ ap (λ x. is_enabled_by (with_part s t (settled t x))) (never stack)

  stands : (thread : Thread) → slice_get s.world.threads t ≡ Some thread → (status : ThreadStatus) → thread.status ≡ status
      → is_runnable (thread_end_of words files frames s t status) ≡ may_step_of words files frames s t
  stands thread there state.Running e = either_runs (may_step_of words files frames s t) _ (held files s.world t (slice_index_or s.stacks t []))
  stands thread there (state.Waiting object count) e =
      sym (none_steps (state.Waiting object count) (ap (λ (x : Thread). x.status) (get_or_from_slice_get s.world.threads t thread no_thread there) ∙ e) (λ stack. refl))
  stands thread there (state.Relock object count cause) e = either_runs (may_step_of words files frames s t) Blocked refl
  stands thread there (state.Ended exception) e =
      ended_held s.world exception
      ∙ sym (none_steps (state.Ended exception) (ap (λ (x : Thread). x.status) (get_or_from_slice_get s.world.threads t thread no_thread there) ∙ e) (λ stack. refl))

-- ---- all threads

not_either : (a b : Bool) → not (a || b) ≡ (not a && not b)
not_either true b = refl
not_either false b = refl

module _ (files : Program) (frames : ℕ) (s : StateOf ℕ) where
  quiet_from : (t : ℕ) (threads : List Thread)
      → ((k : ℕ) (thread : Thread) → slice_get threads k ≡ Some thread → slice_get s.world.threads (t + k) ≡ Some thread)
      → list_all (λ t. not (may_step_of words files frames s t)) (counting t (length threads))
      ≡ are_quiet (ends_from_of words files frames s t threads)
  quiet_from t [] h = refl
  quiet_from t (thread ∷ threads) h =
      let here : slice_get s.world.threads t ≡ Some thread = subst (λ n. slice_get s.world.threads n ≡ Some thread) (omega arith) (h 0 thread refl) in
      let first = stands files frames s t thread here thread.status refl in
      let others = quiet_from (suc t) threads (λ k x e. subst (λ n. slice_get s.world.threads n ≡ Some x) (omega arith) (h (suc k) x e)) in
      (λ i. not (sym first i) && others i) ∙ sym (not_either (is_runnable (thread_end_of words files frames s t thread.status)) (list_any is_runnable (ends_from_of words files frames s (suc t) threads)))

  pub quiet_is : is_quiet_of words files frames s ≡ are_quiet (thread_ends_of words files frames s)
  quiet_is = quiet_from 0 s.world.threads (λ k thread e. subst (λ n. slice_get s.world.threads n ≡ Some thread) (omega arith) e)

any_of : (ends : List EndState) → list_any (λ thread. is_runnable (end_state_of thread)) ends ≡ list_any is_runnable (map end_state_of ends)
any_of [] = refl
any_of (end ∷ ends) = ap (λ b. is_runnable (end_state_of end) || b) (any_of ends)

pub quiet_told : (ends : List EndState) (b : Bool) → b ≡ list_any (λ thread. is_runnable (end_state_of thread)) ends
    → not b ≡ are_quiet (map end_state_of ends)
quiet_told ends b e = ap not (e ∙ any_of ends)

pub quiet_at : (ends : List EndState) (b : Bool) → b ≡ are_quiet (map end_state_of ends) → AreQuietAt ends b
quiet_at ends b e trees frames s are = e ∙ ap are_quiet are ∙ sym (quiet_is trees frames s)
