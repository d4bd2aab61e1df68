-- How a thread of a state that is shown stands, and whether it has an event that is enabled.
use Rattle.std.proofs.Common.{◌≡◌, ◌<◌, ℕ, zero, suc, List, [], ◌∷◌, Option, Some, None, Bool, true, false, if◌then◌else◌, length, refl, sym, ap, subst, ◌∙◌}
use Rattle.std.specs.Prelude.{slice_get, slice_index_or}
use Rattle.std.specs.Option.{option_map_or}
use Rattle.std.proofs.lemmas.Option.{slice_get-get_or, slice_get_within}
use Rattle.model.specs.declared.instr.Instr.{Instr}
use Rattle.model.specs.declared.instr.Instr.TheVariants as instr
use Rattle.model.specs.Classes.{Program, Body, body_of}
use Rattle.model.specs.ClassInitialisation.{is_held, look_at}
use Rattle.model.specs.LimitStands.{Bounds}
use Rattle.model.specs.Meaning.{begin_class, ended_by, waiting_at}
use Rattle.model.specs.Meanings.{meaning_of}
use Rattle.model.specs.Operands.{words}
use Rattle.model.specs.Report as report
use Rattle.model.specs.Report.{ThreadEnd}
use Rattle.model.specs.Sites.{MeaningOf, Site, site_at}
use Rattle.model.specs.State as model
use Rattle.model.specs.State.{FrameOf, StackOf, StateOf, Thread, ThreadStatus, WorldOf}
use Rattle.model.specs.Step as step
use Rattle.model.specs.Step.{is_enabled_by, ops_of, thread_at, thread_event}
use Rattle.run_laws.proofs.typed_threads.Threads.{tables_counted}
use Rattle.run_laws.specs.word_reports.Reports.{may_step_of, instruction_end_of, site_end_of, frame_end_of, held_end_of, thread_end_of}
use Rattle.linked_code.specs.declared.program.LinkedProgram.{LinkedProgram}
use Rattle.machine_state.specs.linked_frames.Frames.{event_of}
use Rattle.thread_stacks.specs.Stacks.{ShownEntry}
use Rattle.machine_state.specs.declared.state.Shared.{Shared}
use Rattle.machine_state.specs.Shown.{IsProgram, IsLent}
use Rattle.machine_state.specs.state_events.Whole.{ShowsStacks, IsShown}
use Rattle.machine_state.proofs.state_events.Places.{own_at}
use Rattle.machine.specs.thread_standings.Parts.{StandsThere, is_runnable_standing}
use Rattle.machine.specs.thread_standings.Standings.{StandsSo}
use Rattle.machine.proofs.thread_standings.Enabled.{may_is}
use Rattle.machine.proofs.thread_standings.Statuses.{whole_is, thread_there}
use Rattle.machine_threads.specs.declared.waiting_instructions.kinds.Standing.{Standing}
use Rattle.machine_threads.specs.declared.waiting_instructions.kinds.Standing.TheVariants as standing
use Rattle.machine_threads.specs.waiting_instructions.Waits.{IsEnd}

-- ---- stacks

none_at : (trees : Program) (p : LinkedProgram) (ss : List (List ShownEntry)) (ms : List (StackOf ℕ)) → ShowsStacks trees p ss ms → (t : ℕ)
    → None ≡ slice_get ss t → slice_get ms t ≡ None
none_at trees p [] [] h t e = refl
none_at trees p [] (m ∷ ms) h t e = absurd h
none_at trees p (s ∷ ss) [] h t e = absurd h
none_at trees p (s ∷ ss) (m ∷ ms) h zero e = absurd cc
none_at trees p (s ∷ ss) (m ∷ ms) h (suc t) e = none_at trees p ss ms h.1 t e

module _ (trees : Program) (p : LinkedProgram) (bounds : Bounds) (inflated : List ℕ) (shared : Shared) (state : StateOf ℕ)
    (h : IsShown trees p bounds inflated shared state) (t : ℕ) where
  -- its own stack shows what is there
  pub lent_of : (from : List ShownEntry) → Some from ≡ slice_get shared.stacks.items t
      → (own : StackOf ℕ) × IsLent trees p bounds inflated t shared from state own
  lent_of from e =
      let own = own_at trees p shared.stacks.items state.stacks h.stacks t from (sym e) in (
        own.own,
        record { represents = h.represents; flags = h.flags; counted = h.counted; shows_stack = own.shows; is_own = own.is; typed = h.typed },
      )

  -- there is no such thread
  pub no_stack : None ≡ slice_get shared.stacks.items t → slice_get state.stacks t ≡ None
  no_stack e = none_at trees p shared.stacks.items state.stacks h.stacks t e

  pub no_thread_there : None ≡ slice_get shared.stacks.items t → (thread : Thread) → slice_get state.world.threads t ≡ Some thread → ⊥
  no_thread_there e thread there =
      let inside : t < length state.stacks = subst (λ n. t < n) (sym (tables_counted trees state h.typed).stacks) (slice_get_within state.world.threads t thread there) in
      let both = sym (no_stack e) ∙ slice_get-get_or state.stacks t [] inside in
      cc

  pub none_may : (frames : ℕ) → None ≡ slice_get shared.stacks.items t → false ≡ may_step_of words trees frames state t
  none_may frames e = ap (λ (o : Option (StackOf ℕ)). is_enabled_by (step.event_of words trees frames state (event_of t) o)) (sym (no_stack e))

-- ---- how it stands

pub stands_so : (p : LinkedProgram) (shared : Shared) (t frames : ℕ) (from : List ShownEntry) (result : Standing)
    → Some from ≡ slice_get shared.stacks.items t
    → StandsThere p shared from t frames result → StandsSo p shared t frames result
stands_so p shared t frames from result e stands trees bounds inflated state program shown thread there =
    let own = lent_of trees p bounds inflated shared state shown t from e in
    subst (IsEnd trees result) (whole_is trees frames t state own.0 own.1.is_own thread there)
    (stands trees bounds inflated state own.0 program own.1 shown.ends)

-- ---- whether it may step

abbrev is_runnable : ThreadEnd → Bool
is_runnable report.Ended = false
is_runnable (report.Threw name) = false
is_runnable report.Blocked = false
is_runnable report.Waiting = false
is_runnable report.Joining = false
is_runnable report.Initialising = false
is_runnable report.Runnable = true

runnable_same : (trees : Program) (result : Standing) (end : ThreadEnd) → IsEnd trees result end
    → is_runnable_standing result ≡ is_runnable end
runnable_same trees standing.Ended end h = ap is_runnable (sym h)
runnable_same trees (standing.Threw class) end h = ap is_runnable (sym h.2)
runnable_same trees standing.Blocked end h = ap is_runnable (sym h)
runnable_same trees standing.Waiting end h = ap is_runnable (sym h)
runnable_same trees standing.Joining end h = ap is_runnable (sym h)
runnable_same trees standing.Initialising end h = ap is_runnable (sym h)
runnable_same trees standing.Runnable end h = ap is_runnable (sym h)

by_test : (b : Bool) (x y : ThreadEnd) → is_runnable x ≡ false → is_runnable y ≡ false → is_runnable (if b then x else y) ≡ false
by_test true x y e f = e
by_test false x y e f = f

-- a thread that waits is not runnable
waits_at : (i : Instr) → is_runnable (waiting_at i) ≡ false
waits_at instr.MonitorEnter = refl
waits_at other = refl

module _ (trees : Program) (world : WorldOf ℕ) (t : ℕ) where
  instruction_waits : (frame : FrameOf ℕ) (site : Site) (o : Option (MeaningOf ℕ))
      → is_runnable (option_map_or (instruction_end_of words world t frame site) o report.Blocked) ≡ false
  instruction_waits frame site None = refl
  instruction_waits frame site (Some meant) =
      by_test (is_held (look_at t world meant.looks)) report.Initialising _ refl
      (by_test (meant.may (event_of t) world (ops_of words meant frame.place.slots)) report.Blocked (waiting_at site.instr) refl (waits_at site.instr))

  site_waits : (frame : FrameOf ℕ) (o : Option Site) → is_runnable (site_end_of words trees world t frame o) ≡ false
  site_waits frame None = refl
  site_waits frame (Some site) = instruction_waits frame site (meaning_of words trees site)

  frame_waits : (frame : FrameOf ℕ) (o : Option Body) → is_runnable (frame_end_of words trees world t frame o) ≡ false
  frame_waits frame None = refl
  frame_waits frame (Some body) = site_waits frame (site_at frame.method body frame.place.offset)

  held_waits : (own : StackOf ℕ) → is_runnable (held_end_of words trees world t own) ≡ false
  held_waits [] = by_test (is_held (look_at t world (begin_class trees t))) report.Initialising report.Blocked refl refl
  held_waits (model.Invocation frame ∷ rest) = frame_waits frame (body_of trees frame.method)
  held_waits (model.Initialisation class phase ∷ rest) = refl

by_may : (b : Bool) (x : ThreadEnd) → is_runnable x ≡ false → is_runnable (if b then report.Runnable else x) ≡ b
by_may true x e = refl
by_may false x e = e

module _ (trees : Program) (frames t : ℕ) (state : StateOf ℕ) (own : StackOf ℕ) (is : slice_get state.stacks t ≡ Some own) where
  may_by : (status : ThreadStatus) → (thread_at state.world t).status ≡ status
      → may_step_of words trees frames state t ≡ is_enabled_by (thread_event words trees frames (event_of t) state.world own status)
  may_by status e = may_is trees frames state t own is ∙ ap (λ (s : ThreadStatus). is_enabled_by (thread_event words trees frames (event_of t) state.world own s)) e

  ended : (world : WorldOf ℕ) (exception : Option ℕ) → is_runnable (ended_by world exception) ≡ false
  ended world None = refl
  ended world (Some thrown) = refl

  end_may : (status : ThreadStatus) → (thread_at state.world t).status ≡ status
      → is_runnable (thread_end_of words trees frames state t status) ≡ may_step_of words trees frames state t
  end_may model.Running e = by_may (may_step_of words trees frames state t) _ (held_waits trees state.world t (slice_index_or state.stacks t []))
  end_may (model.Waiting object count) e = sym (may_by (model.Waiting object count) e)
  end_may (model.Relock object count cause) e = by_may (may_step_of words trees frames state t) report.Blocked refl
  end_may (model.Ended exception) e = ended state.world exception ∙ sym (may_by (model.Ended exception) e)

pub may_so : (p : LinkedProgram) (shared : Shared) (t frames : ℕ) (from : List ShownEntry) (result : Standing) (answer : Bool)
    → Some from ≡ slice_get shared.stacks.items t
    → StandsSo p shared t frames result → answer ≡ is_runnable_standing result
    → (trees : Program) (bounds : Bounds) (inflated : List ℕ) (state : StateOf ℕ) → IsProgram trees p
    → IsShown trees p bounds inflated shared state → answer ≡ may_step_of words trees frames state t
may_so p shared t frames from result answer e stands says trees bounds inflated state program shown =
    let own = lent_of trees p bounds inflated shared state shown t from e in
    let there = thread_there trees p bounds inflated t shared from state own.0 own.1 in
    says
    ∙ runnable_same trees result _ (stands trees bounds inflated state program shown (thread_at state.world t) there)
    ∙ end_may trees frames t state own.0 own.1.is_own (thread_at state.world t).status refl
