-- Which picks past 0 are enabled: at a call on an object, which needs no class first, and of a thread.
use Rattle.std.proofs.Common.{◌≡◌, ℕ, zero, suc, List, [], ◌∷◌, Option, Some, None, Bool, true, false, if◌then◌else◌, ◌==◌, nat_lt, refl, sym, ap, subst, ◌∙◌}
use Rattle.std.specs.Prelude.{slice_get}
use Rattle.std.proofs.lemmas.Option.{same_Some}
use Rattle.model.specs.Calls.{constructor_call, interface_call, special_call, virtual_call}
use Rattle.model.specs.ClassInitialisation.{IsReady, look_at}
use Rattle.model.specs.Classes.{Program}
use Rattle.model.specs.LimitStands.{Bounds}
use Rattle.model.specs.Meanings.{meaning_of}
use Rattle.model.specs.Names.{Name}
use Rattle.model.specs.Operands.{words}
use Rattle.model.specs.Sites.{MeaningOf, Site}
use Rattle.model.specs.State as model
use Rattle.model.specs.State.{FrameOf, StackOf, StateOf, ThreadStatus, WorldOf}
use Rattle.model.specs.Step as step
use Rattle.model.specs.Step.{NotEnabled, WrongKind, Next, PartOf, SteppedOf, going_event, is_enabled_by, running_event, settled, thread_at, thread_event, with_part}
use Rattle.run_laws.specs.word_operands.Operands.{IsOnTop}
use Rattle.run_laws.specs.word_reports.Reports.{is_enabled_of}
use Rattle.linked_code.specs.declared.instruction.LinkedInstruction.{LinkedInstruction}
use Rattle.linked_code.specs.declared.instruction.LinkedInstruction.TheVariants as linked
use Rattle.linked_code.specs.declared.method.LinkedCode.{LinkedCode}
use Rattle.linked_code.specs.declared.program.LinkedProgram.{LinkedProgram}
use Rattle.linked_code.specs.Calls.{CallsConstructor, CallsOnly, CallsSpecial, IsDirectCall}
use Rattle.thread_stacks.specs.Stacks.{IsTopFrame, Initialisation, Invocation, ShownEntry, ShownFrame}
use Rattle.machine_state.specs.declared.answers.Effect.{Effect}
use Rattle.machine_state.specs.declared.answers.Effect.TheVariants as effect
use Rattle.machine_state.specs.declared.answers.MachineException.{MachineException}
use Rattle.machine_state.specs.declared.state.Shared.{Shared}
use Rattle.machine_state.specs.Instructions.{AreInstructionsDone}
use Rattle.machine_state.specs.Shown.{IsLent, IsProgram}
use Rattle.machine_state.specs.linked_frames.Frames.{AreFramesStanding, IsInstruction, IsRunning}
use Rattle.machine_state.proofs.linked_frames.Frames.{meaning_is}
use Rattle.machine_state.specs.shown_stacks.Shown.{ShowsStack}
use Rattle.machine_state.specs.state_events.Whole.{IsShown, ShowsStacks}
use Rattle.machine_state.proofs.state_events.Places.{own_at}
use Rattle.machine_instructions.specs.called_methods.Frames.{raised_by}
use Rattle.machine.specs.top_frames.Tops.{GoesOn}
use Rattle.program_runs.specs.policies.Picks.{PicksAt, PicksInInstruction, PicksOnTop, picked}
use Rattle.program_runs.proofs.policies.Unpicked.{none_below, past_zero, unpicked_off}

-- ---- at a call that throws

pub not_raised : (fault : MachineException) (k : ℕ) → effect.NotEnabled ≡ raised_by (suc k) fault
not_raised fault k = sym (ap (λ b. if b then effect.Raises fault else effect.NotEnabled) (past_zero k))

-- ---- at a call on an object

module _ (all : AreInstructionsDone) (p : LinkedProgram) (t count : ℕ) (shared : Shared) (stack : List ShownEntry) where
  by_none : (i : LinkedInstruction)
      → ((trees : Program) (bounds : Bounds) (inflated : List ℕ) (state : StateOf ℕ) (frame : FrameOf ℕ) (rest : StackOf ℕ) (code : LinkedCode) (site : Site) (meaning : MeaningOf ℕ)
      → IsRunning trees p bounds inflated t shared stack state frame rest code site meaning i → meaning.looks ≡ None)
      → PicksInInstruction p i t count shared stack → PicksAt p i t count shared stack
  by_none i none h trees bounds inflated state frame rest code site meaning frames is k =
      ap is_enabled_by
      (all trees frames (picked t (suc k)) state.world frame rest site meaning is.stands.at
      (ap (look_at t state.world) (none trees bounds inflated state frame rest code site meaning is)))
      ∙ h trees bounds inflated state frame rest code site meaning frames is k

  pub at_virtual : (parameters place : ℕ) → PicksInInstruction p (linked.InvokeVirtual parameters place) t count shared stack
      → PicksAt p (linked.InvokeVirtual parameters place) t count shared stack
  at_virtual parameters place =
      by_none (linked.InvokeVirtual parameters place)
      (λ trees bounds inflated state frame rest code site meaning is.
      ap (λ (m : MeaningOf ℕ). m.looks)
      (meaning_is trees p bounds inflated t shared stack state frame rest code site meaning (linked.InvokeVirtual parameters place) is (virtual_call words trees site is.stands.linked.named is.stands.linked.callee) is.stands.linked.is))

  pub at_interface : (parameters selector : ℕ) → PicksInInstruction p (linked.InvokeInterface parameters selector) t count shared stack
      → PicksAt p (linked.InvokeInterface parameters selector) t count shared stack
  at_interface parameters selector =
      by_none (linked.InvokeInterface parameters selector)
      (λ trees bounds inflated state frame rest code site meaning is.
      ap (λ (m : MeaningOf ℕ). m.looks)
      (meaning_is trees p bounds inflated t shared stack state frame rest code site meaning (linked.InvokeInterface parameters selector) is (interface_call words trees site is.stands.linked.named is.stands.linked.callee) is.stands.linked.is))

  pub at_special : (parameters method : ℕ) → PicksInInstruction p (linked.InvokeSpecial parameters method) t count shared stack
      → PicksAt p (linked.InvokeSpecial parameters method) t count shared stack
  at_special parameters method =
      by_none (linked.InvokeSpecial parameters method)
      (λ trees bounds inflated state frame rest code site meaning is. by trees bounds inflated state frame rest code site meaning is is.stands.linked.calls)
    where
      by : (trees : Program) (bounds : Bounds) (inflated : List ℕ) (state : StateOf ℕ) (frame : FrameOf ℕ) (rest : StackOf ℕ) (code : LinkedCode) (site : Site) (meaning : MeaningOf ℕ)
          → IsRunning trees p bounds inflated t shared stack state frame rest code site meaning (linked.InvokeSpecial parameters method)
          → IsDirectCall trees site parameters method → meaning.looks ≡ None
      by trees bounds inflated state frame rest code site meaning is (CallsConstructor callee means counted instance constructs numbered) =
          ap (λ (m : MeaningOf ℕ). m.looks) (meaning_is trees p bounds inflated t shared stack state frame rest code site meaning (linked.InvokeSpecial parameters method) is (constructor_call words trees site callee) means)
      by trees bounds inflated state frame rest code site meaning is (CallsSpecial named callee means counted other found chosen special) =
          ap (λ (m : MeaningOf ℕ). m.looks) (meaning_is trees p bounds inflated t shared stack state frame rest code site meaning (linked.InvokeSpecial parameters method) is (special_call words trees site named.class callee) means)
      by trees bounds inflated state frame rest code site meaning is (CallsOnly named callee means counted numbered) =
          ap (λ (m : MeaningOf ℕ). m.looks) (meaning_is trees p bounds inflated t shared stack state frame rest code site meaning (linked.InvokeSpecial parameters method) is (virtual_call words trees site named callee) means)

-- ---- by what is on top of a stack

module _ (trees : Program) (p : LinkedProgram) (frames t k : ℕ) (world : WorldOf ℕ) where
  abbrev runs : StackOf ℕ → Bool
  runs own = is_enabled_by (running_event words trees frames (picked t (suc k)) world own)

  -- no frame
  pub without_frame : (stack : List ShownEntry) (own : StackOf ℕ) → ShowsStack trees p stack own → IsTopFrame stack None → runs own ≡ nat_lt (suc k) 0
  without_frame stack [] shows top = unpicked_off t k _
  without_frame stack (model.Initialisation class phase ∷ rest) shows top = unpicked_off t k _
  without_frame [] (model.Invocation frame ∷ rest) shows top = absurd shows
  without_frame (Invocation shown ∷ others) (model.Invocation frame ∷ rest) shows top = absurd cc
  without_frame (Initialisation class phase ∷ others) (model.Invocation frame ∷ rest) shows top = absurd shows.0

  -- a frame
  pub with_frame : (n : ℕ) (shown : ShownFrame) (stack : List ShownEntry) (own : StackOf ℕ) → ShowsStack trees p stack own → IsTopFrame stack (Some shown)
      → ((frame : FrameOf ℕ) (rest : StackOf ℕ) → own ≡ model.Invocation frame ∷ rest → runs (model.Invocation frame ∷ rest) ≡ nat_lt (suc k) n)
      → runs own ≡ nat_lt (suc k) n
  with_frame n shown stack (model.Invocation frame ∷ rest) shows top h = h frame rest refl
  with_frame n shown [] [] shows top h = absurd cc
  with_frame n shown (Invocation f ∷ others) [] shows top h = absurd shows
  with_frame n shown (Initialisation class phase ∷ others) [] shows top h = absurd cc
  with_frame n shown [] (model.Initialisation class phase ∷ rest) shows top h = absurd cc
  with_frame n shown (Invocation f ∷ others) (model.Initialisation class phase ∷ rest) shows top h = absurd shows.0
  with_frame n shown (Initialisation c q ∷ others) (model.Initialisation class phase ∷ rest) shows top h = absurd cc

-- it stands at the instruction that was found
module _ (all : AreFramesStanding) (p : LinkedProgram) (t : ℕ) (shared : Shared) (stack : List ShownEntry) (shown : ShownFrame) (top : IsTopFrame stack (Some shown)) where
  pub found_on_top : (n : ℕ) (i : LinkedInstruction) → IsInstruction p stack (Some i) → PicksAt p i t n shared stack → PicksOnTop p t n shared stack
  found_on_top n i found h trees bounds inflated state own frames program lent status pending k =
      with_frame trees p frames t k state.world n shown stack own lent.shows_stack top
      (λ frame rest e.
      let here = subst (λ (o : StackOf ℕ). IsLent trees p bounds inflated t shared stack state o) e lent in
      let s = all trees p program bounds inflated t shared stack state frame rest here (record { rest = rest; stack = here.is_own; runs = status; pending = pending }) in
      let same : i ≡ s.instruction = same_Some i s.instruction (found trees bounds inflated t shared state frame rest s.code s.site s.meaning s.instruction s.is) in
      h trees bounds inflated state frame rest s.code s.site s.meaning frames
      (subst (λ (x : LinkedInstruction). IsRunning trees p bounds inflated t shared stack state frame rest s.code s.site s.meaning x) (sym same) s.is) k)

  pub none_on_top : (n : ℕ) → IsInstruction p stack None → PicksOnTop p t n shared stack
  none_on_top n found trees bounds inflated state own frames program lent status pending k =
      with_frame trees p frames t k state.world n shown stack own lent.shows_stack top
      (λ frame rest e.
      let here = subst (λ (o : StackOf ℕ). IsLent trees p bounds inflated t shared stack state o) e lent in
      let s = all trees p program bounds inflated t shared stack state frame rest here (record { rest = rest; stack = here.is_own; runs = status; pending = pending }) in
      absurd (none_some s.instruction (found trees bounds inflated t shared state frame rest s.code s.site s.meaning s.instruction s.is)))
    where
      none_some : (b : LinkedInstruction) → None ≡ Some b → ⊥
      none_some b e = cc

-- ---- the whole event of a thread

settled_same : (t : ℕ) (x : SteppedOf (PartOf ℕ)) → is_enabled_by (settled t x) ≡ is_enabled_by x
settled_same t NotEnabled = refl
settled_same t WrongKind = refl
settled_same t (Next cost next) = refl

part_same : (state : StateOf ℕ) (t : ℕ) (x : SteppedOf (PartOf ℕ)) → is_enabled_by (with_part state t x) ≡ is_enabled_by x
part_same state t NotEnabled = refl
part_same state t WrongKind = refl
part_same state t (Next cost next) = refl

module _ (trees : Program) (frames t k : ℕ) (state : StateOf ℕ) where
  abbrev enabled : Bool
  enabled = is_enabled_of words trees frames state (picked t (suc k))

  abbrev by_status : StackOf ℕ → ThreadStatus → Bool
  by_status own status = is_enabled_by (thread_event words trees frames (picked t (suc k)) state.world own status)

  whole : (own : StackOf ℕ) → slice_get state.stacks t ≡ Some own → enabled ≡ by_status own (thread_at state.world t).status
  whole own e =
      ap (λ (o : Option (StackOf ℕ)). is_enabled_by (step.event_of words trees frames state (picked t (suc k)) o)) e
      ∙ part_same state t (settled t (thread_event words trees frames (picked t (suc k)) state.world own (thread_at state.world t).status))
      ∙ settled_same t (thread_event words trees frames (picked t (suc k)) state.world own (thread_at state.world t).status)

  -- there is no such thread
  pub none_there : slice_get state.stacks t ≡ None → enabled ≡ nat_lt (suc k) 0
  none_there e = ap (λ (o : Option (StackOf ℕ)). is_enabled_by (step.event_of words trees frames state (picked t (suc k)) o)) e ∙ sym (none_below k)

  -- it runs
  pub runs_there : (own : StackOf ℕ) → slice_get state.stacks t ≡ Some own → (thread_at state.world t).status ≡ model.Running → (thread_at state.world t).pending ≡ None
      → enabled ≡ is_enabled_by (running_event words trees frames (picked t (suc k)) state.world own)
  runs_there own e status pending =
      whole own e ∙ ap (by_status own) status
      ∙ ap (λ (o : Option ℕ). is_enabled_by (going_event words trees frames (picked t (suc k)) state.world own o)) pending

  -- it doesn't
  pub rests_there : (own : StackOf ℕ) → slice_get state.stacks t ≡ Some own
      → (((thread_at state.world t).status ≡ model.Running) × ((thread_at state.world t).pending ≡ None) → ⊥) → enabled ≡ nat_lt (suc k) 0
  rests_there own e n = whole own e ∙ by (thread_at state.world t).status refl
    where
      by_pending : (o : Option ℕ) → (o ≡ None → ⊥) → is_enabled_by (going_event words trees frames (picked t (suc k)) state.world own o) ≡ nat_lt (suc k) 0
      by_pending None other = absurd (other refl)
      by_pending (Some exception) other = unpicked_off t k _

      by : (status : ThreadStatus) → (thread_at state.world t).status ≡ status → by_status own status ≡ nat_lt (suc k) 0
      by model.Running e = by_pending (thread_at state.world t).pending (λ q. n (e, q))
      by (model.Waiting object count) e = sym (none_below k)
      by (model.Relock object count cause) e = unpicked_off t k _
      by (model.Ended exception) e = sym (none_below k)

  -- whether there is one or not
  pub by_stack : (((thread_at state.world t).status ≡ model.Running) × ((thread_at state.world t).pending ≡ None) → ⊥) → enabled ≡ nat_lt (suc k) 0
  by_stack n = by (slice_get state.stacks t) refl
    where
      by : (o : Option (StackOf ℕ)) → slice_get state.stacks t ≡ o → enabled ≡ nat_lt (suc k) 0
      by None e = none_there e
      by (Some own) e = rests_there own e n

-- ---- in a state that is shown

none_at : (trees : Program) (p : LinkedProgram) (ss : List (List ShownEntry)) (ms : List (StackOf ℕ)) → ShowsStacks trees p ss ms → (t : ℕ)
    → None ≡ slice_get ss t → slice_get ms t ≡ None
none_at trees p [] [] h t e = refl
none_at trees p [] (m ∷ ms) h t e = absurd h
none_at trees p (s ∷ ss) [] h t e = absurd h
none_at trees p (s ∷ ss) (m ∷ ms) h zero e = absurd cc
none_at trees p (s ∷ ss) (m ∷ ms) h (suc t) e = none_at trees p ss ms h.1 t e

module _ (trees : Program) (p : LinkedProgram) (bounds : Bounds) (inflated : List ℕ) (shared : Shared) (state : StateOf ℕ)
    (h : IsShown trees p bounds inflated shared state) (t : ℕ) where
  pub no_stack : None ≡ slice_get shared.stacks.items t → slice_get state.stacks t ≡ None
  no_stack e = none_at trees p shared.stacks.items state.stacks h.stacks t e

  pub lent_of : (from : List ShownEntry) → Some from ≡ slice_get shared.stacks.items t
      → (own : StackOf ℕ) × IsLent trees p bounds inflated t shared from state own
  lent_of from e =
      let own = own_at trees p shared.stacks.items state.stacks h.stacks t from (sym e) in (
        own.own,
        record { represents = h.represents; flags = h.flags; counted = h.counted; shows_stack = own.shows; is_own = own.is; typed = h.typed },
      )

  -- what the table of threads says of it
  pub goes_on_shown : GoesOn shared.threads.threads t → ((thread_at state.world t).status ≡ model.Running) × ((thread_at state.world t).pending ≡ None)
  goes_on_shown g = subst (λ threads. GoesOn threads t) h.represents.world_is.threads g

  pub rests_shown : (GoesOn shared.threads.threads t → ⊥) → ((thread_at state.world t).status ≡ model.Running) × ((thread_at state.world t).pending ≡ None) → ⊥
  rests_shown n g = n (subst (λ threads. GoesOn threads t) (sym h.represents.world_is.threads) g)
