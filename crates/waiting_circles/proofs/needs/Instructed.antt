-- What an instruction needs whose class is ready: monitorenter the monitor of the object on top, and any other one what its frame
-- needs.
use Rattle.std.proofs.Common.{◌≡◌, ℕ, List, [], ◌∷◌, take, Option, Some, None, false, option_map, refl, sym, ap, ◌∙◌}
use Rattle.std.specs.Prelude.{slice_index_or}
use Rattle.std.proofs.lemmas.Bool.{true≢false}
use Rattle.std.proofs.lemmas.Option.{same_Some}
use Rattle.model.specs.declared.instr.Instr.{Instr}
use Rattle.model.specs.declared.instr.Instr.TheVariants as instr
use Rattle.model.specs.Classes.{Program}
use Rattle.model.specs.LimitStands.{Bounds}
use Rattle.model.specs.Meaning.{waiting_at}
use Rattle.model.specs.Meanings.{local_or, other_meaning, meaning_of}
use Rattle.model.specs.MonitorMeanings.{monitor_enter_meaning}
use Rattle.model.specs.Operands.{words, word_reference, under}
use Rattle.model.specs.Outcomes.{OutcomeOf}
use Rattle.model.specs.Pool.{integers_of}
use Rattle.model.specs.Report.{Blocked, Joining}
use Rattle.model.specs.Rows.{local_row}
use Rattle.model.specs.Sites.{MeaningOf, Site, referent}
use Rattle.model.specs.State.{Invocation, FrameOf, StackOf, StateOf, WorldOf}
use Rattle.model.specs.Step.{ops_of}
use Rattle.search_laws.specs.Waits.{Need, MonitorOf, callee_entered, frame_need, instruction_need}
use Rattle.linked_code.specs.declared.instruction.LinkedInstruction.{LinkedInstruction}
use Rattle.linked_code.specs.declared.method.LinkedCode.{LinkedCode}
use Rattle.linked_code.specs.declared.program.LinkedProgram.{LinkedProgram}
use Rattle.thread_stacks.specs.Stacks.{ShownEntry}
use Rattle.machine_state.specs.declared.state.Shared.{Shared}
use Rattle.machine_state.specs.linked_frames.Frames.{IsRunning, event_of}
use Rattle.machine_state.proofs.linked_frames.Frames.{meaning_is}
use Rattle.machine_instructions.specs.called_methods.Frames.{object_under}
use Rattle.machine_instructions.proofs.called_methods.Calling.{under_is}
use Rattle.machine_threads.proofs.waiting_instructions.Meant.{IsCall, joins, enters}
use Rattle.machine_threads.proofs.waiting_instructions.Quick.{IsQuick}
use Rattle.waiting_circles.specs.Needs.{outcome_at}
use Rattle.waiting_circles.proofs.needs.Entered.{stays_none}
use Rattle.waiting_circles.proofs.needs.Framed.{none_needed}

-- ---- which instructions enter monitors

no_join : {X : Type 0} → Joining ≡ Blocked → X
no_join e = absurd cc

entering_by : (i : Instr) → waiting_at i ≡ Blocked → i ≡ instr.MonitorEnter
entering_by instr.MonitorEnter e = refl
entering_by other e = no_join e

module _ (trees : Program) (site : Site) (world : WorldOf ℕ) where
  -- another thread owns the monitor of the first object
  held_world : WorldOf ℕ
  held_world = record world { monitors = (record { owner = Some 1; count = 1; waiters = [] }) ∷ [] }

  held : (monitor_enter_meaning words site).may (event_of 0) held_world (1 ∷ []) ≡ false
  unfolding held_world
  held = refl

  held_as : (m : MeaningOf ℕ) → m ≡ monitor_enter_meaning words site → m.may (event_of 0) held_world (1 ∷ []) ≡ false
  held_as m e = ap (λ (x : MeaningOf ℕ). x.may (event_of 0) held_world (1 ∷ [])) e ∙ held

  pub means_enter : site.instr ≡ instr.MonitorEnter → meaning_of words trees site ≡ Some (monitor_enter_meaning words site)
  means_enter e =
      ap (λ i. local_or words trees site (local_row (integers_of site.body.pool) site.body.code.code site.offset site.next i)) e
      ∙ ap (other_meaning words trees site) e

  module _ (m : MeaningOf ℕ) (means : meaning_of words trees site ≡ Some m) where
    -- where it means that, it is monitorenter
    pub is_enter : m ≡ monitor_enter_meaning words site → site.instr ≡ instr.MonitorEnter
    is_enter e =
        entering_by site.instr (enters trees site m means 0 held_world (record { locals = []; stack = [] }) (1 ∷ []) (held_as m e) e)

    same_enter : site.instr ≡ instr.MonitorEnter → m ≡ monitor_enter_meaning words site
    same_enter e = same_Some m (monitor_enter_meaning words site) (sym means ∙ means_enter e)

    pub quick_not : IsQuick m → site.instr ≡ instr.MonitorEnter → ⊥
    quick_not q e = true≢false (sym (q.may 0 held_world (1 ∷ [])) ∙ held_as m (same_enter e))

    pub call_not : IsCall trees site m → site.instr ≡ instr.MonitorEnter → ⊥
    call_not c e =
        no_join (sym (joins trees site m means 0 held_world (record { locals = []; stack = [] }) (1 ∷ []) (held_as m (same_enter e)) c) ∙ ap waiting_at e)

-- ---- what they need

module _ (trees : Program) (frames t : ℕ) (world : WorldOf ℕ) (own : StackOf ℕ) (ops : List ℕ) (outcome : OutcomeOf ℕ) where
  pub other_need : (i : Instr) → (i ≡ instr.MonitorEnter → ⊥)
      → instruction_need words trees frames t world own i ops outcome ≡ frame_need words trees frames t world own (callee_entered outcome)
  other_need instr.MonitorEnter n = absurd (n refl)
  other_need other n = refl

first_taken : (stack : List ℕ) → slice_index_or (take 1 stack) 0 0 ≡ slice_index_or stack 0 0
first_taken [] = refl
first_taken (w ∷ stack) = refl

module _ (trees : Program) (p : LinkedProgram) (bounds : Bounds) (inflated : List ℕ) (t : ℕ) (old : Shared) (from : List ShownEntry)
    (state : StateOf ℕ) (frame : FrameOf ℕ) (rest : StackOf ℕ) (code : LinkedCode) (site : Site) (meaning : MeaningOf ℕ)
    (instruction : LinkedInstruction) (frames : ℕ)
    (is : IsRunning trees p bounds inflated t old from state frame rest code site meaning instruction) where
  abbrev ops : List ℕ
  ops = ops_of words meaning frame.place.slots

  abbrev own : StackOf ℕ
  own = Invocation frame ∷ rest

  abbrev outcome : OutcomeOf ℕ
  outcome = outcome_at t state.world frame meaning

  abbrev need_by : Option Need
  need_by = instruction_need words trees frames t state.world own site.instr ops outcome

  -- monitorenter
  pub enter_need : meaning_of words trees site ≡ Some (monitor_enter_meaning words site) → (o : Option ℕ) → o ≡ object_under 0 from
      → need_by ≡ option_map MonitorOf o
  enter_need e o under =
      let same = meaning_is trees p bounds inflated t old from state frame rest code site meaning instruction is (monitor_enter_meaning words site) e in
      ap (λ i. instruction_need words trees frames t state.world own i ops outcome) (is_enter trees site state.world meaning is.stands.at.means same)
      ∙ ap (option_map MonitorOf)
      (ap (λ (m : MeaningOf ℕ). referent words (ops_of words m frame.place.slots) 0) same
      ∙ ap word_reference (first_taken frame.place.slots.stack)
      ∙ sym (under_is trees p bounds inflated t old from state frame rest code site meaning instruction is 0)
      ∙ sym under)

  -- what is neither that nor a call
  pub quick_need : IsQuick meaning → need_by ≡ None
  quick_need q =
      other_need trees frames t state.world own ops outcome site.instr (quick_not trees site state.world meaning is.stands.at.means q)
      ∙ ap (frame_need words trees frames t state.world own) (stays_none outcome (q.stays t state.world frame.place.slots ops (under meaning.wants frame.place.slots)))
      ∙ none_needed trees frames t state.world own

  -- a call
  pub call_need : IsCall trees site meaning → need_by ≡ frame_need words trees frames t state.world own (callee_entered outcome)
  call_need c = other_need trees frames t state.world own ops outcome site.instr (call_not trees site state.world meaning is.stands.at.means c)
