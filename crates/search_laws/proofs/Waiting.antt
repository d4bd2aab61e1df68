-- A thread that waits for another one has no event, and waits for it still behind each event of a third one.
use Rattle.std.proofs.Common.{◌≡◌, ℕ, zero, suc, List, [], ◌∷◌, nat_lt, Bool, true, false, ◌==◌, ◌&&◌, if◌then◌else◌, Option, Some, None, option_map, refl, sym, ap, ◌∙◌, subst}
use Rattle.std.specs.Prelude.{◌+◌}
use Rattle.std.specs.Option.{option_and_then}
use Rattle.std.proofs.lemmas.Option.{same_Some, none-some}
use Rattle.model.specs.declared.event.Event.{Event}
use Rattle.model.specs.declared.instr.Instr.{Instr}
use Rattle.model.specs.declared.instr.Instr.TheVariants as instr
use Rattle.model.specs.declared.monitor_answer.MonitorAnswer.TheVariants.{Held}
use Rattle.model.specs.declared.value.Value.{Value}
use Rattle.model.specs.Classes.{Program, Body, body_of}
use Rattle.model.specs.ClassInitialisation.{status_of, Look, IsReady, IsNew, IsHeld, HasFailed, look_by}
use Rattle.model.specs.Frames.{frame_with, entered_by, frame_count, at_call}
use Rattle.model.specs.Lookup.{select}
use Rattle.model.specs.Meanings.{local_or, other_meaning, meaning_of}
use Rattle.model.specs.MonitorMeanings.{may_enter_object, monitor_enter_meaning}
use Rattle.model.specs.Monitors as monitors
use Rattle.model.specs.Monitors.{Answered, owns, monitor_at, unlocked, answers_done, as_entrant, owned, relock_from}
use Rattle.model.specs.Names.{Name, Member, main_of, thread_run, initialiser_of}
use Rattle.model.specs.Opening.{arguments_reference, class_reference}
use Rattle.model.specs.Operands.{values, under}
use Rattle.model.specs.Outcomes.{OutcomeOf, Goes, Raises, Throws, Interrupts, Calls, Returns, Waits, StackOverflow}
use Rattle.model.specs.Pool.{integers_of}
use Rattle.model.specs.Rows.{local_row}
use Rattle.model.specs.Sites.{MeaningOf, Site, site_at, referent}
use Rattle.model.specs.State.{Monitor, types_of, ThreadStatus, Running, Waiting, Relock, Ended, Frame, Super, End, Invocation, Initialisation, StackOf, World}
use Rattle.model.specs.Step.{SteppedOf, NotEnabled, WrongKind, Next, PartOf, part, enabled_if, unpicked, needing, needing_class, entering, pushed, raised, become, ops_of, done, bytecode_by, bytecode_in, before, initialiser_event, initialisation_event, initial_class, main_frame, run_frame, run_of, begin_event, running_event, going_event, relock_event, after_wait, thread_event}
use Rattle.model.specs.Worlds.{thread_at, object_at, class_of_object, is_owner, is_done, may_enter, with_begun, with_monitors, with_entry, with_status, entry_cost}
use Rattle.search_laws.specs.Waits.{Need, MonitorOf, IsHeldBy, look_need, callee_entered, class_need, frame_need, instruction_need, meant_need, site_need, body_need, begin_need, stack_need, going_need, status_need}
use Rattle.run_laws.proofs.laws.Operations.{OfMeaning}
use Rattle.search_laws.proofs.Callees.{Once, entered_again}
use Rattle.search_laws.proofs.Owners.{owner_is, differs}

-- ---- answers that lead nowhere

abbrev pub LeadsNowhere : SteppedOf (PartOf Value) → Type 0
LeadsNowhere NotEnabled = Unit {0}
LeadsNowhere WrongKind = Unit {0}
LeadsNowhere (Next cost p) = ⊥

enabled_nowhere : (b : Bool) (x : SteppedOf (PartOf Value)) → LeadsNowhere x → LeadsNowhere (enabled_if b x)
enabled_nowhere true x h = h
enabled_nowhere false x h = tt

not_enabled : (b : Bool) (x : SteppedOf (PartOf Value)) → b ≡ false → LeadsNowhere (enabled_if b x)
not_enabled b x e = subst (λ k. LeadsNowhere (enabled_if k x)) (sym e) tt

both_nowhere : (b : Bool) (x y : SteppedOf (PartOf Value)) → LeadsNowhere x → LeadsNowhere y → LeadsNowhere (if b then x else y)
both_nowhere true x y h g = h
both_nowhere false x y h g = g

pub no_need : {X : Type 0} (need : Need) → None ≡ Some need → X
no_need need e = absurd (none-some need e)

pub mapped : (o : Option ℕ) (need : Need) → option_map MonitorOf o ≡ Some need → (object : ℕ) × ((o ≡ Some object) × (need ≡ MonitorOf object))
mapped None need e = no_need need e
mapped (Some object) need e = (object, (refl, sym (same_Some (MonitorOf object) need e)))

and_false : (a b : Bool) → b ≡ false → (a && b) ≡ false
and_false true b e = e
and_false false b e = refl

-- what monitorenter means where it stands
pub enter_means : (files : Program) (site : Site) → site.instr ≡ instr.MonitorEnter
    → meaning_of values files site ≡ Some (monitor_enter_meaning values site)
enter_means files site e =
    ap (λ i. local_or values files site (local_row (integers_of site.body.pool) site.body.code.code site.offset site.next i)) e
    ∙ ap (other_meaning values files site) e

module _ (files : Program) (frames t u : ℕ) (ne : t ≡ u → ⊥) (world : World) (need : Need) (held : IsHeldBy world u need) where
  -- ---- monitors

  -- the monitor that it owns is entered by no other thread
  cannot_enter : (after : World) (object : ℕ) → after.monitors ≡ world.monitors → need ≡ MonitorOf object → may_enter after t object ≡ false
  cannot_enter after object same is =
      let own : is_owner world u object ≡ true = subst (IsHeldBy world u) is held in
      let m = monitor_at world.monitors object in
      let free = answers_done (owned m t 1) in
      let again = answers_done (owned m t (m.count + 1)) in
      let blocked : Answered Monitor = record { answer = Held; after = m } in
      let other = differs u t (λ q. ne (sym q)) in
      ap (λ ms. is_done (monitors.enter object t ms).answer) same
      ∙ (ap (λ o. is_done (as_entrant t o m free again).answer) (owner_is u m.owner own)
      ∙ ap (λ (b : Bool). is_done (if b then again else blocked).answer) other)

  cannot_relock : (object count : ℕ) → need ≡ MonitorOf object → is_done (monitors.relock object t count world.monitors).answer ≡ false
  cannot_relock object count is =
      let own : is_owner world u object ≡ true = subst (IsHeldBy world u) is held in
      let m = monitor_at world.monitors object in
      ap (λ o. is_done (relock_from o m (answers_done (owned m t count))).answer) (owner_is u m.owner own)

  -- ---- calls

  entering_nowhere : (after : World) (rest : StackOf Value) (frame : Frame) (o : Option ℕ) → after.monitors ≡ world.monitors
      → option_map MonitorOf o ≡ Some need → LeadsNowhere (entering t after rest frame o)
  entering_nowhere after rest frame None same e = no_need need e
  entering_nowhere after rest frame (Some object) same e =
      not_enabled (may_enter after t object) (Next (entry_cost after object) (part (with_entry after t object) (Invocation frame ∷ rest)))
      (cannot_enter after object same (sym (same_Some (MonitorOf object) need e)))

  pushed_nowhere : (after : World) (stack rest : StackOf Value) (frame : Frame) → after.monitors ≡ world.monitors
      → frame_need values files frames t world stack frame.entered ≡ Some need → LeadsNowhere (pushed values files frames t world after stack rest frame)
  pushed_nowhere after stack rest frame same e = by (nat_lt (frame_count stack) frames) e
    where
      by : (b : Bool) → (if b then option_map MonitorOf frame.entered else None) ≡ Some need
          → LeadsNowhere (if b then entering t after rest frame frame.entered else raised values files t StackOverflow world stack)
      by true q = entering_nowhere after rest frame frame.entered same q
      by false q = no_need need q

  -- ---- classes

  look_nowhere : (may : Bool) (look : Look) (class : Name) (stack : StackOf Value) (more : Option Need) (x : SteppedOf (PartOf Value))
      → (more ≡ Some need → LeadsNowhere (enabled_if may x)) → look_need look class more ≡ Some need
      → LeadsNowhere (enabled_if may (needing values files t class look world stack x))
  look_nowhere may IsReady class stack more x h e = h e
  look_nowhere may IsNew class stack more x h e = no_need need e
  look_nowhere may IsHeld class stack more x h e = enabled_nowhere may NotEnabled tt
  look_nowhere may HasFailed class stack more x h e = no_need need e

  class_nowhere : (may : Bool) (class : Option Name) (stack : StackOf Value) (more : Option Need) (x : SteppedOf (PartOf Value))
      → (more ≡ Some need → LeadsNowhere (enabled_if may x)) → class_need values files frames t world class more ≡ Some need
      → LeadsNowhere (enabled_if may (needing_class values files t class world stack x))
  class_nowhere may None stack more x h e = h e
  class_nowhere may (Some class) stack more x h e = look_nowhere may (look_by t (status_of world class)) class stack more x h e

  needed_nowhere : (class : Option Name) (stack : StackOf Value) (more : Option Need) (x : SteppedOf (PartOf Value))
      → (more ≡ Some need → LeadsNowhere x) → class_need values files frames t world class more ≡ Some need
      → LeadsNowhere (needing_class values files t class world stack x)
  needed_nowhere class stack more x h e = class_nowhere true class stack more x h e

  -- ---- an instruction

  module _ (pick : ℕ) (frame : Frame) (stack : StackOf Value) where
    abbrev event : Event
    event = record { thread = t; pick = pick }

    abbrev first : Event
    first = record { thread = t; pick = 0 }

    abbrev whole : StackOf Value
    whole = Invocation frame ∷ stack

    none_framed : {X : Type 0} (b : Bool) → (let o : Option Need = if b then None else None in o) ≡ Some need → X
    none_framed true e = no_need need e
    none_framed false e = no_need need e

    abbrev fits : Bool
    fits = nat_lt (frame_count whole) frames

    become_nowhere : (o : OutcomeOf Value) → frame_need values files frames t world whole (callee_entered o) ≡ Some need
        → LeadsNowhere (become values files frames t world frame stack o)
    become_nowhere (Goes cost after slots to) e = none_framed fits e
    become_nowhere (Calls callee rest) e = pushed_nowhere world whole (Invocation (at_call frame rest) ∷ stack) callee refl e
    become_nowhere (Raises fault) e = none_framed fits e
    become_nowhere (Throws exception) e = none_framed fits e
    become_nowhere Interrupts e = none_framed fits e
    become_nowhere (Returns after results) e = none_framed fits e
    become_nowhere (Waits cost after rest) e = none_framed fits e

    module _ (site : Site) (m : MeaningOf Value) (is : meaning_of values files site ≡ Some m) where
      abbrev ops : List Value
      ops = ops_of values m frame.place.slots

      abbrev does : Event → OutcomeOf Value
      does e = m.does e world frame.place.slots ops (under m.wants frame.place.slots)

      -- with whatever pick, the same callee
      framed_again : (b : Bool) → (if b then option_map MonitorOf (callee_entered (does first)) else None) ≡ Some need
          → (if b then option_map MonitorOf (callee_entered (does event)) else None) ≡ Some need
      framed_again false e = no_need need e
      framed_again true e =
          let x = mapped (callee_entered (does first)) need e in
          let table = subst (OfMeaning (Once files site first event world world frame.place.slots ops (under m.wants frame.place.slots) x.0 refl)) is
          (entered_again files site first event world world frame.place.slots ops (under m.wants frame.place.slots) x.0 refl) in
          ap (option_map MonitorOf) (table x.1.0) ∙ ap (λ n. Some n) (sym x.1.1)

      by_instr : (i : Instr) → site.instr ≡ i → instruction_need values files frames t world whole i ops (does first) ≡ Some need
          → LeadsNowhere (enabled_if (m.may event world ops) (done values files frames event world frame stack m))
      by_instr instr.MonitorEnter q e =
          let same = same_Some (monitor_enter_meaning values site) m (sym (enter_means files site q) ∙ is) in
          not_enabled (m.may event world ops) (done values files frames event world frame stack m)
          (subst (λ (z : MeaningOf Value). option_map MonitorOf (referent values (ops_of values z frame.place.slots) 0) ≡ Some need → z.may event world (ops_of values z frame.place.slots) ≡ false) same cannot e)
        where
          cannot : option_map MonitorOf (referent values (ops_of values (monitor_enter_meaning values site) frame.place.slots) 0) ≡ Some need
              → (monitor_enter_meaning values site).may event world (ops_of values (monitor_enter_meaning values site) frame.place.slots) ≡ false
          cannot k =
              let o = referent values (ops_of values (monitor_enter_meaning values site) frame.place.slots) 0 in
              let x = mapped o need k in
              and_false (pick == 0) (may_enter_object world t o) (ap (may_enter_object world t) x.1.0 ∙ cannot_enter world x.0 refl x.1.1)
      by_instr other q e =
          enabled_nowhere (m.may event world ops) (done values files frames event world frame stack m) (become_nowhere (does event) (framed_again fits e))

      meant_nowhere : (max_stack : ℕ) → meant_need values files frames t world frame stack site m ≡ Some need
          → LeadsNowhere (bytecode_by values files frames event world frame stack max_stack (Some m))
      meant_nowhere max_stack e =
          both_nowhere (values.finds files (types_of world.heap) m.wants max_stack frame.place.slots) _ (unpicked event WrongKind)
          (class_nowhere (m.may event world ops) m.looks whole (instruction_need values files frames t world whole site.instr ops (does first)) (done values files frames event world frame stack m) (by_instr site.instr refl) e)
          (enabled_nowhere (pick == 0) WrongKind tt)

    by_meaning : (site : Site) (max_stack : ℕ) (o : Option (MeaningOf Value)) → meaning_of values files site ≡ o
        → option_and_then (meant_need values files frames t world frame stack site) o ≡ Some need
        → LeadsNowhere (bytecode_by values files frames event world frame stack max_stack o)
    by_meaning site max_stack None q e = no_need need e
    by_meaning site max_stack (Some m) q e = meant_nowhere site m q max_stack e

    by_site : (max_stack : ℕ) (o : Option Site) → option_and_then (site_need values files frames t world frame stack) o ≡ Some need
        → LeadsNowhere (bytecode_by values files frames event world frame stack max_stack (option_and_then (meaning_of values files) o))
    by_site max_stack None e = no_need need e
    by_site max_stack (Some site) e = by_meaning site max_stack (meaning_of values files site) refl e

    by_body : (o : Option Body) → option_and_then (body_need values files frames t world frame stack) o ≡ Some need
        → LeadsNowhere (bytecode_in values files frames event world frame stack o)
    by_body None e = no_need need e
    by_body (Some body) e = by_site body.code.max_stack (site_at frame.method body frame.place.offset) e

  -- ---- classes that are initialised, and threads that begin

  initialisation_nowhere : (class : Name) (stack : StackOf Value) → class_need values files frames t world (before files class) None ≡ Some need
      → LeadsNowhere (initialisation_event values files frames t class Super world stack)
  initialisation_nowhere class stack e =
      needed_nowhere (before files class) (Initialisation class Super ∷ stack) None
      (initialiser_event values files frames t (initialiser_of class) world (Initialisation class End ∷ stack) (body_of files (initialiser_of class)))
      (λ q. no_need need q) e

  run_nowhere : (object : ℕ) (o : Option Member)
      → option_and_then (λ (method : Member). option_and_then (λ (body : Body). frame_need values files frames t world [] (entered_by files method object)) (body_of files method)) o ≡ Some need
      → LeadsNowhere (run_of values files frames t world object o)
  run_nowhere object None e = no_need need e
  run_nowhere object (Some method) e = by (body_of files method) e
    where
      by : (o : Option Body) → option_and_then (λ (body : Body). frame_need values files frames t world [] (entered_by files method object)) o ≡ Some need
          → LeadsNowhere (run_frame values files frames t world object method o)
      by None q = no_need need q
      by (Some body) q =
          pushed_nowhere (with_begun world t) [] [] (frame_with values method (values.reference object ∷ []) (entered_by files method object) body) refl q

  relock_nowhere : (object count : ℕ) (cause : _) (stack : StackOf Value) → need ≡ MonitorOf object
      → LeadsNowhere (relock_event values files t object count cause world stack)
  relock_nowhere object count cause stack e =
      not_enabled (is_done (monitors.relock object t count world.monitors).answer) (after_wait values files t cause (with_status (with_monitors world (monitors.relock object t count world.monitors)) t Running) stack)
      (cannot_relock object count e)

module _ (files : Program) (frames u : ℕ) (world : World) (need : Need) (held : IsHeldBy world u need) where
  main_nowhere : (ne : 0 ≡ u → ⊥) → begin_need values files frames 0 world 0 ≡ Some need → LeadsNowhere (begin_event values files frames world 0)
  main_nowhere ne e =
      let main = main_of (initial_class files) in
      needed_nowhere files frames 0 u ne world need held (Some (initial_class files)) [] (frame_need values files frames 0 world [] (entered_by files main (class_reference files (initial_class files))))
      (main_frame values files frames world main (body_of files main)) (λ q. by (body_of files main) q) e
    where
      by : (o : Option Body) → frame_need values files frames 0 world [] (entered_by files (main_of (initial_class files)) (class_reference files (initial_class files))) ≡ Some need
          → LeadsNowhere (main_frame values files frames world (main_of (initial_class files)) o)
      by None q = tt
      by (Some body) q =
          let main = main_of (initial_class files) in
          pushed_nowhere files frames 0 u ne world need held (with_begun world 0) [] [] (frame_with values main (values.reference arguments_reference ∷ []) (entered_by files main (class_reference files main.class)) body) refl q

  begin_nowhere : (t : ℕ) → (t ≡ u → ⊥) → begin_need values files frames t world t ≡ Some need → LeadsNowhere (begin_event values files frames world t)
  begin_nowhere zero ne e = main_nowhere ne e
  begin_nowhere (suc t) ne e =
      let object = (thread_at world (suc t)).object in
      run_nowhere files frames (suc t) u ne world need held object (select files (class_of_object (object_at world object)) thread_run) e

  module _ (t pick : ℕ) (ne : t ≡ u → ⊥) where
    abbrev moving : Event
    moving = record { thread = t; pick = pick }

    stack_nowhere : (stack : StackOf Value) → stack_need values files frames t world stack ≡ Some need
        → LeadsNowhere (running_event values files frames moving world stack)
    stack_nowhere [] e = enabled_nowhere (pick == 0) (begin_event values files frames world t) (begin_nowhere t ne e)
    stack_nowhere (Invocation frame ∷ stack) e = by_body files frames t u ne world need held pick frame stack (body_of files frame.method) e
    stack_nowhere (Initialisation class Super ∷ stack) e =
        enabled_nowhere (pick == 0) (initialisation_event values files frames t class Super world stack) (initialisation_nowhere files frames t u ne world need held class stack e)
    stack_nowhere (Initialisation class End ∷ stack) e = no_need need e

    going_nowhere : (stack : StackOf Value) (o : Option ℕ) → going_need values files frames t world stack o ≡ Some need
        → LeadsNowhere (going_event values files frames moving world stack o)
    going_nowhere stack None e = stack_nowhere stack e
    going_nowhere stack (Some exception) e = no_need need e

    pub status_nowhere : (stack : StackOf Value) (status : ThreadStatus) → status_need values files frames t world stack status ≡ Some need
        → LeadsNowhere (thread_event values files frames moving world stack status)
    status_nowhere stack Running e = going_nowhere stack (thread_at world t).pending e
    status_nowhere stack (Waiting object count) e = no_need need e
    status_nowhere stack (Relock object count cause) e =
        enabled_nowhere (pick == 0) (relock_event values files t object count cause world stack)
        (relock_nowhere files frames t u ne world need held object count cause stack (sym (same_Some (MonitorOf object) need e)))
    status_nowhere stack (Ended exception) e = no_need need e
