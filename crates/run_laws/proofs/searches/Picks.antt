-- Where a pick is enabled, so is each lower one: only a notify has a pick, and a notify only asks whether there is such a
-- member.
use Rattle.std.proofs.Common.{◌≡◌, ℕ, zero, suc, ◌≤◌, List, [], ◌∷◌, length, Bool, true, false, ◌==◌, ◌&&◌, nat_lt, Option, Some, None, refl, sym, ap, ◌∙◌, subst, arith}
use Rattle.std.specs.Prelude.{slice_get, if◌then◌else◌}
use Rattle.std.specs.Option.{option_and_then}
use Rattle.std.proofs.lemmas.Bool.{false≢true, and_parts}
use Rattle.std.proofs.lemmas.Bool.Decides.{nat_tests}
use Rattle.model.specs.declared.event.Event.{Event}
use Rattle.model.specs.declared.instr.ArrayKind.{ArrayKind}
use Rattle.model.specs.declared.instr.ArrayKind.TheVariants as array_kind
use Rattle.model.specs.declared.instr.Returned.{Returned}
use Rattle.model.specs.declared.instr.Returned.TheVariants as returned
use Rattle.model.specs.Names.{Name, Member}
use Rattle.model.specs.Arrays.{load_of, store_of}
use Rattle.model.specs.BuiltInMethods.{BuiltInMethod, Construct, ConstructWithMessage, ConstructWithCause, ObjectClone, ObjectWait, ObjectNotify, ObjectNotifyAll, ThreadStart, ThreadInterrupt, ThreadIsInterrupted, ThreadInterrupted, ThreadYield, ThreadCurrentThread, ThreadJoin, ThreadIsAlive, ThreadNames, PrintStreamPrints, StringAnswers, StringWrites, StringBuilderBuilds, ObjectAnswers, built_in_method, built_in_may, built_in_does, if_owner, object_of}
use Rattle.model.specs.Calls.{Chosen, Fails, Runs, invoked, runs, may_run, may_invoke, return_of}
use Rattle.model.specs.Classes.{Program, Body, body_of}
use Rattle.model.specs.ClassInitialisation.{Look, IsReady, IsNew, IsHeld, HasFailed, look_by, status_of}
use Rattle.model.specs.Meanings.{meaning_of}
use Rattle.model.specs.Operands.{Slots, Carrier, values, under}
use Rattle.model.specs.Outcomes.{OutcomeOf, Goes, Raises, Throws, Interrupts, Calls, Returns, Waits}
use Rattle.model.specs.Sites.{MeaningOf, Site, site_at}
use Rattle.model.specs.State.{types_of, ThreadStatus, Running, Waiting, Relock, Ended, FrameOf, Invocation, Initialisation, StackOf, WorldOf, StateOf}
use Rattle.model.specs.Step.{SteppedOf, NotEnabled, WrongKind, Next, PartOf, enabled_if, unpicked, settled, needing, needing_class, become, ops_of, done, bytecode_by, bytecode_in, running_event, going_event, thread_event, thread_at, with_part, event_of, stepped, is_enabled_by, is_enabled}
use Rattle.model.specs.Worlds.{is_owner, waiters_of}
use Rattle.run_laws.proofs.laws.Operations.{Operation, OfRow, GetSystemStream, GetStatic, PutStatic, GetField, PutField, Println, CallVirtual, CallConstructor, CallSpecial, CallStatic, CallInterface, Return, LoadClass, LoadString, New, NewArray, NewReferenceArray, ArrayLength, LoadElement, StoreElement, CheckCast, InstanceOf, Throw, MonitorEnter, MonitorExit, operation, OfMeaning, each_meaning}
use Rattle.run_laws.specs.searches.Picks.{ArePicksInOrder}

abbrev event_at : ℕ → ℕ → Event
event_at t k = record { thread = t; pick = k }

past_zero : (k : ℕ) → (suc k == 0) ≡ false
past_zero k = grind (arith, nat_tests)

none_past : {X : Type 0} (k : ℕ) → (suc k == 0) ≡ true → X
none_past k e = absurd (false≢true (sym (past_zero k) ∙ e))

below : (k n : ℕ) → nat_lt (suc k) n ≡ true → nat_lt k n ≡ true
below k n e = grind (arith, nat_tests, e)

module _ {A : Type 0} where
  -- it puts no frame on the stack, and takes none off it
  abbrev Stays : OutcomeOf A → Type 0
  Stays (Goes cost world slots to) = Unit {0}
  Stays (Raises fault) = Unit {0}
  Stays (Throws exception) = Unit {0}
  Stays Interrupts = Unit {0}
  Stays (Calls frame rest) = ⊥
  Stays (Returns world results) = ⊥
  Stays (Waits cost world rest) = Unit {0}

  -- where it may be done by a pick, it may by the one below, and stays there
  abbrev Lower : MeaningOf A → Type 0
  Lower m =
      (t k : ℕ) (world : WorldOf A) (ops : List A) → m.may (event_at t (suc k)) world ops ≡ true
      → (m.may (event_at t k) world ops ≡ true) × ((slots : Slots A) (rest : List A) → Stays (m.does (event_at t k) world slots ops rest))

  owner_stays : (b : Bool) (o : OutcomeOf A) → Stays o → Stays (if_owner b o)
  owner_stays true o h = h
  owner_stays false o h = tt

  module _ (C : Carrier A) where
    abbrev MayLower : Program → BuiltInMethod → Type 0
    MayLower files b =
        (t k next : ℕ) (world : WorldOf A) (ops : List A) → built_in_may C b (event_at t (suc k)) world ops ≡ true
        → (built_in_may C b (event_at t k) world ops ≡ true)
        × ((slots : Slots A) (rest : List A) → Stays (built_in_does C files b next (event_at t k) world slots ops rest))

    notify_may : (b : Bool) (n k : ℕ) → (if b then nat_lt (suc k) n else (suc k == 0)) ≡ true → (if b then nat_lt k n else (k == 0)) ≡ true
    notify_may true n k e = below k n e
    notify_may false n k e = none_past k e

    built_in_lower : (files : Program) (b : BuiltInMethod) → MayLower files b
    built_in_lower files Construct t k next world ops e = none_past k e
    built_in_lower files ConstructWithMessage t k next world ops e = none_past k e
    built_in_lower files ConstructWithCause t k next world ops e = none_past k e
    built_in_lower files ObjectClone t k next world ops e = none_past k e
    built_in_lower files ObjectWait t k next world ops e = none_past k e
    built_in_lower files ObjectNotify t k next world ops e = (
      notify_may (is_owner world t (object_of C ops 0) && nat_lt 0 (length (waiters_of world (object_of C ops 0)))) (length (waiters_of world (object_of C ops 0))) k e,
      λ slots rest. owner_stays (is_owner world t (object_of C ops 0)) _ tt,
    )
    built_in_lower files ObjectNotifyAll t k next world ops e = none_past k e
    built_in_lower files ThreadStart t k next world ops e = none_past k e
    built_in_lower files ThreadInterrupt t k next world ops e = none_past k e
    built_in_lower files ThreadIsInterrupted t k next world ops e = none_past k e
    built_in_lower files ThreadInterrupted t k next world ops e = none_past k e
    built_in_lower files ThreadYield t k next world ops e = none_past k e
    built_in_lower files ThreadCurrentThread t k next world ops e = none_past k e
    built_in_lower files ThreadJoin t k next world ops e = none_past k (and_parts _ _ e).0
    built_in_lower files ThreadIsAlive t k next world ops e = none_past k e
    built_in_lower files (PrintStreamPrints print) t k next world ops e = none_past k e
    built_in_lower files (ThreadNames method) t k next world ops e = none_past k e
    built_in_lower files (StringAnswers method) t k next world ops e = none_past k e
    built_in_lower files (StringWrites method) t k next world ops e = none_past k e
    built_in_lower files (StringBuilderBuilds method) t k next world ops e = none_past k e
    built_in_lower files (ObjectAnswers method) t k next world ops e = none_past k e

    module _ (files : Program) (site : Site) where
      run_lower : (method : Member) (o : Option Body) (t k : ℕ) (world : WorldOf A) (ops : List A) (object : ℕ)
          → may_run C (event_at t (suc k)) world ops method o ≡ true
          → (may_run C (event_at t k) world ops method o ≡ true)
          × ((slots : Slots A) (rest : List A) → Stays (runs C files site (event_at t k) world slots ops rest object method o))
      run_lower method None t k world ops object e = built_in_lower files (built_in_method method) t k site.next world ops e
      run_lower method (Some body) t k world ops object e = none_past k e

      invoke_lower : (chosen : Chosen) (t k : ℕ) (world : WorldOf A) (ops : List A) (object : ℕ)
          → may_invoke C files (event_at t (suc k)) world ops chosen ≡ true
          → (may_invoke C files (event_at t k) world ops chosen ≡ true)
          × ((slots : Slots A) (rest : List A) → Stays (invoked C files site (event_at t k) world slots ops rest object chosen))
      invoke_lower (Fails fault) t k world ops object e = none_past k e
      invoke_lower (Runs method) t k world ops object e = run_lower method (body_of files method) t k world ops object e

      load_lower : (kind : ArrayKind) → Lower (load_of C files site kind)
      load_lower array_kind.Int t k world ops e = none_past k e
      load_lower array_kind.Reference t k world ops e = none_past k e
      load_lower array_kind.ByteOrBoolean t k world ops e = none_past k e
      load_lower array_kind.Char t k world ops e = none_past k e
      load_lower array_kind.Short t k world ops e = none_past k e

      store_lower : (kind : ArrayKind) → Lower (store_of C files site kind)
      store_lower array_kind.Int t k world ops e = none_past k e
      store_lower array_kind.Reference t k world ops e = none_past k e
      store_lower array_kind.ByteOrBoolean t k world ops e = none_past k e
      store_lower array_kind.Char t k world ops e = none_past k e
      store_lower array_kind.Short t k world ops e = none_past k e

      return_lower : (descriptor : Name) (kind : Returned) → Lower (return_of C files descriptor kind)
      return_lower descriptor returned.Nothing t k world ops e = none_past k e
      return_lower descriptor returned.Int t k world ops e = none_past k e
      return_lower descriptor returned.Reference t k world ops e = none_past k e

      -- each instruction, in a line
      lower : (o : Operation files site) → Lower (operation C files site o)
      lower (OfRow row e) = λ t k world ops e. none_past k e
      lower (GetSystemStream index stream n) = λ t k world ops e. none_past k e
      lower (GetStatic f) = λ t k world ops e. none_past k e
      lower (PutStatic f) = λ t k world ops e. none_past k e
      lower (GetField f) = λ t k world ops e. none_past k e
      lower (PutField f) = λ t k world ops e. none_past k e
      lower (Println call e) = λ t k world ops e. none_past k e
      lower (CallVirtual call e m) = λ t k world ops e. invoke_lower _ t k world ops _ e
      lower (CallConstructor call e passes) = λ t k world ops e. invoke_lower _ t k world ops _ e
      lower (CallSpecial call e m) = λ t k world ops e. invoke_lower _ t k world ops _ e
      lower (CallStatic index i m) = λ t k world ops e. invoke_lower (Runs m.method) t k world ops _ e
      lower (CallInterface call m) = λ t k world ops e. invoke_lower _ t k world ops _ e
      lower (Return kind i) = return_lower site.method.descriptor kind
      lower (LoadClass constant file e) = λ t k world ops e. none_past k e
      lower (LoadString constant) = λ t k world ops e. none_past k e
      lower (New class file e) = λ t k world ops e. none_past k e
      lower (NewArray code of i e) = λ t k world ops e. none_past k e
      lower (NewReferenceArray class) = λ t k world ops e. none_past k e
      lower (ArrayLength i) = λ t k world ops e. none_past k e
      lower (LoadElement kind i) = load_lower kind
      lower (StoreElement kind i) = store_lower kind
      lower (CheckCast class) = λ t k world ops e. none_past k e
      lower (InstanceOf class) = λ t k world ops e. none_past k e
      lower (Throw i) = λ t k world ops e. none_past k e
      lower (MonitorEnter i) = λ t k world ops e. none_past k (and_parts _ _ e).0
      lower (MonitorExit i) = λ t k world ops e. none_past k e

    -- ---- an event

    module _ (files : Program) (frames : ℕ) where
      become_next : (t : ℕ) (world : WorldOf A) (frame : FrameOf A) (stack : StackOf A) (o : OutcomeOf A) → Stays o
          → is_enabled_by (become C files frames t world frame stack o) ≡ true
      become_next t world frame stack (Goes cost after slots to) h = refl
      become_next t world frame stack (Raises fault) h = refl
      become_next t world frame stack (Throws exception) h = refl
      become_next t world frame stack Interrupts h = refl
      become_next t world frame stack (Calls callee rest) h = absurd h
      become_next t world frame stack (Returns after results) h = absurd h
      become_next t world frame stack (Waits cost after rest) h = refl

      needing_next : (t : ℕ) (class : Name) (look : Look) (world : WorldOf A) (stack : StackOf A) (x y : SteppedOf (PartOf A))
          → is_enabled_by y ≡ true
          → is_enabled_by (needing C files t class look world stack x) ≡ true
          → is_enabled_by (needing C files t class look world stack y) ≡ true
      needing_next t class IsReady world stack x y h e = h
      needing_next t class IsNew world stack x y h e = refl
      needing_next t class IsHeld world stack x y h e = e
      needing_next t class HasFailed world stack x y h e = refl

      class_next : (t : ℕ) (class : Option Name) (world : WorldOf A) (stack : StackOf A) (x y : SteppedOf (PartOf A))
          → is_enabled_by y ≡ true
          → is_enabled_by (needing_class C files t class world stack x) ≡ true
          → is_enabled_by (needing_class C files t class world stack y) ≡ true
      class_next t None world stack x y h e = h
      class_next t (Some class) world stack x y h e = needing_next t class (look_by t (status_of world class)) world stack x y h e

      enabled_next : (b c : Bool) (x y : SteppedOf (PartOf A)) → (b ≡ true → c ≡ true)
          → (b ≡ true → is_enabled_by x ≡ true → is_enabled_by y ≡ true)
          → is_enabled_by (enabled_if b x) ≡ true → is_enabled_by (enabled_if c y) ≡ true
      enabled_next true c x y h g e = subst (λ (d : Bool). is_enabled_by (enabled_if d y) ≡ true) (sym (h refl)) (g refl e)
      enabled_next false c x y h g e = absurd (false≢true e)

      unpicked_past : {X : Type 0} (t k : ℕ) (x : SteppedOf (PartOf A)) → is_enabled_by (unpicked (event_at t (suc k)) x) ≡ true → X
      unpicked_past t k x e = absurd (false≢true (sym (ap (λ b. is_enabled_by (enabled_if b x)) (past_zero k)) ∙ e))

      module _ (t k : ℕ) (world : WorldOf A) where
        module _ (frame : FrameOf A) (stack : StackOf A) where
          by_finds : (b : Bool) (m : MeaningOf A) → Lower m
              → is_enabled_by (if b then enabled_if (m.may (event_at t (suc k)) world (ops_of C m frame.place.slots))
              (needing_class C files t m.looks world (Invocation frame
              ∷ stack) (done C files frames (event_at t (suc k)) world frame stack m)) else unpicked (event_at t (suc k)) WrongKind) ≡ true
              → is_enabled_by (if b then enabled_if (m.may (event_at t k) world (ops_of C m frame.place.slots))
              (needing_class C files t m.looks world (Invocation frame
              ∷ stack) (done C files frames (event_at t k) world frame stack m)) else unpicked (event_at t k) WrongKind) ≡ true
          by_finds true m h e =
              let ops = ops_of C m frame.place.slots in
              enabled_next (m.may (event_at t (suc k)) world ops) (m.may (event_at t k) world ops)
              (needing_class C files t m.looks world (Invocation frame ∷ stack) (done C files frames (event_at t (suc k)) world frame stack m))
              (needing_class C files t m.looks world (Invocation frame ∷ stack) (done C files frames (event_at t k) world frame stack m))
              (λ may. (h t k world ops may).0)
              (λ may. class_next t m.looks world (Invocation frame ∷ stack) (done C files frames (event_at t (suc k)) world frame stack m) (done C files frames (event_at t k) world frame stack m)
              (become_next t world frame stack (m.does (event_at t k) world frame.place.slots ops (under m.wants frame.place.slots)) ((h t k world ops may).1 frame.place.slots (under m.wants frame.place.slots)))) e
          by_finds false m h e = unpicked_past t k WrongKind e

          by_meaning : (max_stack : ℕ) (o : Option (MeaningOf A)) → OfMeaning Lower o
              → is_enabled_by (bytecode_by C files frames (event_at t (suc k)) world frame stack max_stack o) ≡ true
              → is_enabled_by (bytecode_by C files frames (event_at t k) world frame stack max_stack o) ≡ true
          by_meaning max_stack None h e = unpicked_past t k WrongKind e
          by_meaning max_stack (Some m) h e = by_finds (C.finds files (types_of world.heap) m.wants max_stack frame.place.slots) m h e

          of_site : (o : Option Site) → OfMeaning Lower (option_and_then (meaning_of C files) o)
          of_site None = tt
          of_site (Some site) = each_meaning C files site Lower (lower files site)

          by_body : (o : Option Body) → is_enabled_by (bytecode_in C files frames (event_at t (suc k)) world frame stack o) ≡ true
              → is_enabled_by (bytecode_in C files frames (event_at t k) world frame stack o) ≡ true
          by_body None e = unpicked_past t k WrongKind e
          by_body (Some body) e =
              by_meaning body.code.max_stack (option_and_then (meaning_of C files) (site_at frame.method body frame.place.offset)) (of_site (site_at frame.method body frame.place.offset)) e

        by_stack : (stack : StackOf A) → is_enabled_by (running_event C files frames (event_at t (suc k)) world stack) ≡ true
            → is_enabled_by (running_event C files frames (event_at t k) world stack) ≡ true
        by_stack [] e = unpicked_past t k _ e
        by_stack (Invocation frame ∷ stack) e = by_body frame stack (body_of files frame.method) e
        by_stack (Initialisation class phase ∷ stack) e = unpicked_past t k _ e

        by_pending : (stack : StackOf A) (o : Option ℕ)
            → is_enabled_by (going_event C files frames (event_at t (suc k)) world stack o) ≡ true
            → is_enabled_by (going_event C files frames (event_at t k) world stack o) ≡ true
        by_pending stack None e = by_stack stack e
        by_pending stack (Some exception) e = unpicked_past t k _ e

        by_status : (stack : StackOf A) (s : ThreadStatus)
            → is_enabled_by (thread_event C files frames (event_at t (suc k)) world stack s) ≡ true
            → is_enabled_by (thread_event C files frames (event_at t k) world stack s) ≡ true
        by_status stack Running e = by_pending stack (thread_at world t).pending e
        by_status stack (Waiting object count) e = absurd (false≢true e)
        by_status stack (Relock object count cause) e = unpicked_past t k _ e
        by_status stack (Ended exception) e = absurd (false≢true e)

      settled_same : (t : ℕ) (x : SteppedOf (PartOf A)) → is_enabled_by (settled t x) ≡ is_enabled_by x
      settled_same t NotEnabled = refl
      settled_same t WrongKind = refl
      settled_same t (Next cost p) = refl

      put_same : (state : StateOf A) (t : ℕ) (x : SteppedOf (PartOf A)) → is_enabled_by (with_part state t x) ≡ is_enabled_by x
      put_same state t NotEnabled = refl
      put_same state t WrongKind = refl
      put_same state t (Next cost p) = refl

      by_there : (state : StateOf A) (t k : ℕ) (o : Option (StackOf A))
          → is_enabled_by (event_of C files frames state (event_at t (suc k)) o) ≡ true
          → is_enabled_by (event_of C files frames state (event_at t k) o) ≡ true
      by_there state t k None e = absurd (false≢true e)
      by_there state t k (Some stack) e =
          let status = (thread_at state.world t).status in
          let more = thread_event C files frames (event_at t (suc k)) state.world stack status in
          let less = thread_event C files frames (event_at t k) state.world stack status in
          put_same state t (settled t less)
          ∙ (settled_same t less ∙ by_status t k state.world stack status (sym (settled_same t more) ∙ (sym (put_same state t (settled t more)) ∙ e)))

      pub one_lower : (state : StateOf A) (t k : ℕ) → is_enabled_by (stepped C files frames state (event_at t (suc k))) ≡ true
          → is_enabled_by (stepped C files frames state (event_at t k)) ≡ true
      one_lower state t k e = by_there state t k (slice_get state.stacks t) e

-- a pick is at or below another one, or one more
step_down : (low high : ℕ) (b : Bool) → (low == suc high) ≡ b → low ≤ suc high → (P : ℕ → Type 0) → P (suc high) → (low ≤ high → P low)
    → P low
step_down low high true q le P h rest = subst P (grind (arith, nat_tests, q)) h
step_down low high false q le P h rest = rest (grind (arith, nat_tests, q, le))

at_zero : (low : ℕ) → low ≤ zero → (P : ℕ → Type 0) → P zero → P low
at_zero low le P h =
    let none : zero ≡ low = omega (arith, le) in
    subst P none h

pub picks_in_order : ArePicksInOrder
picks_in_order files frames state t low zero le e = at_zero low le (λ (k : ℕ). is_enabled files frames state (event_at t k) ≡ true) e
picks_in_order files frames state t low (suc high) le e =
    step_down low high (low == suc high) refl le (λ (k : ℕ). is_enabled files frames state (event_at t k) ≡ true) e
    (λ below. picks_in_order files frames state t low high below (one_lower values files frames state t high e))
