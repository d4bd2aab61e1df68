-- What each instruction keeps of owners: the table of meanings.
use Rattle.std.proofs.Common.{refl, sym, subst, ℕ, List, [], ◌∷◌, Bool, true, false, Option, Some, None}
use Rattle.std.specs.Prelude.{unwrap_or, if◌then◌else◌}
use Rattle.model.specs.declared.event.Event.{Event}
use Rattle.model.specs.declared.instr.ArrayKind.{ArrayKind}
use Rattle.model.specs.declared.instr.ArrayKind.TheVariants as array_kind
use Rattle.model.specs.declared.instr.Instr.{Instr}
use Rattle.model.specs.declared.instr.Instr.TheVariants as instr
use Rattle.model.specs.declared.instr.Returned.{Returned}
use Rattle.model.specs.declared.instr.Returned.TheVariants as returned
use Rattle.model.specs.Names.{Name, Member}
use Rattle.model.specs.Classes.{Program, Body, body_of}
use Rattle.model.specs.Operands.{Slots, Carrier}
use Rattle.model.specs.Rows.{Row, after_row, row_target}
use Rattle.model.specs.State.{ObjectOf, WorldOf}
use Rattle.model.specs.Opening.{class_reference}
use Rattle.model.specs.Outcomes.{OutcomeOf, Goes, Raises, Throws, Free, Arithmetic, not_null}
use Rattle.model.specs.Monitors as monitors
use Rattle.model.specs.Worlds.{object_at, is_owner}
use Rattle.model.specs.Sites.{MeaningOf, Site, operand, referent, int_operand, pushing}
use Rattle.model.specs.Calls.{Chosen, Fails, Runs, runs, invoked, of_receiver, parameter_count, return_of}
use Rattle.model.specs.BuiltInMethods.{built_in_method, object_of}
use Rattle.model.specs.Objects.{cast}
use Rattle.model.specs.Arrays.{is_negative, made_array, in_range, at_index, element_at, load_of, stored, kept_by, may_stand_in, if_storable, store_reference_meaning, store_of}
use Rattle.model.specs.MonitorMeanings.{left, monitor_enter_meaning, monitor_exit_meaning}
use Rattle.model.specs.Meanings.{local_meaning, meaning_of}
use Rattle.run_laws.proofs.laws.Operations.{Operation, OfRow, GetSystemStream, GetStatic, PutStatic, GetField, PutField, Println, CallVirtual, CallConstructor, CallSpecial, CallStatic, CallInterface, Return, LoadClass, LoadString, New, NewArray, NewReferenceArray, ArrayLength, LoadElement, StoreElement, CheckCast, InstanceOf, Throw, MonitorEnter, MonitorExit, operation, OfMeaning, each_meaning}
use Rattle.monitor_laws.specs.owners.Owners.{KeepsOwners, monitor_operand}
use Rattle.monitor_laws.proofs.owners.Monitors.{any_keeps, more_keeps, call_changes}
use Rattle.monitor_laws.proofs.owners.Worlds.{OutcomeKept, same_kept, not_null_kept, built_in_kept}

module _ {A : Type 0} (C : Carrier A) where
  -- what it does keeps the owners of the monitors of all objects but the one of its operand
  abbrev pub Keeps : Instr → MeaningOf A → Type 0
  Keeps of m =
      (event : Event) (world : WorldOf A) (slots : Slots A) (ops rest : List A)
      → OutcomeKept (monitor_operand C ops of) (object_of C ops 0) world.monitors (m.does event world slots ops rest)

  module _ (world : WorldOf A) (p : Option ℕ) (w : ℕ) where
    abbrev kept : OutcomeOf A → Type 0
    kept o = OutcomeKept p w world.monitors o

    same : KeepsOwners p world.monitors world.monitors
    same = same_kept p world.monitors

    -- ---- what is done by a test

    either_kept : (b : Bool) (x y : OutcomeOf A) → kept x → kept y → kept (if b then x else y)
    either_kept true x y h g = h
    either_kept false x y h g = g

    index_kept : (b : Bool) (x : OutcomeOf A) → kept x → kept (at_index b x)
    index_kept true x h = h
    index_kept false x h = tt

    storable_kept : (b : Bool) (x : OutcomeOf A) → kept x → kept (if_storable b x)
    storable_kept true x h = h
    storable_kept false x h = tt

    cast_kept : (b : Bool) (next : ℕ) (v : A) (slots : Slots A) (rest : List A) → kept (cast b next v world slots rest)
    cast_kept true next v slots rest = same
    cast_kept false next v slots rest = tt

    array_kept : (negative : Bool) (next count : ℕ) (array : List A → ObjectOf A) (first : A) (slots : Slots A) (rest : List A)
        → kept (made_array C negative next count array first world slots rest)
    array_kept true next count array first slots rest = tt
    array_kept false next count array first slots rest = any_keeps p world.monitors _ (more_keeps world.monitors)

    module _ (files : Program) (slots : Slots A) (ops rest : List A) where
      -- ---- arrays

      loaded_kept : (next : ℕ) (first : A)
          → kept (not_null (referent C ops 1)
          (λ r. at_index (in_range world r (int_operand C ops 0)) (pushing next (element_at first world r (int_operand C ops 0) ∷ []) world slots rest)))
      loaded_kept next first = not_null_kept p w world.monitors (referent C ops 1) _ (λ r e. index_kept (in_range world r (int_operand C ops 0)) _ same)

      stored_int_kept : (next : ℕ)
          → kept (not_null (referent C ops 2) (λ r. at_index (in_range world r (int_operand C ops 1))
          (stored next world r (int_operand C ops 1) (kept_by C (object_at world r) (operand C ops 0)) slots rest)))
      stored_int_kept next = not_null_kept p w world.monitors (referent C ops 2) _ (λ r e. index_kept (in_range world r (int_operand C ops 1)) _ same)

      stored_reference_kept : (site : Site) (event : Event) → kept ((store_reference_meaning C files site).does event world slots ops rest)
      stored_reference_kept site event =
          not_null_kept p w world.monitors (referent C ops 2) _
          (λ r e. index_kept (in_range world r (int_operand C ops 1)) _ (storable_kept (may_stand_in C files world (object_at world r) (operand C ops 0)) _ same))

  -- ---- calls

  module _ (files : Program) (world : WorldOf A) (p : Option ℕ) (slots : Slots A) (ops rest : List A) where
    runs_kept : (site : Site) (event : Event) (object : ℕ) (method : Member) (o : Option Body)
        → OutcomeKept p (object_of C ops 0) world.monitors (runs C files site event world slots ops rest object method o)
    runs_kept site event object method None = built_in_kept world p C files (built_in_method method) site.next event slots ops rest
    runs_kept site event object method (Some body) = tt

    invoked_kept : (site : Site) (event : Event) (object : ℕ) (chosen : Chosen)
        → OutcomeKept p (object_of C ops 0) world.monitors (invoked C files site event world slots ops rest object chosen)
    invoked_kept site event object (Fails fault) = tt
    invoked_kept site event object (Runs method) = runs_kept site event object method (body_of files method)

  module _ (files : Program) where
    local_keeps : (of : Instr) (row : Row) → Keeps of (local_meaning C row)
    local_keeps of row event world slots ops rest =
        either_kept world (monitor_operand C ops of) (object_of C ops 0) (row.fails (C.words ops)) (Raises Arithmetic)
        (Goes Free world (after_row C.over row slots) (row_target row (C.words ops))) tt (same_kept (monitor_operand C ops of) world.monitors)

    load_keeps : (site : Site) (kind : ArrayKind) → Keeps site.instr (load_of C files site kind)
    load_keeps site array_kind.Int event world slots ops rest = loaded_kept world (monitor_operand C ops site.instr) (object_of C ops 0) files slots ops rest site.next (C.int 0)
    load_keeps site array_kind.Reference event world slots ops rest = loaded_kept world (monitor_operand C ops site.instr) (object_of C ops 0) files slots ops rest site.next C.over.null
    load_keeps site array_kind.ByteOrBoolean event world slots ops rest = loaded_kept world (monitor_operand C ops site.instr) (object_of C ops 0) files slots ops rest site.next (C.int 0)
    load_keeps site array_kind.Char event world slots ops rest = loaded_kept world (monitor_operand C ops site.instr) (object_of C ops 0) files slots ops rest site.next (C.int 0)
    load_keeps site array_kind.Short event world slots ops rest = loaded_kept world (monitor_operand C ops site.instr) (object_of C ops 0) files slots ops rest site.next (C.int 0)

    store_keeps : (site : Site) (kind : ArrayKind) → Keeps site.instr (store_of C files site kind)
    store_keeps site array_kind.Int event world slots ops rest = stored_int_kept world (monitor_operand C ops site.instr) (object_of C ops 0) files slots ops rest site.next
    store_keeps site array_kind.Reference event world slots ops rest = stored_reference_kept world (monitor_operand C ops site.instr) (object_of C ops 0) files slots ops rest site event
    store_keeps site array_kind.ByteOrBoolean event world slots ops rest = stored_int_kept world (monitor_operand C ops site.instr) (object_of C ops 0) files slots ops rest site.next
    store_keeps site array_kind.Char event world slots ops rest = stored_int_kept world (monitor_operand C ops site.instr) (object_of C ops 0) files slots ops rest site.next
    store_keeps site array_kind.Short event world slots ops rest = stored_int_kept world (monitor_operand C ops site.instr) (object_of C ops 0) files slots ops rest site.next

    return_keeps : (of : Instr) (descriptor : Name) (kind : Returned) → Keeps of (return_of C files descriptor kind)
    return_keeps of descriptor returned.Nothing event world slots ops rest = refl
    return_keeps of descriptor returned.Int event world slots ops rest = refl
    return_keeps of descriptor returned.Reference event world slots ops rest = refl

    calls : (of : Instr) (site : Site) (method : Member) (choose : WorldOf A → ℕ → Chosen) (event : Event) (world : WorldOf A) (slots : Slots A)
        (ops rest : List A)
        → OutcomeKept (monitor_operand C ops of) (object_of C ops 0) world.monitors (invoked C files site event world slots ops
        rest (unwrap_or (C.referent (operand C ops (parameter_count method))) 0)
        (of_receiver (C.referent (operand C ops (parameter_count method))) (choose world)))
    calls of site method choose event world slots ops rest =
        let r = C.referent (operand C ops (parameter_count method)) in
        invoked_kept files world (monitor_operand C ops of) slots ops rest site event (unwrap_or r 0) (of_receiver r (choose world))

    -- ---- monitors

    left_kept : (world : WorldOf A) (w : ℕ) (b : Bool) (next t r : ℕ) (slots : Slots A) (rest : List A)
        → OutcomeKept (Some r) w world.monitors (left b next t r world slots rest)
    left_kept world w true next t r slots rest = call_changes r (monitors.monitor_exit t) world.monitors
    left_kept world w false next t r slots rest = tt

    exit_keeps : (site : Site) → Keeps instr.MonitorExit (monitor_exit_meaning C site)
    exit_keeps site event world slots ops rest =
        not_null_kept (referent C ops 0) (object_of C ops 0) world.monitors (referent C ops 0) _
        (λ r e. subst (λ o. OutcomeKept o (object_of C ops 0) world.monitors (left (is_owner world event.thread r) site.next event.thread r world slots rest)) (sym e)
        (left_kept world (object_of C ops 0) (is_owner world event.thread r) site.next event.thread r slots rest))

    enter_keeps : (site : Site) → Keeps instr.MonitorEnter (monitor_enter_meaning C site)
    enter_keeps site event world slots ops rest =
        not_null_kept (referent C ops 0) (object_of C ops 0) world.monitors (referent C ops 0) _
        (λ r e. subst (λ o. KeepsOwners o world.monitors (monitors.enter r event.thread world.monitors).after) (sym e)
        (call_changes r (monitors.monitor_enter event.thread) world.monitors))

    -- ---- the table

    module _ (site : Site) where
      goes_same : (event : Event) (world : WorldOf A) (ops : List A) → KeepsOwners (monitor_operand C ops site.instr) world.monitors world.monitors
      goes_same event world ops = same_kept (monitor_operand C ops site.instr) world.monitors

      operation_keeps : (o : Operation files site) → Keeps site.instr (operation C files site o)
      operation_keeps (OfRow row e) = local_keeps site.instr row
      operation_keeps (GetSystemStream index stream n) = λ event world slots ops rest. goes_same event world ops
      operation_keeps (GetStatic f) = λ event world slots ops rest. goes_same event world ops
      operation_keeps (PutStatic f) = λ event world slots ops rest. goes_same event world ops
      operation_keeps (GetField f) = λ event world slots ops rest. not_null_kept (monitor_operand C ops site.instr) (object_of C ops 0) world.monitors (referent C ops 0) _ (λ r e. goes_same event world ops)
      operation_keeps (PutField f) = λ event world slots ops rest. not_null_kept (monitor_operand C ops site.instr) (object_of C ops 0) world.monitors (referent C ops 1) _ (λ r e. goes_same event world ops)
      operation_keeps (Println call e) = λ event world slots ops rest. not_null_kept (monitor_operand C ops site.instr) (object_of C ops 0) world.monitors (referent C ops 1) _ (λ r e. goes_same event world ops)
      operation_keeps (CallVirtual call e m) = calls site.instr site m.method _
      operation_keeps (CallConstructor call e passes) = calls site.instr site call.named _
      operation_keeps (CallSpecial call e m) = calls site.instr site m.method _
      operation_keeps (CallStatic index i m) = λ event world slots ops rest. invoked_kept files world (monitor_operand C ops site.instr) slots ops rest site event (class_reference files m.method.class) (Runs m.method)
      operation_keeps (CallInterface call m) = calls site.instr site m.method _
      operation_keeps (Return kind i) = return_keeps site.instr site.method.descriptor kind
      operation_keeps (LoadClass constant file e) = λ event world slots ops rest. goes_same event world ops
      operation_keeps (LoadString constant) = λ event world slots ops rest. goes_same event world ops
      operation_keeps (New class file e) = λ event world slots ops rest. any_keeps (monitor_operand C ops site.instr) world.monitors _ (more_keeps world.monitors)
      operation_keeps (NewArray code of i e) = λ event world slots ops rest. array_kept world (monitor_operand C ops site.instr) (object_of C ops 0) (is_negative (int_operand C ops 0)) site.next (int_operand C ops 0) _ _ slots rest
      operation_keeps (NewReferenceArray class) = λ event world slots ops rest. array_kept world (monitor_operand C ops site.instr) (object_of C ops 0) (is_negative (int_operand C ops 0)) site.next (int_operand C ops 0) _ _ slots rest
      operation_keeps (ArrayLength i) = λ event world slots ops rest. not_null_kept (monitor_operand C ops site.instr) (object_of C ops 0) world.monitors (referent C ops 0) _ (λ r e. goes_same event world ops)
      operation_keeps (LoadElement kind i) = load_keeps site kind
      operation_keeps (StoreElement kind i) = store_keeps site kind
      operation_keeps (CheckCast class) = λ event world slots ops rest. cast_kept world (monitor_operand C ops site.instr) (object_of C ops 0) _ site.next (operand C ops 0) slots rest
      operation_keeps (InstanceOf class) = λ event world slots ops rest. goes_same event world ops
      operation_keeps (Throw i) = λ event world slots ops rest. not_null_kept (monitor_operand C ops site.instr) (object_of C ops 0) world.monitors (referent C ops 0) (λ r. Throws r) (λ r e. tt)
      operation_keeps (MonitorEnter i) = subst (λ (x : Instr). Keeps x (monitor_enter_meaning C site)) (sym i) (enter_keeps site)
      operation_keeps (MonitorExit i) = subst (λ (x : Instr). Keeps x (monitor_exit_meaning C site)) (sym i) (exit_keeps site)

      -- what an instruction does keeps owners
      pub meaning_keeps : OfMeaning (Keeps site.instr) (meaning_of C files site)
      meaning_keeps = each_meaning C files site (Keeps site.instr) operation_keeps
