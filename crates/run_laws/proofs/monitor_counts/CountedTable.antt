-- What each instruction keeps of counts: the table of meanings.
use Rattle.std.proofs.Common.{ℕ, List, [], ◌∷◌, Bool, true, false, Option, Some, None}
use Rattle.std.specs.Prelude.{unwrap_or, if◌then◌else◌}
use Rattle.model.specs.declared.event.Event.{Event}
use Rattle.model.specs.declared.instr.ArrayKind.{ArrayKind}
use Rattle.model.specs.declared.instr.ArrayKind.TheVariants as array_kind
use Rattle.model.specs.declared.instr.Returned.{Returned}
use Rattle.model.specs.declared.instr.Returned.TheVariants as returned
use Rattle.model.specs.Names.{Name, Member}
use Rattle.model.specs.Classes.{Program, Body, body_of}
use Rattle.model.specs.Operands.{Slots, Carrier}
use Rattle.model.specs.Rows.{Row, after_row, row_target}
use Rattle.model.specs.State.{ObjectOf, WorldOf}
use Rattle.model.specs.Opening.{class_reference}
use Rattle.model.specs.Outcomes.{OutcomeOf, Goes, Raises, Throws, Free, Arithmetic, not_null}
use Rattle.model.specs.Worlds.{object_at, is_owner}
use Rattle.model.specs.Sites.{MeaningOf, Site, operand, referent, int_operand, pushing}
use Rattle.model.specs.Calls.{Chosen, Fails, Runs, runs, invoked, of_receiver, parameter_count, return_of}
use Rattle.model.specs.BuiltInMethods.{built_in_method}
use Rattle.model.specs.Objects.{cast}
use Rattle.model.specs.Arrays.{is_negative, made_array, in_range, at_index, element_at, load_of, stored, kept_by, may_stand_in, if_storable, store_reference_meaning, store_of}
use Rattle.model.specs.MonitorMeanings.{left, monitor_exit_meaning}
use Rattle.model.specs.Meanings.{local_meaning, meaning_of}
use Rattle.run_laws.proofs.laws.Operations.{Operation, OfRow, GetSystemStream, GetStatic, PutStatic, GetField, PutField, Println, CallVirtual, CallConstructor, CallSpecial, CallStatic, CallInterface, Return, LoadClass, LoadString, New, NewArray, NewReferenceArray, ArrayLength, LoadElement, StoreElement, CheckCast, InstanceOf, Throw, MonitorEnter, MonitorExit, operation, OfMeaning, each_meaning}
use Rattle.run_laws.specs.monitor_counts.Counts.{AreMonitorsCounted}
use Rattle.run_laws.proofs.monitor_counts.Counted.{more_monitors}
use Rattle.run_laws.proofs.monitor_counts.CountedWorlds.{OutcomeCounted, not_null_counted, entry_counted, exit_keeps, built_in_counted}

module _ {A : Type 0} where
  -- what it does keeps counts, whatever it finds
  abbrev pub Counts : MeaningOf A → Type 0
  Counts m = (event : Event) (world : WorldOf A) (slots : Slots A) (ops rest : List A) (fat : ℕ → Bool) → AreMonitorsCounted fat world → OutcomeCounted fat (m.does event world slots ops rest)

  module _ (fat : ℕ → Bool) where
    -- ---- what is done by a test

    either_counted : (b : Bool) (x y : OutcomeOf A) → OutcomeCounted fat x → OutcomeCounted fat y → OutcomeCounted fat (if b then x else y)
    either_counted true x y h g = h
    either_counted false x y h g = g

    index_counted : (b : Bool) (x : OutcomeOf A) → OutcomeCounted fat x → OutcomeCounted fat (at_index b x)
    index_counted true x h = h
    index_counted false x h = tt

    storable_counted : (b : Bool) (x : OutcomeOf A) → OutcomeCounted fat x → OutcomeCounted fat (if_storable b x)
    storable_counted true x h = h
    storable_counted false x h = tt

    module _ (world : WorldOf A) (h : AreMonitorsCounted fat world) where
      cast_counted : (b : Bool) (next : ℕ) (v : A) (slots : Slots A) (rest : List A) → OutcomeCounted fat (cast b next v world slots rest)
      cast_counted true next v slots rest = h
      cast_counted false next v slots rest = tt

      left_counted : (b : Bool) (next t r : ℕ) (slots : Slots A) (rest : List A) → OutcomeCounted fat (left b next t r world slots rest)
      left_counted true next t r slots rest = exit_keeps fat world h t r
      left_counted false next t r slots rest = tt

      array_counted : (C : Carrier A) (negative : Bool) (next count : ℕ) (array : List A → ObjectOf A) (first : A) (slots : Slots A)
          (rest : List A) → OutcomeCounted fat (made_array C negative next count array first world slots rest)
      array_counted C true next count array first slots rest = tt
      array_counted C false next count array first slots rest = more_monitors fat world.monitors world.threads h

      module _ (C : Carrier A) (files : Program) (slots : Slots A) (ops rest : List A) where
        -- ---- arrays

        loaded_counted : (next : ℕ) (first : A)
            → OutcomeCounted fat (not_null (referent C ops 1)
            (λ r. at_index (in_range world r (int_operand C ops 0)) (pushing next (element_at first world r (int_operand C ops 0)
            ∷ []) world slots rest)))
        loaded_counted next first = not_null_counted fat (referent C ops 1) _ (λ r. index_counted (in_range world r (int_operand C ops 0)) _ h)

        stored_int_counted : (next : ℕ) → OutcomeCounted
            fat (not_null (referent C ops 2) (λ r. at_index (in_range world r (int_operand C ops 1))
            (stored next world r (int_operand C ops 1) (kept_by C (object_at world r) (operand C ops 0)) slots rest)))
        stored_int_counted next = not_null_counted fat (referent C ops 2) _ (λ r. index_counted (in_range world r (int_operand C ops 1)) _ h)

        stored_reference_counted : (site : Site) (event : Event)
            → OutcomeCounted fat ((store_reference_meaning C files site).does event world slots ops rest)
        stored_reference_counted site event =
            not_null_counted fat (referent C ops 2) _
            (λ r. index_counted (in_range world r (int_operand C ops 1)) _ (storable_counted (may_stand_in C files world (object_at world r) (operand C ops 0)) _ h))

        -- ---- calls

        runs_counted : (site : Site) (event : Event) (object : ℕ) (method : Member) (o : Option Body)
            → OutcomeCounted fat (runs C files site event world slots ops rest object method o)
        runs_counted site event object method None = built_in_counted fat world h C files (built_in_method method) site.next event slots ops rest
        runs_counted site event object method (Some body) = tt

        pub invoked_counted : (site : Site) (event : Event) (object : ℕ) (chosen : Chosen)
            → OutcomeCounted fat (invoked C files site event world slots ops rest object chosen)
        invoked_counted site event object (Fails fault) = tt
        invoked_counted site event object (Runs method) = runs_counted site event object method (body_of files method)

        pub called_counted : (site : Site) (event : Event) (method : Member) (choose : WorldOf A → ℕ → Chosen)
            → OutcomeCounted fat (invoked C files site event world slots ops
            rest (unwrap_or (C.referent (operand C ops (parameter_count method))) 0)
            (of_receiver (C.referent (operand C ops (parameter_count method))) (choose world)))
        called_counted site event method choose =
            let r = C.referent (operand C ops (parameter_count method)) in
            invoked_counted site event (unwrap_or r 0) (of_receiver r (choose world))

  module _ (C : Carrier A) (files : Program) where
    local_counts : (row : Row) → Counts (local_meaning C row)
    local_counts row event world slots ops rest fat h =
        either_counted fat (row.fails (C.words ops)) (Raises Arithmetic) (Goes Free world (after_row C.over row slots) (row_target row (C.words ops))) tt h

    load_counts : (site : Site) (kind : ArrayKind) → Counts (load_of C files site kind)
    load_counts site array_kind.Int event world slots ops rest fat h = loaded_counted fat world h C files slots ops rest site.next (C.int 0)
    load_counts site array_kind.Reference event world slots ops rest fat h = loaded_counted fat world h C files slots ops rest site.next C.over.null
    load_counts site array_kind.ByteOrBoolean event world slots ops rest fat h = loaded_counted fat world h C files slots ops rest site.next (C.int 0)
    load_counts site array_kind.Char event world slots ops rest fat h = loaded_counted fat world h C files slots ops rest site.next (C.int 0)
    load_counts site array_kind.Short event world slots ops rest fat h = loaded_counted fat world h C files slots ops rest site.next (C.int 0)

    store_counts : (site : Site) (kind : ArrayKind) → Counts (store_of C files site kind)
    store_counts site array_kind.Int event world slots ops rest fat h = stored_int_counted fat world h C files slots ops rest site.next
    store_counts site array_kind.Reference event world slots ops rest fat h = stored_reference_counted fat world h C files slots ops rest site event
    store_counts site array_kind.ByteOrBoolean event world slots ops rest fat h = stored_int_counted fat world h C files slots ops rest site.next
    store_counts site array_kind.Char event world slots ops rest fat h = stored_int_counted fat world h C files slots ops rest site.next
    store_counts site array_kind.Short event world slots ops rest fat h = stored_int_counted fat world h C files slots ops rest site.next

    monitor_exit_counts : (site : Site) → Counts (monitor_exit_meaning C site)
    monitor_exit_counts site event world slots ops rest fat h =
        not_null_counted fat (referent C ops 0) _ (λ r. left_counted fat world h (is_owner world event.thread r) site.next event.thread r slots rest)

    return_counts : (descriptor : Name) (kind : Returned) → Counts (return_of C files descriptor kind)
    return_counts descriptor returned.Nothing event world slots ops rest fat h = h
    return_counts descriptor returned.Int event world slots ops rest fat h = h
    return_counts descriptor returned.Reference event world slots ops rest fat h = h

    calls : (site : Site) (method : Member) (choose : WorldOf A → ℕ → Chosen) (event : Event) (world : WorldOf A) (slots : Slots A)
        (ops rest : List A) (fat : ℕ → Bool) → AreMonitorsCounted fat world
        → OutcomeCounted fat (invoked C files site event world slots ops
        rest (unwrap_or (C.referent (operand C ops (parameter_count method))) 0)
        (of_receiver (C.referent (operand C ops (parameter_count method))) (choose world)))
    calls site method choose event world slots ops rest fat h = called_counted fat world h C files slots ops rest site event method choose

    -- ---- the table

    operation_counts : (site : Site) (o : Operation files site) → Counts (operation C files site o)
    operation_counts site (OfRow row e) = local_counts row
    operation_counts site (GetSystemStream index stream n) = λ event world slots ops rest fat h. h
    operation_counts site (GetStatic f) = λ event world slots ops rest fat h. h
    operation_counts site (PutStatic f) = λ event world slots ops rest fat h. h
    operation_counts site (GetField f) = λ event world slots ops rest fat h. not_null_counted fat (referent C ops 0) _ (λ r. h)
    operation_counts site (PutField f) = λ event world slots ops rest fat h. not_null_counted fat (referent C ops 1) _ (λ r. h)
    operation_counts site (Println call e) = λ event world slots ops rest fat h. not_null_counted fat (referent C ops 1) _ (λ r. h)
    operation_counts site (CallVirtual call e m) = calls site m.method _
    operation_counts site (CallConstructor call e passes) = calls site call.named _
    operation_counts site (CallSpecial call e m) = calls site m.method _
    operation_counts site (CallStatic index i m) = λ event world slots ops rest fat h. invoked_counted fat world h C files slots ops rest site event (class_reference files m.method.class) (Runs m.method)
    operation_counts site (CallInterface call m) = calls site m.method _
    operation_counts site (Return kind i) = return_counts site.method.descriptor kind
    operation_counts site (LoadClass constant file e) = λ event world slots ops rest fat h. h
    operation_counts site (LoadString constant) = λ event world slots ops rest fat h. h
    operation_counts site (New class file e) = λ event world slots ops rest fat h. more_monitors fat world.monitors world.threads h
    operation_counts site (NewArray code of i e) = λ event world slots ops rest fat h. array_counted fat world h C (is_negative (int_operand C ops 0)) site.next (int_operand C ops 0) _ _ slots rest
    operation_counts site (NewReferenceArray class) = λ event world slots ops rest fat h. array_counted fat world h C (is_negative (int_operand C ops 0)) site.next (int_operand C ops 0) _ _ slots rest
    operation_counts site (ArrayLength i) = λ event world slots ops rest fat h. not_null_counted fat (referent C ops 0) _ (λ r. h)
    operation_counts site (LoadElement kind i) = load_counts site kind
    operation_counts site (StoreElement kind i) = store_counts site kind
    operation_counts site (CheckCast class) = λ event world slots ops rest fat h. cast_counted fat world h _ site.next (operand C ops 0) slots rest
    operation_counts site (InstanceOf class) = λ event world slots ops rest fat h. h
    operation_counts site (Throw i) = λ event world slots ops rest fat h. not_null_counted fat (referent C ops 0) (λ r. Throws r) (λ r. tt)
    operation_counts site (MonitorEnter i) = λ event world slots ops rest fat h. not_null_counted fat (referent C ops 0) _ (λ r. entry_counted fat world h event.thread r)
    operation_counts site (MonitorExit i) = monitor_exit_counts site

    -- what an instruction does keeps counts
    pub meaning_counts : (site : Site) → OfMeaning Counts (meaning_of C files site)
    meaning_counts site = each_meaning C files site Counts (operation_counts site)
