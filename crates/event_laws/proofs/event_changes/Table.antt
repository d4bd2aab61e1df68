-- What each instruction leaves of classes and threads: the table of meanings.
use Rattle.std.proofs.Common.{refl, ℕ, List, [], ◌∷◌, Bool, true, false, Option, Some, None}
use Rattle.std.specs.Prelude.{unwrap_or, if◌then◌else◌}
use Rattle.model.specs.declared.event.Event.{Event}
use Rattle.model.specs.declared.instr.ArrayKind.{ArrayKind}
use Rattle.model.specs.declared.instr.ArrayKind.TheVariants as array_kind
use Rattle.model.specs.declared.instr.Returned.{Returned}
use Rattle.model.specs.declared.instr.Returned.TheVariants as returned
use Rattle.model.specs.Names.{Name, Member}
use Rattle.model.specs.Classes.{Program, Body, body_of}
use Rattle.model.specs.Operands.{Slots, Carrier}
use Rattle.model.specs.Rows.{Row, after_row, row_target}
use Rattle.model.specs.State.{ObjectOf, WorldOf}
use Rattle.model.specs.Opening.{class_reference}
use Rattle.model.specs.Outcomes.{OutcomeOf, Goes, Raises, Throws, Free, Arithmetic, not_null}
use Rattle.model.specs.Worlds.{object_at, is_owner}
use Rattle.model.specs.Sites.{MeaningOf, Site, operand, referent, int_operand, pushing}
use Rattle.model.specs.Calls.{Chosen, Fails, Runs, runs, invoked, of_receiver, parameter_count, return_of}
use Rattle.model.specs.BuiltInMethods.{built_in_method}
use Rattle.model.specs.Objects.{cast}
use Rattle.model.specs.Arrays.{is_negative, made_array, in_range, at_index, element_at, load_of, stored, kept_by, may_stand_in, if_storable, store_reference_meaning, store_of}
use Rattle.model.specs.MonitorMeanings.{left, monitor_enter_meaning, monitor_exit_meaning}
use Rattle.model.specs.Meanings.{local_meaning, meaning_of}
use Rattle.run_laws.proofs.laws.Operations.{Operation, OfRow, GetSystemStream, GetStatic, PutStatic, GetField, PutField, Println, CallVirtual, CallConstructor, CallSpecial, CallStatic, CallInterface, Return, LoadClass, LoadString, New, NewArray, NewReferenceArray, ArrayLength, LoadElement, StoreElement, CheckCast, InstanceOf, Throw, MonitorEnter, MonitorExit, operation, OfMeaning, each_meaning}
use Rattle.event_laws.proofs.event_changes.Worlds.{OutcomeLeaves, leaves_it, leaves_same, not_null_leaves, built_in_leaves}

module _ {A : Type 0} (C : Carrier A) where
  -- what it does keeps classes, and all threads but for one that it may start
  abbrev pub Leaving : MeaningOf A → Type 0
  Leaving m = (event : Event) (world : WorldOf A) (slots : Slots A) (ops rest : List A) → OutcomeLeaves world (m.does event world slots ops rest)

  module _ (world : WorldOf A) where
    abbrev leaves : OutcomeOf A → Type 0
    leaves o = OutcomeLeaves world o

    -- ---- what is done by a test

    either_leaves : (b : Bool) (x y : OutcomeOf A) → leaves x → leaves y → leaves (if b then x else y)
    either_leaves true x y h g = h
    either_leaves false x y h g = g

    index_leaves : (b : Bool) (x : OutcomeOf A) → leaves x → leaves (at_index b x)
    index_leaves true x h = h
    index_leaves false x h = tt

    storable_leaves : (b : Bool) (x : OutcomeOf A) → leaves x → leaves (if_storable b x)
    storable_leaves true x h = h
    storable_leaves false x h = tt

    cast_leaves : (b : Bool) (next : ℕ) (v : A) (slots : Slots A) (rest : List A) → leaves (cast b next v world slots rest)
    cast_leaves true next v slots rest = leaves_it world
    cast_leaves false next v slots rest = tt

    array_leaves : (negative : Bool) (next count : ℕ) (array : List A → ObjectOf A) (first : A) (slots : Slots A) (rest : List A)
        → leaves (made_array C negative next count array first world slots rest)
    array_leaves true next count array first slots rest = tt
    array_leaves false next count array first slots rest = leaves_same world _ refl refl

    module _ (files : Program) (slots : Slots A) (ops rest : List A) where
      -- ---- arrays

      loaded_leaves : (next : ℕ) (first : A)
          → leaves (not_null (referent C ops 1)
          (λ r. at_index (in_range world r (int_operand C ops 0)) (pushing next (element_at first world r (int_operand C ops 0) ∷ []) world slots rest)))
      loaded_leaves next first = not_null_leaves world (referent C ops 1) _ (λ r. index_leaves (in_range world r (int_operand C ops 0)) _ (leaves_it world))

      stored_int_leaves : (next : ℕ)
          → leaves (not_null (referent C ops 2) (λ r. at_index (in_range world r (int_operand C ops 1))
          (stored next world r (int_operand C ops 1) (kept_by C (object_at world r) (operand C ops 0)) slots rest)))
      stored_int_leaves next = not_null_leaves world (referent C ops 2) _ (λ r. index_leaves (in_range world r (int_operand C ops 1)) _ (leaves_same world _ refl refl))

      stored_reference_leaves : (site : Site) (event : Event) → leaves ((store_reference_meaning C files site).does event world slots ops rest)
      stored_reference_leaves site event =
          not_null_leaves world (referent C ops 2) _
          (λ r. index_leaves (in_range world r (int_operand C ops 1)) _ (storable_leaves (may_stand_in C files world (object_at world r) (operand C ops 0)) _ (leaves_same world _ refl refl)))

      -- ---- calls

      runs_leaves : (site : Site) (event : Event) (object : ℕ) (method : Member) (o : Option Body)
          → leaves (runs C files site event world slots ops rest object method o)
      runs_leaves site event object method None = built_in_leaves world C files (built_in_method method) site.next event slots ops rest
      runs_leaves site event object method (Some body) = tt

      invoked_leaves : (site : Site) (event : Event) (object : ℕ) (chosen : Chosen) → leaves (invoked C files site event world slots ops rest object chosen)
      invoked_leaves site event object (Fails fault) = tt
      invoked_leaves site event object (Runs method) = runs_leaves site event object method (body_of files method)

    left_leaves : (b : Bool) (next t r : ℕ) (slots : Slots A) (rest : List A) → leaves (left b next t r world slots rest)
    left_leaves true next t r slots rest = leaves_same world _ refl refl
    left_leaves false next t r slots rest = tt

  module _ (files : Program) where
    local_leaving : (row : Row) → Leaving (local_meaning C row)
    local_leaving row event world slots ops rest =
        either_leaves world (row.fails (C.words ops)) (Raises Arithmetic) (Goes Free world (after_row C.over row slots) (row_target row (C.words ops))) tt (leaves_it world)

    load_leaving : (site : Site) (kind : ArrayKind) → Leaving (load_of C files site kind)
    load_leaving site array_kind.Int event world slots ops rest = loaded_leaves world files slots ops rest site.next (C.int 0)
    load_leaving site array_kind.Reference event world slots ops rest = loaded_leaves world files slots ops rest site.next C.over.null
    load_leaving site array_kind.ByteOrBoolean event world slots ops rest = loaded_leaves world files slots ops rest site.next (C.int 0)
    load_leaving site array_kind.Char event world slots ops rest = loaded_leaves world files slots ops rest site.next (C.int 0)
    load_leaving site array_kind.Short event world slots ops rest = loaded_leaves world files slots ops rest site.next (C.int 0)

    store_leaving : (site : Site) (kind : ArrayKind) → Leaving (store_of C files site kind)
    store_leaving site array_kind.Int event world slots ops rest = stored_int_leaves world files slots ops rest site.next
    store_leaving site array_kind.Reference event world slots ops rest = stored_reference_leaves world files slots ops rest site event
    store_leaving site array_kind.ByteOrBoolean event world slots ops rest = stored_int_leaves world files slots ops rest site.next
    store_leaving site array_kind.Char event world slots ops rest = stored_int_leaves world files slots ops rest site.next
    store_leaving site array_kind.Short event world slots ops rest = stored_int_leaves world files slots ops rest site.next

    return_leaving : (descriptor : Name) (kind : Returned) → Leaving (return_of C files descriptor kind)
    return_leaving descriptor returned.Nothing event world slots ops rest = refl
    return_leaving descriptor returned.Int event world slots ops rest = refl
    return_leaving descriptor returned.Reference event world slots ops rest = refl

    calls : (site : Site) (method : Member) (choose : WorldOf A → ℕ → Chosen) (event : Event) (world : WorldOf A) (slots : Slots A) (ops rest : List A)
        → OutcomeLeaves world (invoked C files site event world slots ops rest (unwrap_or (C.referent (operand C ops (parameter_count method))) 0)
        (of_receiver (C.referent (operand C ops (parameter_count method))) (choose world)))
    calls site method choose event world slots ops rest =
        let r = C.referent (operand C ops (parameter_count method)) in
        invoked_leaves world files slots ops rest site event (unwrap_or r 0) (of_receiver r (choose world))

    -- ---- monitors

    exit_leaving : (site : Site) → Leaving (monitor_exit_meaning C site)
    exit_leaving site event world slots ops rest =
        not_null_leaves world (referent C ops 0) _ (λ r. left_leaves world (is_owner world event.thread r) site.next event.thread r slots rest)

    enter_leaving : (site : Site) → Leaving (monitor_enter_meaning C site)
    enter_leaving site event world slots ops rest = not_null_leaves world (referent C ops 0) _ (λ r. leaves_same world _ refl refl)

    -- ---- the table

    module _ (site : Site) where
      operation_leaving : (o : Operation files site) → Leaving (operation C files site o)
      operation_leaving (OfRow row e) = local_leaving row
      operation_leaving (GetSystemStream index stream n) = λ event world slots ops rest. leaves_it world
      operation_leaving (GetStatic f) = λ event world slots ops rest. leaves_it world
      operation_leaving (PutStatic f) = λ event world slots ops rest. leaves_same world _ refl refl
      operation_leaving (GetField f) = λ event world slots ops rest. not_null_leaves world (referent C ops 0) _ (λ r. leaves_it world)
      operation_leaving (PutField f) = λ event world slots ops rest. not_null_leaves world (referent C ops 1) _ (λ r. leaves_same world _ refl refl)
      operation_leaving (Println call e) = λ event world slots ops rest. not_null_leaves world (referent C ops 1) _ (λ r. leaves_same world _ refl refl)
      operation_leaving (CallVirtual call e m) = calls site m.method _
      operation_leaving (CallConstructor call e passes) = calls site call.named _
      operation_leaving (CallSpecial call e m) = calls site m.method _
      operation_leaving (CallStatic index i m) = λ event world slots ops rest. invoked_leaves world files slots ops rest site event (class_reference files m.method.class) (Runs m.method)
      operation_leaving (CallInterface call m) = calls site m.method _
      operation_leaving (Return kind i) = return_leaving site.method.descriptor kind
      operation_leaving (LoadClass constant file e) = λ event world slots ops rest. leaves_it world
      operation_leaving (LoadString constant) = λ event world slots ops rest. leaves_it world
      operation_leaving (New class file e) = λ event world slots ops rest. leaves_same world _ refl refl
      operation_leaving (NewArray code of i e) = λ event world slots ops rest. array_leaves world (is_negative (int_operand C ops 0)) site.next (int_operand C ops 0) _ _ slots rest
      operation_leaving (NewReferenceArray class) = λ event world slots ops rest. array_leaves world (is_negative (int_operand C ops 0)) site.next (int_operand C ops 0) _ _ slots rest
      operation_leaving (ArrayLength i) = λ event world slots ops rest. not_null_leaves world (referent C ops 0) _ (λ r. leaves_it world)
      operation_leaving (LoadElement kind i) = load_leaving site kind
      operation_leaving (StoreElement kind i) = store_leaving site kind
      operation_leaving (CheckCast class) = λ event world slots ops rest. cast_leaves world _ site.next (operand C ops 0) slots rest
      operation_leaving (InstanceOf class) = λ event world slots ops rest. leaves_it world
      operation_leaving (Throw i) = λ event world slots ops rest. not_null_leaves world (referent C ops 0) (λ r. Throws r) (λ r. tt)
      operation_leaving (MonitorEnter i) = enter_leaving site
      operation_leaving (MonitorExit i) = exit_leaving site

      -- what an instruction leaves of classes and threads
      pub meaning_leaves : OfMeaning Leaving (meaning_of C files site)
      meaning_leaves = each_meaning C files site Leaving operation_leaving
