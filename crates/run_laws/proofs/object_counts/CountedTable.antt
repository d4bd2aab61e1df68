-- How many objects there are after each instruction: the table of meanings.
use Rattle.std.proofs.Common.{◌≡◌, ℕ, ◌+◌, List, [], ◌∷◌, length, Bool, true, false, Option, Some, None, refl}
use Rattle.std.specs.Prelude.{unwrap_or}
use Rattle.std.proofs.lemmas.List.{length_push}
use Rattle.model.specs.declared.event.Event.{Event}
use Rattle.model.specs.declared.instr.ArrayKind.{ArrayKind}
use Rattle.model.specs.declared.instr.ArrayKind.TheVariants as array_kind
use Rattle.model.specs.declared.instr.Returned.{Returned}
use Rattle.model.specs.declared.instr.Returned.TheVariants as returned
use Rattle.model.specs.Names.{Name, Member}
use Rattle.model.specs.Classes.{Program, Body, body_of}
use Rattle.model.specs.Operands.{Slots, Carrier}
use Rattle.model.specs.Rows.{Row, after_row, row_target}
use Rattle.model.specs.State.{ObjectOf, WorldOf}
use Rattle.model.specs.Opening.{new_instance, class_reference}
use Rattle.model.specs.Outcomes.{OutcomeOf, Goes, Raises, Throws, Free, Arithmetic, not_null}
use Rattle.model.specs.Worlds.{object_at, with_object, with_element, with_field, put_value, is_owner}
use Rattle.model.specs.Sites.{MeaningOf, Site, operand, referent, int_operand, pushing}
use Rattle.model.specs.Calls.{Chosen, Fails, Runs, runs, invoked, of_receiver, parameter_count, return_of}
use Rattle.model.specs.BuiltInMethods.{built_in_method}
use Rattle.model.specs.Objects.{cast}
use Rattle.model.specs.Arrays.{is_negative, made_array, in_range, at_index, element_at, load_of, stored, kept_by, may_stand_in, if_storable, store_reference_meaning, store_of}
use Rattle.model.specs.MonitorMeanings.{left, monitor_exit_meaning}
use Rattle.model.specs.Meanings.{local_meaning, get_field_of, put_field_of, println_meaning, meaning_of}
use Rattle.run_laws.proofs.laws.Operations.{Operation, OfRow, GetSystemStream, GetStatic, PutStatic, GetField, PutField, Println, CallVirtual, CallConstructor, CallSpecial, CallStatic, CallInterface, Return, LoadClass, LoadString, New, NewArray, NewReferenceArray, ArrayLength, LoadElement, StoreElement, CheckCast, InstanceOf, Throw, MonitorEnter, MonitorExit, operation, OfMeaning, each_meaning}
use Rattle.run_laws.proofs.object_counts.Counted.{unchanged, same_count, object_count, OutcomeCounted, not_null_counted, either_counted, built_in_counted}

module _ {A : Type 0} where
  -- what it does is counted, whatever it finds
  abbrev pub Counts : MeaningOf A → Type 0
  Counts m = (event : Event) (world : WorldOf A) (slots : Slots A) (ops rest : List A) → OutcomeCounted (length world.heap) (m.does event world slots ops rest)

  -- ---- what is done by a test

  cast_counted : (b : Bool) (next : ℕ) (v : A) (world : WorldOf A) (slots : Slots A) (rest : List A)
      → OutcomeCounted (length world.heap) (cast b next v world slots rest)
  cast_counted true next v world slots rest = unchanged (length world.heap)
  cast_counted false next v world slots rest = tt

  index_counted : (n : ℕ) (b : Bool) (x : OutcomeOf A) → OutcomeCounted n x → OutcomeCounted n (at_index b x)
  index_counted n true x h = h
  index_counted n false x h = tt

  storable_counted : (n : ℕ) (b : Bool) (x : OutcomeOf A) → OutcomeCounted n x → OutcomeCounted n (if_storable b x)
  storable_counted n true x h = h
  storable_counted n false x h = tt

  left_counted : (b : Bool) (next t r : ℕ) (world : WorldOf A) (slots : Slots A) (rest : List A)
      → OutcomeCounted (length world.heap) (left b next t r world slots rest)
  left_counted true next t r world slots rest = unchanged (length world.heap)
  left_counted false next t r world slots rest = tt

  put_counted : (world : WorldOf A) (r : ℕ) (o : ObjectOf A) → length (with_object world r o).heap ≡ length world.heap + 0
  put_counted world r o = same_count (length (with_object world r o).heap) (length world.heap) (object_count world r o)

  stored_counted : (next : ℕ) (world : WorldOf A) (r index : ℕ) (v : A) (slots : Slots A) (rest : List A)
      → OutcomeCounted (length world.heap) (stored next world r index v slots rest)
  stored_counted next world r index v slots rest = put_counted world r (with_element index v (object_at world r))

  module _ (C : Carrier A) (files : Program) where
    array_counted : (negative : Bool) (next count : ℕ) (array : List A → ObjectOf A) (first : A) (world : WorldOf A) (slots : Slots A)
        (rest : List A) → OutcomeCounted (length world.heap) (made_array C negative next count array first world slots rest)
    array_counted true next count array first world slots rest = tt
    array_counted false next count array first world slots rest = length_push world.heap _

    -- ---- local instructions, fields, and println

    local_counts : (row : Row) → Counts (local_meaning C row)
    local_counts row event world slots ops rest =
        either_counted (length world.heap) (row.fails (C.words ops)) (Raises Arithmetic) (Goes Free world (after_row C.over row slots) (row_target row (C.words ops))) tt (unchanged (length world.heap))

    get_field_counts : (next : ℕ) (named : Name) (field : Member) → Counts (get_field_of C files next named field)
    get_field_counts next named field event world slots ops rest = not_null_counted (length world.heap) (referent C ops 0) _ (λ r. unchanged (length world.heap))

    put_field_counts : (next : ℕ) (named : Name) (field : Member) → Counts (put_field_of C files next named field)
    put_field_counts next named field event world slots ops rest =
        not_null_counted (length world.heap) (referent C ops 1) _ (λ r. put_counted world r (with_field field (put_value C field (operand C ops 0)) (object_at world r)))

    println_counts : (next : ℕ) → Counts (println_meaning C next)
    println_counts next event world slots ops rest = not_null_counted (length world.heap) (referent C ops 1) _ (λ r. unchanged (length world.heap))

    -- ---- objects, arrays and monitors

    loaded_counted : (next : ℕ) (first : A) (world : WorldOf A) (slots : Slots A) (ops rest : List A)
        → OutcomeCounted (length world.heap) (not_null (referent C ops 1)
        (λ r. at_index (in_range world r (int_operand C ops 0)) (pushing next (element_at first world r (int_operand C ops 0)
        ∷ []) world slots rest)))
    loaded_counted next first world slots ops rest =
        not_null_counted (length world.heap) (referent C ops 1) _ (λ r. index_counted (length world.heap) (in_range world r (int_operand C ops 0)) _ (unchanged (length world.heap)))

    stored_int_counted : (next : ℕ) (world : WorldOf A) (slots : Slots A) (ops rest : List A)
        → OutcomeCounted (length world.heap) (not_null (referent C ops 2)
        (λ r. at_index (in_range world r (int_operand C ops 1))
        (stored next world r (int_operand C ops 1) (kept_by C (object_at world r) (operand C ops 0)) slots rest)))
    stored_int_counted next world slots ops rest =
        not_null_counted (length world.heap) (referent C ops 2) _
        (λ r. index_counted (length world.heap) (in_range world r (int_operand C ops 1)) _
        (stored_counted next world r (int_operand C ops 1) (kept_by C (object_at world r) (operand C ops 0)) slots rest))

    store_reference_counts : (site : Site) → Counts (store_reference_meaning C files site)
    store_reference_counts site event world slots ops rest =
        not_null_counted (length world.heap) (referent C ops 2) _
        (λ r. index_counted (length world.heap) (in_range world r (int_operand C ops 1)) _
        (storable_counted (length world.heap) (may_stand_in C files world (object_at world r) (operand C ops 0)) _
        (stored_counted site.next world r (int_operand C ops 1) (operand C ops 0) slots rest)))

    load_counts : (site : Site) (kind : ArrayKind) → Counts (load_of C files site kind)
    load_counts site array_kind.Int event world slots ops rest = loaded_counted site.next (C.int 0) world slots ops rest
    load_counts site array_kind.Reference event world slots ops rest = loaded_counted site.next C.over.null world slots ops rest
    load_counts site array_kind.ByteOrBoolean event world slots ops rest = loaded_counted site.next (C.int 0) world slots ops rest
    load_counts site array_kind.Char event world slots ops rest = loaded_counted site.next (C.int 0) world slots ops rest
    load_counts site array_kind.Short event world slots ops rest = loaded_counted site.next (C.int 0) world slots ops rest

    store_counts : (site : Site) (kind : ArrayKind) → Counts (store_of C files site kind)
    store_counts site array_kind.Int event world slots ops rest = stored_int_counted site.next world slots ops rest
    store_counts site array_kind.Reference event world slots ops rest = store_reference_counts site event world slots ops rest
    store_counts site array_kind.ByteOrBoolean event world slots ops rest = stored_int_counted site.next world slots ops rest
    store_counts site array_kind.Char event world slots ops rest = stored_int_counted site.next world slots ops rest
    store_counts site array_kind.Short event world slots ops rest = stored_int_counted site.next world slots ops rest

    monitor_exit_counts : (site : Site) → Counts (monitor_exit_meaning C site)
    monitor_exit_counts site event world slots ops rest =
        not_null_counted (length world.heap) (referent C ops 0) _ (λ r. left_counted (is_owner world event.thread r) site.next event.thread r world slots rest)

    -- ---- calls and returns

    runs_counted : (site : Site) (event : Event) (world : WorldOf A) (slots : Slots A) (ops rest : List A) (object : ℕ) (method : Member)
        (o : Option Body) → OutcomeCounted (length world.heap) (runs C files site event world slots ops rest object method o)
    runs_counted site event world slots ops rest object method None = built_in_counted C files (built_in_method method) site.next event world slots ops rest
    runs_counted site event world slots ops rest object method (Some body) = tt

    invoked_counted : (site : Site) (event : Event) (world : WorldOf A) (slots : Slots A) (ops rest : List A) (object : ℕ)
        (chosen : Chosen) → OutcomeCounted (length world.heap) (invoked C files site event world slots ops rest object chosen)
    invoked_counted site event world slots ops rest object (Fails fault) = tt
    invoked_counted site event world slots ops rest object (Runs method) = runs_counted site event world slots ops rest object method (body_of files method)

    called_counted : (site : Site) (method : Member) (choose : WorldOf A → ℕ → Chosen) (event : Event) (world : WorldOf A)
        (slots : Slots A) (ops rest : List A)
        → OutcomeCounted (length world.heap) (invoked C files site event world slots ops
        rest (unwrap_or (C.referent (operand C ops (parameter_count method))) 0)
        (of_receiver (C.referent (operand C ops (parameter_count method))) (choose world)))
    called_counted site method choose event world slots ops rest =
        let r = C.referent (operand C ops (parameter_count method)) in
        invoked_counted site event world slots ops rest (unwrap_or r 0) (of_receiver r (choose world))

    return_counts : (descriptor : Name) (kind : Returned) → Counts (return_of C files descriptor kind)
    return_counts descriptor returned.Nothing event world slots ops rest = refl
    return_counts descriptor returned.Int event world slots ops rest = refl
    return_counts descriptor returned.Reference event world slots ops rest = refl

    -- ---- the table

    operation_counts : (site : Site) (o : Operation files site) → Counts (operation C files site o)
    operation_counts site (OfRow row e) = local_counts row
    operation_counts site (GetSystemStream index stream n) = λ event world slots ops rest. unchanged (length world.heap)
    operation_counts site (GetStatic f) = λ event world slots ops rest. unchanged (length world.heap)
    operation_counts site (PutStatic f) = λ event world slots ops rest. unchanged (length world.heap)
    operation_counts site (GetField f) = get_field_counts site.next f.named.class f.field
    operation_counts site (PutField f) = put_field_counts site.next f.named.class f.field
    operation_counts site (Println call e) = println_counts site.next
    operation_counts site (CallVirtual call e m) = called_counted site m.method _
    operation_counts site (CallConstructor call e passes) = called_counted site call.named _
    operation_counts site (CallSpecial call e m) = called_counted site m.method _
    operation_counts site (CallStatic index i m) = λ event world slots ops rest. invoked_counted site event world slots ops rest (class_reference files m.method.class) (Runs m.method)
    operation_counts site (CallInterface call m) = called_counted site m.method _
    operation_counts site (Return kind i) = return_counts site.method.descriptor kind
    operation_counts site (LoadClass constant file e) = λ event world slots ops rest. unchanged (length world.heap)
    operation_counts site (LoadString constant) = λ event world slots ops rest. unchanged (length world.heap)
    operation_counts site (New class file e) = λ event world slots ops rest. length_push world.heap (new_instance C files class.name)
    operation_counts site (NewArray code of i e) = λ event world slots ops rest. array_counted (is_negative (int_operand C ops 0)) site.next (int_operand C ops 0) _ _ world slots rest
    operation_counts site (NewReferenceArray class) = λ event world slots ops rest. array_counted (is_negative (int_operand C ops 0)) site.next (int_operand C ops 0) _ _ world slots rest
    operation_counts site (ArrayLength i) = λ event world slots ops rest. not_null_counted (length world.heap) (referent C ops 0) _ (λ r. unchanged (length world.heap))
    operation_counts site (LoadElement kind i) = load_counts site kind
    operation_counts site (StoreElement kind i) = store_counts site kind
    operation_counts site (CheckCast class) = λ event world slots ops rest. cast_counted _ site.next (operand C ops 0) world slots rest
    operation_counts site (InstanceOf class) = λ event world slots ops rest. unchanged (length world.heap)
    operation_counts site (Throw i) = λ event world slots ops rest. not_null_counted (length world.heap) (referent C ops 0) (λ r. Throws r) (λ r. tt)
    operation_counts site (MonitorEnter i) = λ event world slots ops rest. not_null_counted (length world.heap) (referent C ops 0) _ (λ r. unchanged (length world.heap))
    operation_counts site (MonitorExit i) = monitor_exit_counts site

    -- what an instruction does is counted
    pub meaning_counts : (site : Site) → OfMeaning Counts (meaning_of C files site)
    meaning_counts site = each_meaning C files site Counts (operation_counts site)
