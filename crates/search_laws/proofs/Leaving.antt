-- Which instructions end a frame, and which let their thread wait.
use Rattle.std.proofs.Common.{◌≡◌, ℕ, List, [], Bool, true, false, if◌then◌else◌, Option, Some, None, refl, sym, ap, ◌∙◌}
use Rattle.std.specs.Prelude.{is_some, slice_get, slice_set}
use Rattle.std.proofs.lemmas.Option.{get_or_from_slice_get}
use Rattle.model.specs.declared.instr.ArrayKind.{ArrayKind}
use Rattle.model.specs.declared.instr.ArrayKind.TheVariants as array_kind
use Rattle.model.specs.declared.instr.Instr.TheVariants as instr
use Rattle.model.specs.declared.instr.Returned.{Returned}
use Rattle.model.specs.declared.instr.Returned.TheVariants as returned
use Rattle.model.specs.declared.value.Value.{Value}
use Rattle.model.specs.Arrays.{is_negative, made_array, in_range, at_index, may_stand_in, if_storable, load_of, store_of}
use Rattle.model.specs.BuilderMethods as builder
use Rattle.model.specs.BuilderMethods.{BuilderAnswer, KeepsEmpty, Keeps, Adds, GivesText, builds}
use Rattle.model.specs.ObjectMethods as telling
use Rattle.model.specs.ObjectMethods.{ObjectAnswer, HasNoClass, IsOf, object_answer, object_place, tells, type_at}
use Rattle.model.specs.BuiltInMethods.{BuiltInMethod, Construct, ConstructWithMessage, ConstructWithCause, ObjectClone, ObjectWait, ObjectNotify, ObjectNotifyAll, ThreadStart, ThreadInterrupt, ThreadIsInterrupted, ThreadInterrupted, ThreadYield, ThreadCurrentThread, ThreadJoin, ThreadIsAlive, ThreadNames, PrintStreamPrints, StringAnswers, StringWrites, StringBuilderBuilds, ObjectAnswers, built_in_method, object_of, string_operand, answered, wait_by, if_owner, start_by, join_by, built_in_does}
use Rattle.model.specs.Calls.{Chosen, Fails, Runs, runs, invoked, return_of}
use Rattle.model.specs.Classes.{Program, Body, body_of}
use Rattle.model.specs.Meanings.{local_meaning, meaning_of}
use Rattle.model.specs.MonitorMeanings.{left}
use Rattle.model.specs.Monitors as monitors
use Rattle.model.specs.Monitors.{monitor_at}
use Rattle.model.specs.Names.{Member}
use Rattle.model.specs.Objects.{cast}
use Rattle.model.specs.Opening.{class_reference, string_reference, string_references, opening_count}
use Rattle.model.specs.Operands.{Slots, values}
use Rattle.model.specs.Outcomes.{OutcomeOf, Goes, Raises, Throws, Interrupts, Calls, Returns, Waits, Free, Arithmetic, not_null}
use Rattle.model.specs.Rows.{Row, after_row, row_target}
use Rattle.model.specs.Sites.{MeaningOf, Site, operand, referent, int_operand}
use Rattle.model.specs.State.{ObjectOf, type_of, Thread, Running, Waiting, World}
use Rattle.model.specs.declared.name_method.NameMethod.{NameMethod}
use Rattle.model.specs.declared.name_method.NameMethod.TheVariants as naming
use Rattle.model.specs.Cloning.{is_cloneable, cloned}
use Rattle.model.specs.TextMethods as writing
use Rattle.model.specs.TextMethods.{TextAnswer, IsOutsideArray, Becomes, Stores, StandsFor, text_answer, units_operand, standing_for, gives_standing, writes}
use Rattle.model.specs.ThreadNames.{kept_name, ordinal_text, gives_name, thread_names}
use Rattle.model.specs.Texts.{Text}
use Rattle.model.specs.StringMethods.{StringAnswer, IsNull, IsOutside, Answers, Same, Composes, string_answer}
use Rattle.model.specs.Worlds.{thread_at, no_thread, with_thread, with_monitors, is_owner, object_at, thread_of, is_alive}
use Rattle.run_laws.proofs.laws.Operations.{Operation, OfRow, GetSystemStream, GetStatic, PutStatic, GetField, PutField, Println, CallVirtual, CallConstructor, CallSpecial, CallStatic, CallInterface, Return, LoadClass, LoadString, New, NewArray, NewReferenceArray, ArrayLength, LoadElement, StoreElement, CheckCast, InstanceOf, Throw, MonitorEnter, MonitorExit, operation, OfMeaning, each_meaning}
use Rattle.run_laws.proofs.typed_runs.Threads.{get_set_at}
use Rattle.search_laws.specs.Alone.{next_event}

-- a thread that is there is what it is set to
pub thread_set : (world : World) (t : ℕ) (old new : Thread) → slice_get world.threads t ≡ Some old → thread_at (with_thread world t new) t ≡ new
thread_set world t old new there = get_or_from_slice_get (slice_set world.threads t new) t new no_thread (get_set_at world.threads t old new there)

not_running : (object count : ℕ) → Waiting object count ≡ Running → ⊥
not_running object count e = absurd cc

module _ (files : Program) (site : Site) (t : ℕ) (world : World) (thread : Thread) (there : slice_get world.threads t ≡ Some thread) (slots : Slots Value) (ops rest : List Value) where
  -- what returns is a return, which changes nothing else, and what waits leaves its thread waiting
  abbrev pub Told : OutcomeOf Value → Type 0
  Told (Goes cost after slots to) = Unit {0}
  Told (Raises fault) = Unit {0}
  Told (Throws exception) = Unit {0}
  Told Interrupts = Unit {0}
  Told (Calls callee rest) = Unit {0}
  Told (Returns after results) = (kind : Returned) × ((site.instr ≡ instr.Return kind) × (after ≡ world))
  Told (Waits cost after rest) = (thread_at after t).status ≡ Running → ⊥

  null_told : (o : Option ℕ) (go : ℕ → OutcomeOf Value) → ((r : ℕ) → Told (go r)) → Told (not_null o go)
  null_told None go h = tt
  null_told (Some r) go h = h r

  either_told : (b : Bool) (x y : OutcomeOf Value) → Told x → Told y → Told (if b then x else y)
  either_told true x y h g = h
  either_told false x y h g = g

  index_told : (b : Bool) (x : OutcomeOf Value) → Told x → Told (at_index b x)
  index_told true x h = h
  index_told false x h = tt

  storable_told : (b : Bool) (x : OutcomeOf Value) → Told x → Told (if_storable b x)
  storable_told true x h = h
  storable_told false x h = tt

  owner_told : (b : Bool) (x : OutcomeOf Value) → Told x → Told (if_owner b x)
  owner_told true x h = h
  owner_told false x h = tt

  cast_told : (b : Bool) (next : ℕ) (value : Value) → Told (cast b next value world slots rest)
  cast_told true next value = tt
  cast_told false next value = tt

  left_told : (b : Bool) (next r : ℕ) → Told (left b next t r world slots rest)
  left_told true next r = tt
  left_told false next r = tt

  array_told : (b : Bool) (next count : ℕ) (array : List Value → ObjectOf Value) (first : Value) → Told (made_array values b next count array first world slots rest)
  array_told true next count array first = tt
  array_told false next count array first = tt

  -- ---- calls

  wait_told : (owner interrupted : Bool) (object : ℕ) → Told (wait_by owner interrupted t object world rest)
  wait_told false interrupted object = tt
  wait_told true true object = tt
  wait_told true false object = λ runs.
      let before : World = with_monitors world (monitors.wait object t world.monitors) in
      let now : Thread = record (thread_at before t) { status = Waiting object (monitor_at world.monitors object).count } in
      not_running object (monitor_at world.monitors object).count (sym (ap (λ (z : Thread). z.status) (thread_set before t thread now there)) ∙ runs)

  start_told : (b : Bool) (next object : ℕ) → Told (start_by b next object world slots rest)
  start_told true next object = tt
  start_told false next object = tt

  join_told : (b : Bool) (next : ℕ) → Told (join_by b next world slots rest)
  join_told true next = tt
  join_told false next = tt

  answered_told : (answer : StringAnswer) (next : ℕ) → Told (answered values answer next world slots ops rest)
  answered_told IsNull next = tt
  answered_told IsOutside next = tt
  answered_told (Answers bits) next = tt
  answered_told (Same k) next = tt
  answered_told (Composes text) next = tt

  builds_told : (empty : ℕ) (answer : BuilderAnswer) (next : ℕ) → Told (builds values empty answer next world slots ops rest)
  builds_told empty builder.IsNull next = tt
  builds_told empty KeepsEmpty next = tt
  builds_told empty Keeps next = tt
  builds_told empty (Adds added) next = tt
  builds_told empty GivesText next = tt

  tells_told : (answer : ObjectAnswer) (next : ℕ) → Told (tells values files answer next world slots rest)
  tells_told telling.IsNull next = tt
  tells_told HasNoClass next = tt
  tells_told (telling.Answers bits) next = tt
  tells_told (IsOf class) next = tt
  tells_told (telling.Composes text) next = tt

  cloned_told : (b : Bool) (object : ObjectOf Value) (next : ℕ) → Told (cloned values b object next world slots rest)
  cloned_told true object next = tt
  cloned_told false object next = tt

  standing_told : (string : Option ℕ) (next : ℕ) → Told (gives_standing values string next world slots ops rest)
  standing_told None next = tt
  standing_told (Some string) next = tt

  writes_told : (opened : ℕ) (constants : List ℕ) (answer : TextAnswer) (next : ℕ) → Told (writes values opened constants answer next world slots ops rest)
  writes_told opened constants writing.IsNull next = tt
  writes_told opened constants writing.IsOutside next = tt
  writes_told opened constants IsOutsideArray next = tt
  writes_told opened constants (Becomes receiver text) next = tt
  writes_told opened constants (Stores array index text) next = tt
  writes_told opened constants (StandsFor text) next = standing_told (standing_for constants world text) next

  gives_name_told : (name : Option ℕ) (text : Text) (next : ℕ) → Told (gives_name values name text next world slots ops rest)
  gives_name_told (Some name) text next = tt
  gives_name_told None text next = tt

  names_told : (method : NameMethod) (next : ℕ) → Told (thread_names values method next world slots ops rest)
  names_told naming.Construct next = tt
  names_told naming.ConstructWithTarget next = tt
  names_told naming.ConstructWithName next = null_told (referent values ops 0) _ (λ r. tt)
  names_told naming.ConstructWithTargetAndName next = null_told (referent values ops 0) _ (λ r. tt)
  names_told naming.GetName next =
      let o = object_at world (object_of values ops 0) in
      gives_name_told (values.referent (kept_name values o)) (ordinal_text values o) next
  names_told naming.SetName next = null_told (referent values ops 0) _ (λ r. tt)

  built_in_told : (method : BuiltInMethod) (next : ℕ) → Told (built_in_does values files method next (next_event t) world slots ops rest)
  built_in_told Construct next = tt
  built_in_told ConstructWithMessage next = tt
  built_in_told ConstructWithCause next = tt
  built_in_told ObjectClone next = cloned_told (is_cloneable files (type_of (object_at world (object_of values ops 0)))) (object_at world (object_of values ops 0)) next
  built_in_told ObjectWait next = wait_told (is_owner world t (object_of values ops 0)) (thread_at world t).interrupted (object_of values ops 0)
  built_in_told ObjectNotify next = owner_told (is_owner world t (object_of values ops 0)) _ tt
  built_in_told ObjectNotifyAll next = owner_told (is_owner world t (object_of values ops 0)) _ tt
  built_in_told ThreadStart next = start_told (is_some (thread_of world (object_of values ops 0))) next (object_of values ops 0)
  built_in_told ThreadInterrupt next = tt
  built_in_told ThreadIsInterrupted next = tt
  built_in_told ThreadInterrupted next = tt
  built_in_told ThreadYield next = tt
  built_in_told ThreadCurrentThread next = tt
  built_in_told ThreadJoin next = join_told (is_alive world (object_of values ops 0)) next
  built_in_told ThreadIsAlive next = tt
  built_in_told (ThreadNames method) next = names_told method next
  built_in_told (PrintStreamPrints print) next = tt
  built_in_told (StringAnswers method) next = answered_told (string_answer method (int_operand values ops) (string_operand values world ops)) next
  built_in_told (StringWrites method) next =
      writes_told (opening_count files) (string_references files) (text_answer method (int_operand values ops) (string_operand values world ops) (units_operand values world ops)) next
  built_in_told (StringBuilderBuilds method) next = builds_told (string_reference files []) _ next
  built_in_told (ObjectAnswers method) next = tells_told _ next

  runs_told : (r : ℕ) (method : Member) (o : Option Body) → Told (runs values files site (next_event t) world slots ops rest r method o)
  runs_told r method None = built_in_told (built_in_method method) site.next
  runs_told r method (Some body) = tt

  invoked_told : (r : ℕ) (chosen : Chosen) → Told (invoked values files site (next_event t) world slots ops rest r chosen)
  invoked_told r (Fails fault) = tt
  invoked_told r (Runs method) = runs_told r method (body_of files method)

  -- ---- the others

  return_told : (kind : Returned) → site.instr ≡ instr.Return kind → Told ((return_of values files site.method.descriptor kind).does (next_event t) world slots ops rest)
  return_told returned.Nothing i = (returned.Nothing, (i, refl))
  return_told returned.Int i = (returned.Int, (i, refl))
  return_told returned.Reference i = (returned.Reference, (i, refl))

  load_told : (kind : ArrayKind) → Told ((load_of values files site kind).does (next_event t) world slots ops rest)
  load_told array_kind.Int = null_told (referent values ops 1) _ (λ r. index_told (in_range world r (int_operand values ops 0)) _ tt)
  load_told array_kind.Reference = null_told (referent values ops 1) _ (λ r. index_told (in_range world r (int_operand values ops 0)) _ tt)
  load_told array_kind.ByteOrBoolean = null_told (referent values ops 1) _ (λ r. index_told (in_range world r (int_operand values ops 0)) _ tt)
  load_told array_kind.Char = null_told (referent values ops 1) _ (λ r. index_told (in_range world r (int_operand values ops 0)) _ tt)
  load_told array_kind.Short = null_told (referent values ops 1) _ (λ r. index_told (in_range world r (int_operand values ops 0)) _ tt)

  store_told : (kind : ArrayKind) → Told ((store_of values files site kind).does (next_event t) world slots ops rest)
  store_told array_kind.Int = null_told (referent values ops 2) _ (λ r. index_told (in_range world r (int_operand values ops 1)) _ tt)
  store_told array_kind.Reference =
      null_told (referent values ops 2) _
      (λ r. index_told (in_range world r (int_operand values ops 1)) _ (storable_told (may_stand_in values files world (object_at world r) (operand values ops 0)) _ tt))
  store_told array_kind.ByteOrBoolean = null_told (referent values ops 2) _ (λ r. index_told (in_range world r (int_operand values ops 1)) _ tt)
  store_told array_kind.Char = null_told (referent values ops 2) _ (λ r. index_told (in_range world r (int_operand values ops 1)) _ tt)
  store_told array_kind.Short = null_told (referent values ops 2) _ (λ r. index_told (in_range world r (int_operand values ops 1)) _ tt)

  row_told : (row : Row) → Told ((local_meaning values row).does (next_event t) world slots ops rest)
  row_told row = either_told (row.fails (values.words ops)) (Raises Arithmetic) (Goes Free world (after_row values.over row slots) (row_target row (values.words ops))) tt tt

  -- ---- the table

  abbrev pub IsTold : MeaningOf Value → Type 0
  IsTold m = Told (m.does (next_event t) world slots ops rest)

  told : (o : Operation files site) → IsTold (operation values files site o)
  told (OfRow row e) = row_told row
  told (GetSystemStream index stream n) = tt
  told (GetStatic f) = tt
  told (PutStatic f) = tt
  told (GetField f) = null_told (referent values ops 0) _ (λ r. tt)
  told (PutField f) = null_told (referent values ops 1) _ (λ r. tt)
  told (Println call e) = null_told (referent values ops 1) _ (λ r. tt)
  told (CallVirtual call e m) = invoked_told _ _
  told (CallConstructor call e passes) = invoked_told _ _
  told (CallSpecial call e m) = invoked_told _ _
  told (CallStatic index i m) = invoked_told (class_reference files m.method.class) (Runs m.method)
  told (CallInterface call m) = invoked_told _ _
  told (Return kind i) = return_told kind i
  told (LoadClass constant file e) = tt
  told (LoadString constant) = tt
  told (New class file e) = tt
  told (NewArray code of i e) = array_told (is_negative (int_operand values ops 0)) site.next (int_operand values ops 0) _ _
  told (NewReferenceArray class) = array_told (is_negative (int_operand values ops 0)) site.next (int_operand values ops 0) _ _
  told (ArrayLength i) = null_told (referent values ops 0) _ (λ r. tt)
  told (LoadElement kind i) = load_told kind
  told (StoreElement kind i) = store_told kind
  told (CheckCast class) = cast_told _ site.next (operand values ops 0)
  told (InstanceOf class) = tt
  told (Throw i) = null_told (referent values ops 0) (λ r. Throws r) (λ r. tt)
  told (MonitorEnter i) = null_told (referent values ops 0) _ (λ r. tt)
  told (MonitorExit i) = null_told (referent values ops 0) _ (λ r. left_told (is_owner world t r) site.next r)

  pub all_told : OfMeaning IsTold (meaning_of values files site)
  all_told = each_meaning values files site IsTold told
