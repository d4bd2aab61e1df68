-- How many objects there are after what an instruction does: outcomes, the changes of the world, and the methods of the
-- machine.
use Rattle.std.proofs.Common.{◌≡◌, ℕ, ◌+◌, List, [], ◌∷◌, ◌++◌, map, length, Bool, true, false, Option, Some, None, refl, ◌∙◌, arith}
use Rattle.std.specs.Prelude.{if◌then◌else◌, slice_get, is_some}
use Rattle.std.specs.Option.{is_none}
use Rattle.std.proofs.lemmas.List.{length-set, length_push}
use Rattle.model.specs.declared.event.Event.{Event}
use Rattle.model.specs.Names.{thread_target, thread_name, thread_ordinal, throwable_message, throwable_cause, builder_text}
use Rattle.model.specs.Classes.{Program}
use Rattle.model.specs.Opening.{string_reference, string_references, opening_count}
use Rattle.model.specs.Operands.{Slots, Carrier}
use Rattle.model.specs.State.{ObjectOf, type_of, WorldOf, Waiter, WakeCause, Notified, ThreadStatus, Running, Waiting, Relock, Ended, Characters}
use Rattle.model.specs.Monitors as monitors
use Rattle.model.specs.Texts.{Text}
use Rattle.model.specs.StringMethods.{StringAnswer, IsNull, IsOutside, Answers, Same, Composes, string_answer}
use Rattle.model.specs.ObjectMethods as telling
use Rattle.model.specs.ObjectMethods.{ObjectAnswer, HasNoClass, IsOf, object_answer, object_place, tells, type_at}
use Rattle.model.specs.BuilderMethods as building
use Rattle.model.specs.BuilderMethods.{BuilderAnswer, KeepsEmpty, Keeps, Adds, GivesText, builder_answer, built_text, builder_shown, builds}
use Rattle.model.specs.Outcomes.{OutcomeOf, Goes, Raises, Throws, Interrupts, Calls, Returns, Waits, not_null}
use Rattle.model.specs.Worlds.{thread_at, thread_of, is_alive, object_at, allocated, string_shown, with_object, with_field, with_elements, with_text, is_owner, with_monitors, woken, all_woken, waiters_of}
use Rattle.model.specs.Sites.{operand, referent, int_operand, pushing}
use Rattle.model.specs.BuiltInMethods.{BuiltInMethod, Construct, ConstructWithMessage, ConstructWithCause, ObjectClone, ObjectWait, ObjectNotify, ObjectNotifyAll, ThreadStart, ThreadInterrupt, ThreadIsInterrupted, ThreadInterrupted, ThreadYield, ThreadCurrentThread, ThreadJoin, ThreadIsAlive, ThreadNames, PrintStreamPrints, StringAnswers, StringWrites, StringBuilderBuilds, ObjectAnswers, object_of, wait_by, notified_one, notified, notified_all, if_owner, start_by, interrupted_in, interrupted_on, join_by, string_operand, answered, built_in_does}
use Rattle.model.specs.declared.name_method.NameMethod.{NameMethod}
use Rattle.model.specs.declared.name_method.NameMethod.TheVariants as naming
use Rattle.model.specs.Cloning.{is_cloneable, cloned}
use Rattle.model.specs.TextMethods as writing
use Rattle.model.specs.TextMethods.{TextAnswer, IsOutsideArray, Becomes, Stores, StandsFor, text_answer, char_value, units_operand, standing_for, gives_standing, is_blank, writes}
use Rattle.model.specs.ThreadNames.{kept_name, ordinal_text, gives_name, thread_names}
use Rattle.run_laws.specs.object_counts.Bounds.{made}

-- ---- lists

pub same_count : (m n : ℕ) → m ≡ n → m ≡ n + 0
same_count m n e = omega (arith, e)

pub unchanged : (n : ℕ) → n ≡ n + 0
unchanged n = same_count n n refl

-- ---- outcomes

-- what comes of so many objects
abbrev pub OutcomeCounted : {A : Type 0} → ℕ → OutcomeOf A → Type 0
OutcomeCounted n (Goes cost after slots to) = length after.heap ≡ n + made cost
OutcomeCounted n (Raises fault) = Unit {0}
OutcomeCounted n (Throws exception) = Unit {0}
OutcomeCounted n Interrupts = Unit {0}
OutcomeCounted n (Calls frame rest) = Unit {0}
OutcomeCounted n (Returns after results) = length after.heap ≡ n
OutcomeCounted n (Waits cost after rest) = length after.heap ≡ n + made cost

module _ {A : Type 0} where
  pub not_null_counted : (n : ℕ) (o : Option ℕ) (go : ℕ → OutcomeOf A) → ((r : ℕ) → OutcomeCounted n (go r))
      → OutcomeCounted n (not_null o go)
  not_null_counted n None go h = tt
  not_null_counted n (Some r) go h = h r

  pub either_counted : (n : ℕ) (b : Bool) (x y : OutcomeOf A) → OutcomeCounted n x → OutcomeCounted n y
      → OutcomeCounted n (if b then x else y)
  either_counted n true x y h g = h
  either_counted n false x y h g = g

  -- ---- worlds

  pub object_count : (world : WorldOf A) (r : ℕ) (o : ObjectOf A) → length (with_object world r o).heap ≡ length world.heap
  object_count world r o = length-set world.heap r o

  pub woken_count : (object : ℕ) (cause : WakeCause) (world : WorldOf A) (ws : List Waiter)
      → length (all_woken object cause world ws).heap ≡ length world.heap
  woken_count object cause world [] = refl
  woken_count object cause world (w ∷ ws) = woken_count object cause (woken object cause world w) ws

  notified_count : (world : WorldOf A) (object : ℕ) (o : Option Waiter) → length (notified_one world object o).heap ≡ length world.heap
  notified_count world object None = refl
  notified_count world object (Some w) = refl

  interrupted_count : (world : WorldOf A) (t : ℕ) (status : ThreadStatus) → length (interrupted_in world t status).heap ≡ length world.heap
  interrupted_count world t Running = refl
  interrupted_count world t (Waiting object count) = refl
  interrupted_count world t (Relock object count cause) = refl
  interrupted_count world t (Ended exception) = refl

  interrupted_on_count : (world : WorldOf A) (o : Option ℕ) → length (interrupted_on world o).heap ≡ length world.heap
  interrupted_on_count world None = refl
  interrupted_on_count world (Some t) = interrupted_count world t (thread_at world t).status

  -- ---- methods of the machine

  wait_counted : (owns interrupted : Bool) (t object : ℕ) (world : WorldOf A) (rest : List A)
      → OutcomeCounted (length world.heap) (wait_by owns interrupted t object world rest)
  wait_counted false interrupted t object world rest = tt
  wait_counted true true t object world rest = tt
  wait_counted true false t object world rest = unchanged (length world.heap)

  owner_counted : (n : ℕ) (b : Bool) (x : OutcomeOf A) → OutcomeCounted n x → OutcomeCounted n (if_owner b x)
  owner_counted n true x h = h
  owner_counted n false x h = tt

  start_counted : (started : Bool) (next object : ℕ) (world : WorldOf A) (slots : Slots A) (rest : List A)
      → OutcomeCounted (length world.heap) (start_by started next object world slots rest)
  start_counted true next object world slots rest = tt
  start_counted false next object world slots rest = unchanged (length world.heap)

  join_counted : (alive : Bool) (next : ℕ) (world : WorldOf A) (slots : Slots A) (rest : List A)
      → OutcomeCounted (length world.heap) (join_by alive next world slots rest)
  join_counted true next world slots rest = tt
  join_counted false next world slots rest = unchanged (length world.heap)

  -- a new String is one object
  answered_counted : (C : Carrier A) (answer : StringAnswer) (next : ℕ) (world : WorldOf A) (slots : Slots A) (ops rest : List A)
      → OutcomeCounted (length world.heap) (answered C answer next world slots ops rest)
  answered_counted C IsNull next world slots ops rest = tt
  answered_counted C IsOutside next world slots ops rest = tt
  answered_counted C (Answers bits) next world slots ops rest = unchanged (length world.heap)
  answered_counted C (Same k) next world slots ops rest = unchanged (length world.heap)
  answered_counted C (Composes text) next world slots ops rest = length_push world.heap (Characters text)

  -- so is a new text of a StringBuilder
  builds_counted : (C : Carrier A) (empty : ℕ) (answer : BuilderAnswer) (next : ℕ) (world : WorldOf A) (slots : Slots A) (ops rest : List A)
      → OutcomeCounted (length world.heap) (builds C empty answer next world slots ops rest)
  builds_counted C empty building.IsNull next world slots ops rest = tt
  builds_counted C empty KeepsEmpty next world slots ops rest =
      let o = object_of C ops 0 in
      let new = with_field builder_text (C.reference empty) (object_at world o) in
      same_count (length (with_object world o new).heap) (length world.heap) (object_count world o new)
  builds_counted C empty Keeps next world slots ops rest =
      let o = object_of C ops 1 in
      let new = with_field builder_text (operand C ops 0) (object_at world o) in
      same_count (length (with_object world o new).heap) (length world.heap) (object_count world o new)
  builds_counted C empty (Adds added) next world slots ops rest =
      let o = object_of C ops 1 in
      let text = built_text C world o ++ added in
      let made = allocated world (Characters text) in
      object_count made o (with_field builder_text (C.reference (length world.heap)) (object_at made o)) ∙ length_push world.heap (Characters text)
  builds_counted C empty GivesText next world slots ops rest = unchanged (length world.heap)

  tells_counted : (C : Carrier A) (files : Program) (answer : ObjectAnswer) (next : ℕ) (world : WorldOf A) (slots : Slots A) (rest : List A)
      → OutcomeCounted (length world.heap) (tells C files answer next world slots rest)
  tells_counted C files telling.IsNull next world slots rest = tt
  tells_counted C files HasNoClass next world slots rest = tt
  tells_counted C files (telling.Answers bits) next world slots rest = unchanged (length world.heap)
  tells_counted C files (IsOf class) next world slots rest = unchanged (length world.heap)
  tells_counted C files (telling.Composes text) next world slots rest = length_push world.heap (Characters text)

  -- a copy is one object
  cloned_counted : (C : Carrier A) (b : Bool) (object : ObjectOf A) (next : ℕ) (world : WorldOf A) (slots : Slots A) (rest : List A)
      → OutcomeCounted (length world.heap) (cloned C b object next world slots rest)
  cloned_counted C true object next world slots rest = length_push world.heap object
  cloned_counted C false object next world slots rest = tt

  -- ---- Strings and Threads that are changed

  put_count : (world : WorldOf A) (r : ℕ) (o : ObjectOf A) → length (with_object world r o).heap ≡ length world.heap + 0
  put_count world r o = same_count (length (with_object world r o).heap) (length world.heap) (object_count world r o)

  blank_count : (b : Bool) (world : WorldOf A) (r : ℕ) (o : ObjectOf A)
      → length (if b then with_object world r o else world).heap ≡ length world.heap + 0
  blank_count true world r o = put_count world r o
  blank_count false world r o = unchanged (length world.heap)

  standing_counted : (C : Carrier A) (string : Option ℕ) (next : ℕ) (world : WorldOf A) (slots : Slots A) (ops rest : List A)
      → OutcomeCounted (length world.heap) (gives_standing C string next world slots ops rest)
  standing_counted C None next world slots ops rest = unchanged (length world.heap)
  standing_counted C (Some string) next world slots ops rest = unchanged (length world.heap)

  writes_counted : (C : Carrier A) (opened : ℕ) (constants : List ℕ) (answer : TextAnswer) (next : ℕ) (world : WorldOf A) (slots : Slots A)
      (ops rest : List A) → OutcomeCounted (length world.heap) (writes C opened constants answer next world slots ops rest)
  writes_counted C opened constants writing.IsNull next world slots ops rest = tt
  writes_counted C opened constants writing.IsOutside next world slots ops rest = tt
  writes_counted C opened constants IsOutsideArray next world slots ops rest = tt
  writes_counted C opened constants (Becomes receiver text) next world slots ops rest =
      let o = object_of C ops receiver in
      blank_count (is_blank opened world o) world o (with_text text (object_at world o))
  writes_counted C opened constants (Stores array index text) next world slots ops rest =
      let o = object_of C ops array in
      put_count world o (with_elements index (map (char_value C) text) (object_at world o))
  writes_counted C opened constants (StandsFor text) next world slots ops rest =
      standing_counted C (standing_for constants world text) next world slots ops rest

  gives_name_counted : (C : Carrier A) (name : Option ℕ) (text : Text) (next : ℕ) (world : WorldOf A) (slots : Slots A) (ops rest : List A)
      → OutcomeCounted (length world.heap) (gives_name C name text next world slots ops rest)
  gives_name_counted C (Some name) text next world slots ops rest = unchanged (length world.heap)
  gives_name_counted C None text next world slots ops rest =
      let o = object_of C ops 0 in
      let made = allocated world (Characters text) in
      object_count made o (with_field thread_name (C.reference (length world.heap)) (object_at made o)) ∙ length_push world.heap (Characters text)

  -- a Thread keeps what it is given
  names_counted : (C : Carrier A) (method : NameMethod) (next : ℕ) (world : WorldOf A) (slots : Slots A) (ops rest : List A)
      → OutcomeCounted (length world.heap) (thread_names C method next world slots ops rest)
  names_counted C naming.Construct next world slots ops rest =
      let o = object_of C ops 0 in
      put_count world o (with_field thread_ordinal (C.int world.unnamed) (object_at world o))
  names_counted C naming.ConstructWithTarget next world slots ops rest =
      let o = object_of C ops 1 in
      put_count world o (with_field thread_ordinal (C.int world.unnamed) (with_field thread_target (operand C ops 0) (object_at world o)))
  names_counted C naming.ConstructWithName next world slots ops rest =
      let o = object_of C ops 1 in
      not_null_counted (length world.heap) (referent C ops 0) _ (λ r. put_count world o (with_field thread_name (operand C ops 0) (object_at world o)))
  names_counted C naming.ConstructWithTargetAndName next world slots ops rest =
      let o = object_of C ops 2 in
      not_null_counted (length world.heap) (referent C ops 0) _
      (λ r. put_count world o (with_field thread_name (operand C ops 0) (with_field thread_target (operand C ops 1) (object_at world o))))
  names_counted C naming.GetName next world slots ops rest =
      let o = object_at world (object_of C ops 0) in
      gives_name_counted C (C.referent (kept_name C o)) (ordinal_text C o) next world slots ops rest
  names_counted C naming.SetName next world slots ops rest =
      let o = object_of C ops 1 in
      not_null_counted (length world.heap) (referent C ops 0) _ (λ r. put_count world o (with_field thread_name (operand C ops 0) (object_at world o)))

  pub built_in_counted : (C : Carrier A) (files : Program) (method : BuiltInMethod) (next : ℕ) (event : Event) (world : WorldOf A) (slots : Slots A)
      (ops rest : List A) → OutcomeCounted (length world.heap) (built_in_does C files method next event world slots ops rest)
  built_in_counted C files Construct next event world slots ops rest = unchanged (length world.heap)
  built_in_counted C files ConstructWithMessage next event world slots ops rest =
      let o = object_of C ops 1 in
      let new = with_field throwable_message (operand C ops 0) (object_at world o) in
      same_count (length (with_object world o new).heap) (length world.heap) (object_count world o new)
  built_in_counted C files ConstructWithCause next event world slots ops rest =
      let o = object_of C ops 2 in
      let new = with_field throwable_cause (operand C ops 0) (with_field throwable_message (operand C ops 1) (object_at world o)) in
      same_count (length (with_object world o new).heap) (length world.heap) (object_count world o new)
  built_in_counted C files ObjectClone next event world slots ops rest =
      cloned_counted C (is_cloneable files (type_of (object_at world (object_of C ops 0)))) (object_at world (object_of C ops 0)) next world slots rest
  built_in_counted C files ObjectWait next event world slots ops rest =
      wait_counted (is_owner world event.thread (object_of C ops 0)) (thread_at world event.thread).interrupted event.thread (object_of C ops 0) world rest
  built_in_counted C files ObjectNotify next event world slots ops rest =
      let o = object_of C ops 0 in
      let free = with_monitors world (monitors.notify o event.thread event.pick world.monitors) in
      owner_counted (length world.heap) (is_owner world event.thread o) (pushing next [] (notified world event.thread o event.pick) slots rest)
      (same_count (length (notified world event.thread o event.pick).heap) (length world.heap) (notified_count free o (slice_get (waiters_of world o) event.pick)))
  built_in_counted C files ObjectNotifyAll next event world slots ops rest =
      let o = object_of C ops 0 in
      let free = with_monitors world (monitors.notify_all o event.thread world.monitors) in
      owner_counted (length world.heap) (is_owner world event.thread o) (pushing next [] (notified_all world event.thread o) slots rest)
      (same_count (length (notified_all world event.thread o).heap) (length world.heap) (woken_count o Notified free (waiters_of world o)))
  built_in_counted C files ThreadStart next event world slots ops rest = start_counted (is_some (thread_of world (object_of C ops 0))) next (object_of C ops 0) world slots rest
  built_in_counted C files ThreadInterrupt next event world slots ops rest =
      let after = interrupted_on world (thread_of world (object_of C ops 0)) in
      same_count (length after.heap) (length world.heap) (interrupted_on_count world (thread_of world (object_of C ops 0)))
  built_in_counted C files ThreadIsInterrupted next event world slots ops rest = unchanged (length world.heap)
  built_in_counted C files ThreadInterrupted next event world slots ops rest = unchanged (length world.heap)
  built_in_counted C files ThreadYield next event world slots ops rest = unchanged (length world.heap)
  built_in_counted C files ThreadCurrentThread next event world slots ops rest = unchanged (length world.heap)
  built_in_counted C files ThreadJoin next event world slots ops rest = join_counted (is_alive world (object_of C ops 0)) next world slots rest
  built_in_counted C files ThreadIsAlive next event world slots ops rest = unchanged (length world.heap)
  built_in_counted C files (ThreadNames method) next event world slots ops rest = names_counted C method next world slots ops rest
  built_in_counted C files (PrintStreamPrints print) next event world slots ops rest = unchanged (length world.heap)
  built_in_counted C files (StringAnswers method) next event world slots ops rest =
      answered_counted C (string_answer method (int_operand C ops) (string_operand C world ops)) next world slots ops rest
  built_in_counted C files (StringWrites method) next event world slots ops rest =
      writes_counted C (opening_count files) (string_references files)
      (text_answer method (int_operand C ops) (string_operand C world ops) (units_operand C world ops)) next world slots ops rest
  built_in_counted C files (StringBuilderBuilds method) next event world slots ops rest =
      builds_counted C (string_reference files [])
      (builder_answer method (int_operand C ops 0) (is_none (referent C ops 0)) (string_shown world (referent C ops 0)) (builder_shown C world (referent C ops 0)))
      next world slots ops rest
  built_in_counted C files (ObjectAnswers method) next event world slots ops rest =
      tells_counted C files (object_answer files method (referent C ops (object_place method)) (type_at world) (int_operand C ops 0)) next world slots rest
