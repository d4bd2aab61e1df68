-- The instructions that never wait once their class is ready: those that enter no monitor and call nothing.
use Rattle.std.proofs.Common.{◌≡◌, ℕ, List, [], ◌∷◌, length, Option, Some, None, Bool, true, false, if◌then◌else◌, refl}
use Rattle.model.specs.declared.instr.ArrayKind.{ArrayKind}
use Rattle.model.specs.declared.instr.ArrayKind.TheVariants as array_kind
use Rattle.model.specs.declared.instr.Returned.{Returned}
use Rattle.model.specs.declared.instr.Returned.TheVariants as returned
use Rattle.model.specs.Names.{Name, Member}
use Rattle.model.specs.Arrays.{made_array, array_meaning, primitive_array_meaning, reference_array_meaning, array_length_meaning, load_meaning, store_int_meaning, if_storable, at_index, in_range, element_at, stored, kept_by, may_stand_in, load_of, store_of}
use Rattle.model.specs.Calls.{return_of}
use Rattle.model.specs.Classes.{Program}
use Rattle.model.specs.MonitorMeanings.{left, monitor_exit_meaning}
use Rattle.model.specs.Meanings.{local_meaning, system_stream_meaning, get_static_of, put_static_of, get_field_of, put_field_of, println_meaning}
use Rattle.model.specs.Objects.{cast, new_meaning, check_cast_meaning, instance_of_meaning, object_meaning}
use Rattle.model.specs.Operands.{Slots, words}
use Rattle.model.specs.Outcomes.{OutcomeOf, Goes, Raises, Throws, Interrupts, Calls, Returns, Waits, Arithmetic, IllegalMonitorState, not_null}
use Rattle.model.specs.ReferenceTypes.{Primitive, ReferenceType, PrimitiveArray, ReferenceArray}
use Rattle.model.specs.Rows.{Row}
use Rattle.model.specs.Opening.{first_of}
use Rattle.model.specs.Texts.{int_line}
use Rattle.model.specs.BuiltInMethods.{with_printed}
use Rattle.model.specs.Sites.{MeaningOf, Site, pushing, operand, referent, int_operand}
use Rattle.model.specs.State.{ObjectOf, Primitives, References, FrameOf, StackOf, WorldOf}
use Rattle.model.specs.Types.{Want, VerificationType}
use Rattle.model.specs.ThrowMeaning.{throw_meaning}
use Rattle.model.specs.Worlds.{is_owner, with_exit, object_at, with_object, value_in, fields_of, with_field, put_value, elements_of}
use Rattle.model.specs.Step.{is_enabled_by, on_to, raised, leaving, become}
use Rattle.machine_state.specs.linked_frames.Frames.{event_of}

-- ---- outcomes

-- any but a call
abbrev pub Stays : OutcomeOf ℕ → Type 0
Stays (Goes cost world slots to) = Unit {0}
Stays (Raises fault) = Unit {0}
Stays (Throws exception) = Unit {0}
Stays Interrupts = Unit {0}
Stays (Calls callee rest) = ⊥
Stays (Returns world results) = Unit {0}
Stays (Waits cost world rest) = Unit {0}

leaving_enabled : (trees : Program) (t : ℕ) (o : Option ℕ) (world : WorldOf ℕ) (rest stack : StackOf ℕ) → is_enabled_by (leaving words trees t o world rest stack) ≡ true
leaving_enabled trees t None world rest stack = refl
leaving_enabled trees t (Some object) world rest stack = by (is_owner world t object)
  where
    by : (b : Bool) → is_enabled_by (if b then on_to (with_exit world t object) rest else raised words trees t IllegalMonitorState world stack) ≡ true
    by true = refl
    by false = refl

pub stays_enabled : (trees : Program) (frames t : ℕ) (world : WorldOf ℕ) (frame : FrameOf ℕ) (rest : StackOf ℕ) (outcome : OutcomeOf ℕ)
    → Stays outcome → is_enabled_by (become words trees frames t world frame rest outcome) ≡ true
stays_enabled trees frames t world frame rest (Goes cost after slots to) h = refl
stays_enabled trees frames t world frame rest (Raises fault) h = refl
stays_enabled trees frames t world frame rest (Throws exception) h = refl
stays_enabled trees frames t world frame rest Interrupts h = refl
stays_enabled trees frames t world frame rest (Calls callee under) h = absurd h
stays_enabled trees frames t world frame rest (Returns after results) h = leaving_enabled trees t frame.entered after _ _
stays_enabled trees frames t world frame rest (Waits cost after under) h = refl

not_null_stays : (o : Option ℕ) (go : ℕ → OutcomeOf ℕ) → ((r : ℕ) → Stays (go r)) → Stays (not_null o go)
not_null_stays None go h = tt
not_null_stays (Some r) go h = h r

at_index_stays : (b : Bool) (done : OutcomeOf ℕ) → Stays done → Stays (at_index b done)
at_index_stays true done h = h
at_index_stays false done h = tt

if_storable_stays : (b : Bool) (done : OutcomeOf ℕ) → Stays done → Stays (if_storable b done)
if_storable_stays true done h = h
if_storable_stays false done h = tt

pub either_stays : (b : Bool) (x y : OutcomeOf ℕ) → Stays x → Stays y → Stays (if b then x else y)
either_stays true x y h g = h
either_stays false x y h g = g

-- ---- meanings

-- an event that picks nothing may be, in every world, and calls nothing
pub record IsQuick (m : MeaningOf ℕ) : Type 0 where
  pub may : (t : ℕ) (world : WorldOf ℕ) (ops : List ℕ) → m.may (event_of t) world ops ≡ true
  pub stays : (t : ℕ) (world : WorldOf ℕ) (slots : Slots ℕ) (ops rest : List ℕ) → Stays (m.does (event_of t) world slots ops rest)

module _ (trees : Program) (site : Site) (next : ℕ) where
  pub quick_row : (row : Row) → IsQuick (local_meaning words row)
  quick_row row = record { may = λ t world ops. refl; stays = λ t world slots ops rest. either_stays (row.fails (words.words ops)) (Raises Arithmetic) (Goes _ world _ _) tt tt }

  pub quick_system_stream : (stream : ℕ) → IsQuick (system_stream_meaning words next stream)
  quick_system_stream stream = record { may = λ t world ops. refl; stays = λ t world slots ops rest. tt }

  pub quick_get_static : (field : Member) → IsQuick (get_static_of words trees next field)
  quick_get_static field = record { may = λ t world ops. refl; stays = λ t world slots ops rest. tt }

  pub quick_put_static : (field : Member) → IsQuick (put_static_of words trees next field)
  quick_put_static field = record { may = λ t world ops. refl; stays = λ t world slots ops rest. tt }

  pub quick_get_field : (named : Name) (field : Member) → IsQuick (get_field_of words trees next named field)
  quick_get_field named field = record { may = λ t world ops. refl; stays = λ t world slots ops rest. not_null_stays (referent words ops 0) (λ r. pushing next (value_in (first_of words field) field (fields_of (object_at world r)) ∷ []) world slots rest) (λ r. tt) }

  pub quick_put_field : (named : Name) (field : Member) → IsQuick (put_field_of words trees next named field)
  quick_put_field named field = record { may = λ t world ops. refl; stays = λ t world slots ops rest. not_null_stays (referent words ops 1) (λ r. pushing next [] (with_object world r (with_field field (put_value words field (operand words ops 0)) (object_at world r))) slots rest) (λ r. tt) }

  pub quick_println : IsQuick (println_meaning words next)
  quick_println = record { may = λ t world ops. refl; stays = λ t world slots ops rest. not_null_stays (referent words ops 1) (λ r. pushing next [] (with_printed world (int_line (int_operand words ops 0))) slots rest) (λ r. tt) }

  pub quick_return : (descriptor : Name) (kind : Returned) → IsQuick (return_of words trees descriptor kind)
  quick_return descriptor returned.Nothing = record { may = λ t world ops. refl; stays = λ t world slots ops rest. tt }
  quick_return descriptor returned.Int = record { may = λ t world ops. refl; stays = λ t world slots ops rest. tt }
  quick_return descriptor returned.Reference = record { may = λ t world ops. refl; stays = λ t world slots ops rest. tt }

  pub quick_object : (class : Name) (r : ℕ) → IsQuick (object_meaning words site class r)
  quick_object class r = record { may = λ t world ops. refl; stays = λ t world slots ops rest. tt }

  pub quick_new : (class : Name) → IsQuick (new_meaning words trees site class)
  quick_new class = record { may = λ t world ops. refl; stays = λ t world slots ops rest. tt }

  made_stays : (b : Bool) (to count : ℕ) (array : List ℕ → ObjectOf ℕ) (first : ℕ) (world : WorldOf ℕ) (slots : Slots ℕ) (rest : List ℕ)
      → Stays (made_array words b to count array first world slots rest)
  made_stays true to count array first world slots rest = tt
  made_stays false to count array first world slots rest = tt

  quick_array : (type : ReferenceType) (array : List ℕ → ObjectOf ℕ) (first : ℕ) → IsQuick (array_meaning words trees site type array first)
  quick_array type array first = record { may = λ t world ops. refl; stays = λ t world slots ops rest. made_stays _ site.next _ array first world slots rest }

  pub quick_primitives : (of : Primitive) → IsQuick (primitive_array_meaning words trees site of)
  quick_primitives of = quick_array (PrimitiveArray of) (λ elements. Primitives of elements) (words.int 0)

  pub quick_references : (of : ReferenceType) → IsQuick (reference_array_meaning words trees site of)
  quick_references of = quick_array (ReferenceArray of) (λ elements. References of elements) words.over.null

  pub quick_length : IsQuick (array_length_meaning words site)
  quick_length = record { may = λ t world ops. refl; stays = λ t world slots ops rest. not_null_stays (referent words ops 0) (λ r. pushing site.next (words.int (length (elements_of (object_at world r))) ∷ []) world slots rest) (λ r. tt) }

  quick_load_by : (array : Want) (first : ℕ) (type : List VerificationType → VerificationType)
      → IsQuick (load_meaning words site array first type)
  quick_load_by array first type = record { may = λ t world ops. refl; stays = λ t world slots ops rest. not_null_stays (referent words ops 1) (λ r. at_index (in_range world r (int_operand words ops 0)) (pushing site.next (element_at first world r (int_operand words ops 0) ∷ []) world slots rest)) (λ r. at_index_stays (in_range world r (int_operand words ops 0)) (pushing site.next (element_at first world r (int_operand words ops 0) ∷ []) world slots rest) tt) }

  pub quick_load : (kind : ArrayKind) → IsQuick (load_of words trees site kind)
  quick_load array_kind.Int = quick_load_by _ _ _
  quick_load array_kind.Reference = quick_load_by _ _ _
  quick_load array_kind.ByteOrBoolean = quick_load_by _ _ _
  quick_load array_kind.Char = quick_load_by _ _ _
  quick_load array_kind.Short = quick_load_by _ _ _

  quick_store_int : (array : Want) → IsQuick (store_int_meaning words site array)
  quick_store_int array = record { may = λ t world ops. refl; stays = λ t world slots ops rest. not_null_stays (referent words ops 2) (λ r. at_index (in_range world r (int_operand words ops 1)) (stored site.next world r (int_operand words ops 1) (kept_by words (object_at world r) (operand words ops 0)) slots rest)) (λ r. at_index_stays (in_range world r (int_operand words ops 1)) (stored site.next world r (int_operand words ops 1) (kept_by words (object_at world r) (operand words ops 0)) slots rest) tt) }

  pub quick_store : (kind : ArrayKind) → IsQuick (store_of words trees site kind)
  quick_store array_kind.Int = quick_store_int _
  quick_store array_kind.Reference = record { may = λ t world ops. refl; stays = λ t world slots ops rest. not_null_stays (referent words ops 2) (λ r. at_index (in_range world r (int_operand words ops 1)) (if_storable (may_stand_in words trees world (object_at world r) (operand words ops 0)) (stored site.next world r (int_operand words ops 1) (operand words ops 0) slots rest))) (λ r. at_index_stays (in_range world r (int_operand words ops 1)) (if_storable (may_stand_in words trees world (object_at world r) (operand words ops 0)) (stored site.next world r (int_operand words ops 1) (operand words ops 0) slots rest)) (if_storable_stays (may_stand_in words trees world (object_at world r) (operand words ops 0)) (stored site.next world r (int_operand words ops 1) (operand words ops 0) slots rest) tt)) }
  quick_store array_kind.ByteOrBoolean = quick_store_int _
  quick_store array_kind.Char = quick_store_int _
  quick_store array_kind.Short = quick_store_int _

  cast_stays : (b : Bool) (to value : ℕ) (world : WorldOf ℕ) (slots : Slots ℕ) (rest : List ℕ) → Stays (cast b to value world slots rest)
  cast_stays true to value world slots rest = tt
  cast_stays false to value world slots rest = tt

  pub quick_cast : (type : ReferenceType) → IsQuick (check_cast_meaning words trees site type)
  quick_cast type = record { may = λ t world ops. refl; stays = λ t world slots ops rest. cast_stays _ _ _ _ _ _ }

  pub quick_instance : (type : ReferenceType) → IsQuick (instance_of_meaning words trees site type)
  quick_instance type = record { may = λ t world ops. refl; stays = λ t world slots ops rest. tt }

  pub quick_throw : IsQuick (throw_meaning words)
  quick_throw = record { may = λ t world ops. refl; stays = λ t world slots ops rest. not_null_stays (referent words ops 0) (λ r. Throws r) (λ r. tt) }

  left_stays : (b : Bool) (to t r : ℕ) (world : WorldOf ℕ) (slots : Slots ℕ) (rest : List ℕ) → Stays (left b to t r world slots rest)
  left_stays true to t r world slots rest = tt
  left_stays false to t r world slots rest = tt

  pub quick_exit : IsQuick (monitor_exit_meaning words site)
  quick_exit = record { may = λ t world ops. refl; stays = λ t world slots ops rest. not_null_stays (referent words ops 0) (λ r. left (is_owner world t r) site.next t r world slots rest) (λ r. left_stays (is_owner world t r) site.next t r world slots rest) }
