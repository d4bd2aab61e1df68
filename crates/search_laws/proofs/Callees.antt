-- Whose monitor a call enters: that depends on the type of the receiver alone.
use Rattle.std.proofs.Common.{◌≡◌, ℕ, List, Bool, true, false, if◌then◌else◌, Option, Some, None, refl, sym, ap, ◌∙◌}
use Rattle.std.specs.Prelude.{unwrap_or}
use Rattle.std.proofs.lemmas.Option.{same_Some, none-some}
use Rattle.model.specs.declared.event.Event.{Event}
use Rattle.model.specs.declared.instr.Returned.{Returned}
use Rattle.model.specs.declared.instr.Returned.TheVariants as returned
use Rattle.model.specs.declared.value.Value.{Value}
use Rattle.model.specs.Arrays.{is_negative}
use Rattle.model.specs.BuiltInMethods.{built_in_method}
use Rattle.model.specs.Calls.{Chosen, Fails, Runs, runs, invoked, of_receiver, parameter_count, return_of, selected, its_class, if_implements, special_class}
use Rattle.model.specs.Classes.{Program, Body, body_of}
use Rattle.model.specs.Frames.{is_synchronized_one}
use Rattle.model.specs.Meanings.{meaning_of}
use Rattle.model.specs.Names.{Name, Member, java_lang_object}
use Rattle.model.specs.Opening.{class_reference}
use Rattle.model.specs.Operands.{Slots, values}
use Rattle.model.specs.Outcomes.{OutcomeOf, Goes, Raises, Throws, Interrupts, Calls, Returns, Waits}
use Rattle.model.specs.ReferenceTypes.{ReferenceType, ClassType, PrimitiveArray, ReferenceArray, is_subtype}
use Rattle.model.specs.Sites.{MeaningOf, Site, operand, referent, int_operand}
use Rattle.model.specs.State.{ObjectOf, Instance, Primitives, References, type_of, World, Characters}
use Rattle.model.specs.Worlds.{is_owner, object_at, class_of_object}
use Rattle.run_laws.proofs.laws.Operations.{Operation, OfRow, GetSystemStream, GetStatic, PutStatic, GetField, PutField, Println, CallVirtual, CallConstructor, CallSpecial, CallStatic, CallInterface, Return, LoadClass, LoadString, New, NewArray, NewReferenceArray, ArrayLength, LoadElement, StoreElement, CheckCast, InstanceOf, Throw, MonitorEnter, MonitorExit, operation, OfMeaning, each_meaning}
use Rattle.search_laws.specs.Waits.{callee_entered}
use Rattle.search_laws.proofs.Plain.{IsPlain, null_plain, left_plain, cast_plain, array_plain, built_in_plain, row_plain, load_plain, store_plain}

-- the class of an object, by its type
abbrev class_of_type : ReferenceType → Name
class_of_type (ClassType class) = class
class_of_type (PrimitiveArray of) = java_lang_object
class_of_type (ReferenceArray of) = java_lang_object

class_by : (o : ObjectOf Value) → class_of_object o ≡ class_of_type (type_of o)
class_by (Instance class fields) = refl
class_by (Primitives of elements) = refl
class_by (References of elements) = refl
class_by (Characters text) = refl

pub same_class : (before after : World) (r : ℕ) → type_of (object_at after r) ≡ type_of (object_at before r)
    → class_of_object (object_at after r) ≡ class_of_object (object_at before r)
same_class before after r e = class_by (object_at after r) ∙ (ap class_of_type e ∙ sym (class_by (object_at before r)))

-- ---- what enters none

abbrev EntersNone : OutcomeOf Value → Type 0
EntersNone o = callee_entered o ≡ None

plain_none : (o : OutcomeOf Value) → IsPlain o → EntersNone o
plain_none (Goes cost world slots to) h = refl
plain_none (Raises fault) h = refl
plain_none (Throws exception) h = refl
plain_none Interrupts h = refl
plain_none (Calls callee rest) h = absurd h
plain_none (Returns world results) h = absurd h
plain_none (Waits cost world rest) h = refl

-- ---- calls

none_of : {X : Type 0} (o : Option ℕ) (object : ℕ) → o ≡ None → o ≡ Some object → X
none_of o object n e = absurd (none-some object (sym n ∙ e))

module _ (files : Program) (site : Site) (one other : Event) (before after : World) (slots : Slots Value) (ops rest : List Value) (object : ℕ) where
  -- the object that the outcome before enters is the one that the outcome after enters
  abbrev Again : OutcomeOf Value → OutcomeOf Value → Type 0
  Again x y = callee_entered x ≡ Some object → callee_entered y ≡ Some object

  abbrev calls : World → Event → ℕ → Chosen → OutcomeOf Value
  calls world event r chosen = invoked values files site event world slots ops rest r chosen

  none_again : (x y : OutcomeOf Value) → EntersNone x → Again x y
  none_again x y n e = none_of (callee_entered x) object n e

  plain_again : (x y : OutcomeOf Value) → IsPlain x → Again x y
  plain_again x y h = none_again x y (plain_none x h)

  runs_again : (r : ℕ) (method : Member) (o : Option Body)
      → Again (runs values files site one before slots ops rest r method o) (runs values files site other after slots ops rest r method o)
  runs_again r method None =
      plain_again (runs values files site one before slots ops rest r method None) (runs values files site other after slots ops rest r method None)
      (built_in_plain files (built_in_method method) site.next one before slots ops rest)
  runs_again r method (Some body) = λ e. e

  invoked_again : (r : ℕ) (chosen : Chosen) → Again (calls before one r chosen) (calls after other r chosen)
  invoked_again r (Fails fault) = λ e. none_of None object refl e
  invoked_again r (Runs method) = runs_again r method (body_of files method)

  -- it is the receiver
  entered_is : (method : Member) (r : ℕ) (b : Bool) → (if b then Some r else None) ≡ Some object → r ≡ object
  entered_is method r true e = same_Some r object e
  entered_is method r false e = absurd (none-some object e)

  runs_receiver : (r : ℕ) (method : Member) (o : Option Body) → callee_entered (runs values files site one before slots ops rest r method o) ≡ Some object
      → r ≡ object
  runs_receiver r method None e = none_of (callee_entered (runs values files site one before slots ops rest r method None)) object (plain_none (runs values files site one before slots ops rest r method None) (built_in_plain files (built_in_method method) site.next one before slots ops rest)) e
  runs_receiver r method (Some body) e = entered_is method r (is_synchronized_one files method) e

  receiver_is : (r : ℕ) (chosen : Chosen) → callee_entered (calls before one r chosen) ≡ Some object → r ≡ object
  receiver_is r (Fails fault) e = none_of None object refl e
  receiver_is r (Runs method) e = runs_receiver r method (body_of files method) e

  module _ (same : type_of (object_at after object) ≡ type_of (object_at before object)) where
    call_again : (choose : World → ℕ → Chosen) → (choose after object ≡ choose before object) → (o : Option ℕ)
        → Again (calls before one (unwrap_or o 0) (of_receiver o (choose before))) (calls after other (unwrap_or o 0) (of_receiver o (choose after)))
    call_again choose q None = λ e. none_of None object refl e
    call_again choose q (Some r) = λ e.
        let is = receiver_is r (choose before r) e in
        let chosen : choose after r ≡ choose before r = ap (choose after) is ∙ (q ∙ ap (choose before) (sym is)) in
        ap (λ c. callee_entered (calls after other r c)) chosen ∙ invoked_again r (choose before r) e

    call_at : (method : Member) (choose : World → ℕ → Chosen) → (choose after object ≡ choose before object)
        → Again (calls before one (unwrap_or (values.referent (operand values ops (parameter_count method))) 0)
        (of_receiver (values.referent (operand values ops (parameter_count method))) (choose before)))
        (calls after other (unwrap_or (values.referent (operand values ops (parameter_count method))) 0)
        (of_receiver (values.referent (operand values ops (parameter_count method))) (choose after)))
    call_at method choose q = call_again choose q (values.referent (operand values ops (parameter_count method)))

    class_same : its_class after object ≡ its_class before object
    class_same = same_class before after object same

    -- ---- the table

    abbrev pub Once : MeaningOf Value → Type 0
    Once m = Again (m.does one before slots ops rest) (m.does other after slots ops rest)

    return_none : (kind : Returned) → EntersNone ((return_of values files site.method.descriptor kind).does one before slots ops rest)
    return_none returned.Nothing = refl
    return_none returned.Int = refl
    return_none returned.Reference = refl

    none_at : (o : Operation files site) → EntersNone ((operation values files site o).does one before slots ops rest) → Once (operation values files site o)
    none_at o h = none_again ((operation values files site o).does one before slots ops rest) ((operation values files site o).does other after slots ops rest) h

    plain_at : (o : Operation files site) → IsPlain ((operation values files site o).does one before slots ops rest) → Once (operation values files site o)
    plain_at o h = none_at o (plain_none ((operation values files site o).does one before slots ops rest) h)

    again : (o : Operation files site) → Once (operation values files site o)
    again (OfRow row e) = plain_at (OfRow row e) (row_plain files site one before slots ops rest row)
    again (GetSystemStream index stream n) = none_at (GetSystemStream index stream n) refl
    again (GetStatic f) = none_at (GetStatic f) refl
    again (PutStatic f) = none_at (PutStatic f) refl
    again (GetField f) = plain_at (GetField f) (null_plain (referent values ops 0) _ (λ r. tt))
    again (PutField f) = plain_at (PutField f) (null_plain (referent values ops 1) _ (λ r. tt))
    again (Println call e) = plain_at (Println call e) (null_plain (referent values ops 1) _ (λ r. tt))
    again (CallVirtual call e m) = call_at m.method (λ world r. selected files (its_class world r) m.method) (ap (λ c. selected files c m.method) class_same)
    again (CallConstructor call e passes) = call_at call.named (λ world r. Runs call.named) refl
    again (CallSpecial call e m) = call_at m.method (λ world r. selected files (special_class files site.method.class call.named.class) m.method) refl
    again (CallStatic index i m) = invoked_again (class_reference files m.method.class) (Runs m.method)
    again (CallInterface call m) =
        call_at m.method (λ world r. if_implements (is_subtype files (type_of (object_at world r)) (ClassType call.named.class)) (selected files (its_class world r) m.method))
        (ap (λ t. if_implements (is_subtype files t (ClassType call.named.class)) (selected files (its_class after object) m.method)) same
        ∙ ap (λ c. if_implements (is_subtype files (type_of (object_at before object)) (ClassType call.named.class)) (selected files c m.method)) class_same)
    again (Return kind i) = none_at (Return kind i) (return_none kind)
    again (LoadClass constant file e) = none_at (LoadClass constant file e) refl
    again (LoadString constant) = none_at (LoadString constant) refl
    again (New class file e) = none_at (New class file e) refl
    again (NewArray code of i e) = plain_at (NewArray code of i e) (array_plain (is_negative (int_operand values ops 0)) site.next (int_operand values ops 0) _ _ before slots rest)
    again (NewReferenceArray class) = plain_at (NewReferenceArray class) (array_plain (is_negative (int_operand values ops 0)) site.next (int_operand values ops 0) _ _ before slots rest)
    again (ArrayLength i) = plain_at (ArrayLength i) (null_plain (referent values ops 0) _ (λ r. tt))
    again (LoadElement kind i) = plain_at (LoadElement kind i) (load_plain files site one before slots ops rest kind)
    again (StoreElement kind i) = plain_at (StoreElement kind i) (store_plain files site one before slots ops rest kind)
    again (CheckCast class) = plain_at (CheckCast class) (cast_plain _ site.next (operand values ops 0) before slots rest)
    again (InstanceOf class) = none_at (InstanceOf class) refl
    again (Throw i) = plain_at (Throw i) (null_plain (referent values ops 0) (λ r. Throws r) (λ r. tt))
    again (MonitorEnter i) = plain_at (MonitorEnter i) (null_plain (referent values ops 0) _ (λ r. tt))
    again (MonitorExit i) = plain_at (MonitorExit i) (null_plain (referent values ops 0) _ (λ r. left_plain (is_owner before one.thread r) site.next one.thread r before slots rest))

    pub entered_again : OfMeaning Once (meaning_of values files site)
    entered_again = each_meaning values files site Once again
