-- Outcomes of instructions that neither call nor return.
use Rattle.std.proofs.Common.{ℕ, List, [], Bool, true, false, if◌then◌else◌, Option, Some, None}
use Rattle.std.specs.Prelude.{is_some}
use Rattle.model.specs.declared.event.Event.{Event}
use Rattle.model.specs.declared.instr.ArrayKind.{ArrayKind}
use Rattle.model.specs.declared.instr.ArrayKind.TheVariants as array_kind
use Rattle.model.specs.declared.value.Value.{Value}
use Rattle.model.specs.Arrays.{made_array, in_range, at_index, may_stand_in, if_storable, load_of, store_of}
use Rattle.model.specs.BuilderMethods as builder
use Rattle.model.specs.BuilderMethods.{BuilderAnswer, KeepsEmpty, Keeps, Adds, GivesText, builds}
use Rattle.model.specs.ObjectMethods as telling
use Rattle.model.specs.ObjectMethods.{ObjectAnswer, HasNoClass, IsOf, object_answer, object_place, tells, type_at}
use Rattle.model.specs.BuiltInMethods.{BuiltInMethod, Construct, ConstructWithMessage, ConstructWithCause, ObjectClone, ObjectWait, ObjectNotify, ObjectNotifyAll, ThreadStart, ThreadInterrupt, ThreadIsInterrupted, ThreadInterrupted, ThreadYield, ThreadCurrentThread, ThreadJoin, ThreadIsAlive, ThreadNames, PrintStreamPrints, StringAnswers, StringWrites, StringBuilderBuilds, ObjectAnswers, object_of, string_operand, answered, wait_by, if_owner, start_by, join_by, built_in_does}
use Rattle.model.specs.Classes.{Program}
use Rattle.model.specs.MonitorMeanings.{left}
use Rattle.model.specs.Meanings.{local_meaning}
use Rattle.model.specs.Objects.{cast}
use Rattle.model.specs.Opening.{string_reference, string_references, opening_count}
use Rattle.model.specs.Operands.{Slots, values}
use Rattle.model.specs.Outcomes.{OutcomeOf, Goes, Raises, Throws, Interrupts, Calls, Returns, Waits, Free, Arithmetic, not_null}
use Rattle.model.specs.Rows.{Row, after_row, row_target}
use Rattle.model.specs.Sites.{Site, operand, referent, int_operand}
use Rattle.model.specs.State.{ObjectOf, type_of, World}
use Rattle.model.specs.declared.name_method.NameMethod.{NameMethod}
use Rattle.model.specs.declared.name_method.NameMethod.TheVariants as naming
use Rattle.model.specs.Cloning.{is_cloneable, cloned}
use Rattle.model.specs.TextMethods as writing
use Rattle.model.specs.TextMethods.{TextAnswer, IsOutsideArray, Becomes, Stores, StandsFor, text_answer, units_operand, standing_for, gives_standing, writes}
use Rattle.model.specs.ThreadNames.{kept_name, ordinal_text, gives_name, thread_names}
use Rattle.model.specs.Texts.{Text}
use Rattle.model.specs.StringMethods.{StringAnswer, IsNull, IsOutside, Answers, Same, Composes, string_answer}
use Rattle.model.specs.Worlds.{thread_at, is_owner, object_at, thread_of, is_alive}

abbrev pub IsPlain : OutcomeOf Value → Type 0
IsPlain (Goes cost world slots to) = Unit {0}
IsPlain (Raises fault) = Unit {0}
IsPlain (Throws exception) = Unit {0}
IsPlain Interrupts = Unit {0}
IsPlain (Calls callee rest) = ⊥
IsPlain (Returns world results) = ⊥
IsPlain (Waits cost world rest) = Unit {0}

pub null_plain : (o : Option ℕ) (go : ℕ → OutcomeOf Value) → ((r : ℕ) → IsPlain (go r)) → IsPlain (not_null o go)
null_plain None go h = tt
null_plain (Some r) go h = h r

pub either_plain : (b : Bool) (x y : OutcomeOf Value) → IsPlain x → IsPlain y → IsPlain (if b then x else y)
either_plain true x y h g = h
either_plain false x y h g = g

pub index_plain : (b : Bool) (x : OutcomeOf Value) → IsPlain x → IsPlain (at_index b x)
index_plain true x h = h
index_plain false x h = tt

pub storable_plain : (b : Bool) (x : OutcomeOf Value) → IsPlain x → IsPlain (if_storable b x)
storable_plain true x h = h
storable_plain false x h = tt

owner_plain : (b : Bool) (x : OutcomeOf Value) → IsPlain x → IsPlain (if_owner b x)
owner_plain true x h = h
owner_plain false x h = tt

pub cast_plain : (b : Bool) (next : ℕ) (value : Value) (world : World) (slots : Slots Value) (rest : List Value)
    → IsPlain (cast b next value world slots rest)
cast_plain true next value world slots rest = tt
cast_plain false next value world slots rest = tt

pub left_plain : (b : Bool) (next t r : ℕ) (world : World) (slots : Slots Value) (rest : List Value) → IsPlain (left b next t r world slots rest)
left_plain true next t r world slots rest = tt
left_plain false next t r world slots rest = tt

pub array_plain : (b : Bool) (next count : ℕ) (array : List Value → ObjectOf Value) (first : Value) (world : World) (slots : Slots Value)
    (rest : List Value) → IsPlain (made_array values b next count array first world slots rest)
array_plain true next count array first world slots rest = tt
array_plain false next count array first world slots rest = tt

wait_plain : (owner interrupted : Bool) (t object : ℕ) (world : World) (rest : List Value) → IsPlain (wait_by owner interrupted t object world rest)
wait_plain false interrupted t object world rest = tt
wait_plain true true t object world rest = tt
wait_plain true false t object world rest = tt

start_plain : (b : Bool) (next object : ℕ) (world : World) (slots : Slots Value) (rest : List Value)
    → IsPlain (start_by b next object world slots rest)
start_plain true next object world slots rest = tt
start_plain false next object world slots rest = tt

join_plain : (b : Bool) (next : ℕ) (world : World) (slots : Slots Value) (rest : List Value) → IsPlain (join_by b next world slots rest)
join_plain true next world slots rest = tt
join_plain false next world slots rest = tt

answered_plain : (answer : StringAnswer) (next : ℕ) (world : World) (slots : Slots Value) (ops rest : List Value)
    → IsPlain (answered values answer next world slots ops rest)
answered_plain IsNull next world slots ops rest = tt
answered_plain IsOutside next world slots ops rest = tt
answered_plain (Answers bits) next world slots ops rest = tt
answered_plain (Same k) next world slots ops rest = tt
answered_plain (Composes text) next world slots ops rest = tt

builds_plain : (empty : ℕ) (answer : BuilderAnswer) (next : ℕ) (world : World) (slots : Slots Value) (ops rest : List Value)
    → IsPlain (builds values empty answer next world slots ops rest)
builds_plain empty builder.IsNull next world slots ops rest = tt
builds_plain empty KeepsEmpty next world slots ops rest = tt
builds_plain empty Keeps next world slots ops rest = tt
builds_plain empty (Adds added) next world slots ops rest = tt
builds_plain empty GivesText next world slots ops rest = tt

tells_plain : (files : Program) (answer : ObjectAnswer) (next : ℕ) (world : World) (slots : Slots Value) (rest : List Value)
    → IsPlain (tells values files answer next world slots rest)
tells_plain files telling.IsNull next world slots rest = tt
tells_plain files HasNoClass next world slots rest = tt
tells_plain files (telling.Answers bits) next world slots rest = tt
tells_plain files (IsOf class) next world slots rest = tt
tells_plain files (telling.Composes text) next world slots rest = tt

cloned_plain : (b : Bool) (object : ObjectOf Value) (next : ℕ) (world : World) (slots : Slots Value) (rest : List Value)
    → IsPlain (cloned values b object next world slots rest)
cloned_plain true object next world slots rest = tt
cloned_plain false object next world slots rest = tt

standing_plain : (string : Option ℕ) (next : ℕ) (world : World) (slots : Slots Value) (ops rest : List Value)
    → IsPlain (gives_standing values string next world slots ops rest)
standing_plain None next world slots ops rest = tt
standing_plain (Some string) next world slots ops rest = tt

writes_plain : (opened : ℕ) (constants : List ℕ) (answer : TextAnswer) (next : ℕ) (world : World) (slots : Slots Value) (ops rest : List Value)
    → IsPlain (writes values opened constants answer next world slots ops rest)
writes_plain opened constants writing.IsNull next world slots ops rest = tt
writes_plain opened constants writing.IsOutside next world slots ops rest = tt
writes_plain opened constants IsOutsideArray next world slots ops rest = tt
writes_plain opened constants (Becomes receiver text) next world slots ops rest = tt
writes_plain opened constants (Stores array index text) next world slots ops rest = tt
writes_plain opened constants (StandsFor text) next world slots ops rest = standing_plain (standing_for constants world text) next world slots ops rest

gives_name_plain : (name : Option ℕ) (text : Text) (next : ℕ) (world : World) (slots : Slots Value) (ops rest : List Value)
    → IsPlain (gives_name values name text next world slots ops rest)
gives_name_plain (Some name) text next world slots ops rest = tt
gives_name_plain None text next world slots ops rest = tt

names_plain : (method : NameMethod) (next : ℕ) (world : World) (slots : Slots Value) (ops rest : List Value)
    → IsPlain (thread_names values method next world slots ops rest)
names_plain naming.Construct next world slots ops rest = tt
names_plain naming.ConstructWithTarget next world slots ops rest = tt
names_plain naming.ConstructWithName next world slots ops rest = null_plain (referent values ops 0) _ (λ r. tt)
names_plain naming.ConstructWithTargetAndName next world slots ops rest = null_plain (referent values ops 0) _ (λ r. tt)
names_plain naming.GetName next world slots ops rest =
    let o = object_at world (object_of values ops 0) in
    gives_name_plain (values.referent (kept_name values o)) (ordinal_text values o) next world slots ops rest
names_plain naming.SetName next world slots ops rest = null_plain (referent values ops 0) _ (λ r. tt)

pub built_in_plain : (files : Program) (method : BuiltInMethod) (next : ℕ) (event : Event) (world : World) (slots : Slots Value) (ops rest : List Value)
    → IsPlain (built_in_does values files method next event world slots ops rest)
built_in_plain files Construct next event world slots ops rest = tt
built_in_plain files ConstructWithMessage next event world slots ops rest = tt
built_in_plain files ConstructWithCause next event world slots ops rest = tt
built_in_plain files ObjectClone next event world slots ops rest =
    cloned_plain (is_cloneable files (type_of (object_at world (object_of values ops 0)))) (object_at world (object_of values ops 0)) next world slots rest
built_in_plain files ObjectWait next event world slots ops rest =
    wait_plain (is_owner world event.thread (object_of values ops 0)) (thread_at world event.thread).interrupted event.thread (object_of values ops 0) world rest
built_in_plain files ObjectNotify next event world slots ops rest = owner_plain (is_owner world event.thread (object_of values ops 0)) _ tt
built_in_plain files ObjectNotifyAll next event world slots ops rest = owner_plain (is_owner world event.thread (object_of values ops 0)) _ tt
built_in_plain files ThreadStart next event world slots ops rest = start_plain (is_some (thread_of world (object_of values ops 0))) next (object_of values ops 0) world slots rest
built_in_plain files ThreadInterrupt next event world slots ops rest = tt
built_in_plain files ThreadIsInterrupted next event world slots ops rest = tt
built_in_plain files ThreadInterrupted next event world slots ops rest = tt
built_in_plain files ThreadYield next event world slots ops rest = tt
built_in_plain files ThreadCurrentThread next event world slots ops rest = tt
built_in_plain files ThreadJoin next event world slots ops rest = join_plain (is_alive world (object_of values ops 0)) next world slots rest
built_in_plain files ThreadIsAlive next event world slots ops rest = tt
built_in_plain files (ThreadNames method) next event world slots ops rest = names_plain method next world slots ops rest
built_in_plain files (PrintStreamPrints print) next event world slots ops rest = tt
built_in_plain files (StringAnswers method) next event world slots ops rest =
    answered_plain (string_answer method (int_operand values ops) (string_operand values world ops)) next world slots ops rest
built_in_plain files (StringWrites method) next event world slots ops rest =
    writes_plain (opening_count files) (string_references files) (text_answer method (int_operand values ops) (string_operand values world ops) (units_operand values world ops)) next world slots ops rest
built_in_plain files (StringBuilderBuilds method) next event world slots ops rest = builds_plain (string_reference files []) _ next world slots ops rest
built_in_plain files (ObjectAnswers method) next event world slots ops rest = tells_plain files _ next world slots rest

module _ (files : Program) (site : Site) (event : Event) (world : World) (slots : Slots Value) (ops rest : List Value) where
  pub load_plain : (kind : ArrayKind) → IsPlain ((load_of values files site kind).does event world slots ops rest)
  load_plain array_kind.Int = null_plain (referent values ops 1) _ (λ r. index_plain (in_range world r (int_operand values ops 0)) _ tt)
  load_plain array_kind.Reference = null_plain (referent values ops 1) _ (λ r. index_plain (in_range world r (int_operand values ops 0)) _ tt)
  load_plain array_kind.ByteOrBoolean = null_plain (referent values ops 1) _ (λ r. index_plain (in_range world r (int_operand values ops 0)) _ tt)
  load_plain array_kind.Char = null_plain (referent values ops 1) _ (λ r. index_plain (in_range world r (int_operand values ops 0)) _ tt)
  load_plain array_kind.Short = null_plain (referent values ops 1) _ (λ r. index_plain (in_range world r (int_operand values ops 0)) _ tt)

  pub store_plain : (kind : ArrayKind) → IsPlain ((store_of values files site kind).does event world slots ops rest)
  store_plain array_kind.Int = null_plain (referent values ops 2) _ (λ r. index_plain (in_range world r (int_operand values ops 1)) _ tt)
  store_plain array_kind.Reference =
      null_plain (referent values ops 2) _
      (λ r. index_plain (in_range world r (int_operand values ops 1)) _ (storable_plain (may_stand_in values files world (object_at world r) (operand values ops 0)) _ tt))
  store_plain array_kind.ByteOrBoolean = null_plain (referent values ops 2) _ (λ r. index_plain (in_range world r (int_operand values ops 1)) _ tt)
  store_plain array_kind.Char = null_plain (referent values ops 2) _ (λ r. index_plain (in_range world r (int_operand values ops 1)) _ tt)
  store_plain array_kind.Short = null_plain (referent values ops 2) _ (λ r. index_plain (in_range world r (int_operand values ops 1)) _ tt)

  pub row_plain : (row : Row) → IsPlain ((local_meaning values row).does event world slots ops rest)
  row_plain row =
      either_plain (row.fails (values.words ops)) (Raises Arithmetic) (Goes Free world (after_row values.over row slots) (row_target row (values.words ops))) tt tt
