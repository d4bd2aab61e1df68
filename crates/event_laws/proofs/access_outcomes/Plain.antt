-- Instructions that name a variable go on or raise an exception, and the others name none.
use Rattle.std.proofs.Common.{◌≡◌, ℕ, List, [], Bool, true, false, Option, Some, None, refl, sym, ap, ◌∙◌}
use Rattle.std.specs.Prelude.{if◌then◌else◌}
use Rattle.model.specs.declared.event.Event.{Event}
use Rattle.model.specs.declared.value.Value.{Value}
use Rattle.model.specs.declared.instr.ArrayKind.{ArrayKind}
use Rattle.model.specs.declared.instr.ArrayKind.TheVariants as array_kind
use Rattle.model.specs.declared.instr.Instr.{Instr}
use Rattle.model.specs.declared.instr.Instr.TheVariants as instr
use Rattle.model.specs.BuilderMethods.{BuilderAnswer, IsNull, KeepsEmpty, Keeps, Adds, GivesText, builds}
use Rattle.model.specs.BuiltInMethods.{BuiltInMethod, ObjectClone, StringWrites, StringBuilderBuilds, string_operand, built_in_does}
use Rattle.model.specs.Cloning.{is_cloneable, cloned}
use Rattle.model.specs.TextMethods as writing
use Rattle.model.specs.TextMethods.{TextAnswer, IsOutsideArray, Becomes, Stores, StandsFor, text_answer, units_operand, standing_for, gives_standing, writes}
use Rattle.model.specs.Opening.{string_reference, string_references, opening_count}
use Rattle.model.specs.Classes.{Program}
use Rattle.model.specs.Operands.{Slots, values}
use Rattle.model.specs.Rows.{Row}
use Rattle.model.specs.State.{ObjectOf, type_of, World}
use Rattle.model.specs.Outcomes.{OutcomeOf, Goes, Raises, Throws, Interrupts, Calls, Returns, Waits, not_null}
use Rattle.model.specs.Worlds.{object_at, is_owner}
use Rattle.model.specs.Sites.{MeaningOf, Site, operand, referent, int_operand, object_of}
use Rattle.model.specs.Objects.{cast}
use Rattle.model.specs.Arrays.{is_negative, made_array, in_range, at_index, load_of, may_stand_in, if_storable, store_of}
use Rattle.model.specs.MonitorMeanings.{left}
use Rattle.model.specs.Meanings.{local_meaning, meaning_of}
use Rattle.run_laws.proofs.laws.Operations.{Operation, OfRow, GetSystemStream, GetStatic, PutStatic, GetField, PutField, Println, CallVirtual, CallConstructor, CallSpecial, CallStatic, CallInterface, Return, LoadClass, LoadString, New, NewArray, NewReferenceArray, ArrayLength, LoadElement, StoreElement, CheckCast, InstanceOf, Throw, MonitorEnter, MonitorExit, operation, OfMeaning, each_meaning}
use Rattle.std.proofs.lemmas.Option.{none-some}
use Rattle.data_races.specs.EventActions.{access_by}
use Rattle.data_races.proofs.BuilderCalls.{accessing_method}

-- it goes on, or the machine makes an exception
abbrev pub IsPlain : OutcomeOf Value → Type 0
IsPlain (Goes cost world slots to) = Unit {0}
IsPlain (Raises fault) = Unit {0}
IsPlain (Throws exception) = ⊥
IsPlain Interrupts = ⊥
IsPlain (Calls frame rest) = ⊥
IsPlain (Returns world results) = ⊥
IsPlain (Waits cost world rest) = ⊥

-- ---- instructions that name a variable

abbrev pub names_variable : Instr → Bool
names_variable (instr.Field access index) = true
names_variable (instr.LoadElement kind) = true
names_variable (instr.StoreElement kind) = true
names_variable _ = false

pub no_access : (files : Program) (site : Site) (ops : List Value) (i : Instr) → names_variable i ≡ false → access_by files site ops i ≡ []
no_access files site ops (instr.Field access index) e = absurd (let f : true ≡ false = e in cc)
no_access files site ops (instr.LoadElement kind) e = absurd (let f : true ≡ false = e in cc)
no_access files site ops (instr.StoreElement kind) e = absurd (let f : true ≡ false = e in cc)
no_access files site ops _ e = refl

-- ---- what they do

null_plain : (o : Option ℕ) (go : ℕ → OutcomeOf Value) → ((r : ℕ) → IsPlain (go r)) → IsPlain (not_null o go)
null_plain None go h = tt
null_plain (Some r) go h = h r

either_plain : (b : Bool) (x y : OutcomeOf Value) → IsPlain x → IsPlain y → IsPlain (if b then x else y)
either_plain true x y h g = h
either_plain false x y h g = g

index_plain : (b : Bool) (x : OutcomeOf Value) → IsPlain x → IsPlain (at_index b x)
index_plain true x h = h
index_plain false x h = tt

storable_plain : (b : Bool) (x : OutcomeOf Value) → IsPlain x → IsPlain (if_storable b x)
storable_plain true x h = h
storable_plain false x h = tt

cast_plain : (b : Bool) (next : ℕ) (v : Value) (world : World) (slots : Slots Value) (rest : List Value) → IsPlain (cast b next v world slots rest)
cast_plain true next v world slots rest = tt
cast_plain false next v world slots rest = tt

array_plain : (negative : Bool) (next count : ℕ) (array : List Value → ObjectOf Value) (first : Value) (world : World) (slots : Slots Value) (rest : List Value)
    → IsPlain (made_array values negative next count array first world slots rest)
array_plain true next count array first world slots rest = tt
array_plain false next count array first world slots rest = tt

left_plain : (b : Bool) (next t r : ℕ) (world : World) (slots : Slots Value) (rest : List Value) → IsPlain (left b next t r world slots rest)
left_plain true next t r world slots rest = tt
left_plain false next t r world slots rest = tt

-- where it names a variable
abbrev pub PlainAt : Instr → MeaningOf Value → Type 0
PlainAt i m = names_variable i ≡ true → (event : Event) (world : World) (slots : Slots Value) (ops rest : List Value) → IsPlain (m.does event world slots ops rest)

abbrev Plain : MeaningOf Value → Type 0
Plain m = (event : Event) (world : World) (slots : Slots Value) (ops rest : List Value) → IsPlain (m.does event world slots ops rest)

local_plain : (row : Row) → Plain (local_meaning values row)
local_plain row event world slots ops rest = either_plain (row.fails (values.words ops)) _ _ tt tt

-- another instruction
aside : (i j : Instr) → i ≡ j → names_variable j ≡ false → names_variable i ≡ true → ⊥
aside i j e n h = let f : true ≡ false = sym h ∙ ap names_variable e ∙ n in cc

module _ (files : Program) where
  load_plain : (site : Site) (kind : ArrayKind) → Plain (load_of values files site kind)
  load_plain site array_kind.Int event world slots ops rest = null_plain (referent values ops 1) _ (λ r. index_plain (in_range world r (int_operand values ops 0)) _ tt)
  load_plain site array_kind.Reference event world slots ops rest = null_plain (referent values ops 1) _ (λ r. index_plain (in_range world r (int_operand values ops 0)) _ tt)
  load_plain site array_kind.ByteOrBoolean event world slots ops rest = null_plain (referent values ops 1) _ (λ r. index_plain (in_range world r (int_operand values ops 0)) _ tt)
  load_plain site array_kind.Char event world slots ops rest = null_plain (referent values ops 1) _ (λ r. index_plain (in_range world r (int_operand values ops 0)) _ tt)
  load_plain site array_kind.Short event world slots ops rest = null_plain (referent values ops 1) _ (λ r. index_plain (in_range world r (int_operand values ops 0)) _ tt)

  store_plain : (site : Site) (kind : ArrayKind) → Plain (store_of values files site kind)
  store_plain site array_kind.Int event world slots ops rest = null_plain (referent values ops 2) _ (λ r. index_plain (in_range world r (int_operand values ops 1)) _ tt)
  store_plain site array_kind.Reference event world slots ops rest =
      null_plain (referent values ops 2) _
      (λ r. index_plain (in_range world r (int_operand values ops 1)) _ (storable_plain (may_stand_in values files world (object_at world r) (operand values ops 0)) _ tt))
  store_plain site array_kind.ByteOrBoolean event world slots ops rest = null_plain (referent values ops 2) _ (λ r. index_plain (in_range world r (int_operand values ops 1)) _ tt)
  store_plain site array_kind.Char event world slots ops rest = null_plain (referent values ops 2) _ (λ r. index_plain (in_range world r (int_operand values ops 1)) _ tt)
  store_plain site array_kind.Short event world slots ops rest = null_plain (referent values ops 2) _ (λ r. index_plain (in_range world r (int_operand values ops 1)) _ tt)

  module _ (site : Site) where
    operation_plain : (o : Operation files site) → PlainAt site.instr (operation values files site o)
    operation_plain (OfRow row e) h = local_plain row
    operation_plain (GetSystemStream index stream n) h = λ event world slots ops rest. tt
    operation_plain (GetStatic f) h = λ event world slots ops rest. tt
    operation_plain (PutStatic f) h = λ event world slots ops rest. tt
    operation_plain (GetField f) h = λ event world slots ops rest. null_plain (referent values ops 0) _ (λ r. tt)
    operation_plain (PutField f) h = λ event world slots ops rest. null_plain (referent values ops 1) _ (λ r. tt)
    operation_plain (Println call e) h = λ event world slots ops rest. null_plain (referent values ops 1) _ (λ r. tt)
    operation_plain (CallVirtual call e m) h = λ event world slots ops rest. absurd (aside site.instr _ call.instruction refl h)
    operation_plain (CallConstructor call e passes) h = λ event world slots ops rest. absurd (aside site.instr _ call.instruction refl h)
    operation_plain (CallSpecial call e m) h = λ event world slots ops rest. absurd (aside site.instr _ call.instruction refl h)
    operation_plain (CallStatic index i m) h = λ event world slots ops rest. absurd (aside site.instr _ i refl h)
    operation_plain (CallInterface call m) h = λ event world slots ops rest. absurd (aside site.instr _ call.instruction refl h)
    operation_plain (Return kind i) h = λ event world slots ops rest. absurd (aside site.instr _ i refl h)
    operation_plain (LoadClass constant file e) h = λ event world slots ops rest. tt
    operation_plain (LoadString constant) h = λ event world slots ops rest. tt
    operation_plain (New class file e) h = λ event world slots ops rest. tt
    operation_plain (NewArray code of i e) h = λ event world slots ops rest. array_plain (is_negative (int_operand values ops 0)) site.next (int_operand values ops 0) _ _ world slots rest
    operation_plain (NewReferenceArray class) h = λ event world slots ops rest. array_plain (is_negative (int_operand values ops 0)) site.next (int_operand values ops 0) _ _ world slots rest
    operation_plain (ArrayLength i) h = λ event world slots ops rest. null_plain (referent values ops 0) _ (λ r. tt)
    operation_plain (LoadElement kind i) h = load_plain site kind
    operation_plain (StoreElement kind i) h = store_plain site kind
    operation_plain (CheckCast class) h = λ event world slots ops rest. cast_plain _ site.next (operand values ops 0) world slots rest
    operation_plain (InstanceOf class) h = λ event world slots ops rest. tt
    operation_plain (Throw i) h = λ event world slots ops rest. absurd (aside site.instr _ i refl h)
    operation_plain (MonitorEnter i) h = λ event world slots ops rest. null_plain (referent values ops 0) _ (λ r. tt)
    operation_plain (MonitorExit i) h = λ event world slots ops rest. null_plain (referent values ops 0) _ (λ r. left_plain (is_owner world event.thread r) site.next event.thread r world slots rest)

    pub meaning_plain : OfMeaning (PlainAt site.instr) (meaning_of values files site)
    meaning_plain = each_meaning values files site (PlainAt site.instr) operation_plain

-- ---- methods without code that access variables

module _ (files : Program) (next : ℕ) (world : World) (slots : Slots Value) (ops rest : List Value) where
  answer_plain : (empty : ℕ) (answer : BuilderAnswer) → IsPlain (builds values empty answer next world slots ops rest)
  answer_plain empty IsNull = tt
  answer_plain empty KeepsEmpty = tt
  answer_plain empty Keeps = tt
  answer_plain empty (Adds added) = tt
  answer_plain empty GivesText = tt

  cloned_plain : (b : Bool) (object : ObjectOf Value) → IsPlain (cloned values b object next world slots rest)
  cloned_plain true object = tt
  cloned_plain false object = tt

  standing_plain : (string : Option ℕ) → IsPlain (gives_standing values string next world slots ops rest)
  standing_plain None = tt
  standing_plain (Some string) = tt

  writes_plain : (opened : ℕ) (constants : List ℕ) (answer : TextAnswer) → IsPlain (writes values opened constants answer next world slots ops rest)
  writes_plain opened constants writing.IsNull = tt
  writes_plain opened constants writing.IsOutside = tt
  writes_plain opened constants IsOutsideArray = tt
  writes_plain opened constants (Becomes receiver text) = tt
  writes_plain opened constants (Stores array index text) = tt
  writes_plain opened constants (StandsFor text) = standing_plain (standing_for constants world text)

  pub method_plain : (event : Event) (b m : BuiltInMethod) → accessing_method b ≡ Some m → IsPlain (built_in_does values files b next event world slots ops rest)
  method_plain event (StringBuilderBuilds method) m e = answer_plain (string_reference files []) _
  method_plain event (StringWrites method) m e =
      writes_plain (opening_count files) (string_references files) (text_answer method (int_operand values ops) (string_operand values world ops) (units_operand values world ops))
  method_plain event ObjectClone m e = cloned_plain (is_cloneable files (type_of (object_at world (object_of values ops 0)))) (object_at world (object_of values ops 0))
  method_plain event _ m e = absurd (none-some m e)
