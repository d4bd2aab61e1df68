-- Methods of the machine by their words.
use Rattle.std.proofs.Common.{◌≡◌, ℕ, List, map, length, find, Bool, true, false, not, ◌&&◌, ◌==◌, nat_lt, is_some, if◌then◌else◌, Option, Some, None, option_map, refl, sym, ap, ◌∙◌, subst, zero, suc, [], ◌∷◌, ◌++◌, reverse, ⊎_elim}
use Rattle.std.specs.Prelude.{unwrap_or, slice_get, codes}
use Rattle.std.specs.Option.{option_map_or, is_none}
use Rattle.std.specs.List.{list_all}
use Rattle.std.proofs.lemmas.Bool.{and_parts, or_cases, not-true, false≢true, eqb-true, cond_both}
use Rattle.std.proofs.lemmas.List.{length-map}
use Rattle.model.specs.declared.event.Event.{Event}
use Rattle.model.specs.declared.value.Value.{Value}
use Rattle.model.specs.declared.value.Value.TheVariants as value
use Rattle.model.specs.Names.{Member, name_eq, builder_text, throwable_message, throwable_cause, Name}
use Rattle.model.specs.AccessFlags.{is_static_method}
use Rattle.model.specs.BuiltIn.{built_in_classes}
use Rattle.model.specs.DescriptorScan.{element_at, field_at, field_type, parameters_at, method_type}
use Rattle.model.specs.Classes.{Program}
use Rattle.model.specs.Operands.{Slots, words, values, word_of, word_reference, reference_of}
use Rattle.model.specs.State.{Characters, type_of, Waiter, Notified, ThreadStatus, Running, Waiting, Relock, Ended, World}
use Rattle.model.specs.Outcomes.{Free, Makes, Goes}
use Rattle.model.specs.Worlds.{allocated, with_monitors, thread_at, object_at, with_object, with_field, is_owner, is_alive, is_interrupted, thread_of, waiters_of, text_of}
use Rattle.model.specs.Monitors as monitors
use Rattle.model.specs.Sites.{operand, referent, int_operand}
use Rattle.model.specs.Calls.{is_one, parameter_count}
use Rattle.model.specs.BuiltInMethods.{BuiltInMethod, Construct, ConstructWithMessage, ConstructWithCause, ObjectClone, ObjectWait, ObjectNotify, ObjectNotifyAll, ThreadStart, ThreadInterrupt, ThreadIsInterrupted, ThreadInterrupted, ThreadYield, ThreadCurrentThread, ThreadJoin, ThreadIsAlive, ThreadNames, PrintStreamPrints, StringAnswers, StringWrites, StringBuilderBuilds, ObjectAnswers, constructor_of, printed_by, built_in_methods, is_row_of, built_in_method, wait_by, notified_one, notified, if_owner, start_by, interrupted_in, interrupted_on, may_join, notified_all, bit, join_by, with_printed, object_of, built_in_may, built_in_does, string_shown, string_operand, answered}
use Rattle.model.specs.Words.{map_slots}
use Rattle.model.specs.declared.print_method.PrintMethod.{PrintMethod}
use Rattle.model.specs.declared.print_method.PrintMethod.TheVariants.{Println, PrintlnChar, PrintlnInt, PrintlnString, PrintChar, PrintInt, PrintString}
use Rattle.model.specs.declared.string_method.StringMethod.{StringMethod}
use Rattle.model.specs.declared.builder_method.BuilderMethod.{BuilderMethod}
use Rattle.model.specs.declared.builder_method.BuilderMethod.TheVariants.{ConstructEmpty, ConstructOfString, AppendString, AppendInt, AppendChar, AppendBuilder, ToString}
use Rattle.model.specs.BuilderMethods as building
use Rattle.model.specs.BuilderMethods.{BuilderAnswer, KeepsEmpty, Keeps, Adds, GivesText, builder_answer, kept_string, text_or_empty, built_text, builder_shown, with_string, with_composed, composed, builds}
use Rattle.model.specs.Opening.{string_reference, string_references, opening_count}
use Rattle.model.specs.declared.object_method.ObjectMethod.{ObjectMethod}
use Rattle.model.specs.declared.object_method.ObjectMethod.TheVariants as object_method
use Rattle.model.specs.ObjectMethods as telling
use Rattle.model.specs.ObjectMethods.{ObjectAnswer, HasNoClass, IsOf, object_answer, object_place, object_tells, tells, type_at}
use Rattle.model.specs.StringMethods.{StringAnswer, IsNull, IsOutside, Answers, Same, Composes, string_answer}
use Rattle.model.specs.declared.instr.Conversion.TheVariants.{ToChar}
use Rattle.model.specs.Ints.{signed, converted}
use Rattle.model.specs.Texts.{Text, int_line}
use Rattle.model.specs.ReferenceTypes.{ReferenceType}
use Rattle.model.specs.DescribedTypes.{declared_want, parameters_declared}
use Rattle.model.specs.Types.{Want, AReference, value_meets}
use Rattle.model.specs.Objects.{any_object}
use Rattle.run_laws.proofs.laws.WordLists.{is_object_want}
use Rattle.run_laws.proofs.laws.Lists.{Pairwise}
use Rattle.run_laws.proofs.laws.StringAnswers.{string_places, is_place_of, same_answers}
use Rattle.std.specs.Fmt.{signed_decimal}
use Rattle.run_laws.specs.word_runs.Words.{map_outcome}
use Rattle.run_laws.proofs.laws.Found.{found_passes, found_has, every_all}
use Rattle.run_laws.proofs.laws.Classes.{members_same, names_same}
use Rattle.run_laws.proofs.word_runs.WordWorlds.{KeepsTexts, type_words, kept_string_words, all_words, world_words, object_words, allocated_words, object_at_words, with_field_words, with_object_words, text_words}
use Rattle.run_laws.proofs.word_runs.WordNames.{name_places, names_words, clone_words}
use Rattle.run_laws.proofs.word_runs.WordWrites.{text_places, operand_text, writes_words}
use Rattle.run_laws.proofs.word_runs.WordMeanings.{operand_words, int_words, pushes_words, becomes_words, goes_words, referent_words}

-- ---- what holds of each row holds of the methods

module _ (test : Member → BuiltInMethod → Bool) where
  abbrev on_row : Member × BuiltInMethod → Bool
  on_row row = test row.0 row.1

  on_method : list_all on_row built_in_methods ≡ true → (method : Member) → test method (constructor_of method.descriptor) ≡ true
      → test method (built_in_method method) ≡ true
  on_method all method construct = by (find (is_row_of method) built_in_methods) refl
    where
      by : (o : Option (Member × BuiltInMethod)) → find (is_row_of method) built_in_methods ≡ o
          → test method (unwrap_or (option_map (λ (row : Member × BuiltInMethod). row.1) o) (constructor_of method.descriptor)) ≡ true
      by None f = construct
      by (Some row) f =
          let is : row.0 ≡ method = members_same row.0 method (found_passes (is_row_of method) built_in_methods row f) in
          subst (λ m. test m row.1 ≡ true) is
          (found_has (λ r. on_row r ≡ true) (is_row_of method) built_in_methods row (every_all on_row built_in_methods all) f)

-- what holds of the three kinds of constructors holds of that of a descriptor
pub by_constructor : (P : BuiltInMethod → Type 0) → P Construct → P ConstructWithMessage → P ConstructWithCause → (descriptor : Name)
    → P (constructor_of descriptor)
by_constructor P plain message cause descriptor =
    cond_both (name_eq descriptor (codes "(Ljava/lang/String;)V")) _ _ P (λ q. message)
    (λ q. cond_both (name_eq descriptor (codes "(Ljava/lang/String;Ljava/lang/Throwable;)V")) _ _ P (λ r. cause) (λ r. plain))

-- of what a method has, if it has it; no constructor has it that has no row
module _ {A : Type 0} (place : BuiltInMethod → Option A) (none : (place Construct ≡ None) × ((place ConstructWithMessage ≡ None) × (place ConstructWithCause ≡ None))) (test : Member → A → Bool) where
  abbrev pub passes : Member × BuiltInMethod → Bool
  passes row = option_map_or (test row.0) (place row.1) true

  pub passed : list_all passes built_in_methods ≡ true → (method : Member) (a : A) → place (built_in_method method) ≡ Some a
      → test method a ≡ true
  passed all method a e =
      let construct : option_map_or (test method) (place (constructor_of method.descriptor)) true ≡ true =
      ap (λ o. option_map_or (test method) o true) (by_constructor (λ b. place b ≡ None) none.0 none.1.0 none.1.1 method.descriptor) in
      sym (ap (λ o. option_map_or (test method) o true) e) ∙ on_method (λ m b. option_map_or (test m) (place b) true) all method construct

-- ---- the operand that a method of the machine takes as its receiver, if it has one

abbrev pub builder_place : BuilderMethod → ℕ
builder_place ConstructEmpty = 0
builder_place ConstructOfString = 1
builder_place AppendString = 1
builder_place AppendInt = 1
builder_place AppendChar = 1
builder_place AppendBuilder = 1
builder_place ToString = 0

abbrev pub receiver_place : BuiltInMethod → Option ℕ
receiver_place Construct = None
receiver_place ConstructWithMessage = None
receiver_place ConstructWithCause = None
receiver_place ObjectClone = Some 0
receiver_place ObjectWait = Some 0
receiver_place ObjectNotify = Some 0
receiver_place ObjectNotifyAll = Some 0
receiver_place ThreadStart = Some 0
receiver_place ThreadInterrupt = Some 0
receiver_place ThreadIsInterrupted = Some 0
receiver_place ThreadInterrupted = None
receiver_place ThreadYield = None
receiver_place ThreadCurrentThread = None
receiver_place ThreadJoin = Some 0
receiver_place ThreadIsAlive = Some 0
receiver_place (ThreadNames method) = None
receiver_place (PrintStreamPrints print) = None
receiver_place (StringAnswers string) = None
receiver_place (StringWrites method) = None
receiver_place (StringBuilderBuilds builder) = Some (builder_place builder)
receiver_place (ObjectAnswers method) = None

-- it is under the parameters, and the method is not static
abbrev is_placed : Program → Member → ℕ → Bool
is_placed files method k = (parameter_count method == k) && not (is_one is_static_method files method)

all_placed : (files : Program) → list_all (passes receiver_place (refl, (refl, refl)) (is_placed files)) built_in_methods ≡ true
unfolding built_in_classes method_type parameters_at field_at field_type element_at
all_placed files = refl

pub record Placed (files : Program) (method : Member) (k : ℕ) : Type 0 where
  pub place : parameter_count method ≡ k
  pub instance : is_one is_static_method files method ≡ false

pub placed : (files : Program) (method : Member) (k : ℕ) → receiver_place (built_in_method method) ≡ Some k → Placed files method k
placed files method k e =
    let here = and_parts (parameter_count method == k) (not (is_one is_static_method files method)) (passed receiver_place (refl, (refl, refl)) (is_placed files) (all_placed files) method k e) in
    record { place = eqb-true (parameter_count method) k here.0; instance = not-true (is_one is_static_method files method) here.1 }

-- ---- the operands that it takes as objects: the receiver, or Strings

abbrev pub print_places : PrintMethod → List ℕ
print_places Println = []
print_places PrintlnChar = []
print_places PrintlnInt = []
print_places PrintlnString = 0 ∷ []
print_places PrintChar = []
print_places PrintInt = []
print_places PrintString = 0 ∷ []

abbrev pub builder_places : BuilderMethod → List ℕ
builder_places ConstructEmpty = 0 ∷ []
builder_places ConstructOfString = 0 ∷ 1 ∷ []
builder_places AppendString = 0 ∷ 1 ∷ []
builder_places AppendInt = 1 ∷ []
builder_places AppendChar = 1 ∷ []
builder_places AppendBuilder = 0 ∷ 1 ∷ []
builder_places ToString = 0 ∷ []

abbrev pub object_places : BuiltInMethod → List ℕ
object_places (PrintStreamPrints print) = print_places print
object_places (StringAnswers string) = string_places string
object_places (StringWrites method) = text_places method
object_places (ThreadNames method) = name_places method
object_places (StringBuilderBuilds builder) = builder_places builder
object_places (ObjectAnswers method) = object_place method ∷ []
object_places ConstructWithMessage = 1 ∷ []
object_places ConstructWithCause = 2 ∷ []
object_places other = option_map_or (λ k. k ∷ []) (receiver_place other) []

-- an object is wanted at a place
abbrev pub wants_object : List Want → ℕ → Bool
wants_object ws k = option_map_or is_object_want (slice_get ws k) false

-- an object is wanted there, if anything is
abbrev wants_no_other : List Want → ℕ → Bool
wants_no_other ws k = option_map_or is_object_want (slice_get ws k) true

no_other : (ws : List Want) (k : ℕ) → wants_object ws k ≡ true → wants_no_other ws k ≡ true
no_other [] k e = absurd (false≢true e)
no_other (w ∷ ws) zero e = e
no_other (w ∷ ws) (suc k) e = no_other ws k e

-- what a method of a descriptor wants over its receiver, if it has one
abbrev pub wants_over : Program → Name → List Want → List Want
wants_over files descriptor receiver = reverse (map (declared_want files) (parameters_declared descriptor)) ++ receiver

-- what it wants where it is called on an object
abbrev pub wants_on : Program → Name → Want → List Want
wants_on files descriptor receiver = wants_over files descriptor (receiver ∷ [])

-- so is each of those operands, whether the method is called on an object or not
abbrev is_wanted : Program → Name → ℕ → Bool
is_wanted files descriptor k = wants_object (wants_on files descriptor (AReference any_object)) k && wants_no_other (wants_over files descriptor []) k

abbrev are_wanted : Program → Name → BuiltInMethod → Bool
are_wanted files descriptor built_in = list_all (is_wanted files descriptor) (object_places built_in)

abbrev row_wanted : Program → Member → BuiltInMethod → Bool
row_wanted files method built_in = are_wanted files method.descriptor built_in

all_wanted : (files : Program) → list_all (on_row (row_wanted files)) built_in_methods ≡ true
unfolding built_in_classes method_type parameters_at field_at field_type element_at
all_wanted files = refl

message_wanted : (files : Program) → are_wanted files (codes "(Ljava/lang/String;)V") ConstructWithMessage ≡ true
unfolding built_in_classes method_type parameters_at field_at field_type element_at
message_wanted files = refl

cause_wanted : (files : Program) → are_wanted files (codes "(Ljava/lang/String;Ljava/lang/Throwable;)V") ConstructWithCause ≡ true
unfolding built_in_classes method_type parameters_at field_at field_type element_at
cause_wanted files = refl

constructor_wanted : (files : Program) (descriptor : Name) → are_wanted files descriptor (constructor_of descriptor) ≡ true
constructor_wanted files descriptor =
    let one = codes "(Ljava/lang/String;)V" in
    let two = codes "(Ljava/lang/String;Ljava/lang/Throwable;)V" in
    cond_both (name_eq descriptor one) _ _ (λ b. are_wanted files descriptor b ≡ true)
    (λ q. subst (λ d. are_wanted files d ConstructWithMessage ≡ true) (sym (names_same descriptor one q)) (message_wanted files))
    (λ q. cond_both (name_eq descriptor two) _ _ (λ b. are_wanted files descriptor b ≡ true)
    (λ r. subst (λ d. are_wanted files d ConstructWithCause ≡ true) (sym (names_same descriptor two r)) (cause_wanted files)) (λ r. refl))

passes_at : (p : ℕ → Bool) (places : List ℕ) (k : ℕ) → list_all p places ≡ true → is_place_of places k ≡ true → p k ≡ true
passes_at p [] k all h = absurd (false≢true h)
passes_at p (place ∷ places) k all h =
    let here = and_parts (p place) (list_all p places) all in
    ⊎_elim (λ q. subst (λ n. p n ≡ true) (eqb-true place k q) here.0) (λ q. passes_at p places k here.1 q) (or_cases (place == k) (is_place_of places k) h)

pub record IsWanted (files : Program) (method : Member) (k : ℕ) : Type 0 where
  pub object : wants_object (wants_on files method.descriptor (AReference any_object)) k ≡ true
  pub alone : wants_no_other (wants_over files method.descriptor []) k ≡ true

pub wanted : (files : Program) (method : Member) (k : ℕ) → is_place_of (object_places (built_in_method method)) k ≡ true
    → IsWanted files method k
wanted files method k e =
    let all = on_method (row_wanted files) (all_wanted files) method (constructor_wanted files method.descriptor) in
    let here = and_parts (wants_object (wants_on files method.descriptor (AReference any_object)) k) _ (passes_at (is_wanted files method.descriptor) (object_places (built_in_method method)) k all e) in
    record { object = here.0; alone = here.1 }

-- whatever object the receiver is wanted as
on_receiver : (ws : List Want) (v w : Want) (k : ℕ) → is_object_want w ≡ true → wants_object (ws ++ v ∷ []) k ≡ true
    → wants_object (ws ++ w ∷ []) k ≡ true
on_receiver [] v w zero o e = o
on_receiver [] v w (suc k) o e = absurd (false≢true e)
on_receiver (x ∷ ws) v w zero o e = e
on_receiver (x ∷ ws) v w (suc k) o e = on_receiver ws v w k o e

-- behind the operands there is nothing
nothing_behind : (R : Want → Value → Bool) (ws : List Want) (ops : List Value) (k : ℕ) → Pairwise R ws ops → slice_get ws k ≡ None
    → operand values ops k ≡ value.Unset
nothing_behind R [] [] k q e = refl
nothing_behind R [] (v ∷ ops) k q e = absurd q
nothing_behind R (w ∷ ws) [] k q e = refl
nothing_behind R (w ∷ ws) (v ∷ ops) zero q e = absurd cc
nothing_behind R (w ∷ ws) (v ∷ ops) (suc k) q e = nothing_behind R ws ops k q.1 e

-- what is wanted as an object is so by its word
wanted_words : (files : Program) (os : List ReferenceType) (ws : List Want) (ops : List Value) (k : ℕ)
    → Pairwise (value_meets files os) ws ops → wants_no_other ws k ≡ true → referent words (map word_of ops) k ≡ referent values ops k
wanted_words files os ws ops k q h = by (slice_get ws k) refl h
  where
    by : (o : Option Want) → slice_get ws k ≡ o → option_map_or is_object_want o true ≡ true
        → referent words (map word_of ops) k ≡ referent values ops k
    by None f e =
        let unset = nothing_behind (value_meets files os) ws ops k q f in
        ap word_reference (operand_words ops k) ∙ (ap (λ v. word_reference (word_of v)) unset ∙ sym (ap reference_of unset))
    by (Some w) f e = referent_words files os ws ops k w q f e

-- ---- what the methods do

-- each operand that is taken as an object is so by its word
abbrev pub Agrees : BuiltInMethod → List Value → Type 0
Agrees method ops = (k : ℕ) → is_place_of (object_places method) k ≡ true → referent words (map word_of ops) k ≡ referent values ops k

-- so it is of a method that is called on an object, with the operands that its descriptor wants
pub agrees_on : (files : Program) (os : List ReferenceType) (method : Member) (receiver : Want) (ops : List Value)
    → is_object_want receiver ≡ true → Pairwise (value_meets files os) (wants_on files method.descriptor receiver) ops
    → Agrees (built_in_method method) ops
agrees_on files os method receiver ops o q =
    λ k p.
    wanted_words files os (wants_on files method.descriptor receiver) ops k q
    (no_other (wants_on files method.descriptor receiver) k
    (on_receiver (reverse (map (declared_want files) (parameters_declared method.descriptor))) (AReference any_object) receiver k o (wanted files method k p).object))

-- and of one that is called on none
pub agrees_alone : (files : Program) (os : List ReferenceType) (method : Member) (ops : List Value)
    → Pairwise (value_meets files os) (wants_over files method.descriptor []) ops → Agrees (built_in_method method) ops
agrees_alone files os method ops q = λ k p. wanted_words files os (wants_over files method.descriptor []) ops k q (wanted files method k p).alone

as_object : (ops : List Value) (k : ℕ) → referent words (map word_of ops) k ≡ referent values ops k
    → object_of words (map word_of ops) k ≡ object_of values ops k
as_object ops k e = ap (λ o. unwrap_or o 0) e

module _ (event : Event) (world : World) where
  pub may_words : (method : BuiltInMethod) (ops : List Value) → Agrees method ops
      → built_in_may words method event (world_words world) (map word_of ops) ≡ built_in_may values method event world ops
  may_words Construct ops a = refl
  may_words ConstructWithMessage ops a = refl
  may_words ConstructWithCause ops a = refl
  may_words ObjectClone ops a = refl
  may_words ObjectWait ops a = refl
  may_words ObjectNotify ops a =
      ap (λ o. if is_owner world event.thread o && nat_lt 0 (length (waiters_of world o)) then nat_lt event.pick (length (waiters_of world o)) else event.pick == 0) (as_object ops 0 (a 0 refl))
  may_words ObjectNotifyAll ops a = refl
  may_words ThreadStart ops a = refl
  may_words ThreadInterrupt ops a = refl
  may_words ThreadIsInterrupted ops a = refl
  may_words ThreadInterrupted ops a = refl
  may_words ThreadYield ops a = refl
  may_words ThreadCurrentThread ops a = refl
  may_words ThreadJoin ops a = ap (λ o. (event.pick == 0) && may_join world event.thread o) (as_object ops 0 (a 0 refl))
  may_words ThreadIsAlive ops a = refl
  may_words (ThreadNames method) ops a = refl
  may_words (PrintStreamPrints print) ops a = refl
  may_words (StringAnswers string) ops a = refl
  may_words (StringWrites method) ops a = refl
  may_words (StringBuilderBuilds builder) ops a = refl
  may_words (ObjectAnswers method) ops a = refl

  module _ (texts : KeepsTexts world) (files : Program) (next : ℕ) (slots : Slots Value) (rest : List Value) where
    abbrev Carries : BuiltInMethod → List Value → Type 0
    Carries method ops = built_in_does words files method next event (world_words world) (map_slots word_of slots) (map word_of ops) (map word_of rest) ≡ map_outcome word_of (built_in_does values files method next event world slots ops rest)

    with_field_at_words : (before : World) (r : ℕ) (field : Member) (v : Value)
        → with_object (world_words before) r (with_field field (word_of v) (object_at (world_words before) r))
        ≡ world_words (with_object before r (with_field field v (object_at before r)))
    with_field_at_words before r field v =
        ap (λ o. with_object (world_words before) r (with_field field (word_of v) o)) (object_at_words before r)
        ∙ (ap (λ o. with_object (world_words before) r o) (with_field_words field v (object_at before r)) ∙ with_object_words before r (with_field field v (object_at before r)))

    -- a constructor sets a field of its receiver
    kept_words : (field : Member) (ops : List Value) → referent words (map word_of ops) 1 ≡ referent values ops 1
        → with_object (world_words world) (object_of words (map word_of ops) 1)
        (with_field field (operand words (map word_of ops) 0) (object_at (world_words world) (object_of words (map word_of ops) 1)))
        ≡ world_words (with_object world (object_of values ops 1) (with_field field (operand values ops 0) (object_at world (object_of values ops 1))))
    kept_words field ops e =
        let r = object_of values ops 1 in
        ap (λ o. with_object (world_words world) o (with_field field (operand words (map word_of ops) 0) (object_at (world_words world) o))) (as_object ops 1 e)
        ∙ (ap (λ n. with_object (world_words world) r (with_field field n (object_at (world_words world) r))) (operand_words ops 0)
        ∙ with_field_at_words world r field (operand values ops 0))

    message_words : (ops : List Value) → Agrees ConstructWithMessage ops → Carries ConstructWithMessage ops
    message_words ops a = becomes_words _ _ rest slots.locals next (kept_words throwable_message ops (a 1 refl))

    cause_words : (ops : List Value) → Agrees ConstructWithCause ops → Carries ConstructWithCause ops
    cause_words ops a =
        let r = object_of values ops 2 in
        let m = operand values ops 1 in
        let v = operand values ops 0 in
        let o = object_at world r in
        let w = world_words world in
        let arguments = map word_of ops in
        becomes_words _ (with_object world r (with_field throwable_cause v (with_field throwable_message m o))) rest slots.locals next
        (ap (λ x. with_object w x (with_field throwable_cause (operand words arguments 0) (with_field throwable_message (operand words arguments 1) (object_at w x)))) (as_object ops 2 (a 2 refl))
        ∙ (ap (λ n. with_object w r (with_field throwable_cause n (with_field throwable_message (operand words arguments 1) (object_at w r)))) (operand_words ops 0)
        ∙ (ap (λ n. with_object w r (with_field throwable_cause (word_of v) (with_field throwable_message n (object_at w r)))) (operand_words ops 1)
        ∙ (ap (λ x. with_object w r (with_field throwable_cause (word_of v) (with_field throwable_message (word_of m) x))) (object_at_words world r)
        ∙ (ap (λ x. with_object w r (with_field throwable_cause (word_of v) x)) (with_field_words throwable_message m o)
        ∙ (ap (λ x. with_object w r x) (with_field_words throwable_cause v (with_field throwable_message m o))
        ∙ with_object_words world r (with_field throwable_cause v (with_field throwable_message m o))))))))

    wait_words : (owner interrupted : Bool) (object : ℕ)
        → wait_by owner interrupted event.thread object (world_words world) (map word_of rest)
        ≡ map_outcome word_of (wait_by owner interrupted event.thread object world rest)
    wait_words false interrupted object = refl
    wait_words true true object = refl
    wait_words true false object = refl

    owner_words : (b : Bool) (after : World)
        → if_owner b (Goes Free (world_words after) (record { locals = map word_of slots.locals; stack = map word_of rest }) next)
        ≡ map_outcome word_of (if_owner b (Goes Free after (record { locals = slots.locals; stack = rest }) next))
    owner_words true after = refl
    owner_words false after = refl

    start_words : (b : Bool) (object : ℕ) → start_by b next object (world_words world) (map_slots word_of slots) (map word_of rest)
        ≡ map_outcome word_of (start_by b next object world slots rest)
    start_words true object = refl
    start_words false object = refl

    join_words : (b : Bool) → join_by b next (world_words world) (map_slots word_of slots) (map word_of rest)
        ≡ map_outcome word_of (join_by b next world slots rest)
    join_words true = refl
    join_words false = refl

    one_words : (before : World) (object : ℕ) (o : Option Waiter)
        → notified_one (world_words before) object o ≡ world_words (notified_one before object o)
    one_words before object None = refl
    one_words before object (Some waiter) = refl

    in_words : (t : ℕ) (status : ThreadStatus) → interrupted_in (world_words world) t status ≡ world_words (interrupted_in world t status)
    in_words t Running = refl
    in_words t (Waiting object count) = refl
    in_words t (Relock object count cause) = refl
    in_words t (Ended exception) = refl

    on_words : (o : Option ℕ) → interrupted_on (world_words world) o ≡ world_words (interrupted_on world o)
    on_words None = refl
    on_words (Some t) = in_words t (thread_at world t).status

    shown_words : (o : Option ℕ) → string_shown (world_words world) o ≡ string_shown world o
    shown_words None = refl
    shown_words (Some r) = ap text_of (object_at_words world r) ∙ text_words (object_at world r)

    string_words : (ops : List Value) → referent words (map word_of ops) 0 ≡ referent values ops 0
        → string_shown (world_words world) (referent words (map word_of ops) 0) ≡ string_shown world (referent values ops 0)
    string_words ops e = ap (string_shown (world_words world)) e ∙ shown_words (referent values ops 0)

    printed_words : (print : PrintMethod) (ops : List Value) → Agrees (PrintStreamPrints print) ops
        → printed_by words print (world_words world) (map word_of ops) ≡ printed_by values print world ops
    printed_words Println ops a = refl
    printed_words PrintlnChar ops a = ap (λ n. converted ToChar n ∷ 10 ∷ []) (int_words ops 0)
    printed_words PrintlnInt ops a = ap int_line (int_words ops 0)
    printed_words PrintlnString ops a = ap (λ text. text ++ 10 ∷ []) (string_words ops (a 0 refl))
    printed_words PrintChar ops a = ap (λ n. converted ToChar n ∷ []) (int_words ops 0)
    printed_words PrintInt ops a = ap (λ n. signed_decimal (signed n)) (int_words ops 0)
    printed_words PrintString ops a = string_words ops (a 0 refl)

    answer_words : (string : StringMethod) (ops : List Value) → Agrees (StringAnswers string) ops
        → string_answer string (int_operand words (map word_of ops)) (string_operand words (world_words world) (map word_of ops))
        ≡ string_answer string (int_operand values ops) (string_operand values world ops)
    answer_words string ops a =
        ap (λ int. string_answer string int (string_operand words (world_words world) (map word_of ops))) (λ i k. int_words ops k i)
        ∙ same_answers string (int_operand values ops) (string_operand words (world_words world) (map word_of ops)) (string_operand values world ops) (λ k p. operand_text world ops k (a k p))

    answered_words : (ops : List Value) (answer : StringAnswer)
        → answered words answer next (world_words world) (map_slots word_of slots) (map word_of ops) (map word_of rest)
        ≡ map_outcome word_of (answered values answer next world slots ops rest)
    answered_words ops IsNull = refl
    answered_words ops IsOutside = refl
    answered_words ops (Answers bits) = refl
    answered_words ops (Same k) = pushes_words world _ (operand values ops k) rest slots.locals next (operand_words ops k)
    answered_words ops (Composes text) =
        goes_words (Makes (length text)) (Makes (length text)) _ (allocated world (Characters text)) _ (value.Reference (length world.heap) ∷ rest) slots.locals next refl
        (allocated_words world (Characters text)) (ap (λ n. suc n ∷ map word_of rest) (length-map world.heap object_words))

    -- ---- what an object tells of itself

    type_at_words : (r : ℕ) → type_at (world_words world) r ≡ type_at world r
    type_at_words r = ap type_of (object_at_words world r) ∙ type_words (object_at world r)

    told_words : (method : ObjectMethod) (ops : List Value) (o : Option ℕ) → referent words (map word_of ops) (object_place method) ≡ o
        → object_answer files method (referent words (map word_of ops) (object_place method)) (type_at (world_words world)) (int_operand words (map word_of ops) 0)
        ≡ object_answer files method o (type_at world) (int_operand values ops 0)
    told_words method ops o e = λ i. object_answer files method (e i) (λ r. type_at_words r i) (int_words ops 0 i)

    tells_words : (answer : ObjectAnswer)
        → tells words files answer next (world_words world) (map_slots word_of slots) (map word_of rest)
        ≡ map_outcome word_of (tells values files answer next world slots rest)
    tells_words telling.IsNull = refl
    tells_words HasNoClass = refl
    tells_words (telling.Answers bits) = refl
    tells_words (IsOf class) = refl
    tells_words (telling.Composes text) =
        goes_words (Makes (length text)) (Makes (length text)) _ (allocated world (Characters text)) _ (value.Reference (length world.heap) ∷ rest) slots.locals next refl
        (allocated_words world (Characters text)) (ap (λ n. suc n ∷ map word_of rest) (length-map world.heap object_words))

    asked_words : (method : ObjectMethod) (ops : List Value) → Agrees (ObjectAnswers method) ops
        → referent words (map word_of ops) (object_place method) ≡ referent values ops (object_place method)
    asked_words object_method.HashCode ops a = a 0 refl
    asked_words object_method.IdentityHashCode ops a = a 0 refl
    asked_words object_method.GetClass ops a = a 0 refl
    asked_words object_method.ClassName ops a = a 0 refl
    asked_words object_method.Described ops a = a 1 refl

    -- ---- methods of StringBuilder

    built_text_words : (r : ℕ) → built_text words (world_words world) r ≡ built_text values world r
    built_text_words r =
        let v = kept_string values (object_at world r) in
        let string : word_reference (kept_string words (object_at (world_words world) r)) ≡ reference_of v =
        ap (λ o. word_reference (kept_string words o)) (object_at_words world r) ∙ (ap word_reference (kept_string_words (object_at world r)) ∙ texts.texts r) in
        ap (text_or_empty (world_words world)) string ∙ of_string (reference_of v)
      where
        of_string : (o : Option ℕ) → text_or_empty (world_words world) o ≡ text_or_empty world o
        of_string None = refl
        of_string (Some s) = ap text_of (object_at_words world s) ∙ text_words (object_at world s)

    builder_shown_words : (o : Option ℕ) → builder_shown words (world_words world) o ≡ builder_shown values world o
    builder_shown_words None = refl
    builder_shown_words (Some r) = built_text_words r

    -- a method's answer by the words of its operands
    builder_answer_words : (builder : BuilderMethod) (ops : List Value) → Agrees (StringBuilderBuilds builder) ops
        → builder_answer builder (int_operand words (map word_of ops) 0) (is_none (referent words (map word_of ops) 0)) (string_shown (world_words world) (referent words (map word_of ops) 0)) (builder_shown words (world_words world) (referent words (map word_of ops) 0))
        ≡ builder_answer builder (int_operand values ops 0) (is_none (referent values ops 0)) (string_shown world (referent values ops 0)) (builder_shown values world (referent values ops 0))
    builder_answer_words ConstructEmpty ops a = refl
    builder_answer_words ConstructOfString ops a = ap (λ o. if is_none o then building.IsNull else Keeps) (a 0 refl)
    builder_answer_words AppendString ops a = ap Adds (string_words ops (a 0 refl))
    builder_answer_words AppendInt ops a = ap (λ n. Adds (signed_decimal (signed n))) (int_words ops 0)
    builder_answer_words AppendChar ops a = ap (λ n. Adds (converted ToChar n ∷ [])) (int_words ops 0)
    builder_answer_words AppendBuilder ops a =
        ap Adds (ap (builder_shown words (world_words world)) (a 0 refl) ∙ builder_shown_words (referent values ops 0))
    builder_answer_words ToString ops a = refl

    -- the receiver of an answer is as it should be
    abbrev ReceiverAgrees : BuilderAnswer → List Value → Type 0
    ReceiverAgrees building.IsNull ops = Unit {0}
    ReceiverAgrees KeepsEmpty ops = referent words (map word_of ops) 0 ≡ referent values ops 0
    ReceiverAgrees Keeps ops = referent words (map word_of ops) 1 ≡ referent values ops 1
    ReceiverAgrees (Adds added) ops = referent words (map word_of ops) 1 ≡ referent values ops 1
    ReceiverAgrees GivesText ops = referent words (map word_of ops) 0 ≡ referent values ops 0

    receiver_agrees : (builder : BuilderMethod) (ops : List Value) → Agrees (StringBuilderBuilds builder) ops
        → ReceiverAgrees (builder_answer builder (int_operand values ops 0) (is_none (referent values ops 0)) (string_shown world (referent values ops 0)) (builder_shown values world (referent values ops 0))) ops
    receiver_agrees ConstructEmpty ops a = a 0 refl
    receiver_agrees ConstructOfString ops a =
        cond_both (is_none (referent values ops 0)) building.IsNull Keeps (λ answer. ReceiverAgrees answer ops) (λ e. tt) (λ e. a 1 refl)
    receiver_agrees AppendString ops a = a 1 refl
    receiver_agrees AppendInt ops a = a 1 refl
    receiver_agrees AppendChar ops a = a 1 refl
    receiver_agrees AppendBuilder ops a = a 1 refl
    receiver_agrees ToString ops a = a 0 refl

    composed_words : (text : Text) (ops : List Value) → referent words (map word_of ops) 1 ≡ referent values ops 1
        → composed words text next (world_words world) (map_slots word_of slots) (map word_of ops) (map word_of rest)
        ≡ map_outcome word_of (composed values text next world slots ops rest)
    composed_words text ops e =
        let r = object_of values ops 1 in
        let made = allocated world (Characters text) in
        let v = value.Reference (length world.heap) in
        goes_words (Makes (length text)) (Makes (length text)) _ (with_composed values world r text) _ (operand values ops 1 ∷ rest) slots.locals next refl
        (ap (λ o. with_composed words (world_words world) o text) (as_object ops 1 e)
        ∙ (ap (λ w. with_string w r (suc (length (world_words world).heap))) (allocated_words world (Characters text))
        ∙ (ap (λ n. with_string (world_words made) r (suc n)) (length-map world.heap object_words) ∙ with_field_at_words made r builder_text v)))
        (ap (λ n. n ∷ map word_of rest) (operand_words ops 1))

    builds_words : (empty : ℕ) (answer : BuilderAnswer) (ops : List Value) → ReceiverAgrees answer ops
        → builds words empty answer next (world_words world) (map_slots word_of slots) (map word_of ops) (map word_of rest)
        ≡ map_outcome word_of (builds values empty answer next world slots ops rest)
    builds_words empty building.IsNull ops e = refl
    builds_words empty KeepsEmpty ops e =
        let r = object_of values ops 0 in
        becomes_words _ (with_string world r (value.Reference empty)) rest slots.locals next
        (ap (λ o. with_string (world_words world) o (suc empty)) (as_object ops 0 e) ∙ with_field_at_words world r builder_text (value.Reference empty))
    builds_words empty Keeps ops e =
        let r = object_of values ops 1 in
        becomes_words _ (with_string world r (operand values ops 0)) rest slots.locals next
        (ap (λ o. with_string (world_words world) o (operand words (map word_of ops) 0)) (as_object ops 1 e)
        ∙ (ap (λ n. with_string (world_words world) r n) (operand_words ops 0) ∙ with_field_at_words world r builder_text (operand values ops 0)))
    builds_words empty (Adds added) ops e =
        let before = built_text values world (object_of values ops 1) in
        ap (λ text. composed words text next (world_words world) (map_slots word_of slots) (map word_of ops) (map word_of rest))
        (ap (λ o. built_text words (world_words world) o ++ added) (as_object ops 1 e) ∙ ap (λ t. t ++ added) (built_text_words (object_of values ops 1)))
        ∙ composed_words (before ++ added) ops e
    builds_words empty GivesText ops e =
        let r = object_of values ops 0 in
        pushes_words world _ (kept_string values (object_at world r)) rest slots.locals next
        (ap (λ o. kept_string words (object_at (world_words world) o)) (as_object ops 0 e)
        ∙ (ap (kept_string words) (object_at_words world r) ∙ kept_string_words (object_at world r)))

    pub does_words : (method : BuiltInMethod) (ops : List Value) → Agrees method ops → Carries method ops
    does_words Construct ops a = refl
    does_words ConstructWithMessage ops a = message_words ops a
    does_words ConstructWithCause ops a = cause_words ops a
    does_words ObjectClone ops a = clone_words world texts next slots rest files ops (a 0 refl)
    does_words ObjectWait ops a =
        ap (λ o. wait_by (is_owner world event.thread o) (thread_at world event.thread).interrupted event.thread o (world_words world) (map word_of rest)) (as_object ops 0 (a 0 refl))
        ∙ wait_words (is_owner world event.thread (object_of values ops 0)) (thread_at world event.thread).interrupted (object_of values ops 0)
    does_words ObjectNotify ops a =
        let object = object_of values ops 0 in
        ap (λ o. if_owner (is_owner world event.thread o) (Goes Free (notified (world_words world) event.thread o event.pick) (record { locals = map word_of slots.locals; stack = map word_of rest }) next)) (as_object ops 0 (a 0 refl))
        ∙ (ap (λ w. if_owner (is_owner world event.thread object) (Goes Free w (record { locals = map word_of slots.locals; stack = map word_of rest }) next)) (one_words (with_monitors world (monitors.notify object event.thread event.pick world.monitors)) object (slice_get (waiters_of world object) event.pick))
        ∙ owner_words (is_owner world event.thread object) (notified world event.thread object event.pick))
    does_words ObjectNotifyAll ops a =
        let object = object_of values ops 0 in
        ap (λ o. if_owner (is_owner world event.thread o) (Goes Free (notified_all (world_words world) event.thread o) (record { locals = map word_of slots.locals; stack = map word_of rest }) next)) (as_object ops 0 (a 0 refl))
        ∙ (ap (λ w. if_owner (is_owner world event.thread object) (Goes Free w (record { locals = map word_of slots.locals; stack = map word_of rest }) next)) (all_words object Notified (with_monitors world (monitors.notify_all object event.thread world.monitors)) (waiters_of world object))
        ∙ owner_words (is_owner world event.thread object) (notified_all world event.thread object))
    does_words ThreadStart ops a =
        ap (λ o. start_by (is_some (thread_of world o)) next o (world_words world) (map_slots word_of slots) (map word_of rest)) (as_object ops 0 (a 0 refl))
        ∙ start_words (is_some (thread_of world (object_of values ops 0))) (object_of values ops 0)
    does_words ThreadInterrupt ops a =
        becomes_words _ (interrupted_on world (thread_of world (object_of values ops 0))) rest slots.locals next
        (ap (λ o. interrupted_on (world_words world) (thread_of world o)) (as_object ops 0 (a 0 refl)) ∙ on_words (thread_of world (object_of values ops 0)))
    does_words ThreadIsInterrupted ops a =
        pushes_words world _ (value.Int (bit (is_interrupted world (object_of values ops 0)))) rest slots.locals next (ap (λ o. bit (is_interrupted world o)) (as_object ops 0 (a 0 refl)))
    does_words ThreadInterrupted ops a = refl
    does_words ThreadYield ops a = refl
    does_words ThreadCurrentThread ops a = refl
    does_words ThreadJoin ops a =
        ap (λ o. join_by (is_alive world o) next (world_words world) (map_slots word_of slots) (map word_of rest)) (as_object ops 0 (a 0 refl)) ∙ join_words (is_alive world (object_of values ops 0))
    does_words ThreadIsAlive ops a =
        pushes_words world _ (value.Int (bit (is_alive world (object_of values ops 0)))) rest slots.locals next (ap (λ o. bit (is_alive world o)) (as_object ops 0 (a 0 refl)))
    does_words (ThreadNames method) ops a = names_words world texts next slots rest method ops a
    does_words (PrintStreamPrints print) ops a =
        becomes_words _ (with_printed world (printed_by values print world ops)) rest slots.locals next (ap (with_printed (world_words world)) (printed_words print ops a))
    does_words (StringAnswers string) ops a =
        ap (λ o. answered words o next (world_words world) (map_slots word_of slots) (map word_of ops) (map word_of rest)) (answer_words string ops a)
        ∙ answered_words ops (string_answer string (int_operand values ops) (string_operand values world ops))
    does_words (StringWrites method) ops a = writes_words world next slots rest (opening_count files) (string_references files) method ops a
    does_words (StringBuilderBuilds builder) ops a =
        let empty = string_reference files [] in
        ap (λ answer. builds words empty answer next (world_words world) (map_slots word_of slots) (map word_of ops) (map word_of rest)) (builder_answer_words builder ops a)
        ∙ builds_words empty
        (builder_answer builder (int_operand values ops 0) (is_none (referent values ops 0)) (string_shown world (referent values ops 0)) (builder_shown values world (referent values ops 0)))
        ops (receiver_agrees builder ops a)
    does_words (ObjectAnswers method) ops a =
        ap (λ answer. tells words files answer next (world_words world) (map_slots word_of slots) (map word_of rest)) (told_words method ops (referent values ops (object_place method)) (asked_words method ops a))
        ∙ tells_words (object_answer files method (referent values ops (object_place method)) (type_at world) (int_operand values ops 0))
