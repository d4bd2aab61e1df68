-- Which members some of the built-in methods are.
use Rattle.std.proofs.Common.{◌≡◌, ◌+◌, ◌==◌, ◌&&◌, ℕ, not, if◌then◌else◌, eqb-true, Bool, true, false, Option, Some, None, refl, sym, ap, subst, ◌∙◌}
use Rattle.std.specs.Prelude.{codes, find, length, unwrap_or}
use Rattle.std.specs.Option.{option_map, option_map_or}
use Rattle.std.specs.List.{list_all}
use Rattle.std.proofs.lemmas.Bool.{and_parts, cond_both, eq-eqb, not-true}
use Rattle.model.specs.declared.print_method.PrintMethod.{PrintMethod}
use Rattle.model.specs.declared.print_method.PrintMethod.TheVariants.{Println}
use Rattle.model.specs.declared.builder_method.BuilderMethod.{BuilderMethod}
use Rattle.model.specs.declared.string_method.StringMethod.{StringMethod}
use Rattle.model.specs.declared.object_method.ObjectMethod.TheVariants as asked
use Rattle.model.specs.declared.name_method.NameMethod.{NameMethod}
use Rattle.model.specs.declared.text_method.TextMethod.{TextMethod}
use Rattle.model.specs.Names.{Name, name_eq, Member, java_lang_thread}
use Rattle.model.specs.AccessFlags.{is_private_method}
use Rattle.model.specs.BuiltIn.{built_in_classes}
use Rattle.model.specs.DescriptorScan.{element_at, field_at, field_type, parameters_at, method_type}
use Rattle.model.specs.Classes.{Program}
use Rattle.model.specs.Calls.{is_one, parameter_count}
use Rattle.model.specs.DescribedTypes.{parameters_declared}
use Rattle.model.specs.Lookup.{is_static_method}
use Rattle.model.specs.BuiltInMethods.{BuiltInMethod, Construct, ConstructWithMessage, ConstructWithCause, ObjectClone, ObjectWait, ObjectNotify, ObjectNotifyAll, ThreadStart, ThreadInterrupt, ThreadIsInterrupted, ThreadInterrupted, ThreadYield, ThreadCurrentThread, ThreadJoin, ThreadIsAlive, ThreadNames, PrintStreamPrints, StringAnswers, StringWrites, StringBuilderBuilds, ObjectAnswers, built_in_methods, built_in_method, constructor_of, is_row_of}
use Rattle.run_laws.proofs.laws.Classes.{members_same, names_same}
use Rattle.run_laws.proofs.laws.Found.{found_passes, found_has, every_all}
use Rattle.run_laws.proofs.word_runs.WordBuiltIns.{passes, passed}
use Rattle.machine_instructions.specs.thread_methods.Called.{string_operands, text_operands, named_place, builder_operands}

-- those that name a Thread are Thread's, and none is private
abbrev pub naming_of : BuiltInMethod → Option NameMethod
naming_of (ThreadNames names) = Some names
naming_of _ = None

abbrev is_of_thread : Program → Member → NameMethod → Bool
is_of_thread files method names = name_eq method.class java_lang_thread && not (is_one is_private_method files method)

all_of_thread : (files : Program) → list_all (passes naming_of (refl, (refl, refl)) (is_of_thread files)) built_in_methods ≡ true
unfolding built_in_classes
all_of_thread files = refl

pub record OfThread (files : Program) (method : Member) : Type 0 where
  pub class : method.class ≡ java_lang_thread
  pub public : is_one is_private_method files method ≡ false

pub of_thread : (files : Program) (method : Member) (names : NameMethod) → naming_of (built_in_method method) ≡ Some names → OfThread files method
of_thread files method names e =
    let both = and_parts (name_eq method.class java_lang_thread) _ (passed naming_of (refl, (refl, refl)) (is_of_thread files) (all_of_thread files) method names e) in
    record { class = names_same method.class java_lang_thread both.0; public = not-true (is_one is_private_method files method) both.1 }

-- ---- the receiver of a method of the machine, if it has one

-- under the parameter, or on top
abbrev pub print_place : PrintMethod → ℕ
print_place Println = 0
print_place _ = 1

abbrev pub receiver_place : BuiltInMethod → Option ℕ
receiver_place Construct = None
receiver_place ConstructWithMessage = None
receiver_place ConstructWithCause = None
receiver_place ObjectClone = Some 0
receiver_place ObjectWait = Some 0
receiver_place ObjectNotify = Some 0
receiver_place ObjectNotifyAll = Some 0
receiver_place ThreadStart = Some 0
receiver_place ThreadInterrupt = Some 0
receiver_place ThreadIsInterrupted = Some 0
receiver_place ThreadInterrupted = None
receiver_place ThreadYield = None
receiver_place ThreadCurrentThread = None
receiver_place ThreadJoin = Some 0
receiver_place ThreadIsAlive = Some 0
receiver_place (ThreadNames names) = Some (named_place names)
receiver_place (PrintStreamPrints print) = Some (print_place print)
receiver_place (StringAnswers string) = None
receiver_place (StringWrites writes) = None
receiver_place (StringBuilderBuilds builds) = None
receiver_place (ObjectAnswers asked.HashCode) = Some 0
receiver_place (ObjectAnswers asked.IdentityHashCode) = None
receiver_place (ObjectAnswers asked.GetClass) = Some 0
receiver_place (ObjectAnswers asked.ClassName) = Some 0
receiver_place (ObjectAnswers asked.Described) = None

-- it is under the parameters, and the method is not static
abbrev is_placed : Program → Member → ℕ → Bool
is_placed files method k = (parameter_count method == k) && not (is_one is_static_method files method)

all_placed : (files : Program) → list_all (passes receiver_place (refl, (refl, refl)) (is_placed files)) built_in_methods ≡ true
unfolding built_in_classes method_type parameters_at field_at field_type element_at
all_placed files = refl

pub record Placed (files : Program) (method : Member) (k : ℕ) : Type 0 where
  pub place : parameter_count method ≡ k
  pub instance : is_one is_static_method files method ≡ false

pub placed : (files : Program) (method : Member) (k : ℕ) → receiver_place (built_in_method method) ≡ Some k → Placed files method k
placed files method k e =
    let here = and_parts (parameter_count method == k) _ (passed receiver_place (refl, (refl, refl)) (is_placed files) (all_placed files) method k e) in
    record { place = eqb-true (parameter_count method) k here.0; instance = not-true (is_one is_static_method files method) here.1 }

-- ---- the operands of a method of String

abbrev pub string_of : BuiltInMethod → Option StringMethod
string_of (StringAnswers string) = Some string
string_of _ = None

-- the parameters, and a receiver where the method is not static
abbrev pub operands_of : Program → Member → ℕ
operands_of files method = parameter_count method + (if is_one is_static_method files method then 0 else 1)

abbrev is_counted : Program → Member → StringMethod → Bool
is_counted files method string = string_operands string == operands_of files method

all_counted : (files : Program) → list_all (passes string_of (refl, (refl, refl)) (is_counted files)) built_in_methods ≡ true
unfolding built_in_classes method_type parameters_at field_at field_type element_at
all_counted files = refl

pub string_counted : (files : Program) (method : Member) (string : StringMethod) → string_of (built_in_method method) ≡ Some string
    → string_operands string ≡ operands_of files method
string_counted files method string e =
    eqb-true (string_operands string) (operands_of files method) (passed string_of (refl, (refl, refl)) (is_counted files) (all_counted files) method string e)

-- ---- of a constructor of String, and of a method that takes its text apart

abbrev pub writes_of : BuiltInMethod → Option TextMethod
writes_of (StringWrites writes) = Some writes
writes_of _ = None

abbrev is_text_counted : Program → Member → TextMethod → Bool
is_text_counted files method writes = text_operands writes == operands_of files method

all_texts_counted : (files : Program) → list_all (passes writes_of (refl, (refl, refl)) (is_text_counted files)) built_in_methods ≡ true
unfolding built_in_classes method_type parameters_at field_at field_type element_at
all_texts_counted files = refl

pub text_counted : (files : Program) (method : Member) (writes : TextMethod) → writes_of (built_in_method method) ≡ Some writes
    → text_operands writes ≡ operands_of files method
text_counted files method writes e =
    eqb-true (text_operands writes) (operands_of files method) (passed writes_of (refl, (refl, refl)) (is_text_counted files) (all_texts_counted files) method writes e)

-- ---- of a method of StringBuilder

abbrev pub builder_of : BuiltInMethod → Option BuilderMethod
builder_of (StringBuilderBuilds builds) = Some builds
builder_of _ = None

abbrev is_builder_counted : Program → Member → BuilderMethod → Bool
is_builder_counted files method builds = builder_operands builds == operands_of files method

all_builders_counted : (files : Program) → list_all (passes builder_of (refl, (refl, refl)) (is_builder_counted files)) built_in_methods ≡ true
unfolding built_in_classes method_type parameters_at field_at field_type element_at
all_builders_counted files = refl

pub builder_counted : (files : Program) (method : Member) (builds : BuilderMethod) → builder_of (built_in_method method) ≡ Some builds
    → builder_operands builds ≡ operands_of files method
builder_counted files method builds e =
    eqb-true (builder_operands builds) (operands_of files method) (passed builder_of (refl, (refl, refl)) (is_builder_counted files) (all_builders_counted files) method builds e)

-- ---- of `described`, and of what an object of a system is asked

-- how many operands a method that is static has
abbrev pub static_of : BuiltInMethod → Option ℕ
static_of (ObjectAnswers asked.IdentityHashCode) = Some 1
static_of (ObjectAnswers asked.Described) = Some 2
static_of _ = None

abbrev is_static_counted : Program → Member → ℕ → Bool
is_static_counted files method count = count == operands_of files method

all_static_counted : (files : Program) → list_all (passes static_of (refl, (refl, refl)) (is_static_counted files)) built_in_methods ≡ true
unfolding built_in_classes method_type parameters_at field_at field_type element_at
all_static_counted files = refl

pub static_counted : (files : Program) (method : Member) (count : ℕ) → static_of (built_in_method method) ≡ Some count → count ≡ operands_of files method
static_counted files method count e =
    eqb-true count (operands_of files method) (passed static_of (refl, (refl, refl)) (is_static_counted files) (all_static_counted files) method count e)

pub described_counted : (files : Program) (method : Member) → built_in_method method ≡ ObjectAnswers asked.Described → 2 ≡ operands_of files method
described_counted files method e = static_counted files method 2 (ap static_of e)

pub identity_counted : (files : Program) (method : Member) → built_in_method method ≡ ObjectAnswers asked.IdentityHashCode → 1 ≡ operands_of files method
identity_counted files method e = static_counted files method 1 (ap static_of e)

-- ---- the parameters of the constructors that keep a message

abbrev message_of : BuiltInMethod → Option ℕ
message_of ConstructWithMessage = Some 1
message_of ConstructWithCause = Some 2
message_of _ = None

-- what holds of each row, and of a constructor of its descriptor, holds of a method
module _ (test : Member → BuiltInMethod → Bool) where
  abbrev on_row : Member × BuiltInMethod → Bool
  on_row row = test row.0 row.1

  on_method : list_all on_row built_in_methods ≡ true → (method : Member) → test method (constructor_of method.descriptor) ≡ true
      → test method (built_in_method method) ≡ true
  on_method all method construct = by (find (is_row_of method) built_in_methods) refl
    where
      by : (o : Option (Member × BuiltInMethod)) → find (is_row_of method) built_in_methods ≡ o
          → test method (unwrap_or (option_map (λ (row : Member × BuiltInMethod). row.1) o) (constructor_of method.descriptor)) ≡ true
      by None f = construct
      by (Some row) f =
          subst (λ m. test m row.1 ≡ true) (members_same row.0 method (found_passes (is_row_of method) built_in_methods row f))
          (found_has (λ r. on_row r ≡ true) (is_row_of method) built_in_methods row (every_all on_row built_in_methods all) f)

abbrev has_count : Member → BuiltInMethod → Bool
has_count method built_in = option_map_or (λ k. parameter_count method == k) (message_of built_in) true

all_have_counts : list_all (on_row has_count) built_in_methods ≡ true
all_have_counts = refl

of_descriptor : (descriptor other : Name) (count : ℕ) → length (parameters_declared other) ≡ count → name_eq descriptor other ≡ true
    → (length (parameters_declared descriptor) == count) ≡ true
of_descriptor descriptor other count is q = eq-eqb _ _ (ap (λ d. length (parameters_declared d)) (names_same descriptor other q) ∙ is)

constructed_count : (method : Member) → has_count method (constructor_of method.descriptor) ≡ true
unfolding method_type parameters_at field_at field_type element_at
constructed_count method =
    let one = codes "(Ljava/lang/String;)V" in
    let two = codes "(Ljava/lang/String;Ljava/lang/Throwable;)V" in
    cond_both (name_eq method.descriptor one) _ _ (λ b. has_count method b ≡ true) (λ q. of_descriptor method.descriptor one 1 refl q)
    (λ q. cond_both (name_eq method.descriptor two) _ _ (λ b. has_count method b ≡ true) (λ r. of_descriptor method.descriptor two 2 refl r) (λ r. refl))

counted : (method : Member) (k : ℕ) → message_of (built_in_method method) ≡ Some k → parameter_count method ≡ k
counted method k e =
    eqb-true (parameter_count method) k
    (sym (ap (λ o. option_map_or (λ n. parameter_count method == n) o true) e) ∙ on_method has_count all_have_counts method (constructed_count method))

pub message_count : (method : Member) → built_in_method method ≡ ConstructWithMessage → parameter_count method ≡ 1
message_count method e = counted method 1 (ap message_of e)

pub cause_count : (method : Member) → built_in_method method ≡ ConstructWithCause → parameter_count method ≡ 2
cause_count method e = counted method 2 (ap message_of e)
