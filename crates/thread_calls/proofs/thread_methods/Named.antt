-- Calls by the method that they name: which descriptors these methods have, and what is run on a receiver.
use Rattle.std.proofs.Common.{◌≡◌, refl, sym, ap, subst, ◌∙◌, ℕ, List, [], ◌∷◌, Bool, true, false, Option, Some, None, if◌then◌else◌, length, ⊎_elim}
use Rattle.std.specs.Prelude.{◌||◌, codes, is_some, slice_get}
use Rattle.std.specs.Option.{option_and_then, option_map_or, option_or}
use Rattle.std.specs.List.{list_all}
use Rattle.std.proofs.lemmas.Bool.{false≢true, or_cases}
use Rattle.std.proofs.lemmas.Option.{same_Some, none-some}
use Rattle.thread_calls.specs.declared.thread_methods.ThreadMethod.{ThreadMethod}
use Rattle.model.specs.BuiltInMethods.{built_in_method, built_in_methods}
use Rattle.model.specs.Calls.{Chosen, Fails, Runs, parameter_count, selected, of_receiver, if_implements}
use Rattle.model.specs.Classes.{Program, Body, body_of, lineage, all_superinterfaces}
use Rattle.model.specs.DescribedTypes.{parameters_declared}
use Rattle.model.specs.DescriptorScan.{element_at, field_at, field_type, parameters_at, method_type}
use Rattle.model.specs.Lookup.{method_of, where_so, in_class, first_found, method_in_class, any_method, searched_class, find_method, is_public_instance_method, find_interface_method}
use Rattle.model.specs.Names.{Name, name_eq, Member, java_lang_object}
use Rattle.model.specs.Tree.{MethodTree}
use Rattle.run_laws.proofs.laws.Classes.{names_same}
use Rattle.run_laws.proofs.word_runs.WordBuiltIns.{passes, passed}
use Rattle.linked_code.specs.Numbers.{IsMethodAt}
use Rattle.linked_program.proofs.class_rows.Counts.{number_is}
use Rattle.method_tables.specs.method_links.Methods.{Names, methods_of}
use Rattle.data_races.specs.EventActions.{without_code}
use Rattle.machine_instructions.proofs.called_methods.Receivers.{found_by}
use Rattle.next_accesses.specs.accesses.Accesses.{object_under}
use Rattle.thread_calls.specs.thread_methods.Called.{as_thread_method, method_told, receiver_depth, run_on}

-- ---- descriptors

all_counted : list_all (passes as_thread_method (refl, (refl, refl)) (λ m b. is_some (receiver_depth m.descriptor))) built_in_methods ≡ true
all_counted = refl

none_counted : (o : Option ℕ) → o ≡ None → is_some o ≡ false
none_counted o e = ap is_some e

none_abstract : (m : Member) → receiver_depth m.descriptor ≡ None → as_thread_method (built_in_method m) ≡ None
none_abstract m none = by (as_thread_method (built_in_method m)) refl
  where
    by : (o : Option ThreadMethod) → as_thread_method (built_in_method m) ≡ o → o ≡ None
    by None e = refl
    by (Some b) e =
        absurd (false≢true (sym (ap is_some none) ∙ passed as_thread_method (refl, (refl, refl)) (λ x y. is_some (receiver_depth x.descriptor)) all_counted m b e))

zero_of_void : length (parameters_declared (codes "()V")) ≡ 0
unfolding method_type parameters_at field_at field_type element_at
zero_of_void = refl

zero_of_test : length (parameters_declared (codes "()Z")) ≡ 0
unfolding method_type parameters_at field_at field_type element_at
zero_of_test = refl

module _ (d : Name) where
  abbrev Counts : ℕ → Type 0
  Counts k = length (parameters_declared d) ≡ k

  of_name : (e : Name) (k : ℕ) → length (parameters_declared e) ≡ k → name_eq d e ≡ true → Counts k
  of_name e k h q = ap (λ n. length (parameters_declared n)) (names_same d e q) ∙ h

  abbrev is_zero : Bool
  is_zero = name_eq d (codes "()V") || name_eq d (codes "()Z")

  zero : is_zero ≡ true → Counts 0
  zero h = ⊎_elim (of_name (codes "()V") 0 zero_of_void) (of_name (codes "()Z") 0 zero_of_test) (or_cases _ _ h)

  pub counted : (k : ℕ) → Some k ≡ receiver_depth d → length (parameters_declared d) ≡ k
  counted k e = by is_zero refl e
    where
      by : (a : Bool) → is_zero ≡ a → Some k ≡ (if a then Some 0 else None) → Counts k
      by true p h = subst Counts (sym (same_Some k 0 h)) (zero p)
      by false p h = absurd (none-some k (sym h))

  pub depth_is : (k : ℕ) → Some k ≡ receiver_depth d → k ≡ 0
  depth_is k e = by is_zero e
    where
      by : (a : Bool) → Some k ≡ (if a then Some 0 else None) → k ≡ 0
      by true h = same_Some k 0 h
      by false h = absurd (none-some k (sym h))

-- ---- what is found has the descriptor that is named

module _ (trees : Program) (named : Member) where
  where_described : (b : Bool) (class : Name) (x : Member) → where_so b (in_class class named) ≡ Some x → x.descriptor ≡ named.descriptor
  where_described true class x e = sym (ap (λ (y : Member). y.descriptor) (same_Some (in_class class named) x e))
  where_described false class x e = absurd (none-some x e)

  or_described : (o p : Option Member) (x : Member) → (o ≡ Some x → x.descriptor ≡ named.descriptor) → (p ≡ Some x → x.descriptor ≡ named.descriptor)
      → option_or o p ≡ Some x → x.descriptor ≡ named.descriptor
  or_described None p x f g e = g e
  or_described (Some y) p x f g e = f e

  in_described : (wanted : MethodTree → Bool) (class : Name) (x : Member) → method_in_class trees wanted named class ≡ Some x → x.descriptor ≡ named.descriptor
  in_described wanted class x e = where_described (option_map_or wanted (method_of trees (in_class class named)) false) class x e

  first_described : (wanted : MethodTree → Bool) (classes : List Name) (x : Member) → first_found (method_in_class trees wanted named) classes ≡ Some x
      → x.descriptor ≡ named.descriptor
  first_described wanted [] x e = absurd (none-some x e)
  first_described wanted (c ∷ cs) x e =
      or_described (method_in_class trees wanted named c) (first_found (method_in_class trees wanted named) cs) x (in_described wanted c x) (first_described wanted cs x) e

  pub method_described : (x : Member) → find_method trees named ≡ Some x → x.descriptor ≡ named.descriptor
  method_described x e =
      or_described (first_found (method_in_class trees any_method named) (lineage trees (searched_class named.class))) (first_found (method_in_class trees any_method named) (all_superinterfaces trees (searched_class named.class))) x
      (first_described any_method (lineage trees (searched_class named.class)) x) (first_described any_method (all_superinterfaces trees (searched_class named.class)) x) e

  pub interface_described : (x : Member) → find_interface_method trees named ≡ Some x → x.descriptor ≡ named.descriptor
  interface_described x e =
      or_described (method_in_class trees any_method named named.class) _ x (in_described any_method named.class x)
      (or_described (method_in_class trees is_public_instance_method named java_lang_object) (first_found (method_in_class trees any_method named) (all_superinterfaces trees named.class)) x
      (in_described is_public_instance_method java_lang_object x) (first_described any_method (all_superinterfaces trees named.class) x)) e

pub runs_same : (m n : Member) → Runs m ≡ Runs n → m ≡ n
runs_same m n e = cc

-- ---- what is run on a receiver

module _ (trees : Program) (operands : List ℕ) (m : Member) (choose : ℕ → Chosen) where
  pub on_null : object_under operands (parameter_count m) ≡ None → run_on trees operands m choose ≡ None
  on_null e = ap (λ o. method_told trees (of_receiver o choose)) e

  pub on_object : (r : ℕ) → object_under operands (parameter_count m) ≡ Some r → run_on trees operands m choose ≡ method_told trees (choose r)
  on_object r e = ap (λ o. method_told trees (of_receiver o choose)) e

  module _ (describes : (r : ℕ) (x : Member) → choose r ≡ Runs x → x.descriptor ≡ m.descriptor) (other : receiver_depth m.descriptor ≡ None) where
    without : (x : Member) → x.descriptor ≡ m.descriptor → (o : Option Body) → option_and_then as_thread_method (without_code x o) ≡ None
    without x d None = none_abstract x (ap receiver_depth d ∙ other)
    without x d (Some code) = refl

    never_chosen : (r : ℕ) (c : Chosen) → choose r ≡ c → method_told trees c ≡ None
    never_chosen r (Fails fault) e = refl
    never_chosen r (Runs x) e = without x (describes r x e) (body_of trees x)

    pub never_on : (o : Option ℕ) → method_told trees (of_receiver o choose) ≡ None
    never_on None = refl
    never_on (Some r) = never_chosen r (choose r) refl

    pub never : run_on trees operands m choose ≡ None
    never = never_on (object_under operands (parameter_count m))

pub selected_describes : (trees : Program) (class : Name) (m x : Member) → selected trees class m ≡ Runs x → x.descriptor ≡ m.descriptor
selected_describes trees class m x e = (found_by trees class m x e).descriptor

pub implements_describes : (trees : Program) (b : Bool) (class : Name) (m x : Member) → if_implements b (selected trees class m) ≡ Runs x → x.descriptor ≡ m.descriptor
implements_describes trees true class m x e = selected_describes trees class m x e
implements_describes trees false class m x e = absurd (cc)

-- ---- the number of what is found

pub found_number : (trees : Program) (o : Option Member) (number : ℕ) → Names trees (Some number) o → (m : Member) → o ≡ Some m → IsMethodAt trees number m
found_number trees o number h m e = number_is trees number m (subst (Names trees (Some number)) e h)

pub none_found : (trees : Program) (o : Option Member) → Names trees None o → o ≡ None
none_found trees None h = refl
none_found trees (Some m) h = absurd (let q : None ≡ Some (Some m) = h in cc)

pub some_found : (trees : Program) (o : Option Member) (number : ℕ) → Names trees (Some number) o → (m : Member) × (o ≡ Some m)
some_found trees None number h = absurd (let q : Some (slice_get (methods_of trees) number) ≡ None = h in cc)
some_found trees (Some m) number h = (m, refl)
