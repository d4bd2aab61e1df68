-- What a call gives to a method: its operands as arguments, and a receiver below the class that declares the method.
use Rattle.std.proofs.Common.{◌≡◌, ℕ, List, [], ◌∷◌, ◌++◌, length, map, reverse, Bool, true, false, not, ◌&&◌, Option, Some, None, refl, sym, ap, ◌∙◌, subst}
use Rattle.std.specs.Prelude.{slice_index_or, unwrap_or, if◌then◌else◌}
use Rattle.std.specs.Option.{option_map_or, option_or}
use Rattle.std.proofs.lemmas.Bool.{and_from, or_right, cond_both, or_from}
use Rattle.std.proofs.lemmas.List.{reverse-append, reverse-reverse, length-reverse, length-map}
use Rattle.std.proofs.lemmas.Option.{get_or_from_slice_get, same_Some}
use Rattle.model.specs.declared.value.Value.{Value}
use Rattle.model.specs.declared.value.Value.TheVariants as value
use Rattle.model.specs.Names.{Name, name_eq, Member, initialiser_name, java_lang_object}
use Rattle.model.specs.Tree.{MethodTree}
use Rattle.model.specs.AccessFlags.{is_abstract_method}
use Rattle.model.specs.Classes.{Program, superclass_of, is_within, is_subclass, is_interface, lineage}
use Rattle.model.specs.Lookup.{method_of, first_found, method_in_class, in_class, where_so, searched_class, find_method, find_interface_method, all_superinterfaces, any_method, is_public_instance_method}
use Rattle.model.specs.ReferenceTypes.{ReferenceType, ClassType, is_assignable}
use Rattle.model.specs.Types.{OfType, UninitialisedThis, Want, value_meets, is_value_below}
use Rattle.model.specs.DescribedTypes.{DeclaredType, parameters_declared, declared_want, verification_type, made_type}
use Rattle.model.specs.Operands.{values}
use Rattle.model.specs.State.{ObjectOf, Instance, Primitives, References, type_of, Characters}
use Rattle.model.specs.Worlds.{class_of_object}
use Rattle.model.specs.Sites.{operand}
use Rattle.model.specs.Calls.{parameter_count, argument_wants, special_class}
use Rattle.model.specs.Typing.{is_constructor, is_static_of, parameter_types, receiver_type, has_no_receiver, argument_types}
use Rattle.model.specs.WellTyped.{has_type, are_typed}
use Rattle.run_laws.proofs.laws.Lists.{Pairwise, pair_append, pair_length, get_last}
use Rattle.run_laws.proofs.laws.Classes.{name_self, subclass_trans, above_object, within_subclass}
use Rattle.run_laws.proofs.typed_runs.Subtypes.{made_monotone}
use Rattle.run_laws.proofs.laws.Linked.{Linked}
use Rattle.run_laws.proofs.typed_runs.Instructions.{declared_met}

-- ---- lists

reverse_cons : {A : Type 0} (x : A) (xs : List A) → reverse (x ∷ xs) ≡ reverse xs ++ x ∷ []
reverse_cons x xs = reverse-append (x ∷ []) xs

pub pair_reverse : {A B : Type 0} (R : A → B → Bool) (xs : List A) (ys : List B) → Pairwise R xs ys → Pairwise R (reverse xs) (reverse ys)
pair_reverse R [] [] h = tt
pair_reverse R [] (y ∷ ys) h = absurd h
pair_reverse R (x ∷ xs) [] h = absurd h
pair_reverse R (x ∷ xs) (y ∷ ys) h =
    subst (λ l. Pairwise R l (reverse (y ∷ ys))) (sym (reverse_cons x xs))
    (subst (λ l. Pairwise R (reverse xs ++ x ∷ []) l) (sym (reverse_cons y ys)) (pair_append R (reverse xs) (reverse ys) (x ∷ []) (y ∷ []) (pair_reverse R xs ys h.1) (h.0, tt)))

-- a list beside one with a last element
record Split {A B : Type 0} (R : A → B → Bool) (xs : List A) (x : A) (zs : List B) : Type 0 where
  front : List B
  last : B
  is : zs ≡ front ++ last ∷ []
  fits : Pairwise R xs front
  at_last : R x last ≡ true

split : {A B : Type 0} (R : A → B → Bool) (xs : List A) (x : A) (zs : List B) → Pairwise R (xs ++ x ∷ []) zs → Split R xs x zs
split R [] x [] h = absurd h
split R [] x (z ∷ []) h = record { front = []; last = z; is = refl; fits = tt; at_last = h.0 }
split R [] x (z ∷ y ∷ zs) h = absurd h.1
split R (w ∷ xs) x [] h = absurd h
split R (w ∷ xs) x (z ∷ zs) h =
    let s = split R xs x zs h.1 in
    record { front = z ∷ s.front; last = s.last; is = ap (λ l. z ∷ l) s.is; fits = (h.0, s.fits); at_last = s.at_last }

-- ---- arguments

module _ (files : Program) (os : List ReferenceType) where
  wanted_typed : (ps : List DeclaredType) (vs : List Value) → Pairwise (value_meets files os) (map (declared_want files) ps) vs
      → are_typed files os (map (verification_type files) ps) vs ≡ true
  wanted_typed [] [] h = refl
  wanted_typed [] (v ∷ vs) h = absurd h
  wanted_typed (p ∷ ps) [] h = absurd h
  wanted_typed (p ∷ ps) (v ∷ vs) h = and_from _ _ (declared_met files os p v h.0) (wanted_typed ps vs h.1)

  parameters_typed : (method : Member) (vs : List Value)
      → Pairwise (value_meets files os) (reverse (map (declared_want files) (parameters_declared method.descriptor))) vs
      → are_typed files os (parameter_types files method) (reverse vs) ≡ true
  parameters_typed method vs h =
      let ws = map (declared_want files) (parameters_declared method.descriptor) in
      wanted_typed (parameters_declared method.descriptor) (reverse vs)
      (subst (λ l. Pairwise (value_meets files os) l (reverse vs)) (reverse-reverse ws) (pair_reverse (value_meets files os) (reverse ws) vs h))

  append_nothing : {A : Type 0} (xs : List A) → xs ++ [] ≡ xs
  append_nothing [] = refl
  append_nothing (x ∷ xs) = ap (λ l. x ∷ l) (append_nothing xs)

  -- of a static method
  pub static_arguments : (method : Member) (ops : List Value) → Pairwise (value_meets files os) (argument_wants files method []) ops
      → are_typed files os (parameter_types files method) (reverse ops) ≡ true
  static_arguments method ops h = parameters_typed method ops (subst (λ l. Pairwise (value_meets files os) l ops) (append_nothing (reverse (map (declared_want files) (parameters_declared method.descriptor)))) h)

  -- of a method with a receiver
  pub record Given (method : Member) (ops : List Value) : Type 0 where
    pub arguments : List Value
    pub are : reverse ops ≡ operand values ops (parameter_count method) ∷ arguments
    pub typed : are_typed files os (parameter_types files method) arguments ≡ true

  pub given : (method : Member) (receiver : Want) (ops : List Value)
      → Pairwise (value_meets files os) (argument_wants files method (receiver ∷ [])) ops
      → Given method ops × (value_meets files os receiver (operand values ops (parameter_count method)) ≡ true)
  given method receiver ops h =
      let ps = parameters_declared method.descriptor in
      let ws = map (declared_want files) ps in
      let s = split (value_meets files os) (reverse ws) receiver ops h in
      let count : length s.front ≡ length ps = sym (pair_length (value_meets files os) (reverse ws) s.front s.fits) ∙ length-reverse ws ∙ length-map ps (declared_want files) in
      let at : operand values ops (parameter_count method) ≡ s.last =
      subst (λ n. slice_index_or ops n value.Unset ≡ s.last) count
      (subst (λ l. slice_index_or l (length s.front) value.Unset ≡ s.last) (sym s.is) (get_or_from_slice_get (s.front ++ s.last ∷ []) (length s.front) s.last value.Unset (get_last s.front s.last))) in (
        record {
          arguments = reverse s.front;
          are = ap reverse s.is ∙ reverse-append s.front (s.last ∷ []) ∙ ap (λ v. v ∷ reverse s.front) (sym at);
          typed = parameters_typed method s.front s.fits;
        },
        subst (λ v. value_meets files os receiver v ≡ true) (sym at) s.at_last,
      )

-- ---- the method that is run

pub record Runnable (files : Program) (os : List ReferenceType) (method : Member) (ops : List Value) : Type 0 where
  pub tree : MethodTree
  pub is_method : method_of files method ≡ Some tree
  pub concrete : is_abstract_method tree ≡ false
  pub arguments : are_typed files os (argument_types files method) (reverse ops) ≡ true
  pub receiver : has_no_receiver files method ≡ false → (r : ℕ) × (operand values ops (parameter_count method) ≡ value.Reference r)

module _ (files : Program) (os : List ReferenceType) where
  -- a method with a receiver that is below the class that declares it
  pub instance_runnable : (method callee : Member) (ops : List Value) (tree : MethodTree) (r : ℕ) → callee.descriptor ≡ method.descriptor
      → method_of files callee ≡ Some tree → is_abstract_method tree ≡ false → is_static_of files callee ≡ false
      → name_eq callee.name initialiser_name ≡ false → Given files os method ops
      → operand values ops (parameter_count method) ≡ value.Reference r
      → is_value_below files os (ClassType callee.class) (value.Reference r) ≡ true → Runnable files os callee ops
  instance_runnable method callee ops tree r same is_method concrete static name g at below =
      let no = or_from (is_static_of files callee) (name_eq callee.name initialiser_name) static name in
      let receiver = cond_both (is_constructor callee) (UninitialisedThis callee.class) (OfType (ClassType callee.class)) (λ t. has_type files os t (value.Reference r) ≡ true) (λ q. below) (λ q. below) in
      let parameters = subst (λ d. are_typed files os (map (verification_type files) (parameters_declared d)) g.arguments ≡ true) (sym same) g.typed in
      let all = subst (λ v. are_typed files os (receiver_type callee ∷ parameter_types files callee) (v ∷ g.arguments) ≡ true) (sym at) (and_from _ _ receiver parameters) in
      record {
        tree = tree;
        is_method = is_method;
        concrete = concrete;
        arguments =
            subst (λ b. are_typed files os (if b then parameter_types files callee else receiver_type callee ∷ parameter_types files callee) (reverse ops) ≡ true) (sym no)
            (subst (λ l. are_typed files os (receiver_type callee ∷ parameter_types files callee) l ≡ true) (sym g.are) all);
        receiver = λ e. (r, subst (λ d. operand values ops (length (parameters_declared d)) ≡ value.Reference r) (sym same) at);
      }

-- ---- receivers

module _ (files : Program) (linked : Linked files) where
  -- an object is below the classes from which its methods are selected
  pub object_below_class : (o : ObjectOf Value) (d : Name) → is_subclass files (class_of_object o) d ≡ true
      → is_assignable files (type_of o) (ClassType d) ≡ true
  object_below_class (Instance class fields) d e = e
  object_below_class (Primitives of elements) d e = subst (λ n. name_eq n java_lang_object ≡ true) (above_object files d e) (name_self java_lang_object)
  object_below_class (References of elements) d e = subst (λ n. name_eq n java_lang_object ≡ true) (above_object files d e) (name_self java_lang_object)
  object_below_class (Characters text) d e = e

  -- what is of a class, as the verifier makes it, is of the classes above it
  pub named_below : (current named above : Name) → is_subclass files current named ≡ true → is_interface files named ≡ false
      → is_subclass files named above ≡ true → is_assignable files (made_type files (ClassType current)) (ClassType above) ≡ true
  named_below current named above up class more =
      subclass_trans files linked.rooted _ named above
      (subst (λ b. is_subclass files (if is_interface files current then java_lang_object else current) (if b then java_lang_object else named) ≡ true) class (made_monotone files linked (ClassType current) (ClassType named) up)) more

  super_below : (current named above : Name) (o : Option Name) → superclass_of files current ≡ o → is_subclass files current named ≡ true
      → is_interface files named ≡ false → is_subclass files (unwrap_or o named) above ≡ true
      → is_assignable files (made_type files (ClassType current)) (ClassType above) ≡ true
  super_below current named above None e up class more = named_below current named above up class more
  super_below current named above (Some s) e up class more =
      cond_both (is_interface files current) java_lang_object current (λ n. is_subclass files n above ≡ true)
      (λ i. subst (λ n. is_subclass files n above ≡ true) (same_super i) more)
      (λ i. subclass_trans files linked.rooted current s above (within_subclass files linked.rooted 1 current s (or_right (name_eq current s) _ (subst (λ o. option_map_or (λ c. is_within files 0 c s) o false ≡ true) (sym e) (name_self s)))) more)
    where
      same_super : is_interface files current ≡ true → s ≡ java_lang_object
      same_super i = same_Some s java_lang_object (sym e ∙ linked.interface_super current i)

  -- the receiver of invokespecial is below what its selection finds
  pub special_below : (current named above : Name) → is_subclass files current named ≡ true → is_interface files named ≡ false
      → is_subclass files (special_class files current named) above ≡ true
      → is_assignable files (made_type files (ClassType current)) (ClassType above) ≡ true
  special_below current named above up class more =
      cond_both (not (name_eq current named) && is_subclass files current named) (unwrap_or (superclass_of files current) named) named (λ n. is_subclass files n above ≡ true → is_assignable files (made_type files (ClassType current)) (ClassType above) ≡ true)
      (λ q m. super_below current named above (superclass_of files current) refl up class m)
      (λ q m. named_below current named above up class m)
      more

-- ---- what is found has the name and the descriptor that are sought

where_same : (b : Bool) (m x : Member) → where_so b m ≡ Some x → m ≡ x
where_same true m x e = cc
where_same false m x e = absurd cc

module _ (files : Program) (m : Member) where
  declared_same : (test : MethodTree → Bool) (class : Name) (x : Member) → method_in_class files test m class ≡ Some x → x.name ≡ m.name
  declared_same test class x e = sym (ap (λ (y : Member). y.name) (where_same (option_map_or test (method_of files (in_class class m)) false) (in_class class m) x e))

  either_same : (a b : Option Member) (x : Member) → ((y : Member) → a ≡ Some y → y.name ≡ m.name)
      → ((y : Member) → b ≡ Some y → y.name ≡ m.name) → option_or a b ≡ Some x → x.name ≡ m.name
  either_same None b x p q e = q x e
  either_same (Some y) b x p q e = p x e

  first_same : (test : MethodTree → Bool) (classes : List Name) (x : Member) → first_found (method_in_class files test m) classes ≡ Some x
      → x.name ≡ m.name
  first_same test [] x e = absurd cc
  first_same test (c ∷ cs) x e = either_same (method_in_class files test m c) (first_found (method_in_class files test m) cs) x (declared_same test c) (first_same test cs) e

  pub found_name : (x : Member) → find_method files m ≡ Some x → x.name ≡ m.name
  found_name x e =
      either_same (first_found (method_in_class files any_method m) (lineage files (searched_class m.class))) (first_found (method_in_class files any_method m) (all_superinterfaces files (searched_class m.class))) x
      (first_same any_method (lineage files (searched_class m.class))) (first_same any_method (all_superinterfaces files (searched_class m.class))) e

  pub interface_found_name : (x : Member) → find_interface_method files m ≡ Some x → x.name ≡ m.name
  interface_found_name x e =
      either_same (method_in_class files any_method m m.class) (option_or (method_in_class files is_public_instance_method m java_lang_object) (first_found (method_in_class files any_method m) (all_superinterfaces files m.class))) x
      (declared_same any_method m.class)
      (λ y q. either_same (method_in_class files is_public_instance_method m java_lang_object) (first_found (method_in_class files any_method m) (all_superinterfaces files m.class)) y (declared_same is_public_instance_method java_lang_object) (first_same any_method (all_superinterfaces files m.class)) q) e
