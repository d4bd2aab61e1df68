-- From the parts of a class file to the whole.
use Rattle.std.proofs.Common.{◌≡◌, ℕ, List, [], ◌∷◌, map, Option, Some, None, Bool, true, false, ◌||◌, refl, sym, ap, ◌∙◌}
use Rattle.std.specs.Prelude.{Result, Ok, Err, IfOk, IfSome, IsTrue, is_some}
use Rattle.std.specs.List.{list_any, slice_get, flat_map}
use Rattle.std.specs.Option.{option_map_or}
use Rattle.std.proofs.lemmas.List.Folds.{list_any-append}
use Rattle.std.proofs.lemmas.Bool.{or_left, or_right, and_parts, or_parts, or_from}
use Rattle.model.specs.Tree.{FieldTree, MethodTree, CodeTree, FileTree}
use Rattle.model.specs.Conditions.{text_at}
use Rattle.model.specs.InstructionStarts.{is_start}
use Rattle.model.specs.Classes.{Program, code_in}
use Rattle.model.specs.CodeParts.{boundaries}
use Rattle.model.specs.DescriptorParts.{classes_in}
use Rattle.model.specs.Resolution.{is_missing, superclass_missing, interface_missing, catch_type_missing, declared_descriptors, declared_class_missing, is_unresolved}
use Rattle.link_conditions.specs.declared.resolution.place.UnresolvedPlace.{UnresolvedPlace}
use Rattle.link_conditions.specs.declared.resolution.place.UnresolvedPlace.TheVariants as places
use Rattle.link_conditions.specs.declared.resolution.place.Spot.{Spot}
use Rattle.link_conditions.specs.declared.resolution.place.Spot.TheVariants.{Declaration, Instruction, Exception}
use Rattle.link_conditions.specs.resolution.Unresolved.{lacks_class, class_stands, field_stands, declaration_stands, instruction_stands, exception_stands, code_stands, method_stands, stands_at, place_in, is_code_unresolved, is_method_unresolved, FindsInMethods}
use Rattle.opcodes.proofs.Marked.{any_of_starts}
use Rattle.constant_pool.proofs.Passing.{any_map, any_at}

-- ---- elements of lists

list_any-flat_map : {A B : Type 0} (p : B → Bool) (f : A → List B) (xs : List A)
    → list_any p (flat_map f xs) ≡ list_any (λ x. list_any p (f x)) xs
list_any-flat_map p f [] = refl
list_any-flat_map p f (x ∷ xs) = list_any-append p (f x) (flat_map f xs) ∙ ap (λ b. list_any p (f x) || b) (list_any-flat_map p f xs)

-- ---- the conditions of a class file

module _ (files : Program) (file : FileTree) where
  abbrev of_codes : (CodeTree → Bool) → MethodTree → Bool
  of_codes test m = option_map_or test (code_in m.parts) false

  abbrev instructions_stand : CodeTree → Bool
  instructions_stand c = list_any (instruction_stands files file c) (boundaries c.code)

  abbrev exceptions_stand : CodeTree → Bool
  exceptions_stand c = list_any (exception_stands files file) c.exceptions

  -- the declared descriptors are those of the fields and of the methods
  declared_parts : declared_class_missing files file
      ≡ (list_any (field_stands files file) file.fields || list_any (declaration_stands files file) file.methods)
  declared_parts =
      list_any-flat_map (is_missing files) classes_in (declared_descriptors file)
      ∙ list_any-append (lacks_class files) (map (λ (f : FieldTree). text_at file.pool f.descriptor) file.fields) (map (λ (m : MethodTree). text_at file.pool m.descriptor) file.methods)
      ∙ ap (λ (b : Bool). b || list_any (lacks_class files) (map (λ (m : MethodTree). text_at file.pool m.descriptor) file.methods)) (any_map (lacks_class files) (λ (f : FieldTree). text_at file.pool f.descriptor) file.fields)
      ∙ ap (λ (b : Bool). list_any (field_stands files file) file.fields || b) (any_map (lacks_class files) (λ (m : MethodTree). text_at file.pool m.descriptor) file.methods)

  -- ---- where no condition stands

  no_code : (o : Option CodeTree) → option_map_or (is_code_unresolved files file) o false ≡ false
      → (option_map_or exceptions_stand o false ≡ false) × (option_map_or instructions_stand o false ≡ false)
  no_code None h = (refl, refl)
  no_code (Some c) h = ((or_parts (instructions_stand c) _ h).1, (or_parts (instructions_stand c) _ h).0)

  no_method : (ms : List MethodTree) → list_any (is_method_unresolved files file) ms ≡ false
      → (list_any (of_codes exceptions_stand) ms ≡ false)
      × ((list_any (declaration_stands files file) ms ≡ false) × (list_any (of_codes instructions_stand) ms ≡ false))
  no_method [] h = (refl, (refl, refl))
  no_method (m ∷ ms) h =
      let first : is_method_unresolved files file m ≡ false = (or_parts (is_method_unresolved files file m) _ h).0 in
      let rest = no_method ms (or_parts (is_method_unresolved files file m) _ h).1 in
      let codes = no_code (code_in m.parts) (or_parts (declaration_stands files file m) _ first).1 in
      (or_from _ _ codes.0 rest.0, (or_from _ _ (or_parts (declaration_stands files file m) _ first).0 rest.1.0, or_from _ _ codes.1 rest.1.1))

  pub all_found : class_stands files file ≡ false → list_any (field_stands files file) file.fields ≡ false
      → list_any (is_method_unresolved files file) file.methods ≡ false → is_unresolved files file ≡ false
  all_found class fields methods =
      let parts = no_method file.methods methods in
      or_from _ _ (or_parts (superclass_missing files file) _ class).0
      (or_from _ _ (or_parts (superclass_missing files file) _ class).1
      (or_from _ _ parts.0
      (or_from _ _ (declared_parts ∙ or_from _ _ fields parts.1.0) parts.1.1)))

  -- ---- where one stands

  by_superclass : superclass_missing files file ≡ true → is_unresolved files file ≡ true
  by_superclass h = or_left (superclass_missing files file) _ h

  by_interface : interface_missing files file ≡ true → is_unresolved files file ≡ true
  by_interface h = or_right (superclass_missing files file) _ (or_left (interface_missing files file) _ h)

  by_exception : list_any (of_codes exceptions_stand) file.methods ≡ true → is_unresolved files file ≡ true
  by_exception h = or_right (superclass_missing files file) _ (or_right (interface_missing files file) _ (or_left (catch_type_missing files file) _ h))

  by_declared : declared_class_missing files file ≡ true → is_unresolved files file ≡ true
  by_declared h = or_right (superclass_missing files file) _ (or_right (interface_missing files file) _ (or_right (catch_type_missing files file) _ (or_left (declared_class_missing files file) _ h)))

  by_instruction : list_any (of_codes instructions_stand) file.methods ≡ true → is_unresolved files file ≡ true
  by_instruction h = or_right (superclass_missing files file) _ (or_right (interface_missing files file) _ (or_right (catch_type_missing files file) _ (or_right (declared_class_missing files file) _ h)))

  by_class : (super interface : Bool) → superclass_missing files file ≡ super → interface_missing files file ≡ interface
      → (super || interface) ≡ true → is_unresolved files file ≡ true
  by_class true interface p q h = by_superclass p
  by_class false true p q h = by_interface q
  by_class false false p q h = absurd cc

  an_instruction : (pc : ℕ) (o : Option CodeTree) → option_map_or (code_stands files file (Instruction pc)) o false ≡ true
      → option_map_or instructions_stand o false ≡ true
  an_instruction pc None h = absurd cc
  an_instruction pc (Some c) h = any_of_starts (instruction_stands files file c) c.code pc (and_parts (is_start c.code pc) _ h).0 (and_parts (is_start c.code pc) _ h).1

  an_exception : (entry : ℕ) (o : Option CodeTree) → option_map_or (code_stands files file (Exception entry)) o false ≡ true
      → option_map_or exceptions_stand o false ≡ true
  an_exception entry None h = absurd cc
  an_exception entry (Some c) h = any_at (exception_stands files file) c.exceptions entry h

  of_method : (p q : MethodTree → Bool) → ((m : MethodTree) → p m ≡ true → q m ≡ true) → (o : Option MethodTree)
      → option_map_or p o false ≡ true → option_map_or q o false ≡ true
  of_method p q follows None h = absurd cc
  of_method p q follows (Some m) h = follows m h

  pub one_stands : (place : UnresolvedPlace) → stands_at files file place ≡ true → is_unresolved files file ≡ true
  one_stands places.Class h = by_class (superclass_missing files file) (interface_missing files file) refl refl h
  one_stands (places.Field k) h = by_declared (declared_parts ∙ or_left _ _ (any_at (field_stands files file) file.fields k h))
  one_stands (places.Method k) h = by_declared (declared_parts ∙ or_right (list_any (field_stands files file) file.fields) _ (any_at (declaration_stands files file) file.methods k h))
  one_stands (places.Instruction k pc) h =
      by_instruction (any_at (of_codes instructions_stand) file.methods k
      (of_method (method_stands files file (Instruction pc)) (of_codes instructions_stand) (λ m. an_instruction pc (code_in m.parts)) (slice_get file.methods k) h))
  one_stands (places.Exception k entry) h =
      by_exception (any_at (of_codes exceptions_stand) file.methods k
      (of_method (method_stands files file (Exception entry)) (of_codes exceptions_stand) (λ m. an_exception entry (code_in m.parts)) (slice_get file.methods k) h))

  -- a spot of a method is a place of the file
  pub spot_stands : (k : ℕ) (spot : Spot) → option_map_or (method_stands files file spot) (slice_get file.methods k) false ≡ true
      → stands_at files file (place_in k spot) ≡ true
  spot_stands k Declaration h = h
  spot_stands k (Instruction pc) h = h
  spot_stands k (Exception entry) h = h

  -- a spot of its code is one of a method
  pub code_in_method : (m : MethodTree) (spot : Spot) (c : CodeTree) → code_in m.parts ≡ Some c → code_stands files file spot c ≡ true
      → method_stands files file spot m ≡ true
  code_in_method m Declaration c e h = absurd cc
  code_in_method m (Instruction pc) c e h = rw e h
  code_in_method m (Exception entry) c e h = rw e h

  -- ---- what the walk finds

  -- what is found is exactly whether a condition stands
  pub exactly : {E : Type 0} (r : Result (Option UnresolvedPlace) E) → class_stands files file ≡ false
      → list_any (field_stands files file) file.fields ≡ false → IfOk r (FindsInMethods files file)
      → IfOk r (λ found. is_some found ≡ is_unresolved files file)
  exactly (Ok None) class fields h = sym (all_found class fields h)
  exactly (Ok (Some place)) class fields h = sym (one_stands place h)
  exactly (Err e) class fields h = tt

  pub somewhere : {E : Type 0} (r : Result (Option UnresolvedPlace) E) → IfOk r (FindsInMethods files file)
      → IfOk r (λ found. IfSome found (λ place. IsTrue (stands_at files file place)))
  somewhere (Ok None) h = tt
  somewhere (Ok (Some place)) h = h
  somewhere (Err e) h = tt
