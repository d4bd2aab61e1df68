-- Names that are needed besides.
use Rattle.std.proofs.Common.{◌≡◌, ◌⊎◌, ◌∙◌, ℕ, zero, suc, ◌+◌, ◌<◌, ◌≤◌, List, [], ◌∷◌, ◌++◌, length, get_or, take, map, Bool, true, false, Option, Some, None, refl, sym, ap, subst, inl, inr, ⊎_elim, append_assoc, arith}
use Rattle.std.specs.Prelude.{Result, Ok, Err, OnOk, is_some}
use Rattle.std.specs.List.{Contains, flat_map, filter_map, cons_option}
use Rattle.std.specs.Option.{option_map_or, option_to_list}
use Rattle.std.proofs.lemmas.List.{append-nil, take_more, take_all, length-take-le}
use Rattle.std.proofs.lemmas.List.Elements.{Contains-append_left, Contains-append_right, Contains-append_cases}
use Rattle.std.proofs.lemmas.Grind.{flat_map-append}
use Rattle.model.specs.declared.instr.Instr.{Instr}
use Rattle.model.specs.Names.{Name}
use Rattle.model.specs.Tree.{Entry, Utf8, Integer, Float, Long, Double, Class, String, Field, Method, InterfaceMethod, NameAndType, Unusable, CodeTree, FieldTree, MethodTree, FileTree}
use Rattle.model.specs.Spelling.{entry_at, text_of}
use Rattle.model.specs.Pool.{utf8_of, utf8_at, class_name_at, reference, reference_at, name_and_descriptor}
use Rattle.model.specs.Conditions.{text_at}
use Rattle.model.specs.Instruction.{instr_at}
use Rattle.model.specs.InstructionStarts.{starts}
use Rattle.model.specs.Classes.{super_name_of, interface_names, code_in}
use Rattle.model.specs.CodeParts.{marked_from}
use Rattle.model.specs.DescriptorScan.{element_at, field_at as scanned_at, field_type, method_type}
use Rattle.model.specs.DescriptorParts.{classes_in, classes_named}
use Rattle.model.specs.Resolution.{declared_descriptors, operand_classes, member_classes, called_classes}
use Rattle.library_files.specs.declared.needed_texts.NeededTexts.{NeededTexts}
use Rattle.library_files.specs.NeededTexts.{Adds, IsMarked, IsMarkedText, IsDescribed, IsNeededBy}
use Rattle.library_files.specs.Needs.{caught_classes, code_classes, codes_of, needed_classes}
use Rattle.library_files.specs.Parts.{classes_at, field_classes, declared_classes, method_classes, instruction_classes, marked_classes}

-- what follows where a call succeeds
pub on_ok : {T E P Q : Type 0} → (r : Result T E) → (P → Q) → OnOk r P → OnOk r Q
on_ok (Ok v) f h = f h
on_ok (Err e) f h = h

module _ (pool : List Entry) where
  pub adds_nothing : (texts : NeededTexts) → Adds pool texts texts []
  adds_nothing texts = record {
    kept = λ name h. h;
    added = λ name h. absurd (omega (arith, h.1));
    only = λ name h. inl h;
  }

  -- some, and then others
  pub adds_both : (a b c : NeededTexts) (xs ys : List Name) → Adds pool a b xs → Adds pool b c ys → Adds pool a c (xs ++ ys)
  adds_both a b c xs ys first second = record {
    kept = λ name h. second.kept name (first.kept name h);
    added = λ name h. ⊎_elim (λ l. second.kept name (first.added name l)) (λ r. second.added name r) (Contains-append_cases xs ys name h);
    only = λ name h. ⊎_elim
        (λ l. ⊎_elim (λ m. inl m) (λ n. inr (Contains-append_left xs ys name n)) (first.only name l))
        (λ r. inr (Contains-append_right xs ys name r))
        (second.only name h);
  }

  pub adds_same : (a b : NeededTexts) (xs ys : List Name) → xs ≡ ys → Adds pool a b xs → Adds pool a b ys
  adds_same a b xs ys e h = subst (λ (names : List Name). Adds pool a b names) e h

  -- the classes of the descriptor at an index more
  pub adds_described : (old new : NeededTexts) (index : ℕ) → new.names.items ≡ old.names.items
      → ((k : ℕ) → IsMarked old.descriptors.items k → IsMarked new.descriptors.items k)
      → IsMarked new.descriptors.items index
      → ((k : ℕ) → IsMarked new.descriptors.items k → IsMarked old.descriptors.items k ⊎ (k ≡ index))
      → Adds pool old new (flat_map classes_in (option_to_list (utf8_at pool index)))
  adds_described old new index same kept marked only = record {
    kept = λ name h. keeps name h;
    added = λ name h. adds name (utf8_at pool index) refl h;
    only = λ name h. none_else name h;
  }
    where
      keeps : (name : Name) → IsNeededBy pool old name → IsNeededBy pool new name
      keeps name (inl h) = inl (subst (λ (marks : List Bool). IsMarkedText pool marks name) (sym same) h)
      keeps name (inr h) = inr (record { text = h.text; marked = record { index = h.marked.index; marked = kept h.marked.index h.marked.marked; stands = h.marked.stands }; among = h.among })

      adds : (name : Name) (o : Option Name) → utf8_at pool index ≡ o → Contains (flat_map classes_in (option_to_list o)) name → IsNeededBy pool new name
      adds name None e h = absurd (omega (arith, h.1))
      adds name (Some text) e h =
          let among : Contains (classes_in text) name = subst (λ (xs : List Name). Contains xs name) (append-nil (classes_in text)) h in
          inr (record { text = text; marked = record { index = index; marked = marked; stands = e }; among = among })

      of_index : (name text : Name) → utf8_at pool index ≡ Some text → Contains (classes_in text) name
          → Contains (flat_map classes_in (option_to_list (utf8_at pool index))) name
      of_index name text e h = rw e (subst (λ (xs : List Name). Contains xs name) (sym (append-nil (classes_in text))) h)

      none_else : (name : Name) → IsNeededBy pool new name → IsNeededBy pool old name ⊎ Contains (flat_map classes_in (option_to_list (utf8_at pool index))) name
      none_else name (inl h) = inl (inl (subst (λ (marks : List Bool). IsMarkedText pool marks name) same h))
      none_else name (inr h) = ⊎_elim
          (λ l. inl (inr (record { text = h.text; marked = record { index = h.marked.index; marked = l; stands = h.marked.stands }; among = h.among })))
          (λ r. inr (of_index name h.text (ap (utf8_at pool) (sym r) ∙ h.marked.stands) h.among))
          (only h.marked.index h.marked.marked)

  -- the classes of a member, by its parts
  pub member_named : (class index name descriptor : ℕ) → entry_at pool index ≡ NameAndType name descriptor
      → is_some (class_name_at pool class) ≡ true → is_some (utf8_at pool name) ≡ true → is_some (utf8_at pool descriptor) ≡ true
      → option_to_list (class_name_at pool class) ++ flat_map classes_in (option_to_list (utf8_at pool descriptor))
      ≡ member_classes (reference_at pool class index)
  member_named class index name descriptor at c n d = rw at (by (class_name_at pool class) (utf8_at pool name) (utf8_at pool descriptor) c n d)
    where
      by : (o p q : Option Name) → is_some o ≡ true → is_some p ≡ true → is_some q ≡ true
          → option_to_list o ++ flat_map classes_in (option_to_list q) ≡ member_classes (reference o (name_and_descriptor p q))
      by None p q h i j = absurd cc
      by (Some a) None q h i j = absurd cc
      by (Some a) (Some b) None h i j = absurd cc
      by (Some a) (Some b) (Some e) h i j = ap (λ (names : List Name). a ∷ names) (append-nil (classes_in e))

  -- those of a method
  pub called_named : (class index name descriptor : ℕ) → entry_at pool index ≡ NameAndType name descriptor
      → is_some (class_name_at pool class) ≡ true → is_some (utf8_at pool name) ≡ true → is_some (utf8_at pool descriptor) ≡ true
      → flat_map classes_named (option_to_list (class_name_at pool class)) ++ flat_map classes_in (option_to_list (utf8_at pool descriptor))
      ≡ called_classes (reference_at pool class index)
  called_named class index name descriptor at c n d = rw at (by (class_name_at pool class) (utf8_at pool name) (utf8_at pool descriptor) c n d)
    where
      by : (o p q : Option Name) → is_some o ≡ true → is_some p ≡ true → is_some q ≡ true
          → flat_map classes_named (option_to_list o) ++ flat_map classes_in (option_to_list q) ≡ called_classes (reference o (name_and_descriptor p q))
      by None p q h i j = absurd cc
      by (Some a) None q h i j = absurd cc
      by (Some a) (Some b) None h i j = absurd cc
      by (Some a) (Some b) (Some e) h i j = ap (λ (names : List Name). names ++ (classes_in e ++ [])) (append-nil (classes_named a)) ∙ ap (λ (names : List Name). classes_named a ++ names) (append-nil (classes_in e))

  -- ---- lists of parts

  pub adds_alone : (a b : NeededTexts) (xs : List Name) → Adds pool a b xs → Adds pool a b (xs ++ [])
  adds_alone a b xs h = adds_same a b xs (xs ++ []) (sym (append-nil xs)) h

  -- the next part
  pub adds_step : {X : Type 0} (a b c : NeededTexts) (f : X → List Name) (xs : List X) (i : ℕ) (x d : X) → i < length xs → x ≡ get_or xs i d
      → Adds pool a b (flat_map f (take i xs)) → Adds pool b c (f x) → Adds pool a c (flat_map f (take (i + 1) xs))
  adds_step {X} a b c f xs i x d below is before one =
      let more : take (i + 1) xs ≡ take i xs ++ x ∷ [] = take_more xs i d below ∙ ap (λ (y : X). take i xs ++ y ∷ []) (sym is) in
      let list : flat_map f (take i xs) ++ f x ≡ flat_map f (take (i + 1) xs) =
      ap (λ (l : List Name). flat_map f (take i xs) ++ l) (sym (append-nil (f x))) ∙ sym (flat_map-append f (take i xs) (x ∷ [])) ∙ ap (flat_map f) (sym more) in
      adds_same a c _ _ list (adds_both a b c (flat_map f (take i xs)) (f x) before one)

  pub adds_all : {X : Type 0} (a b : NeededTexts) (f : X → List Name) (xs : List X) (i : ℕ) → length xs ≤ i
      → Adds pool a b (flat_map f (take i xs)) → Adds pool a b (flat_map f xs)
  adds_all a b f xs i all h = adds_same a b _ _ (ap (flat_map f) (take_all i xs all)) h

  -- ---- by marks of offsets

  module _ (code : List ℕ) where
    more_marked : (n : ℕ) (marks : List Bool) (m : Bool) → marked_classes pool code n (marks ++ m ∷ [])
        ≡ marked_classes pool code n marks ++ instruction_classes pool code (n + length marks) m
    more_marked n [] m = append-nil (instruction_classes pool code n m) ∙ ap (λ (k : ℕ). instruction_classes pool code k m) (omega arith)
    more_marked n (first ∷ marks) m =
        let place : suc n + length marks ≡ n + length (first ∷ marks) = omega arith in
        ap (λ (l : List Name). instruction_classes pool code n first ++ l) (more_marked (suc n) marks m ∙ ap (λ (k : ℕ). marked_classes pool code (suc n) marks ++ instruction_classes pool code k m) place)
        ∙ sym (append_assoc (instruction_classes pool code n first) (marked_classes pool code (suc n) marks) (instruction_classes pool code (n + length (first ∷ marks)) m))

    pub adds_marked : (a b c : NeededTexts) (marks : List Bool) (i : ℕ) (m d : Bool) → i < length marks → m ≡ get_or marks i d
        → Adds pool a b (marked_classes pool code 0 (take i marks)) → Adds pool b c (instruction_classes pool code i m)
        → Adds pool a c (marked_classes pool code 0 (take (i + 1) marks))
    adds_marked a b c marks i m d below is before one =
        let more : take (i + 1) marks ≡ take i marks ++ m ∷ [] = take_more marks i d below ∙ ap (λ (y : Bool). take i marks ++ y ∷ []) (sym is) in
        let place : 0 + length (take i marks) ≡ i = omega (arith, length-take-le i marks (omega (arith, below))) in
        let list : marked_classes pool code 0 (take i marks) ++ instruction_classes pool code i m ≡ marked_classes pool code 0 (take (i + 1) marks) =
        ap (λ (k : ℕ). marked_classes pool code 0 (take i marks) ++ instruction_classes pool code k m) (sym place)
        ∙ sym (more_marked 0 (take i marks) m) ∙ ap (marked_classes pool code 0) (sym more) in
        adds_same a c _ _ list (adds_both a b c _ _ before one)

    -- as the definition has it
    pub marked_from_starts : (n : ℕ) (marks : List Bool)
        → marked_classes pool code n marks ≡ flat_map (operand_classes pool) (filter_map (instr_at code) (marked_from n marks))
    marked_from_starts n [] = refl
    marked_from_starts n (false ∷ marks) = marked_from_starts (suc n) marks
    marked_from_starts n (true ∷ marks) = by (instr_at code n) (marked_from_starts (suc n) marks)
      where
        by : (o : Option Instr) → marked_classes pool code (suc n) marks ≡ flat_map (operand_classes pool) (filter_map (instr_at code) (marked_from (suc n) marks))
            → option_map_or (operand_classes pool) o [] ++ marked_classes pool code (suc n) marks
            ≡ flat_map (operand_classes pool) (cons_option o (filter_map (instr_at code) (marked_from (suc n) marks)))
        by None h = h
        by (Some i) h = ap (λ (l : List Name). operand_classes pool i ++ l) h

-- ---- the whole file

filtered : {A : Type 0} (h : A → Option Name) (xs : List A) → flat_map (λ x. option_to_list (h x)) xs ≡ filter_map h xs
filtered h [] = refl
filtered {A} h (x ∷ xs) = by (h x) (filtered h xs)
  where
    by : (o : Option Name) → flat_map (λ x. option_to_list (h x)) xs ≡ filter_map h xs
        → option_to_list o ++ flat_map (λ x. option_to_list (h x)) xs ≡ cons_option o (filter_map h xs)
    by None e = e
    by (Some y) e = ap (λ (l : List Name). y ∷ l) e

coded : {A B : Type 0} (g : B → List Name) (h : A → Option B) (xs : List A)
    → flat_map (λ x. option_map_or g (h x) []) xs ≡ flat_map g (filter_map h xs)
coded g h [] = refl
coded {A} {B} g h (x ∷ xs) = by (h x) (coded g h xs)
  where
    by : (o : Option B) → flat_map (λ x. option_map_or g (h x) []) xs ≡ flat_map g (filter_map h xs)
        → option_map_or g o [] ++ flat_map (λ x. option_map_or g (h x) []) xs ≡ flat_map g (cons_option o (filter_map h xs))
    by None e = e
    by (Some y) e = ap (λ (l : List Name). g y ++ l) e

-- no text is no descriptor
nothing_described : classes_in [] ≡ []
unfolding element_at scanned_at field_type method_type
nothing_described = refl

described : (pool : List Entry) (k : ℕ) → flat_map classes_in (option_to_list (utf8_at pool k)) ≡ classes_in (text_at pool k)
described pool k = by (entry_at pool k)
  where
    by : (e : Entry) → flat_map classes_in (option_to_list (utf8_of e)) ≡ classes_in (text_of e)
    by (Utf8 text) = append-nil (classes_in text)
    by (Integer bits) = sym nothing_described
    by (Float bits) = sym nothing_described
    by (Long bits) = sym nothing_described
    by (Double bits) = sym nothing_described
    by (Class k) = sym nothing_described
    by (String k) = sym nothing_described
    by (Field j k) = sym nothing_described
    by (Method j k) = sym nothing_described
    by (InterfaceMethod j k) = sym nothing_described
    by (NameAndType j k) = sym nothing_described
    by Unusable = sym nothing_described

same_classes : {X : Type 0} (pool : List Entry) (d : X → ℕ) (xs : List X)
    → flat_map (λ x. flat_map classes_in (option_to_list (utf8_at pool (d x)))) xs ≡ flat_map classes_in (map (λ x. text_at pool (d x)) xs)
same_classes pool d [] = refl
same_classes pool d (x ∷ xs) = ap (λ (l : List Name). l ++ flat_map (λ y. flat_map classes_in (option_to_list (utf8_at pool (d y)))) xs) (described pool (d x)) ∙ ap (λ (l : List Name). classes_in (text_at pool (d x)) ++ l) (same_classes pool d xs)

pub needed_by_parts : (file : FileTree)
    → classes_at file.pool file.super_class
    ++ (flat_map (classes_at file.pool) file.interfaces
    ++ (flat_map (field_classes file.pool) file.fields
    ++ (flat_map (declared_classes file.pool) file.methods
    ++ flat_map (method_classes file.pool) file.methods)))
    ≡ needed_classes file
unfolding needed_classes
needed_by_parts file =
    let fields = flat_map classes_in (map (λ (f : FieldTree). text_at file.pool f.descriptor) file.fields) in
    let methods = flat_map classes_in (map (λ (m : MethodTree). text_at file.pool m.descriptor) file.methods) in
    let codes = flat_map (code_classes file.pool) (codes_of file) in
    let with_codes : flat_map (declared_classes file.pool) file.methods ++ flat_map (method_classes file.pool) file.methods ≡ methods ++ codes =
    ap (λ (l : List Name). l ++ flat_map (method_classes file.pool) file.methods) (same_classes file.pool (λ (m : MethodTree). m.descriptor) file.methods)
    ∙ ap (λ (l : List Name). methods ++ l) (coded (code_classes file.pool) (λ (m : MethodTree). code_in m.parts) file.methods) in
    let declared : flat_map classes_in (declared_descriptors file) ≡ fields ++ methods = flat_map-append classes_in (map (λ (f : FieldTree). text_at file.pool f.descriptor) file.fields) (map (λ (m : MethodTree). text_at file.pool m.descriptor) file.methods) in
    let behind : flat_map (field_classes file.pool) file.fields ++ (flat_map (declared_classes file.pool) file.methods ++ flat_map (method_classes file.pool) file.methods) ≡ flat_map classes_in (declared_descriptors file) ++ codes =
    ap (λ (l : List Name). l ++ (flat_map (declared_classes file.pool) file.methods ++ flat_map (method_classes file.pool) file.methods)) (same_classes file.pool (λ (f : FieldTree). f.descriptor) file.fields)
    ∙ ap (λ (l : List Name). fields ++ l) with_codes
    ∙ sym (append_assoc fields methods codes)
    ∙ ap (λ (l : List Name). l ++ codes) (sym declared) in
    ap (λ (l : List Name). option_to_list (super_name_of file) ++ (l ++ (flat_map (field_classes file.pool) file.fields ++ (flat_map (declared_classes file.pool) file.methods ++ flat_map (method_classes file.pool) file.methods)))) (filtered (class_name_at file.pool) file.interfaces)
    ∙ ap (λ (l : List Name). option_to_list (super_name_of file) ++ (interface_names file ++ l)) behind

pub code_by_parts : (pool : List Entry) (c : CodeTree) (marks : List Bool) → marks ≡ starts c.code
    → marked_classes pool c.code 0 marks ++ flat_map (caught_classes pool) c.exceptions ≡ code_classes pool c
unfolding code_classes
code_by_parts pool c marks are =
    ap (λ (l : List Name). l ++ flat_map (caught_classes pool) c.exceptions)
    (marked_from_starts pool c.code 0 marks ∙ ap (λ (ms : List Bool). flat_map (operand_classes pool) (filter_map (instr_at c.code) (marked_from 0 ms))) are)
