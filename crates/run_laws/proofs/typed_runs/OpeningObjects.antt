-- The objects of the opening state, by their references: they are there in each world.
use Rattle.std.proofs.Common.{◌≡◌, ℕ, suc, ◌+◌, List, [], ◌∷◌, ◌++◌, map, length, Bool, true, not, Option, Some, None, if◌then◌else◌, refl, sym, ◌∙◌, subst, ⊎_elim, arith}
use Rattle.std.specs.Prelude.{slice_get}
use Rattle.std.specs.List.{list_any, position_or_len}
use Rattle.std.proofs.lemmas.Bool.{false≢true, or_cases, not_from_true, cond_both}
use Rattle.std.proofs.lemmas.Option.{same_Some}
use Rattle.model.specs.declared.value.Value.{Value}
use Rattle.model.specs.Names.{Name, name_eq, Member, member_eq, system_out, system_err, java_lang_class, java_lang_string, java_io_print_stream}
use Rattle.model.specs.Tree.{FileTree}
use Rattle.model.specs.Classes.{Program, classes_of, is_named}
use Rattle.model.specs.ReferenceTypes.{ClassType, ReferenceArray}
use Rattle.model.specs.StringConstants.{string_texts}
use Rattle.model.specs.Operands.{values}
use Rattle.model.specs.State.{ObjectOf, Instance, type_of, types_of, Characters}
use Rattle.model.specs.Opening.{print_stream_reference, arguments_reference, class_reference, string_reference, error_stream_reference, opening_heap}
use Rattle.model.specs.Meanings.{stream_of}
use Rattle.model.specs.Texts.{decoded}
use Rattle.run_laws.proofs.laws.Lists.{get_map, get_front}

-- where an element passes a test, there is one at the position of the first
position_there : {A : Type 0} (p : A → Bool) (xs : List A) → list_any p xs ≡ true → (x : A) × (slice_get xs (position_or_len p xs) ≡ Some x)
position_there p [] h = absurd (false≢true h)
position_there p (x ∷ xs) h =
    cond_both (not (p x)) _ _ (λ k. (y : _) × (slice_get (x ∷ xs) k ≡ Some y))
    (λ e. let later = position_there p xs (rest e) in let next : suc (position_or_len p xs) ≡ 1 + position_or_len p xs = omega arith in (later.0, subst (λ k. slice_get (x ∷ xs) k ≡ Some later.0) next later.1))
    (λ e. (x, refl))
  where
    rest : not (p x) ≡ true → list_any p xs ≡ true
    rest e = ⊎_elim (λ q. absurd (false≢true (sym (not_from_true (p x) q) ∙ e))) (λ q. q) (or_cases (p x) (list_any p xs) h)

-- an object of a list of objects, and what stands behind that list
within : {A : Type 0} (f : A → ObjectOf Value) (xs : List A) (others : List (ObjectOf Value)) (k : ℕ) (x : A) → slice_get xs k ≡ Some x
    → slice_get (types_of (map f xs ++ others)) k ≡ Some (type_of (f x))
within f xs others k x e = get_map type_of (map f xs ++ others) k (f x) (get_front (map f xs) others k (f x) (get_map f xs k x e))

behind : {A : Type 0} (f : A → ObjectOf Value) (xs : List A) (others : List (ObjectOf Value)) (k : ℕ)
    → slice_get (types_of (map f xs ++ others)) (length xs + k) ≡ slice_get (types_of others) k
behind f [] others k = let e : k ≡ 0 + k = omega arith in subst (λ n. slice_get (types_of others) n ≡ slice_get (types_of others) k) e refl
behind f (x ∷ xs) others k =
    let e : suc (length xs + k) ≡ suc (length xs) + k = omega arith in
    subst (λ n. slice_get (types_of (f x ∷ (map f xs ++ others))) n ≡ slice_get (types_of others) k) e (behind f xs others k)

module _ (files : Program) where
  abbrev class_object : FileTree → ObjectOf Value
  class_object file = Instance java_lang_class []

  abbrev string_object : List ℕ → ObjectOf Value
  string_object bytes = Characters (decoded bytes)

  abbrev errors : List (ObjectOf Value)
  errors = Instance java_io_print_stream [] ∷ []

  pub print_stream_there : slice_get (types_of (opening_heap values files)) print_stream_reference ≡ Some (ClassType java_io_print_stream)
  unfolding opening_heap
  print_stream_there = refl

  pub arguments_there : slice_get (types_of (opening_heap values files)) arguments_reference
      ≡ Some (ReferenceArray (ClassType java_lang_string))
  unfolding opening_heap
  arguments_there = refl

  -- the Class object of a class that is there
  pub class_there : (name : Name) → list_any (is_named name) (classes_of files) ≡ true
      → slice_get (types_of (opening_heap values files)) (class_reference files name) ≡ Some (ClassType java_lang_class)
  unfolding opening_heap
  class_there name h =
      let n = position_or_len (is_named name) (classes_of files) in
      let at = position_there (is_named name) (classes_of files) h in
      let e : suc (suc (suc n)) ≡ 3 + n = omega arith in
      subst (λ k. slice_get (types_of (opening_heap values files)) k ≡ Some (ClassType java_lang_class)) e
      (within class_object (classes_of files) (map string_object (string_texts files) ++ errors) n at.0 at.1)

  -- the String object of a text that a constant has
  pub string_there : (text : List ℕ) → list_any (name_eq text) (string_texts files) ≡ true
      → slice_get (types_of (opening_heap values files)) (string_reference files text) ≡ Some (ClassType java_lang_string)
  unfolding opening_heap
  string_there text h =
      let n = length (classes_of files) in
      let m = position_or_len (name_eq text) (string_texts files) in
      let at = position_there (name_eq text) (string_texts files) h in
      let e : suc (suc (suc (n + m))) ≡ 3 + n + m = omega arith in
      subst (λ k. slice_get (types_of (opening_heap values files)) k ≡ Some (ClassType java_lang_string)) e
      (behind class_object (classes_of files) (map string_object (string_texts files) ++ errors) m ∙ within string_object (string_texts files) errors m at.0 at.1)

  -- the PrintStream of System.err stands behind the Strings
  pub error_stream_there : slice_get (types_of (opening_heap values files)) (error_stream_reference files) ≡ Some (ClassType java_io_print_stream)
  unfolding opening_heap
  error_stream_there =
      let n = length (classes_of files) in
      let m = length (string_texts files) in
      let e : suc (suc (suc (n + (m + 0)))) ≡ 3 + n + m = omega arith in
      subst (λ k. slice_get (types_of (opening_heap values files)) k ≡ Some (ClassType java_io_print_stream)) e
      (behind class_object (classes_of files) (map string_object (string_texts files) ++ errors) (m + 0) ∙ behind string_object (string_texts files) errors 0)

  abbrev IsStream : ℕ → Type 0
  IsStream k = slice_get (types_of (opening_heap values files)) k ≡ Some (ClassType java_io_print_stream)

  abbrev Streams : ℕ → Option ℕ → Type 0
  Streams stream o = o ≡ Some stream → IsStream stream

  -- the PrintStream of a field of System
  pub stream_there : (named : Member) (stream : ℕ) → stream_of files named ≡ Some stream
      → slice_get (types_of (opening_heap values files)) stream ≡ Some (ClassType java_io_print_stream)
  stream_there named stream =
      cond_both (member_eq named system_out) (Some print_stream_reference) (if member_eq named system_err then Some (error_stream_reference files) else None) (Streams stream)
      (λ q e. subst IsStream (same_Some print_stream_reference stream e) print_stream_there)
      (λ q. cond_both (member_eq named system_err) (Some (error_stream_reference files)) None (Streams stream)
      (λ r e. subst IsStream (same_Some (error_stream_reference files) stream e) error_stream_there)
      (λ r e. absurd cc))
