-- New frames: with arguments of the declared types they are ready. And what selection finds.
use Rattle.std.proofs.Common.{◌≡◌, ℕ, zero, suc, ◌-◌, List, [], ◌∷◌, ◌++◌, length, Bool, true, false, not, Option, Some, None, refl, sym, ap, ◌∙◌, subst, ⊎_elim}
use Rattle.std.specs.Prelude.{slice_get, replicate, codes}
use Rattle.std.specs.Option.{option_map_or, option_or}
use Rattle.std.specs.List.{AllByRecursion}
use Rattle.std.proofs.lemmas.Bool.{false≢true, and_parts, and_from, or_cases, or_parts, or_right, cond_both, not_from_true, false_from_ne_true}
use Rattle.model.specs.declared.value.Value.{Value}
use Rattle.model.specs.declared.value.Value.TheVariants as value
use Rattle.model.specs.Names.{Name, Member, name_eq, main_of, initialiser_of, initialiser_name, thread_run, java_lang_string}
use Rattle.model.specs.Tree.{MethodTree}
use Rattle.model.specs.AccessFlags.{is_static_method, is_instance_method, is_private_method}
use Rattle.model.specs.DescriptorScan.{method_type, parameters_at, field_at, element_at}
use Rattle.model.specs.BuiltIn.{built_in_classes}
use Rattle.model.specs.Classes.{Program, Body, body_of, classes_of, superclass_of, is_within, is_subclass, lineage_of, lineage}
use Rattle.model.specs.Lookup.{method_of, in_class, where_so, first_found, method_in_class, is_selectable, select}
use Rattle.model.specs.ReferenceTypes.{ReferenceType, ClassType, ReferenceArray}
use Rattle.model.specs.Types.{VerificationType, Unusable, is_value_below, is_object_below}
use Rattle.model.specs.Operands.{values}
use Rattle.model.specs.Frames.{locals_with, frame_with}
use Rattle.model.specs.Typing.{HasTyping, entry_type, is_static_of, argument_types, has_no_receiver}
use Rattle.model.specs.WellTyped.{has_type, are_typed, Ready}
use Rattle.run_laws.specs.laws.Steps.{Rooted}
use Rattle.run_laws.proofs.laws.Lists.{Pairwise, pairs_of, of_pairs, pair_append, pair_replicate, pair_length, every_weaken}
use Rattle.run_laws.proofs.laws.Classes.{subclass_self}
use Rattle.run_laws.proofs.laws.Order.{assignable_self}
use Rattle.run_laws.proofs.typed_runs.Frames.{arrive}

module _ (files : Program) (rooted : Rooted files) (os : List ReferenceType) where
  entry_locals : (max : ℕ) (ts : List VerificationType) (vs : List Value) → are_typed files os ts vs ≡ true
      → are_typed files os (ts ++ replicate (max - length ts) Unusable) (locals_with value.Unset max vs) ≡ true
  entry_locals max ts vs h =
      let p = pairs_of (has_type files os) ts vs h in
      let n = pair_length (has_type files os) ts vs p in
      of_pairs (has_type files os) _ _
      (pair_append (has_type files os) ts vs _ _ p
      (subst (λ k. Pairwise (has_type files os) (replicate (max - length ts) Unusable) (replicate (max - k) value.Unset)) n
      (pair_replicate (has_type files os) (max - length ts) Unusable value.Unset refl)))

  -- a frame that is opened with arguments of the declared types
  pub opened_ready : (method : Member) (body : Body) (args : List Value) (entered : Option ℕ) → body_of files method ≡ Some body
      → HasTyping files method body → are_typed files os (argument_types files method) args ≡ true
      → Ready files os (frame_with values method args entered body)
  opened_ready method body args entered is_body typed h =
      let begins = typed.holds.begins in
      arrive files rooted os (frame_with values method args entered body)
      (record { body = body; is_body = is_body; typing = typed.typing; holds = typed.holds; type = begins.there; typed = begins.typed })
      0 (entry_type files method body) (record { locals = locals_with value.Unset body.code.max_locals args; stack = [] }) begins
      (record { locals = entry_locals body.code.max_locals (argument_types files method) args h; stack = refl })

-- ---- selection

-- the method that a receiver of a class has
pub record Selected (files : Program) (class : Name) (m found : Member) : Type 0 where
  pub above : is_subclass files class found.class ≡ true
  pub is : found ≡ in_class found.class m
  pub selectable : option_map_or is_selectable (method_of files found) false ≡ true

-- what is found was found in one of the classes
found_in : (P : Name → Type 0) (look : Name → Option Member) (names : List Name) (x : Member) → AllByRecursion P names
    → first_found look names ≡ Some x → (c : Name) × (P c × (look c ≡ Some x))
found_in P look [] x h e = absurd cc
found_in P look (c ∷ names) x h e = by (λ r. found_in P look names x h.1 r) (look c) refl e
  where
    by : (first_found look names ≡ Some x → (d : Name) × (P d × (look d ≡ Some x))) → (o : Option Member) → look c ≡ o
        → option_or o (first_found look names) ≡ Some x → (d : Name) × (P d × (look d ≡ Some x))
    by later None q r = later r
    by later (Some y) q r = (c, (h.0, q ∙ r))

declared_as : (b : Bool) (m x : Member) → where_so b m ≡ Some x → (b ≡ true) × (x ≡ m)
declared_as true m x e = (refl, cc)
declared_as false m x e = absurd cc

module _ (files : Program) where
  in_lineage : (n : ℕ) (c : Name) → AllByRecursion (λ d. is_within files n c d ≡ true) (lineage_of files n c)
  in_lineage zero c = tt
  in_lineage (suc n) c = (subclass_self files (suc n) c, above (λ s. in_lineage n s) (superclass_of files c) refl)
    where
      above : ((s : Name) → AllByRecursion (λ d. is_within files n s d ≡ true) (lineage_of files n s)) → (o : Option Name)
          → superclass_of files c ≡ o → AllByRecursion (λ d. is_within files (suc n) c d
          ≡ true) (option_map_or (λ s. lineage_of files n s) o [])
      above rest None e = tt
      above rest (Some s) e =
          every_weaken (λ d. is_within files n s d ≡ true) (λ d. is_within files (suc n) c d ≡ true) (lineage_of files n s)
          (λ d q. or_right (name_eq c d) (option_map_or (λ s. is_within files n s d) (superclass_of files c) false) (subst (λ o. option_map_or (λ s. is_within files n s d) o false ≡ true) (sym e) q)) (rest s)

  pub selected : (class : Name) (m found : Member) → select files class m ≡ Some found → Selected files class m found
  selected class m found e =
      let at = found_in (λ d. is_subclass files class d ≡ true) (method_in_class files is_selectable m) (lineage files class) found (in_lineage (length (classes_of files)) class) e in
      let as_said = declared_as (option_map_or is_selectable (method_of files (in_class at.0 m)) false) (in_class at.0 m) found at.1.1 in
      let named : found.class ≡ at.0 = ap (λ (x : Member). x.class) as_said.1 in
      record {
        above = subst (λ c. is_subclass files class c ≡ true) (sym named) at.1.0;
        is = as_said.1 ∙ ap (λ c. in_class c m) (sym named);
        selectable = subst (λ x. option_map_or is_selectable (method_of files x) false ≡ true) (sym as_said.1) as_said.0;
      }

  -- ---- the methods that the machine calls by itself

  not_static : (o : Option MethodTree) → option_map_or is_selectable o false ≡ true → option_map_or is_static_method o false ≡ false
  not_static None h = refl
  not_static (Some m) h =
      false_from_ne_true (is_static_method m) (λ q. false≢true (sym (not_from_true (is_static_method m) q) ∙ (and_parts (is_instance_method m) (not (is_private_method m)) h).0))

  module _ (os : List ReferenceType) where
    -- run of a Thread object
    pub run_arguments : (class : Name) (v : Value) → option_map_or is_selectable (method_of files (in_class class thread_run)) false ≡ true
        → is_value_below files os (ClassType class) v ≡ true
        → are_typed files os (argument_types files (in_class class thread_run)) (v ∷ []) ≡ true
    unfolding method_type parameters_at field_at element_at
    run_arguments class v s h =
        cond_both (has_no_receiver files (in_class class thread_run)) _ _ (λ ts. are_typed files os ts (v ∷ []) ≡ true)
        (λ q. ⊎_elim (λ e. absurd (false≢true (sym (not_static (method_of files (in_class class thread_run)) s) ∙ e))) (λ e. absurd (false≢true e)) (or_cases (is_static_of files (in_class class thread_run)) (name_eq (codes "run") initialiser_name) q))
        (λ q. and_from _ _ h refl)

    -- main
    pub main_arguments : (class : Name) (r : ℕ) → is_static_of files (main_of class) ≡ true
        → slice_get os r ≡ Some (ReferenceArray (ClassType java_lang_string))
        → are_typed files os (argument_types files (main_of class)) (value.Reference r ∷ []) ≡ true
    unfolding method_type parameters_at field_at element_at built_in_classes
    main_arguments class r s there =
        cond_both (has_no_receiver files (main_of class)) _ _ (λ ts. are_typed files os ts (value.Reference r ∷ []) ≡ true)
        (λ q. and_from _ _ (subst (λ o. is_object_below files (ReferenceArray (ClassType java_lang_string)) o ≡ true) (sym there) (assignable_self files (ReferenceArray (ClassType java_lang_string)))) refl)
        (λ q. absurd (false≢true (sym (or_parts _ _ q).0 ∙ s)))

    -- the initialiser of a class
    pub initialiser_arguments : (class : Name) → are_typed files os (argument_types files (initialiser_of class)) [] ≡ true
    unfolding method_type parameters_at field_at element_at
    initialiser_arguments class =
        cond_both (has_no_receiver files (initialiser_of class)) _ _ (λ ts. are_typed files os ts [] ≡ true) (λ q. refl) (λ q. absurd (false≢true (sym (or_parts (is_static_of files (initialiser_of class)) (name_eq initialiser_name initialiser_name) q).1)))
