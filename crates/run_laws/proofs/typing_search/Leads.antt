-- What an instruction leads to is lower at lower types.
use Rattle.std.proofs.Common.{◌≡◌, ℕ, List, [], ◌∷◌, map, true, false, cond, Option, Some, refl, sym, subst, ⊎_elim, ◌∙◌}
use Rattle.std.specs.Prelude.{slice_index_or}
use Rattle.std.proofs.lemmas.Bool.{false≢true, cond_both}
use Rattle.model.specs.declared.instr.ArrayKind.TheVariants as array_kind
use Rattle.model.specs.declared.value.Value.{Value}
use Rattle.model.specs.Names.{Name, name_eq, Member, java_lang_object}
use Rattle.model.specs.Classes.{Program, is_subclass, is_interface}
use Rattle.model.specs.ReferenceTypes.{ReferenceType, ClassType, PrimitiveArray, ReferenceArray, is_assignable}
use Rattle.model.specs.Types.{VerificationType, IntType, NullType, OfType, Uninitialised, UninitialisedThis, Want, AnInt, AReference, AnArray, type_meets, is_of}
use Rattle.model.specs.Types as types
use Rattle.model.specs.DescribedTypes.{made_type, component_type}
use Rattle.model.specs.InitialisedTypes.{forgotten, initialised}
use Rattle.model.specs.Operands.{Slots, values, over_types, Wants, is_ready, operands, under}
use Rattle.model.specs.Rows.{Row, after_row}
use Rattle.model.specs.TypeOrder.{is_stack_below, is_local_below}
use Rattle.model.specs.Sites.{MeaningOf, Site, wants_of, to_next, nowhere}
use Rattle.model.specs.Objects.{any_object, new_leads}
use Rattle.model.specs.Arrays.{its_component, load_of}
use Rattle.model.specs.Calls.{parameter_count, constructed_leads}
use Rattle.model.specs.Meanings.{local_meaning, meaning_of}
use Rattle.run_laws.proofs.laws.Lists.{Pairwise, pair_get, pair_append}
use Rattle.run_laws.proofs.laws.Rows.{ready_popped}
use Rattle.run_laws.proofs.laws.Classes.{subclass_trans}
use Rattle.run_laws.proofs.laws.Classes as classes
use Rattle.run_laws.specs.typing_search.Orders.{IsOrdered}
use Rattle.run_laws.proofs.typing_search.Forms.{Leading, OfLeads, meaning_each}
use Rattle.run_laws.proofs.typing_search.Orders.{null_same, stack_self, pair_self}
use Rattle.run_laws.proofs.typing_search.Joins.{sub_self, super_above, up_one}
use Rattle.run_laws.proofs.typing_search.Rows.{SlotsBelow, operands_down, under_down, after_row_down}
use Rattle.run_laws.proofs.typing_search.Uninitialised.{pair_maps, forgotten_local, initialised_down, initialised_local}

-- offsets with the types of slots, place by place
abbrev pub LeadsBelow : Program → List (ℕ × Slots VerificationType) → List (ℕ × Slots VerificationType) → Type 0
LeadsBelow files [] [] = Unit {0}
LeadsBelow files [] (y ∷ ys) = ⊥
LeadsBelow files (x ∷ xs) [] = ⊥
LeadsBelow files (x ∷ xs) (y ∷ ys) = (x.0 ≡ y.0) × SlotsBelow files x.1 y.1 × LeadsBelow files xs ys

-- where an instruction leads goes down the order, where it finds what it wants
abbrev pub LeadsDown : Program → Wants → Leading → Type 0
LeadsDown files w leads =
    (max : ℕ) (a b : Slots VerificationType) → SlotsBelow files a b → is_ready (type_meets files) over_types w max b ≡ true
    → LeadsBelow files (leads a (operands over_types w a) (under w a)) (leads b (operands over_types w b) (under w b))

abbrev pub IsDown : Program → MeaningOf Value → Type 0
IsDown files meaning = LeadsDown files meaning.wants meaning.leads

-- the same of what an instruction means, if it means anything
abbrev pub IsEachDown : Program → Option (MeaningOf Value) → Type 0
IsEachDown files o = OfLeads (LeadsDown files) o

module _ (files : Program) (ordered : IsOrdered files) where
  -- ---- the forms of where instructions lead

  -- the same types pushed
  next_down : (next : ℕ) (pushed : List VerificationType) (w : Wants) → LeadsDown files w (to_next next pushed)
  next_down next pushed w max a b f e = (
    refl,
    record {
      locals = f.locals;
      stack = pair_append (is_stack_below files) pushed pushed _ _ (pair_self (is_stack_below files) (stack_self files) pushed) (under_down files ordered.rooted w a b f);
    },
    tt,
  )

  nowhere_down : (w : Wants) → LeadsDown files w nowhere
  nowhere_down w max a b f e = tt

  row_down : (row : Row) → IsDown files (local_meaning values row)
  row_down row max a b f e = each (row.to ∷ row.others)
    where
      each : (tos : List ℕ) → LeadsBelow files (map (λ to. (to, after_row over_types row a)) tos) (map (λ to. (to, after_row over_types row b)) tos)
      each [] = tt
      each (to ∷ tos) = (refl, after_row_down files ordered.rooted row max a b f e, each tos)

  new_down : (site : Site) (class : Name) (w : Wants) → LeadsDown files w (new_leads site class)
  new_down site class w max a b f e = (
    refl,
    record {
      locals = pair_maps (is_local_below files) (is_local_below files) (forgotten site.offset) (forgotten site.offset) (forgotten_local files site.offset) a.locals b.locals f.locals;
      stack = (stack_self files (Uninitialised site.offset class), under_down files ordered.rooted w a b f);
    },
    tt,
  )

  constructed_down : (site : Site) (method : Member) (w : Wants) → LeadsDown files w (constructed_leads site method)
  constructed_down site method w max a b f e =
      let ops = operands_down files ordered.rooted a b f w max e in
      let of = slice_index_or (operands over_types w a) (parameter_count method) NullType in
      let up = slice_index_or (operands over_types w b) (parameter_count method) NullType in
      let q = pair_get (is_stack_below files) _ _ NullType NullType ops refl (parameter_count method) in (
        refl,
        record {
          locals = pair_maps (is_local_below files) (is_local_below files) (initialised of) (initialised up) (initialised_local files of up q) a.locals b.locals f.locals;
          stack = pair_maps (is_stack_below files) (is_stack_below files) (initialised of) (initialised up) (initialised_down files of up q) _ _ (under_down files ordered.rooted w a b f);
        },
        tt,
      )

  -- ---- aaload

  made_class : (c d : Name) → is_subclass files c d ≡ true → is_subclass files (cond (is_interface files c) java_lang_object c) (cond (is_interface files d) java_lang_object d) ≡ true
  made_class c d p =
      cond_both (is_interface files d) java_lang_object d (λ y. is_subclass files (cond (is_interface files c) java_lang_object c) y ≡ true) (λ e. to_object e) (λ e. to_class e)
    where
      to_object : is_interface files d ≡ true → is_subclass files (cond (is_interface files c) java_lang_object c) java_lang_object ≡ true
      to_object e =
          cond_both (is_interface files c) java_lang_object c (λ x. is_subclass files x java_lang_object ≡ true) (λ i. sub_self files ordered.rooted java_lang_object) (λ i. subclass_trans files ordered.rooted c d java_lang_object p (super_above files ordered.rooted d java_lang_object (ordered.interfaces d e)))

      to_class : is_interface files d ≡ false → is_subclass files (cond (is_interface files c) java_lang_object c) d ≡ true
      to_class e =
          cond_both (is_interface files c) java_lang_object c (λ x. is_subclass files x d ≡ true) (λ i. ⊎_elim (λ same. absurd (false≢true (sym e ∙ subst (λ x. is_interface files x ≡ true) same i))) (λ q. q) (up_one files ordered.rooted _ c d (Some java_lang_object) (ordered.interfaces c i) p)) (λ i. p)

  made_object : (d : Name) → name_eq d java_lang_object ≡ true → name_eq (cond (is_interface files d) java_lang_object d) java_lang_object ≡ true
  made_object d p = cond_both (is_interface files d) java_lang_object d (λ x. name_eq x java_lang_object ≡ true) (λ e. classes.name_self java_lang_object) (λ e. p)

  made_down : (s t : ReferenceType) → is_assignable files s t ≡ true → is_assignable files (made_type files s) (made_type files t) ≡ true
  made_down (ClassType c) (ClassType d) p = made_class c d p
  made_down (ClassType c) (PrimitiveArray b) p = absurd (false≢true p)
  made_down (ClassType c) (ReferenceArray b) p = absurd (false≢true p)
  made_down (PrimitiveArray a) (ClassType d) p = made_object d p
  made_down (PrimitiveArray a) (PrimitiveArray b) p = p
  made_down (PrimitiveArray a) (ReferenceArray b) p = absurd (false≢true p)
  made_down (ReferenceArray a) (ClassType d) p = made_object d p
  made_down (ReferenceArray a) (PrimitiveArray b) p = absurd (false≢true p)
  made_down (ReferenceArray a) (ReferenceArray b) p = made_down a b p

  array_component : (s : VerificationType) (k : ReferenceType) → is_stack_below files s (OfType (ReferenceArray k)) ≡ true → is_stack_below files (component_type files s) (OfType (made_type files k)) ≡ true
  array_component types.Unusable k q = absurd (false≢true q)
  array_component IntType k q = absurd (false≢true q)
  array_component NullType k q = refl
  array_component (OfType (ClassType c)) k q = absurd (false≢true q)
  array_component (OfType (PrimitiveArray a)) k q = absurd (false≢true q)
  array_component (OfType (ReferenceArray j)) k q = made_down j k q
  array_component (Uninitialised at c) k q = absurd (false≢true q)
  array_component (UninitialisedThis c) k q = absurd (false≢true q)

  component_down : (s t : VerificationType) → is_stack_below files s t ≡ true → is_of files (ReferenceArray any_object) t ≡ true → is_stack_below files (component_type files s) (component_type files t) ≡ true
  component_down s types.Unusable q r = absurd (false≢true r)
  component_down s IntType q r = absurd (false≢true r)
  component_down s NullType q r = subst (λ x. is_stack_below files (component_type files x) NullType ≡ true) (sym (null_same s q)) refl
  component_down s (OfType (ClassType c)) q r = absurd (false≢true r)
  component_down s (OfType (PrimitiveArray a)) q r = absurd (false≢true r)
  component_down s (OfType (ReferenceArray k)) q r = array_component s k q
  component_down s (Uninitialised at c) q r = absurd (false≢true r)
  component_down s (UninitialisedThis c) q r = absurd (false≢true r)

  second_component : (ss ts : List VerificationType) → Pairwise (is_stack_below files) ss ts → Pairwise (type_meets files) (AnInt ∷ AReference (ReferenceArray any_object) ∷ []) ts → is_stack_below files (its_component files ss) (its_component files ts) ≡ true
  second_component ss [] q r = absurd r
  second_component ss (x ∷ []) q r = absurd r.1
  second_component ss (x ∷ (y ∷ ts)) q r =
      component_down (slice_index_or ss 1 NullType) y (pair_get (is_stack_below files) ss (x ∷ (y ∷ ts)) NullType NullType q refl 1) r.1.0

  -- null of null; else the component type, in which an interface is Object
  element_down : (site : Site) → IsDown files (load_of values files site array_kind.Reference)
  element_down site max a b f e =
      let w = wants_of (AnInt ∷ AReference (ReferenceArray any_object) ∷ []) 1 in
      let q = second_component (operands over_types w a) (operands over_types w b) (operands_down files ordered.rooted a b f w max e) (ready_popped (type_meets files) over_types w max b e) in
      (refl, record { locals = f.locals; stack = (q, under_down files ordered.rooted w a b f) }, tt)

  pub meaning_down : (site : Site) → IsEachDown files (meaning_of values files site)
  meaning_down site = meaning_each files (LeadsDown files) next_down nowhere_down row_down new_down constructed_down element_down site
