-- What is told of instructions that want their operands alone.
use Rattle.std.proofs.Common.{◌≡◌, ℕ, List, map, Option, Some, None, Bool, true, false, Result, Ok, Err, refl, sym, ap, ◌∙◌, subst}
use Rattle.std.specs.Prelude.{IfOk, IfErr}
use Rattle.std.specs.Option.{is_none}
use Rattle.model.specs.declared.value.Value.{Value}
use Rattle.model.specs.Names.{Name}
use Rattle.model.specs.Tree.{Entry, Utf8, Integer, Float, Long, Double, Class, String, Field, Method, InterfaceMethod, NameAndType, Unusable, FileTree}
use Rattle.model.specs.Pool.{class_name_of, string_of}
use Rattle.model.specs.Names.{java_lang_class, java_lang_string}
use Rattle.model.specs.Classes.{Program, class_of}
use Rattle.model.specs.ReferenceTypes as reference
use Rattle.model.specs.Types as model
use Rattle.model.specs.Operands.{Slots, values}
use Rattle.model.specs.Opening.{class_reference, string_reference}
use Rattle.model.specs.Sites.{MeaningOf, Site, wants_of}
use Rattle.model.specs.Objects.{object_meaning, class_constant, constant_meaning}
use Rattle.model.specs.Resolution.{is_missing}
use Rattle.instruction_types.specs.declared.operand_types.wants.Want.{Want}
use Rattle.instruction_types.specs.operand_types.View.{want_in, wants_in}
use Rattle.types.specs.declared.reference_type.ReferenceType.{ReferenceType}
use Rattle.types.specs.declared.verification_type.VerificationType.TheVariants as type
use Rattle.instruction_types.specs.declared.leads.Leads.{Leads}
use Rattle.instruction_types.specs.declared.leads.Leads.TheVariants as leads
use Rattle.instruction_types.specs.declared.meaning.Meaning.{Meaning}
use Rattle.instruction_types.specs.declared.meaning.NoMeaning.{NoMeaning}
use Rattle.instruction_types.specs.declared.meaning.NoMeaning.TheVariants as reasons
use Rattle.instruction_types.specs.Leads.{leads_in}
use Rattle.instruction_types.specs.Means.{Means}
use Rattle.instruction_types.specs.Answers.{Answers}

-- the type that is pushed, where it is known
pub pushed : (r : Result Meaning NoMeaning) (s t : ReferenceType) → s ≡ t → IfOk r (λ m. m.leads ≡ leads.Pushes (type.Object s))
    → IfOk r (λ m. m.leads ≡ leads.Pushes (type.Object t))
pushed r s t e h = subst (λ (u : ReferenceType). IfOk r (λ m. m.leads ≡ leads.Pushes (type.Object u))) e h

-- what is told of each site is told of one
pub narrowed : (files : Program) (site : Site) (r : Result Meaning NoMeaning) (M : Site → MeaningOf Value)
    → IfOk r (λ m. (files : Program) (site : Site) → Means files site m (M site)) → IfOk r (λ m. Means files site m (M site))
narrowed files site (Ok m) M h = h files site
narrowed files site (Err e) M h = tt

-- and what is told of each type
pub narrowed_type : (files : Program) (site : Site) (t : reference.ReferenceType) (r : Result Meaning NoMeaning)
    (M : Program → Site → reference.ReferenceType → MeaningOf Value)
    → IfOk r (λ m. (files : Program) (site : Site) (t : reference.ReferenceType) → Means files site m (M files site t))
    → IfOk r (λ m. Means files site m (M files site t))
narrowed_type files site t (Ok m) M h = h files site t
narrowed_type files site t (Err e) M h = tt

-- and what is told of each number
pub narrowed_number : (files : Program) (site : Site) (n : ℕ) (r : Result Meaning NoMeaning) (M : Site → ℕ → MeaningOf Value)
    → IfOk r (λ m. (files : Program) (site : Site) (n : ℕ) → Means files site m (M site n)) → IfOk r (λ m. Means files site m (M site n))
narrowed_number files site n (Ok m) M h = h files site n
narrowed_number files site n (Err e) M h = tt

module _ (files : Program) (site : Site) (refused : Bool) where
  -- ---- answers

  abbrev same_leads : Leads → MeaningOf Value → Type 0
  same_leads rule M = (ts : Slots model.VerificationType) (ops rest : List model.VerificationType) → leads_in files site rule ts ops rest ≡ M.leads ts ops rest

  answers_means : (M : MeaningOf Value) (r : Result Meaning NoMeaning) → IfOk r (λ m. Means files site m M)
      → IfErr r (λ e. e ≡ reasons.OutOfMemory) → Answers files site refused (Some M) r
  answers_means M (Ok m) h e = h
  answers_means M (Err reasons.Unnamed) h e = absurd cc
  answers_means M (Err reasons.NotLinked) h e = absurd cc
  answers_means M (Err reasons.OutOfMemory) h e = tt

  pub answers_told : (model : Option (MeaningOf Value)) (M : MeaningOf Value) (r : Result Meaning NoMeaning) → model ≡ Some M
      → IfOk r (λ m. Means files site m M) → IfErr r (λ e. e ≡ reasons.OutOfMemory) → Answers files site refused model r
  answers_told model M r q h e = subst (λ (o : Option (MeaningOf Value)). Answers files site refused o r) (sym q) (answers_means M r h e)

  pub means : (M : MeaningOf Value) (pops : List Want) (grows : ℕ) (rule : Leads) (r : Result Meaning NoMeaning)
      → wants_of (map (want_in files) pops) grows ≡ M.wants → same_leads rule M
      → IfOk r (λ m. (files : Program) → wants_in files m.wants ≡ wants_of (map (want_in files) pops) grows)
      → IfOk r (λ m. m.wants.reads ≡ None) → IfOk r (λ m. m.leads ≡ rule)
      → IfOk r (λ m. Means files site m M)
  means M pops grows rule (Err e) p l w n h = tt
  means M pops grows rule (Ok m) p l w n h =
      record { wants = w files ∙ p; reads = n; leads = λ ts ops rest. ap (λ x. leads_in files site x ts ops rest) h ∙ l ts ops rest }

  pub answers : (model : Option (MeaningOf Value)) (M : MeaningOf Value) (pops : List Want) (grows : ℕ) (rule : Leads)
      (r : Result Meaning NoMeaning)
      → model ≡ Some M → wants_of (map (want_in files) pops) grows ≡ M.wants → same_leads rule M
      → IfOk r (λ m. (files : Program) → wants_in files m.wants ≡ wants_of (map (want_in files) pops) grows)
      → IfOk r (λ m. m.wants.reads ≡ None) → IfOk r (λ m. m.leads ≡ rule)
      → IfErr r (λ e. e ≡ reasons.OutOfMemory) → Answers files site refused model r
  answers model M pops grows rule r q p l w n h e = answers_told model M r q (means M pops grows rule r p l w n h) e

  -- ---- constants

  abbrev constant : Entry → Option (MeaningOf Value)
  constant e = constant_meaning values files site e

  pub of_class : (e : Entry) (name : Name) → class_name_of site.body.pool e ≡ Some name → constant e ≡ class_constant values files site name
  of_class (Utf8 text) name h = absurd cc
  of_class (Integer bits) name h = absurd cc
  of_class (Float bits) name h = absurd cc
  of_class (Long bits) name h = absurd cc
  of_class (Double bits) name h = absurd cc
  of_class (Class at) name h = rw h refl
  of_class (String text) name h = absurd cc
  of_class (Field class name_and_type) name h = absurd cc
  of_class (Method class name_and_type) name h = absurd cc
  of_class (InterfaceMethod class name_and_type) name h = absurd cc
  of_class (NameAndType of descriptor) name h = absurd cc
  of_class Unusable name h = absurd cc

  pub no_class : (name : Name) → is_missing files name ≡ true → class_constant values files site name ≡ None
  no_class name h = by (class_of files name) refl
    where
      by : (o : Option FileTree) → class_of files name ≡ o → class_constant values files site name ≡ None
      by None e = rw e refl
      by (Some file) e = let absent : is_none (Some file) ≡ true = sym (ap is_none e) ∙ h in absurd cc

  pub some_class : (name : Name) → is_missing files name ≡ false
      → class_constant values files site name ≡ Some (object_meaning values site java_lang_class (class_reference files name))
  some_class name h = by (class_of files name) refl
    where
      by : (o : Option FileTree) → class_of files name ≡ o
          → class_constant values files site name ≡ Some (object_meaning values site java_lang_class (class_reference files name))
      by None e = let there : true ≡ false = sym (ap is_none e) ∙ h in absurd cc
      by (Some file) e = rw e refl

  pub of_string : (e : Entry) (bytes : Name) → string_of site.body.pool e ≡ Some bytes
      → constant e ≡ Some (object_meaning values site java_lang_string (string_reference files bytes))
  of_string (Utf8 text) bytes h = absurd cc
  of_string (Integer bits) bytes h = absurd cc
  of_string (Float bits) bytes h = absurd cc
  of_string (Long bits) bytes h = absurd cc
  of_string (Double bits) bytes h = absurd cc
  of_string (Class at) bytes h = absurd cc
  of_string (String text) bytes h = rw h refl
  of_string (Field class name_and_type) bytes h = absurd cc
  of_string (Method class name_and_type) bytes h = absurd cc
  of_string (InterfaceMethod class name_and_type) bytes h = absurd cc
  of_string (NameAndType of descriptor) bytes h = absurd cc
  of_string Unusable bytes h = absurd cc

  pub of_neither : (e : Entry) → class_name_of site.body.pool e ≡ None → string_of site.body.pool e ≡ None → constant e ≡ None
  of_neither (Utf8 text) h k = refl
  of_neither (Integer bits) h k = refl
  of_neither (Float bits) h k = refl
  of_neither (Long bits) h k = refl
  of_neither (Double bits) h k = refl
  of_neither (Class at) h k = rw h refl
  of_neither (String text) h k = rw k refl
  of_neither (Field class name_and_type) h k = refl
  of_neither (Method class name_and_type) h k = refl
  of_neither (InterfaceMethod class name_and_type) h k = refl
  of_neither (NameAndType of descriptor) h k = refl
  of_neither Unusable h k = refl
