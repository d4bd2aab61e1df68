-- Calls: what their descriptors describe, what they want and where they lead.
use Rattle.std.proofs.Common.{⊎_elim, ◌≡◌, ℕ, List, [], ◌∷◌, ◌++◌, length, map, reverse, Option, Some, None, Bool, true, false, cond, ◌||◌, Result, Ok, Err, refl, sym, ap, ◌∙◌, subst}
use Rattle.std.specs.Prelude.{IfOk, IfErr}
use Rattle.std.specs.List.{list_any}
use Rattle.std.specs.Option.{option_and_then, option_map_or, option_to_list}
use Rattle.std.proofs.lemmas.List.{length-map, map-append}
use Rattle.std.proofs.lemmas.Bool.{or_cases, or_left, or_right}
use Rattle.std.proofs.lemmas.List.Folds.{list_any-append}
use Rattle.model.specs.declared.value.Value.{Value}
use Rattle.model.specs.Names.{Name, Member}
use Rattle.model.specs.Tree.{FieldTree, MethodTree}
use Rattle.model.specs.Classes.{Program}
use Rattle.model.specs.Lookup.{field_of, method_of}
use Rattle.model.specs.DescriptorParts.{classes_in, classes_named}
use Rattle.model.specs.DescribedTypes.{DeclaredType, DeclaredInt, DeclaredReference, parameters_declared, results_declared, declared_want, type_named, verification_type}
use Rattle.model.specs.Resolution.{is_missing, member_classes, called_classes}
use Rattle.model.specs.Types as model
use Rattle.model.specs.Operands.{Slots}
use Rattle.model.specs.Sites.{MeaningOf, Site, wants_of, to_next}
use Rattle.model.specs.Calls.{call_wants, result_types, parameter_count, if_method}
use Rattle.model.specs.Meanings.{if_field}
use Rattle.types.specs.declared.verification_type.VerificationType.{VerificationType}
use Rattle.types.specs.declared.verification_type.VerificationType.TheVariants as type
use Rattle.types.specs.View.{type_in}
use Rattle.instruction_types.specs.declared.operand_types.wants.Want.{Want}
use Rattle.instruction_types.specs.declared.operand_types.wants.Want.TheVariants as want
use Rattle.instruction_types.specs.operand_types.View.{want_in, wants_in}
use Rattle.types.specs.declared.described_types.described.MethodTypes.{MethodTypes}
use Rattle.types.specs.described_types.Described.{parameters_in, results_in}
use Rattle.instruction_types.specs.declared.leads.Leads.{Leads}
use Rattle.instruction_types.specs.declared.leads.Leads.TheVariants as leads
use Rattle.instruction_types.specs.declared.meaning.Meaning.{Meaning}
use Rattle.instruction_types.specs.declared.meaning.NoMeaning.{NoMeaning}
use Rattle.instruction_types.specs.declared.meaning.NoMeaning.TheVariants as reasons
use Rattle.instruction_types.specs.Leads.{leads_in, initialised_leads}
use Rattle.instruction_types.specs.Means.{Means}
use Rattle.instruction_types.specs.Answers.{Answers, is_no_type}
use Rattle.types.specs.described_types.Described.{type_missing}
use Rattle.instruction_types.proofs.Missing.{name_lacks}
use Rattle.instruction_types.specs.Wants.{want_for, CallsOn, Constructs, TellsCall, TellsCallOn, leads_of_result}
use Rattle.instruction_types.proofs.operand_types.Lists.{map-reverse}

module _ (files : Program) where
  -- ---- what is wanted of a value that is passed on

  pub wanted : (t : VerificationType) (d : DeclaredType) → type_in files t ≡ verification_type files d
      → want_in files (want_for t) ≡ declared_want files d
  wanted type.Unusable DeclaredInt e = absurd cc
  wanted type.Unusable (DeclaredReference of) e = absurd cc
  wanted type.Int DeclaredInt e = refl
  wanted type.Int (DeclaredReference of) e = absurd cc
  wanted type.Null DeclaredInt e = absurd cc
  wanted type.Null (DeclaredReference of) e = absurd cc
  wanted (type.Object t) DeclaredInt e = absurd cc
  wanted (type.Object t) (DeclaredReference of) e = cc
  wanted (type.Uninitialised offset class) DeclaredInt e = absurd cc
  wanted (type.Uninitialised offset class) (DeclaredReference of) e = absurd cc
  wanted (type.UninitialisedThis class) DeclaredInt e = absurd cc
  wanted (type.UninitialisedThis class) (DeclaredReference of) e = absurd cc

  all_wanted : (ts : List VerificationType) (ds : List DeclaredType) → map (type_in files) ts ≡ map (verification_type files) ds
      → map (want_in files) (map want_for ts) ≡ map (declared_want files) ds
  all_wanted [] [] e = refl
  all_wanted [] (d ∷ ds) e = absurd cc
  all_wanted (t ∷ ts) [] e = absurd cc
  all_wanted (t ∷ ts) (d ∷ ds) e =
      let first : type_in files t ≡ verification_type files d = cc in
      let others : map (type_in files) ts ≡ map (verification_type files) ds = cc in
      ap (λ w. w ∷ map (want_in files) (map want_for ts)) (wanted t d first) ∙ ap (λ ws. declared_want files d ∷ ws) (all_wanted ts ds others)

  arguments_wanted : (ts : List VerificationType) (ds : List DeclaredType) (receiver : List Want)
      → map (type_in files) ts ≡ map (verification_type files) ds
      → map (want_in files) (map want_for (reverse ts) ++ receiver) ≡ reverse (map (declared_want files) ds) ++ map (want_in files) receiver
  arguments_wanted ts ds receiver e =
      map-append (want_in files) (map want_for (reverse ts)) receiver
      ∙ ap (λ ws. map (want_in files) ws ++ map (want_in files) receiver) (map-reverse want_for ts)
      ∙ ap (λ ws. ws ++ map (want_in files) receiver) (map-reverse (want_in files) (map want_for ts) ∙ ap reverse (all_wanted ts ds e))

  same_count : {A B C : Type 0} (f : A → C) (g : B → C) (xs : List A) (ys : List B) → map f xs ≡ map g ys → length xs ≡ length ys
  same_count f g xs ys e = sym (length-map xs f) ∙ ap length e ∙ length-map ys g

  module _ (m : Member) (types : MethodTypes) (parameters : parameters_in files types ≡ map (verification_type files) (parameters_declared m.descriptor)) (results : results_in files types ≡ map (verification_type files) (results_declared m.descriptor)) where
    abbrev pops_of : Option Want → List Want
    pops_of receiver = map want_for (reverse types.parameters.items) ++ option_to_list receiver

    abbrev grows_of : ℕ
    grows_of = length (option_to_list types.returns)

    call_is : (receiver : Option Want) → wants_of (map (want_in files) (pops_of receiver)) grows_of
        ≡ call_wants files m (map (want_in files) (option_to_list receiver))
    call_is receiver =
        ap (λ ws. wants_of ws grows_of) (arguments_wanted types.parameters.items (parameters_declared m.descriptor) (option_to_list receiver) parameters)
        ∙ ap (wants_of _) (same_count (type_in files) (verification_type files) (option_to_list types.returns) (results_declared m.descriptor) results)

    result_pushed : (site : Site) (r : Option VerificationType) (ts : Slots model.VerificationType)
        (ops rest : List model.VerificationType)
        → leads_in files site (leads_of_result r) ts ops rest ≡ to_next site.next (map (type_in files) (option_to_list r)) ts ops rest
    result_pushed site None ts ops rest = refl
    result_pushed site (Some t) ts ops rest = refl

    abbrev Told : Option Want → Leads → Result Meaning NoMeaning → Type 0
    Told receiver rule r =
        IfOk r (λ meaning. (files : Program) → wants_in files meaning.wants ≡ wants_of (map (want_in files) (pops_of receiver)) grows_of)
        × IfOk r (λ meaning. meaning.wants.reads ≡ None) × IfOk r (λ meaning. meaning.leads ≡ rule) × IfErr r (λ e. e ≡ reasons.OutOfMemory)

    pub call_told : (receiver : Option Want) (rule : Leads) (r : Result Meaning NoMeaning) → rule ≡ leads_of_result types.returns
        → Told receiver rule r → TellsCall files m (CallsOn files m receiver) r
    call_told receiver rule (Ok meaning) e t =
        record {
          calls = record { wants = t.0 files ∙ call_is receiver; reads = t.1 };
          leads = λ site ts ops rest.
              ap (λ x. leads_in files site x ts ops rest) (t.2 ∙ e) ∙ result_pushed site types.returns ts ops rest ∙ ap (λ pushed. to_next site.next pushed ts ops rest) results;
        }
    call_told receiver rule (Err reasons.Unnamed) e t = let no : reasons.Unnamed ≡ reasons.OutOfMemory = t.3 in absurd cc
    call_told receiver rule (Err reasons.NotLinked) e t = let no : reasons.NotLinked ≡ reasons.OutOfMemory = t.3 in absurd cc
    call_told receiver rule (Err reasons.OutOfMemory) e t = tt

    pub constructor_told : (class operand : ℕ) (r : Result Meaning NoMeaning) → operand ≡ length types.parameters.items
        → Told (Some (want.AReceiver class)) (leads.Initialises operand) r → TellsCall files m (Constructs files m class) r
    constructor_told class operand (Ok meaning) e t =
        let count : operand ≡ parameter_count m = e ∙ same_count (type_in files) (verification_type files) types.parameters.items (parameters_declared m.descriptor) parameters in
        record {
          calls = record { wants = t.0 files ∙ call_is (Some (want.AReceiver class)); reads = t.1 };
          leads = λ site ts ops rest. ap (λ x. leads_in files site x ts ops rest) t.2 ∙ ap (λ n. initialised_leads site n ts ops rest) count;
        }
    constructor_told class operand (Err reasons.Unnamed) e t = let no : reasons.Unnamed ≡ reasons.OutOfMemory = t.3 in absurd cc
    constructor_told class operand (Err reasons.NotLinked) e t = let no : reasons.NotLinked ≡ reasons.OutOfMemory = t.3 in absurd cc
    constructor_told class operand (Err reasons.OutOfMemory) e t = tt

  -- ---- the member that is found

  pub picked_method : (test : MethodTree → Bool) (F : Member → MeaningOf Value) (find : Option Member) (found : Member) → Some found ≡ find
      → option_map_or test (method_of files found) false ≡ true
      → option_and_then (if_method test files F) find ≡ Some (F found)
  picked_method test F find found e k = ap (λ o. option_and_then (if_method test files F) o) (sym e) ∙ ap (λ b. cond b (Some (F found)) None) k

  pub picked_field : (test : FieldTree → Bool) (F : Member → MeaningOf Value) (find : Option Member) (found : Member) → Some found ≡ find
      → option_map_or test (field_of files found) false ≡ true
      → option_and_then (if_field test files F) find ≡ Some (F found)
  picked_field test F find found e k = ap (λ o. option_and_then (if_field test files F) o) (sym e) ∙ ap (λ b. cond b (Some (F found)) None) k

  -- ---- answers

  -- where a class of the descriptor is missing, one of a call's is
  abbrev IsWithin : Member → List Name → Type 0
  IsWithin m names = list_any (is_missing files) (classes_in m.descriptor) ≡ true → list_any (is_missing files) names ≡ true

  pub member_lacks : (m : Member) → IsWithin m (member_classes (Some m))
  member_lacks m h = or_right (is_missing files m.class) _ h

  pub called_lacks : (m : Member) → IsWithin m (called_classes (Some m))
  called_lacks m h =
      list_any-append (is_missing files) (classes_named m.class) (classes_in m.descriptor)
      ∙ or_right (list_any (is_missing files) (classes_named m.class)) _ h

  -- where there is no type of the receiver, a class of the call is missing, or what stands for a class names no type
  pub named_lacks : (m : Member) (others : Bool) → type_missing files (type_named m.class) ≡ true
      → (list_any (is_missing files) (called_classes (Some m)) || (others || is_no_type m.class)) ≡ true
  named_lacks m others h =
      ⊎_elim
      (λ class. or_left (list_any (is_missing files) (called_classes (Some m))) _
      (list_any-append (is_missing files) (classes_named m.class) (classes_in m.descriptor) ∙ or_left (list_any (is_missing files) (classes_named m.class)) _ class))
      (λ none. or_right (list_any (is_missing files) (called_classes (Some m))) _ (or_right others _ none))
      (or_cases (list_any (is_missing files) (classes_named m.class)) _ (name_lacks files m.class h))

  -- what refuses less tells as much
  pub answers_more : (site : Site) (less more : Bool) (model : Option (MeaningOf Value)) (r : Result Meaning NoMeaning) → (less ≡ true → more ≡ true)
      → Answers files site less model r → Answers files site more model r
  answers_more site less more model (Ok meaning) so h = h
  answers_more site less more model (Err reasons.Unnamed) so h = h
  answers_more site less more model (Err reasons.NotLinked) so h = so h
  answers_more site less more model (Err reasons.OutOfMemory) so h = tt

  module _ (site : Site) (m : Member) (names : List Name) (within : IsWithin m names) (others : Bool) where
    abbrev refused : Bool
    refused = list_any (is_missing files) names || others

    abbrev leads_on : MeaningOf Value → Type 0
    leads_on M = (ts : Slots model.VerificationType) (ops rest : List model.VerificationType) → M.leads ts ops rest ≡ to_next site.next (result_types files m) ts ops rest

    some_answer : (model : Option (MeaningOf Value)) (M : MeaningOf Value) (r : Result Meaning NoMeaning) → model ≡ Some M
        → Answers files site refused (Some M) r → Answers files site refused model r
    some_answer model M r q h = subst (λ (o : Option (MeaningOf Value)). Answers files site refused o r) (sym q) h

    descriptor_lacks : list_any (is_missing files) (classes_in m.descriptor) ≡ true → refused ≡ true
    descriptor_lacks h = or_left (list_any (is_missing files) names) others (within h)

    means_call : (receiver : Option Want) (M : MeaningOf Value) (meaning : Meaning)
        → M.wants ≡ call_wants files m (map (want_in files) (option_to_list receiver)) → leads_on M → CallsOn files m receiver meaning
        → Means files site meaning M
    means_call receiver M meaning w l h =
        record { wants = h.calls.wants ∙ sym w; reads = h.calls.reads; leads = λ ts ops rest. h.leads site ts ops rest ∙ sym (l ts ops rest) }

    pub answers_call : (receiver : Option Want) (model : Option (MeaningOf Value)) (M : MeaningOf Value) (r : Result Meaning NoMeaning)
        → model ≡ Some M → M.wants ≡ call_wants files m (map (want_in files) (option_to_list receiver)) → leads_on M
        → TellsCall files m (CallsOn files m receiver) r → Answers files site refused model r
    answers_call receiver model M (Ok meaning) q w l h = some_answer model M (Ok meaning) q (means_call receiver M meaning w l h)
    answers_call receiver model M (Err reasons.Unnamed) q w l h = absurd h
    answers_call receiver model M (Err reasons.NotLinked) q w l h = descriptor_lacks h
    answers_call receiver model M (Err reasons.OutOfMemory) q w l h = tt

    pub answers_call_on : (wanted : model.Want) (missing : Bool) (model : Option (MeaningOf Value)) (M : MeaningOf Value)
        (r : Result Meaning NoMeaning)
        → model ≡ Some M → M.wants ≡ call_wants files m (wanted ∷ []) → leads_on M → TellsCallOn files m wanted missing r
        → (missing ≡ true → refused ≡ true) → Answers files site refused model r
    answers_call_on wanted missing model M (Ok meaning) q w l h so =
        some_answer model M (Ok meaning) q (means_call (Some h.0) M meaning (w ∙ ap (λ v. call_wants files m (v ∷ [])) (sym h.1)) l h.2)
    answers_call_on wanted missing model M (Err reasons.Unnamed) q w l h so = absurd h
    answers_call_on wanted missing model M (Err reasons.NotLinked) q w l h so = ⊎_elim so descriptor_lacks (or_cases missing _ h)
    answers_call_on wanted missing model M (Err reasons.OutOfMemory) q w l h so = tt
