-- How threads are named, and copies of objects, by words.
use Rattle.std.proofs.Common.{◌≡◌, ℕ, suc, List, [], ◌∷◌, map, length, Bool, true, false, Option, Some, None, refl, ap, ◌∙◌}
use Rattle.std.specs.Prelude.{unwrap_or}
use Rattle.std.proofs.lemmas.List.{length-map}
use Rattle.model.specs.declared.value.Value.{Value}
use Rattle.model.specs.declared.value.Value.TheVariants as value
use Rattle.model.specs.declared.name_method.NameMethod.{NameMethod}
use Rattle.model.specs.declared.name_method.NameMethod.TheVariants.{Construct, ConstructWithTarget, ConstructWithName, ConstructWithTargetAndName, GetName, SetName}
use Rattle.model.specs.Names.{thread_name, thread_ordinal, thread_target}
use Rattle.model.specs.Classes.{Program}
use Rattle.model.specs.Operands.{Slots, words, values, word_of, word_reference, reference_of}
use Rattle.model.specs.State.{ObjectOf, type_of, Characters, World}
use Rattle.model.specs.Outcomes.{Makes}
use Rattle.model.specs.Texts.{Text}
use Rattle.model.specs.Worlds.{allocated, object_at, with_object, with_field, cells_of}
use Rattle.model.specs.Sites.{operand, referent, object_of}
use Rattle.model.specs.Cloning.{is_cloneable, cloned, object_clones}
use Rattle.model.specs.ThreadNames.{kept_name, ordinal_text, with_name, with_name_and_target, with_one_unnamed, with_ordinal, with_ordinal_and_target, named, gives_name, thread_names}
use Rattle.model.specs.Words.{map_slots}
use Rattle.run_laws.specs.word_runs.Words.{map_outcome}
use Rattle.run_laws.proofs.laws.StringAnswers.{is_place_of}
use Rattle.run_laws.proofs.word_runs.WordWorlds.{KeepsTexts, world_words, object_words, object_at_words, with_object_words, with_field_words, allocated_words, type_words, cells_words, kept_name_words, ordinal_words}
use Rattle.run_laws.proofs.word_runs.WordMeanings.{operand_words, not_null_words, goes_words, becomes_words}

-- the operands that are read as objects
abbrev pub name_places : NameMethod → List ℕ
name_places Construct = 0 ∷ []
name_places ConstructWithTarget = 1 ∷ []
name_places ConstructWithName = 0 ∷ 1 ∷ []
name_places ConstructWithTargetAndName = 0 ∷ 2 ∷ []
name_places GetName = 0 ∷ []
name_places SetName = 0 ∷ 1 ∷ []

-- an operand is an object by its word as by its value
abbrev pub IsSameAt : List Value → ℕ → Type 0
IsSameAt ops k = referent words (map word_of ops) k ≡ referent values ops k

pub same_object : (ops : List Value) (k : ℕ) → IsSameAt ops k → object_of words (map word_of ops) k ≡ object_of values ops k
same_object ops k e = ap (λ o. unwrap_or o 0) e

-- an object is changed by words as it is by values
pub change_words : (before : World) (r : ℕ) (f : ObjectOf ℕ → ObjectOf ℕ) (g : ObjectOf Value → ObjectOf Value)
    → f (object_words (object_at before r)) ≡ object_words (g (object_at before r))
    → with_object (world_words before) r (f (object_at (world_words before) r)) ≡ world_words (with_object before r (g (object_at before r)))
change_words before r f g e =
    ap (λ o. with_object (world_words before) r (f o)) (object_at_words before r)
    ∙ (ap (λ o. with_object (world_words before) r o) e ∙ with_object_words before r (g (object_at before r)))

module _ (world : World) (texts : KeepsTexts world) (next : ℕ) (slots : Slots Value) (rest : List Value) where
  -- ---- what becomes of a Thread

  ordinal_is : (r : ℕ) → with_ordinal words (world_words world) r ≡ world_words (with_ordinal values world r)
  ordinal_is r =
      let n = value.Int world.unnamed in
      ap with_one_unnamed (change_words world r (with_field thread_ordinal world.unnamed) (with_field thread_ordinal n) (with_field_words thread_ordinal n (object_at world r)))

  target_is : (r : ℕ) (v : Value) → with_ordinal_and_target words (world_words world) r (word_of v) ≡ world_words (with_ordinal_and_target values world r v)
  target_is r v =
      let n = value.Int world.unnamed in
      let o = object_at world r in
      ap with_one_unnamed
      (change_words world r (λ x. with_field thread_ordinal world.unnamed (with_field thread_target (word_of v) x)) (λ x. with_field thread_ordinal n (with_field thread_target v x))
      (ap (with_field thread_ordinal world.unnamed) (with_field_words thread_target v o) ∙ with_field_words thread_ordinal n (with_field thread_target v o)))

  name_is : (before : World) (r : ℕ) (v : Value) → with_name (world_words before) r (word_of v) ≡ world_words (with_name before r v)
  name_is before r v = change_words before r (with_field thread_name (word_of v)) (with_field thread_name v) (with_field_words thread_name v (object_at before r))

  both_are : (r : ℕ) (v u : Value) → with_name_and_target (world_words world) r (word_of v) (word_of u) ≡ world_words (with_name_and_target world r v u)
  both_are r v u =
      let o = object_at world r in
      change_words world r (λ x. with_field thread_name (word_of v) (with_field thread_target (word_of u) x)) (λ x. with_field thread_name v (with_field thread_target u x))
      (ap (with_field thread_name (word_of v)) (with_field_words thread_target u o) ∙ with_field_words thread_name v (with_field thread_target u o))

  named_is : (r : ℕ) (text : Text) → named words (world_words world) r text ≡ world_words (named values world r text)
  named_is r text =
      let made = allocated world (Characters text) in
      ap (λ w. with_name w r (suc (length (world_words world).heap))) (allocated_words world (Characters text))
      ∙ (ap (λ n. with_name (world_words made) r (suc n)) (length-map world.heap object_words) ∙ name_is made r (value.Reference (length world.heap)))

  -- ---- what the methods do

  given_words : (name : Option ℕ) (text : Text) (ops : List Value) → IsSameAt ops 0
      → gives_name words name text next (world_words world) (map_slots word_of slots) (map word_of ops) (map word_of rest)
      ≡ map_outcome word_of (gives_name values name text next world slots ops rest)
  given_words (Some name) text ops e = refl
  given_words None text ops e =
      let r = object_of values ops 0 in
      goes_words (Makes (length text)) (Makes (length text)) _ (named values world r text) _ (value.Reference (length world.heap) ∷ rest) slots.locals next refl
      (ap (λ o. named words (world_words world) o text) (same_object ops 0 e) ∙ named_is r text)
      (ap (λ n. suc n ∷ map word_of rest) (length-map world.heap object_words))

  kept_is : (r : ℕ) → word_reference (kept_name words (object_at (world_words world) r)) ≡ reference_of (kept_name values (object_at world r))
  kept_is r = ap (λ o. word_reference (kept_name words o)) (object_at_words world r) ∙ (ap word_reference (kept_name_words (object_at world r)) ∙ texts.names r)

  text_is : (r : ℕ) → ordinal_text words (object_at (world_words world) r) ≡ ordinal_text values (object_at world r)
  text_is r = ap (ordinal_text words) (object_at_words world r) ∙ ordinal_words (object_at world r)

  -- a name is set, where it is not null
  set_words : (ops : List Value) (k : ℕ) → IsSameAt ops 0 → IsSameAt ops k
      → with_name (world_words world) (object_of words (map word_of ops) k) (operand words (map word_of ops) 0)
      ≡ world_words (with_name world (object_of values ops k) (operand values ops 0))
  set_words ops k e f =
      ap (λ o. with_name (world_words world) o (operand words (map word_of ops) 0)) (same_object ops k f)
      ∙ (ap (with_name (world_words world) (object_of values ops k)) (operand_words ops 0) ∙ name_is world (object_of values ops k) (operand values ops 0))

  pub names_words : (method : NameMethod) (ops : List Value) → ((k : ℕ) → is_place_of (name_places method) k ≡ true → IsSameAt ops k)
      → thread_names words method next (world_words world) (map_slots word_of slots) (map word_of ops) (map word_of rest)
      ≡ map_outcome word_of (thread_names values method next world slots ops rest)
  names_words Construct ops a =
      becomes_words _ (with_ordinal values world (object_of values ops 0)) rest slots.locals next
      (ap (with_ordinal words (world_words world)) (same_object ops 0 (a 0 refl)) ∙ ordinal_is (object_of values ops 0))
  names_words ConstructWithTarget ops a =
      let r = object_of values ops 1 in
      becomes_words _ (with_ordinal_and_target values world r (operand values ops 0)) rest slots.locals next
      (ap (λ o. with_ordinal_and_target words (world_words world) o (operand words (map word_of ops) 0)) (same_object ops 1 (a 1 refl))
      ∙ (ap (with_ordinal_and_target words (world_words world) r) (operand_words ops 0) ∙ target_is r (operand values ops 0)))
  names_words ConstructWithName ops a =
      not_null_words (referent words (map word_of ops) 0) (referent values ops 0) _ _ (a 0 refl)
      (λ r. becomes_words _ (with_name world (object_of values ops 1) (operand values ops 0)) rest slots.locals next (set_words ops 1 (a 0 refl) (a 1 refl)))
  names_words ConstructWithTargetAndName ops a =
      let r = object_of values ops 2 in
      let v = operand values ops 0 in
      let u = operand values ops 1 in
      not_null_words (referent words (map word_of ops) 0) (referent values ops 0) _ _ (a 0 refl)
      (λ x. becomes_words _ (with_name_and_target world r v u) rest slots.locals next
      (ap (λ o. with_name_and_target (world_words world) o (operand words (map word_of ops) 0) (operand words (map word_of ops) 1)) (same_object ops 2 (a 2 refl))
      ∙ (ap (λ n. with_name_and_target (world_words world) r n (operand words (map word_of ops) 1)) (operand_words ops 0)
      ∙ (ap (with_name_and_target (world_words world) r (word_of v)) (operand_words ops 1) ∙ both_are r v u))))
  names_words GetName ops a =
      let r = object_of values ops 0 in
      let o = object_at world r in
      ap (λ x. gives_name words (word_reference (kept_name words (object_at (world_words world) x))) (ordinal_text words (object_at (world_words world) x)) next (world_words world) (map_slots word_of slots) (map word_of ops) (map word_of rest)) (same_object ops 0 (a 0 refl))
      ∙ (ap (λ name. gives_name words name (ordinal_text words (object_at (world_words world) r)) next (world_words world) (map_slots word_of slots) (map word_of ops) (map word_of rest)) (kept_is r)
      ∙ (ap (λ text. gives_name words (reference_of (kept_name values o)) text next (world_words world) (map_slots word_of slots) (map word_of ops) (map word_of rest)) (text_is r)
      ∙ given_words (reference_of (kept_name values o)) (ordinal_text values o) ops (a 0 refl)))
  names_words SetName ops a =
      not_null_words (referent words (map word_of ops) 0) (referent values ops 0) _ _ (a 0 refl)
      (λ r. becomes_words _ (with_name world (object_of values ops 1) (operand values ops 0)) rest slots.locals next (set_words ops 1 (a 0 refl) (a 1 refl)))

  -- ---- copies

  copy_words : (b : Bool) (o : ObjectOf Value)
      → cloned words b (object_words o) next (world_words world) (map_slots word_of slots) (map word_of rest)
      ≡ map_outcome word_of (cloned values b o next world slots rest)
  copy_words true o =
      goes_words (Makes (cells_of (object_words o))) (Makes (cells_of o)) _ (allocated world o) _ (value.Reference (length world.heap) ∷ rest) slots.locals next
      (ap (λ n. Makes n) (cells_words o)) (allocated_words world o) (ap (λ n. suc n ∷ map word_of rest) (length-map world.heap object_words))
  copy_words false o = refl

  pub clone_words : (files : Program) (ops : List Value) → IsSameAt ops 0
      → object_clones words files next (world_words world) (map_slots word_of slots) (map word_of ops) (map word_of rest)
      ≡ map_outcome word_of (object_clones values files next world slots ops rest)
  clone_words files ops e =
      let r = object_of values ops 0 in
      let o = object_at world r in
      ap (λ x. cloned words (is_cloneable files (type_of (object_at (world_words world) x))) (object_at (world_words world) x) next (world_words world) (map_slots word_of slots) (map word_of rest)) (same_object ops 0 e)
      ∙ (ap (λ x. cloned words (is_cloneable files (type_of x)) x next (world_words world) (map_slots word_of slots) (map word_of rest)) (object_at_words world r)
      ∙ (ap (λ t. cloned words (is_cloneable files t) (object_words o) next (world_words world) (map_slots word_of slots) (map word_of rest)) (type_words o)
      ∙ copy_words (is_cloneable files (type_of o)) o))
