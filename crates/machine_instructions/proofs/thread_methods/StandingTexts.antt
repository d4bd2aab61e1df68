-- The String that stands for a text, by the objects of a heap and the numbers of a program, is that of the definitions.
use Rattle.std.proofs.Common.{◌≡◌, ◌+◌, ◌<◌, ℕ, zero, suc, List, [], ◌∷◌, ◌++◌, Option, Some, None, Bool, true, false, if◌then◌else◌, length, map, refl, sym, ap, subst, arith, ◌∙◌}
use Rattle.std.specs.Prelude.{find, slice_get, slice_index_or, Vec}
use Rattle.std.specs.Global.{Global}
use Rattle.std.specs.Option.{option_or}
use Rattle.std.proofs.lemmas.List.{length-map}
use Rattle.std.proofs.lemmas.List.Folds.{find-append}
use Rattle.std.proofs.lemmas.Bool.{false≢true}
use Rattle.model.specs.BuiltInNumbers.{first_class_reference}
use Rattle.model.specs.Classes.{Program, classes_of}
use Rattle.model.specs.Linkable.{IsLinkable}
use Rattle.model.specs.Opening.{string_references}
use Rattle.model.specs.Rows.{counting}
use Rattle.model.specs.State.{ObjectOf, WorldOf}
use Rattle.model.specs.StringConstants.{string_texts}
use Rattle.model.specs.StringMethods.{is_same_text}
use Rattle.model.specs.TextMethods.{is_string_of, standing_for}
use Rattle.model.specs.Texts.{Text, decoded}
use Rattle.model.specs.Tree.{FileTree}
use Rattle.model.specs.Worlds.{no_object, object_at, string_text}
use Rattle.heap.specs.Heap.{Object}
use Rattle.linked_code.specs.declared.class.LinkedClass.{LinkedClass}
use Rattle.linked_code.specs.declared.program.LinkedProgram.{LinkedProgram}
use Rattle.linked_code.specs.Programs.{AreClasses, IsLinkedProgram}
use Rattle.machine_state.specs.shown_objects.Shown.{ShowsObjects}
use Rattle.machine_state.specs.Shown.{IsProgram}
use Rattle.machine_instructions.specs.thread_methods.Texts.{text_in}
use Rattle.machine_instructions.specs.thread_methods.TextWrites.{first_of, first_among, standing_in, string_if}
use Rattle.machine_instructions.proofs.thread_methods.ShownTexts.{texts}

-- ---- numbers of a program

class_count : (trees : Program) (files : List FileTree) (classes : List LinkedClass) → AreClasses trees files classes → length classes ≡ length files
class_count trees [] [] h = refl
class_count trees [] (l ∷ ls) h = absurd h
class_count trees (f ∷ fs) [] h = absurd h
class_count trees (f ∷ fs) (l ∷ ls) h = ap suc (class_count trees fs ls h.1)

text_count : (trees : Program) (p : LinkedProgram) → IsLinkedProgram trees p → length p.texts.items ≡ length (string_texts trees)
text_count trees p linked =
    sym (length-map p.texts.items (λ (text : Vec ℕ Global). text.items)) ∙ (ap length linked.texts ∙ length-map (string_texts trees) decoded)

-- ---- the first of a list

module _ (trees : Program) (p : LinkedProgram) (program : IsProgram trees p) (objects : List Object) (world : WorldOf ℕ)
    (shows : ShowsObjects trees p.components.items objects world.heap) (text : Text) where
  one : (r : ℕ) → string_if objects text r ≡ (if is_string_of world text r then Some r else None)
  one r = ap (λ o. if is_same_text text o then Some r else None) (texts program.files trees program.linkable p.components.items objects world.heap shows r)

  joined : (b : Bool) (r : ℕ) (rest : Option ℕ) → option_or (if b then Some r else None) rest ≡ (if b then Some r else rest)
  joined true r rest = refl
  joined false r rest = refl

  among : (strings : List ℕ) → first_among objects text strings ≡ find (is_string_of world text) strings
  among [] = refl
  among (r ∷ strings) =
      (λ i. option_or (one r i) (among strings i)) ∙ joined (is_string_of world text r) r (find (is_string_of world text) strings)

  from : (first count : ℕ) → first_of objects text first count ≡ find (is_string_of world text) (counting first count)
  from first zero = refl
  from first (suc count) =
      (λ i. option_or (one first i) (from (suc first) count i)) ∙ joined (is_string_of world text first) first (find (is_string_of world text) (counting (suc first) count))

  pub standing_is : (interned : List ℕ) → interned ≡ world.interned
      → standing_in p objects interned text ≡ standing_for (string_references trees) world text
  standing_is interned same =
      (λ i. option_or (from (first_class_reference + length p.classes.items) (length p.texts.items) i) (among (same i) i))
      ∙ ((λ i. option_or (find (is_string_of world text)
      (counting (first_class_reference + class_count trees (classes_of trees) p.classes.items program.linked.classes i) (text_count trees p program.linked i)))
      (find (is_string_of world text) world.interned))
      ∙ sym (find-append (is_string_of world text) (string_references trees) world.interned))

  -- the one that is found is there
  no_text : (text : Text) → is_same_text text None ≡ false
  no_text text = refl

  there : (os : List Object) (r : ℕ) → is_same_text text (text_in (slice_get os r)) ≡ true → r < length os
  there [] r h = absurd (false≢true h)
  there (o ∷ os) zero h = omega arith
  there (o ∷ os) (suc r) h = let rest = there os r h in omega (arith, rest)

  found_if : (string r : ℕ) → string_if objects text r ≡ Some string → string < length objects
  found_if string r e = by (is_same_text text (text_in (slice_get objects r))) refl e
    where
      by : (b : Bool) → is_same_text text (text_in (slice_get objects r)) ≡ b → (if b then Some r else None) ≡ Some string → string < length objects
      by true h e = let same : r ≡ string = cc in subst (λ n. n < length objects) same (there objects r h)
      by false h e = absurd cc

  either : (string : ℕ) (a b : Option ℕ) → option_or a b ≡ Some string → (a ≡ Some string → string < length objects) → (b ≡ Some string → string < length objects)
      → string < length objects
  either string None b e f g = g e
  either string (Some r) b e f g = f e

  found_from : (string first count : ℕ) → first_of objects text first count ≡ Some string → string < length objects
  found_from string first zero e = absurd cc
  found_from string first (suc count) e =
      either string (string_if objects text first) (first_of objects text (suc first) count) e (found_if string first) (found_from string (suc first) count)

  found_among : (string : ℕ) (strings : List ℕ) → first_among objects text strings ≡ Some string → string < length objects
  found_among string [] e = absurd cc
  found_among string (r ∷ strings) e =
      either string (string_if objects text r) (first_among objects text strings) e (found_if string r) (found_among string strings)

  pub found_there : (string : ℕ) (interned : List ℕ) → standing_in p objects interned text ≡ Some string → string < length objects
  found_there string interned e =
      either string (first_of objects text (first_class_reference + length p.classes.items) (length p.texts.items)) (first_among objects text interned) e
      (found_from string (first_class_reference + length p.classes.items) (length p.texts.items)) (found_among string interned)
