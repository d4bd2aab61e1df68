-- The Strings of constants have their texts in each state of a run.
use Rattle.std.proofs.Common.{◌≡◌, ℕ, suc, ◌+◌, ◌&&◌, ◌==◌, nat_le, ◌≤◌, List, [], ◌∷◌, ◌++◌, map, length, Bool, true, false, not, Some, refl, sym, ap, ◌∙◌, subst, ⊎_elim, arith}
use Rattle.std.specs.Prelude.{slice_get}
use Rattle.std.specs.List.{list_any, position_or_len}
use Rattle.std.proofs.lemmas.Bool.{false≢true, true≢false, leb-true, or_cases, not_from_true, cond_both}
use Rattle.std.proofs.lemmas.List.{length-map}
use Rattle.std.proofs.lemmas.Option.{get_or_from_slice_get, same_Some, slice_get_within}
use Rattle.model.specs.declared.event.Event.{Event}
use Rattle.model.specs.declared.value.Value.{Value}
use Rattle.model.specs.Names.{name_eq, java_lang_class, java_io_print_stream}
use Rattle.model.specs.Tree.{FileTree}
use Rattle.model.specs.Classes.{Program, classes_of}
use Rattle.model.specs.Opening.{opening_heap, opening, opening_count, string_reference}
use Rattle.model.specs.Operands.{values}
use Rattle.model.specs.Run.{run_from}
use Rattle.model.specs.State.{ObjectOf, Instance, Characters, State}
use Rattle.model.specs.StringConstants.{string_texts}
use Rattle.model.specs.Texts.{decoded}
use Rattle.model.specs.Worlds.{no_object, text_of}
use Rattle.run_laws.proofs.laws.Classes.{names_same}
use Rattle.run_laws.proofs.laws.Lists.{get_front, get_map}
use Rattle.search_laws.specs.Texts.{is_unwritten, KeepsTexts, HaveConstantsTexts}
use Rattle.search_laws.proofs.ClassesKept.{texts_kept}
use Rattle.search_laws.proofs.TextsKept.{texts_on}
use Rattle.search_laws.proofs.Runs.{first_of}

-- an element that is there stands before the end
there_before : {A : Type 0} (xs : List A) (k : ℕ) (x : A) → slice_get xs k ≡ Some x → nat_le (length xs) k ≡ false
there_before xs k x e = by (nat_le (length xs) k) refl
  where
    by : (b : Bool) → nat_le (length xs) k ≡ b → b ≡ false
    by true q =
        let high : length xs ≤ k = leb-true (length xs) k q in
        let low = slice_get_within xs k x e in
        absurd (omega (arith, high, low))
    by false q = refl

-- ---- in the opening state

from_not : (b : Bool) → not b ≡ false → b ≡ true
from_not true e = refl
from_not false e = absurd (true≢false e)

-- where an element passes a test, the first that does stands at the position
first_there : {A : Type 0} (p : A → Bool) (xs : List A) → list_any p xs ≡ true
    → (x : A) × ((slice_get xs (position_or_len p xs) ≡ Some x) × (p x ≡ true))
first_there p [] h = absurd (false≢true h)
first_there p (x ∷ xs) h =
    cond_both (not (p x)) _ _ (λ k. (y : _) × ((slice_get (x ∷ xs) k ≡ Some y) × (p y ≡ true)))
    (λ e.
    let later = first_there p xs (rest e) in
    let next : suc (position_or_len p xs) ≡ 1 + position_or_len p xs = omega arith in
    (later.0, (subst (λ k. slice_get (x ∷ xs) k ≡ Some later.0) next later.1.0, later.1.1)))
    (λ e. (x, (refl, from_not (p x) e)))
  where
    rest : not (p x) ≡ true → list_any p xs ≡ true
    rest e = ⊎_elim (λ q. absurd (false≢true (sym (not_from_true (p x) q) ∙ e))) (λ q. q) (or_cases (p x) (list_any p xs) h)

get_behind : {A : Type 0} (xs ys : List A) (k : ℕ) → slice_get (xs ++ ys) (length xs + k) ≡ slice_get ys k
get_behind [] ys k = let e : k ≡ 0 + k = omega arith in subst (λ n. slice_get ys n ≡ slice_get ys k) e refl
get_behind (x ∷ xs) ys k =
    let e : suc (length xs + k) ≡ suc (length xs) + k = omega arith in
    subst (λ n. slice_get (x ∷ (xs ++ ys)) n ≡ slice_get ys k) e (get_behind xs ys k)

constant_there : (files : Program) (bytes : List ℕ) → list_any (name_eq bytes) (string_texts files) ≡ true
    → slice_get (opening_heap values files) (string_reference files bytes) ≡ Some (Characters (decoded bytes))
unfolding opening_heap
constant_there files bytes known =
    let class : FileTree → ObjectOf Value = λ file. Instance java_lang_class [] in
    let string : List ℕ → ObjectOf Value = λ text. Characters (decoded text) in
    let strings = map string (string_texts files) in
    let last : List (ObjectOf Value) = Instance java_io_print_stream [] ∷ [] in
    let n = length (classes_of files) in
    let m = position_or_len (name_eq bytes) (string_texts files) in
    let at = first_there (name_eq bytes) (string_texts files) known in
    let is : bytes ≡ at.0 = names_same bytes at.0 at.1.1 in
    let e : suc (suc (suc (n + m))) ≡ 3 + n + m = omega arith in
    subst (λ k. slice_get (opening_heap values files) k ≡ Some (string bytes)) e
    (subst (λ k. slice_get (map class (classes_of files) ++ (strings ++ last)) (k + m) ≡ Some (string bytes)) (length-map (classes_of files) class)
    (get_behind (map class (classes_of files)) (strings ++ last) m
    ∙ (get_front strings last m (string at.0) (get_map string (string_texts files) m at.0 at.1.0) ∙ ap (λ text. Some (string text)) (sym is))))

-- it stands before all that a run makes
before_made : (files : Program) (bytes : List ℕ) → list_any (name_eq bytes) (string_texts files) ≡ true
    → nat_le (opening_count files) (string_reference files bytes) ≡ false
before_made files bytes known =
    there_before (opening_heap values files) (string_reference files bytes) (Characters (decoded bytes)) (constant_there files bytes known)

-- ---- behind events

module _ (files : Program) (frames : ℕ) where
  kept_run : (events : List Event) (state last : State) → run_from files frames state events ≡ Some last
      → KeepsTexts (opening_count files) state.world.heap last.world.heap
  kept_run [] state last r k old e =
      subst (λ (z : State). (new : ObjectOf Value) × ((slice_get z.world.heap k ≡ Some new) × (is_unwritten (opening_count files) k old ≡ false → text_of new ≡ text_of old))) (same_Some state last r) (old, (e, λ q. refl))
  kept_run (event ∷ events) state last r k old e =
      let f = first_of files frames state last event events r in
      texts_on (opening_count files) state.world.heap f.0.world.heap last.world.heap (texts_kept files frames state f.0 event f.1.0) (kept_run events f.0 last f.1.1) k old e

pub constants_texts : HaveConstantsTexts
constants_texts files frames state reached bytes known =
    let r = string_reference files bytes in
    let string = Characters (decoded bytes) in
    let x = kept_run files frames reached.0 (opening values files) state reached.1 r string (constant_there files bytes known) in
    let written : is_unwritten (opening_count files) r string ≡ false = ap (λ b. b && length (decoded bytes) == 0) (before_made files bytes known) in
    ap text_of (get_or_from_slice_get state.world.heap r x.0 no_object x.1.0) ∙ x.1.1 written
