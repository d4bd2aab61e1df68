-- The first of a name: what stands at a place is what is found by its name, where names differ.
use Rattle.std.proofs.Common.{◌≡◌, ℕ, zero, suc, List, [], ◌∷◌, map, cond, Bool, true, false, not, Some, refl, sym, ap, ◌∙◌, subst}
use Rattle.std.specs.Prelude.{find, slice_get}
use Rattle.std.specs.List.{list_any}
use Rattle.std.proofs.lemmas.Bool.{false≢true, true≢false, and_parts, and_from, or_parts, not-true}
use Rattle.model.specs.Names.{Name, name_eq, spells}
use Rattle.model.specs.Tree.{Entry, Utf8, Integer, Float, Long, Double, Class, String, Field, Method, InterfaceMethod, NameAndType, Unusable, MethodTree}
use Rattle.model.specs.Spelling.{entry_at, text_of}
use Rattle.model.specs.Pool.{utf8_of, NameAndDescriptor}
use Rattle.model.specs.Conditions.{text_at, is_utf8, names_utf8, name_and_descriptor_at, is_same, differ}
use Rattle.model.specs.Classes.{is_method}
use Rattle.run_laws.proofs.laws.Classes.{name_self}
use Rattle.run_laws.proofs.laws.Homes.{spelled}

says_itself : (e : Entry) → is_utf8 e ≡ true → spells (utf8_of e) (text_of e) ≡ true
says_itself (Utf8 text) h = name_self text
says_itself (Integer bits) h = absurd (false≢true h)
says_itself (Float bits) h = absurd (false≢true h)
says_itself (Long bits) h = absurd (false≢true h)
says_itself (Double bits) h = absurd (false≢true h)
says_itself (Class name) h = absurd (false≢true h)
says_itself (String text) h = absurd (false≢true h)
says_itself (Field class name) h = absurd (false≢true h)
says_itself (Method class name) h = absurd (false≢true h)
says_itself (InterfaceMethod class name) h = absurd (false≢true h)
says_itself (NameAndType name descriptor) h = absurd (false≢true h)
says_itself Unusable h = absurd (false≢true h)

says_text : (e : Entry) (name : Name) → spells (utf8_of e) name ≡ true → name_eq (text_of e) name ≡ true
says_text e name h = subst (λ n. name_eq (text_of e) n ≡ true) (spelled e name h) (name_self (text_of e))

module _ (pool : List Entry) where
  abbrev named : MethodTree → NameAndDescriptor
  named m = name_and_descriptor_at pool m.name m.descriptor

  abbrev is_like : MethodTree → MethodTree → Bool
  is_like m x = is_method pool (text_at pool m.name) (text_at pool m.descriptor) x

  is_itself : (m : MethodTree) → names_utf8 pool m.name ≡ true → names_utf8 pool m.descriptor ≡ true → is_like m m ≡ true
  is_itself m n d = and_from _ _ (says_itself (entry_at pool m.name) n) (says_itself (entry_at pool m.descriptor) d)

  none_like : (x : MethodTree) (xs : List MethodTree) (k : ℕ) (m : MethodTree) → list_any (is_same (named x)) (map named xs) ≡ false
      → slice_get xs k ≡ Some m → is_same (named x) (named m) ≡ false
  none_like x [] k m h e = absurd cc
  none_like x (y ∷ xs) zero m h e = let same : y ≡ m = cc in subst (λ (z : MethodTree). is_same (named x) (named z) ≡ false) same (or_parts _ _ h).0
  none_like x (y ∷ xs) (suc k) m h e = none_like x xs k m (or_parts _ _ h).1 e

  unlike : (m x : MethodTree) → is_same (named x) (named m) ≡ false → is_like m x ≡ false
  unlike m x h = by (is_like m x) refl
    where
      by : (b : Bool) → is_like m x ≡ b → b ≡ false
      by false e = refl
      by true e =
          let parts = and_parts _ _ e in
          absurd (true≢false (sym (and_from _ _ (says_text (entry_at pool x.name) (text_at pool m.name) parts.0) (says_text (entry_at pool x.descriptor) (text_at pool m.descriptor) parts.1)) ∙ h))

  pub method_there : (ms : List MethodTree) (k : ℕ) (m : MethodTree) → differ (map named ms) ≡ true → names_utf8 pool m.name ≡ true
      → names_utf8 pool m.descriptor ≡ true → slice_get ms k ≡ Some m
      → find (is_method pool (text_at pool m.name) (text_at pool m.descriptor)) ms ≡ Some m
  method_there [] k m h n d e = absurd cc
  method_there (x ∷ xs) zero m h n d e =
      let same : x ≡ m = cc in
      ap (λ b. cond b (Some x) (find (is_like m) xs)) (ap (is_like m) same ∙ is_itself m n d) ∙ ap (λ z. Some z) same
  method_there (x ∷ xs) (suc k) m h n d e =
      let parts = and_parts (not (list_any (is_same (named x)) (map named xs))) _ h in
      let other : is_like m x ≡ false = unlike m x (none_like x xs k m (not-true _ parts.0) e) in
      ap (λ b. cond b (Some x) (find (is_like m) xs)) other ∙ method_there xs k m parts.1 n d e
