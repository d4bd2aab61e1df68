-- Worlds of which one is the other with other values of variables, and with more objects.
use Rattle.std.proofs.Common.{◌≡◌, refl, sym, ◌∙◌, ap, subst, ℕ, zero, suc, List, [], ◌∷◌, ◌++◌, length, length-set}
use Rattle.std.specs.Prelude.{Option, Some, None, Bool, true, false, if◌then◌else◌, ◌+◌, ◌==◌, nat_le, unwrap_or, slice_get, slice_index_or, slice_set}
use Rattle.std.specs.Option.{option_map}
use Rattle.std.proofs.lemmas.Bool.{true≢false, and_parts}
use Rattle.std.proofs.lemmas.Option.{same_Some, none-some, slice_get-map}
use Rattle.model.specs.declared.value.Value.{Value}
use Rattle.model.specs.Names.{Member}
use Rattle.model.specs.Monitors.{unlocked, owns}
use Rattle.model.specs.ReferenceTypes.{ReferenceType}
use Rattle.model.specs.State.{ObjectOf, Instance, Primitives, References, Characters, Monitor, type_of, types_of, World}
use Rattle.model.specs.Texts.{Text}
use Rattle.model.specs.TextMethods.{is_blank, with_text_at, with_interned}
use Rattle.model.specs.WellTyped.{Extends}
use Rattle.model.specs.Worlds.{allocated, object_at, no_object, with_object, with_field, with_static, with_element, with_elements, with_text, elements_of, string_text, text_of}
use Rattle.data_races.specs.EventActions.{only_if, owned, owned_from}
use Rattle.data_races.proofs.Order.{get_left}
use Rattle.std.proofs.lemmas.Option.{slice_get_within}

-- ---- objects

-- an object in another one's place: of its type, an array of as many elements, and a String with its text, if it has one
pub record IsAlike (old new : ObjectOf Value) : Type 0 where
  pub type : type_of new ≡ type_of old
  pub size : length (elements_of new) ≡ length (elements_of old)
  pub text : (length (text_of old) == 0) ≡ false → string_text new ≡ string_text old

alike_itself : (o : ObjectOf Value) → IsAlike o o
alike_itself o = record { type = refl; size = refl; text = λ n. refl }

-- the text that it tells
text_told : (o p : ObjectOf Value) → string_text p ≡ string_text o → text_of p ≡ text_of o
text_told o p e = told p ∙ (ap (λ t. unwrap_or t []) e ∙ sym (told o))
  where
    told : (x : ObjectOf Value) → text_of x ≡ unwrap_or (string_text x) []
    told (Instance class fields) = refl
    told (Primitives of elements) = refl
    told (References of elements) = refl
    told (Characters text) = refl

-- a text that is not empty is that of a String
pub text_there : (o : ObjectOf Value) → (length (text_of o) == 0) ≡ false → string_text o ≡ Some (text_of o)
text_there (Instance class fields) n = absurd (true≢false n)
text_there (Primitives of elements) n = absurd (true≢false n)
text_there (References of elements) n = absurd (true≢false n)
text_there (Characters text) n = refl

alike_trans : (o p q : ObjectOf Value) → IsAlike o p → IsAlike p q → IsAlike o q
alike_trans o p q a b =
    record {
      type = b.type ∙ a.type;
      size = b.size ∙ a.size;
      text = λ n. b.text (ap (λ t. length t == 0) (text_told o p (a.text n)) ∙ n) ∙ a.text n;
    }

-- each object is there, with the same type, as many elements and its text
abbrev pub KeepsObjects : List (ObjectOf Value) → List (ObjectOf Value) → Type 0
KeepsObjects before after =
    (r : ℕ) (old : ObjectOf Value) → slice_get before r ≡ Some old → (new : ObjectOf Value) × ((slice_get after r ≡ Some new) × IsAlike old new)

keeps_all : (xs : List (ObjectOf Value)) → KeepsObjects xs xs
keeps_all xs r old e = (old, (e, alike_itself old))

keeps_set : (xs : List (ObjectOf Value)) (r : ℕ) (o d : ObjectOf Value) → IsAlike (slice_index_or xs r d) o → KeepsObjects xs (slice_set xs r o)
keeps_set [] r o d a q old e = absurd (none-some old e)
keeps_set (x ∷ xs) zero o d a zero old e = (o, (refl, subst (λ z. IsAlike z o) (same_Some x old e) a))
keeps_set (x ∷ xs) zero o d a (suc q) old e = (old, (e, alike_itself old))
keeps_set (x ∷ xs) (suc r) o d a zero old e = (old, (e, alike_itself old))
keeps_set (x ∷ xs) (suc r) o d a (suc q) old e = keeps_set xs r o d a q old e

keeps_more : (xs more : List (ObjectOf Value)) → KeepsObjects xs (xs ++ more)
keeps_more xs more r old e = (old, (get_left xs more r (slice_get_within xs r old e) ∙ e, alike_itself old))

keeps_both : (xs ys zs : List (ObjectOf Value)) → KeepsObjects xs ys → KeepsObjects ys zs → KeepsObjects xs zs
keeps_both xs ys zs f g r old e =
    let p = f r old e in
    let q = g r p.0 p.1.0 in
    (q.0, (q.1.0, alike_trans old p.0 q.0 p.1.1 q.1.1))

pub extends : (xs ys : List (ObjectOf Value)) → KeepsObjects xs ys → Extends (types_of xs) (types_of ys)
extends xs ys keeps = record { keeps = λ r t e. by r t (slice_get xs r) refl (sym (slice_get-map type_of xs r) ∙ e) }
  where
    by : (r : ℕ) (t : ReferenceType) (o : Option (ObjectOf Value)) → slice_get xs r ≡ o → option_map type_of o ≡ Some t → slice_get (types_of ys) r ≡ Some t
    by r t None q e = absurd (none-some t e)
    by r t (Some old) q e =
        let p = keeps r old q in
        slice_get-map type_of ys r ∙ (ap (option_map type_of) p.1.0 ∙ (ap Some p.1.1.type ∙ e))

-- ---- worlds

pub record IsGrown (w v : World) : Type 0 where
  pub classes : v.classes ≡ w.classes
  pub owned : (t : ℕ) → owned t v ≡ owned t w
  pub threads : v.threads ≡ w.threads
  pub objects : KeepsObjects w.heap v.heap

pub grown_itself : (w : World) → IsGrown w w
grown_itself w = record { classes = refl; owned = λ t. refl; threads = refl; objects = keeps_all w.heap }

pub grown_both : (w v u : World) → IsGrown w v → IsGrown v u → IsGrown w u
grown_both w v u a b =
    record {
      classes = b.classes ∙ a.classes;
      owned = λ t. b.owned t ∙ a.owned t;
      threads = b.threads ∙ a.threads;
      objects = keeps_both w.heap v.heap u.heap a.objects b.objects;
    }

pub grown_by_static : (w : World) (field : Member) (value : Value) → IsGrown w (with_static w field value)
grown_by_static w field value = record { classes = refl; owned = λ t. refl; threads = refl; objects = keeps_all w.heap }

grown_by_object : (w : World) (r : ℕ) (o : ObjectOf Value) → IsAlike (object_at w r) o → IsGrown w (with_object w r o)
grown_by_object w r o a = record { classes = refl; owned = λ t. refl; threads = refl; objects = keeps_set w.heap r o no_object a }

field_alike : (field : Member) (value : Value) (o : ObjectOf Value) → IsAlike o (with_field field value o)
field_alike field value (Instance class fields) = record { type = refl; size = refl; text = λ n. refl }
field_alike field value (Primitives of elements) = record { type = refl; size = refl; text = λ n. refl }
field_alike field value (References of elements) = record { type = refl; size = refl; text = λ n. refl }
field_alike field value (Characters text) = record { type = refl; size = refl; text = λ n. refl }

pub grown_by_field : (w : World) (r : ℕ) (field : Member) (value : Value) → IsGrown w (with_object w r (with_field field value (object_at w r)))
grown_by_field w r field value = grown_by_object w r (with_field field value (object_at w r)) (field_alike field value (object_at w r))

element_alike : (index : ℕ) (value : Value) (o : ObjectOf Value) → IsAlike o (with_element index value o)
element_alike index value (Instance class fields) = record { type = refl; size = refl; text = λ n. refl }
element_alike index value (Primitives of elements) = record { type = refl; size = length-set elements index value; text = λ n. refl }
element_alike index value (References of elements) = record { type = refl; size = length-set elements index value; text = λ n. refl }
element_alike index value (Characters text) = record { type = refl; size = refl; text = λ n. refl }

pub grown_by_element : (w : World) (r index : ℕ) (value : Value) → IsGrown w (with_object w r (with_element index value (object_at w r)))
grown_by_element w r index value = grown_by_object w r (with_element index value (object_at w r)) (element_alike index value (object_at w r))

elements_alike : (index : ℕ) (stored : List Value) (o : ObjectOf Value) → IsAlike o (with_elements index stored o)
elements_alike index [] o = alike_itself o
elements_alike index (value ∷ stored) o =
    alike_trans o (with_element index value o) (with_elements (index + 1) stored (with_element index value o)) (element_alike index value o) (elements_alike (index + 1) stored (with_element index value o))

pub grown_by_elements : (w : World) (r index : ℕ) (stored : List Value) → IsGrown w (with_object w r (with_elements index stored (object_at w r)))
grown_by_elements w r index stored = grown_by_object w r (with_elements index stored (object_at w r)) (elements_alike index stored (object_at w r))

-- an empty String may get a text
text_alike : (text : Text) (o : ObjectOf Value) → (length (text_of o) == 0) ≡ true → IsAlike o (with_text text o)
text_alike text (Instance class fields) e = record { type = refl; size = refl; text = λ n. refl }
text_alike text (Primitives of elements) e = record { type = refl; size = refl; text = λ n. refl }
text_alike text (References of elements) e = record { type = refl; size = refl; text = λ n. refl }
text_alike text (Characters old) e = record { type = refl; size = refl; text = λ n. absurd (true≢false (sym e ∙ n)) }

pub grown_by_text : (w : World) (opened r : ℕ) (text : Text) → IsGrown w (with_text_at opened w r text)
grown_by_text w opened r text = by (is_blank opened w r) refl
  where
    by : (b : Bool) → is_blank opened w r ≡ b → IsGrown w (if b then with_object w r (with_text text (object_at w r)) else w)
    by true e =
        grown_by_object w r (with_text text (object_at w r)) (text_alike text (object_at w r) (and_parts (nat_le opened r) (length (text_of (object_at w r)) == 0) e).1)
    by false e = grown_itself w

pub grown_by_interned : (w : World) (string : ℕ) → IsGrown w (with_interned w string)
grown_by_interned w string = record { classes = refl; owned = λ t. refl; threads = refl; objects = keeps_all w.heap }

-- nobody owns the monitor of a new object
owned_more : (t n : ℕ) (ms : List Monitor) → owned_from t n (ms ++ unlocked ∷ []) ≡ owned_from t n ms
owned_more t n [] = refl
owned_more t n (m ∷ ms) = ap (λ ns. only_if (owns t m.owner) (n ∷ []) ++ ns) (owned_more t (suc n) ms)

pub grown_by_new : (w : World) (o : ObjectOf Value) → IsGrown w (allocated w o)
grown_by_new w o = record { classes = refl; owned = λ t. owned_more t 0 w.monitors; threads = refl; objects = keeps_more w.heap (o ∷ []) }
