-- Members by the numbers of their texts.
use Rattle.std.proofs.Common.{◌≡◌, ◌∙◌, ℕ, ◌+◌, ◌<◌, Bool, true, false, eqb, ltb, not, ◌&&◌, ◌||◌, List, [], ◌∷◌, ◌++◌, length, length-append, map, get_or, refl, sym, ap, subst, arith, Option, Some, None, ⊎_elim}
use Rattle.std.specs.Prelude.{position, slice_get, is_some}
use Rattle.std.specs.Option.{option_and_then}
use Rattle.std.specs.List.{position_or_len, list_any}
use borrow.Author.Tests.{ltb-true}
use Rattle.std.proofs.lemmas.Bool.{or_parts}
use Rattle.std.proofs.lemmas.Bool.Decides.{eqb_tells}
use Rattle.std.proofs.Math.ListN.{get_or-map}
use Rattle.std.proofs.lemmas.Option.{slice_get_within, slice_get-get_or}
use Rattle.model.specs.Names.{Name, name_eq, spells, Member}
use Rattle.model.specs.Tree.{Entry, Unusable, FieldTree, MethodTree, FileTree}
use Rattle.model.specs.Pool.{utf8_of, utf8_at}
use Rattle.model.specs.Classes.{Program, is_method}
use Rattle.model.specs.Lookup.{is_field}
use Rattle.hierarchy.specs.MemberKeys.{number_of, numbers_of, number_at, is_unnumbered, is_same_number, key_of, field_key, method_key, key_sought, is_of_key, has_unnumbered, has_unnumbered_field, has_unnumbered_method, HasKeys, HasMemberKeys}
use Rattle.hierarchy.specs.Places.{class_at}
use Rattle.hierarchy.specs.MembersAt.{IsSought, method_place, field_place}
use Rattle.hierarchy.specs.declared.member_keys.ClassKeys.{ClassKeys}
use Rattle.hierarchy.specs.declared.member_keys.MemberKey.{MemberKey}
use Rattle.hierarchy.proofs.Finding.{position-map, position_within, passes_at, find_passes}
use Rattle.hierarchy.proofs.SetLaws.{same_name, no_item}
use Rattle.hierarchy.proofs.Indices.{get_front, get_behind}
use Rattle.hierarchy.proofs.RowLaws.{name_eq_refl}

-- two tests that agree on what isn't so of any item
agree : {A : Type 0} (p q odd : A → Bool) → ((x : A) → odd x ≡ false → p x ≡ q x) → (xs : List A) → list_any odd xs ≡ false
    → position_or_len p xs ≡ position_or_len q xs
agree p q odd same [] h = refl
agree p q odd same (x ∷ xs) h = let both = or_parts (odd x) (list_any odd xs) h in rw (same x both.0, agree p q odd same xs both.1) refl

position_agree : {A : Type 0} (p q odd : A → Bool) → ((x : A) → odd x ≡ false → p x ≡ q x) → (xs : List A) → list_any odd xs ≡ false
    → position p xs ≡ position q xs
position_agree p q odd same xs h = rw (agree p q odd same xs h) refl

module _ (texts : List Name) where
  -- a text stands at the place that is its number
  stands : (t : Name) (i : ℕ) → position (name_eq t) texts ≡ Some i → slice_get texts i ≡ Some t
  stands t i e = by (slice_get texts i) refl
    where
      by : (o : Option Name) → slice_get texts i ≡ o → slice_get texts i ≡ Some t
      by None q = absurd (no_item texts i (position_within (name_eq t) texts i e) q)
      by (Some x) q = q ∙ ap Some (sym (same_name t x (find_passes (name_eq t) texts x (passes_at (name_eq t) texts i x e q))))

  same_number_of : (t s : Name) (i j : ℕ) → position (name_eq t) texts ≡ Some i → position (name_eq s) texts ≡ Some j
      → eqb i j ≡ name_eq t s
  same_number_of t s i j e f =
      ⊎_elim
      (λ is. is.0 ∙ sym (equal is.1))
      (λ is. is.0 ∙ sym (unlike is.1 (name_eq t s) refl))
      (eqb_tells i j)
    where
      equal : i ≡ j → name_eq t s ≡ true
      equal same =
          let here : slice_get texts i ≡ Some t = stands t i e in
          let there : slice_get texts j ≡ Some s = stands s j f in
          let text : t ≡ s = cc in
          ap (name_eq t) (sym text) ∙ name_eq_refl t

      unlike : (i ≡ j → ⊥) → (b : Bool) → name_eq t s ≡ b → name_eq t s ≡ false
      unlike differ false d = d
      unlike differ true d = let text : t ≡ s = same_name t s d in let same : i ≡ j = cc in absurd (differ same)

  -- a text that has a number has that of a name where it is this name
  same_text : (text : Option Name) (s : Name) → (is_some text && not (is_some (number_of texts text))) ≡ false
      → is_same_number (number_of texts text) (number_of texts (Some s)) ≡ spells text s
  same_text None s h = refl
  same_text (Some t) s h = by (position (name_eq t) texts) refl (position (name_eq s) texts) refl h
    where
      apart : (i : ℕ) (b : Bool) → position (name_eq t) texts ≡ Some i → position (name_eq s) texts ≡ None → name_eq t s ≡ b
          → false ≡ name_eq t s
      apart i false e f d = sym d
      apart i true e f d = let text : t ≡ s = same_name t s d in absurd cc

      by : (p : Option ℕ) → position (name_eq t) texts ≡ p → (q : Option ℕ) → position (name_eq s) texts ≡ q
          → not (is_some p) ≡ false → is_same_number p q ≡ name_eq t s
      by None e q f h = absurd cc
      by (Some i) e None f h = apart i (name_eq t s) e f refl
      by (Some i) e (Some j) f h = same_number_of t s i j e f

  -- the number of the text of an index
  number_in : (pool : List Entry) (index : ℕ) → number_at (numbers_of texts pool) index ≡ number_of texts (utf8_at pool index)
  number_in pool index = get_or-map (λ e. number_of texts (utf8_of e)) (Unusable ∷ pool) index Unusable

  same_at : (pool : List Entry) (index : ℕ) (s : Name) → is_unnumbered pool (numbers_of texts pool) index ≡ false
      → is_same_number (number_at (numbers_of texts pool) index) (number_of texts (Some s)) ≡ spells (utf8_at pool index) s
  same_at pool index s h =
      ap (λ n. is_same_number n (number_of texts (Some s))) (number_in pool index)
      ∙ same_text (utf8_at pool index) s (ap (λ n. is_some (utf8_at pool index) && not (is_some n)) (sym (number_in pool index)) ∙ h)

  same_key : (pool : List Entry) (name descriptor : ℕ) (m : Member) → has_unnumbered pool (numbers_of texts pool) name descriptor ≡ false
      → is_of_key (key_sought texts m) (key_of (numbers_of texts pool) name descriptor)
      ≡ (spells (utf8_at pool name) m.name && spells (utf8_at pool descriptor) m.descriptor)
  same_key pool name descriptor m h =
      let both = or_parts _ _ h in
      let rest = is_same_number (number_at (numbers_of texts pool) descriptor) (number_of texts (Some m.descriptor)) in
      ap (λ b. b && rest) (same_at pool name m.name both.0)
      ∙ ap (λ b. spells (utf8_at pool name) m.name && b) (same_at pool descriptor m.descriptor both.1)

  pub methods_by_key : (pool : List Entry) (methods : List MethodTree) (m : Member)
      → list_any (has_unnumbered_method pool (numbers_of texts pool)) methods ≡ false
      → position (is_of_key (key_sought texts m)) (map (method_key (numbers_of texts pool)) methods)
      ≡ position (is_method pool m.name m.descriptor) methods
  methods_by_key pool methods m h =
      let numbers = numbers_of texts pool in
      position-map (is_of_key (key_sought texts m)) (method_key numbers) methods
      ∙ position_agree (λ x. is_of_key (key_sought texts m) (method_key numbers x)) (is_method pool m.name m.descriptor) (has_unnumbered_method pool numbers) (λ x known. same_key pool x.name x.descriptor m known) methods h

  pub fields_by_key : (pool : List Entry) (fields : List FieldTree) (m : Member)
      → list_any (has_unnumbered_field pool (numbers_of texts pool)) fields ≡ false
      → position (is_of_key (key_sought texts m)) (map (field_key (numbers_of texts pool)) fields)
      ≡ position (is_field pool m.name m.descriptor) fields
  fields_by_key pool fields m h =
      let numbers = numbers_of texts pool in
      position-map (is_of_key (key_sought texts m)) (field_key numbers) fields
      ∙ position_agree (λ x. is_of_key (key_sought texts m) (field_key numbers x)) (is_field pool m.name m.descriptor) (has_unnumbered_field pool numbers) (λ x known. same_key pool x.name x.descriptor m known) fields h

-- ---- tables of keys

-- the empty table has no keys
pub no_keys : (files : Program) (texts : List Name) (table : List ClassKeys) → table ≡ [] → HasMemberKeys files texts table
no_keys files texts [] e place keys file at class = absurd cc
no_keys files texts (k ∷ table) e place keys file at class = absurd cc

same_item : {A : Type 0} (o : Option A) (x y : A) → o ≡ Some x → o ≡ Some y → x ≡ y
same_item o x y e f = cc

front_of : (place k n all : ℕ) → place ≡ n → all ≡ n + 1 → k < all → (k ≡ place → ⊥) → k < n
front_of place k n all e more within differ = omega (arith, e, more, within, differ)

-- the keys of one more class
pub keys_more : (files : Program) (texts : List Name) (table : List ClassKeys) (place : ℕ) (keys : ClassKeys) (file : FileTree)
    → place ≡ length table → class_at files place ≡ Some file → HasKeys texts file keys → HasMemberKeys files texts table
    → HasMemberKeys files texts (table ++ keys ∷ [])
keys_more files texts table place keys file end class here before p k f at is = ⊎_elim last earlier (eqb_tells p place)
  where
    last : (eqb p place ≡ true) × (p ≡ place) → HasKeys texts f k
    last e =
        let zero_on : length table + 0 ≡ p = omega (arith, e.1, end) in
        let behind : slice_get (table ++ keys ∷ []) p ≡ Some keys = ap (slice_get (table ++ keys ∷ [])) (sym zero_on) ∙ get_behind table (keys ∷ []) 0 in
        let same : keys ≡ k = same_item (slice_get (table ++ keys ∷ []) p) keys k behind at in
        let same_file : file ≡ f = same_item (class_at files p) file f (ap (class_at files) e.1 ∙ class) is in
        subst (λ x. HasKeys texts x k) same_file (subst (HasKeys texts file) same here)

    earlier : (eqb p place ≡ false) × (p ≡ place → ⊥) → HasKeys texts f k
    earlier e =
        let within : p < length (table ++ keys ∷ []) = slice_get_within (table ++ keys ∷ []) p k at in
        let front : p < length table = front_of place p (length table) (length (table ++ keys ∷ [])) end (length-append table (keys ∷ [])) within e.1 in
        before p k f (sym (get_front table (keys ∷ []) p front) ∙ at) is

-- ---- the keys of a class

pub map_twice : {A B C : Type 0} (f : A → B) (g : B → C) (xs : List A) → map (λ x. g (f x)) xs ≡ map g (map f xs)
map_twice f g [] = refl
map_twice f g (x ∷ xs) = ap (λ l. g (f x) ∷ l) (map_twice f g xs)

pub any_of_map : {A B : Type 0} (f : A → B) (p : B → Bool) (xs : List A) → list_any (λ x. p (f x)) xs ≡ list_any p (map f xs)
any_of_map f p [] = refl
any_of_map f p (x ∷ xs) = ap (λ b. p (f x) || b) (any_of_map f p xs)

-- what a slice has at an index, by what `get` gave
pub read_at : {A : Type 0} (read items : List A) (i : ℕ) (x : A) → read ≡ items → true ≡ ltb i (length read) → x ≡ get_or read i x
    → slice_get items i ≡ Some x
read_at read items i x same lt is = ap (λ (l : List _). slice_get l i) (sym same) ∙ slice_get-get_or read i x (ltb-true _ _ (sym lt)) ∙ ap Some (sym is)

-- ---- what is sought, by its key

pub method_by_key : (files : Program) (texts : List Name) (classes : List ClassKeys) (m : Member) (key : MemberKey) (place : ℕ)
    (keys : ClassKeys) (file : FileTree) (found : Option ℕ) → IsSought files texts classes m key → slice_get classes place ≡ Some keys
    → class_at files place ≡ Some file → found ≡ position (is_of_key key) keys.methods.items → found ≡ method_place files m place
method_by_key files texts classes m key place keys file found sought at class is =
    let told : HasKeys texts file keys = sought.keyed place keys file at class in
    is ∙ ap (λ k. position (is_of_key k) keys.methods.items) sought.numbered
    ∙ ap (λ l. position (is_of_key (key_sought texts m)) l) told.of_methods
    ∙ methods_by_key texts file.pool file.methods m told.methods_numbered
    ∙ ap (λ (o : Option FileTree). option_and_then (λ (f : FileTree). position (is_method f.pool m.name m.descriptor) f.methods) o) (sym class)

pub field_by_key : (files : Program) (texts : List Name) (classes : List ClassKeys) (m : Member) (key : MemberKey) (place : ℕ)
    (keys : ClassKeys) (file : FileTree) (found : Option ℕ) → IsSought files texts classes m key → slice_get classes place ≡ Some keys
    → class_at files place ≡ Some file → found ≡ position (is_of_key key) keys.fields.items → found ≡ field_place files m place
field_by_key files texts classes m key place keys file found sought at class is =
    let told : HasKeys texts file keys = sought.keyed place keys file at class in
    is ∙ ap (λ k. position (is_of_key k) keys.fields.items) sought.numbered
    ∙ ap (λ l. position (is_of_key (key_sought texts m)) l) told.of_fields
    ∙ fields_by_key texts file.pool file.fields m told.fields_numbered
    ∙ ap (λ (o : Option FileTree). option_and_then (λ (f : FileTree). position (is_field f.pool m.name m.descriptor) f.fields) o) (sym class)
