-- The names that marks of texts stand for, one by one.
use Rattle.std.proofs.Common.{◌≡◌, ◌⊎◌, ◌∙◌, ℕ, zero, suc, ◌+◌, ◌<◌, ◌≤◌, List, [], ◌∷◌, ◌++◌, length, get_or, map, take, Bool, true, false, Option, Some, None, refl, sym, ap, subst, inl, inr, ⊎_elim, append_assoc, arith}
use Rattle.std.specs.List.{Contains, filter_map, cons_option}
use Rattle.std.specs.Option.{option_map, option_to_list}
use Rattle.std.proofs.lemmas.Bool.{cases_lt}
use Rattle.std.proofs.lemmas.List.{append-nil, get_or_past, take_more, map_more, length-map, length-take-le}
use Rattle.std.proofs.lemmas.List.Elements.{Contains-append_left, Contains-append_right, Contains-append_cases, filter_map-append}
use Rattle.constant_pool.specs.declared.constant.Constant.{Constant}
use Rattle.constant_pool.specs.View.{entry_of, entries_of}
use Rattle.model.specs.Names.{Name}
use Rattle.model.specs.Tree.{Entry, Utf8, Unusable, FileTree}
use Rattle.model.specs.Spelling.{entry_at}
use Rattle.model.specs.Pool.{utf8_of, utf8_at}
use Rattle.model.specs.Descriptors.{FieldType, MethodType}
use Rattle.model.specs.DescriptorScan.{field_type, method_type}
use Rattle.model.specs.DescriptorParts.{class_of_element, return_types, types_in, classes_in}
use Rattle.constant_pool.specs.declared.descriptors.field.Field.{Field}
use Rattle.constant_pool.specs.descriptors.View.{field_of}
use Rattle.library_files.specs.declared.needed_texts.NeededTexts.{NeededTexts}
use Rattle.library_files.specs.NeededTexts.{Adds, is_marked, IsMarkedText, IsDescribed, IsNeededBy}
use Rattle.library_files.specs.Names.{where_so, names_of_entry, names_from}
use Rattle.library_files.specs.Needs.{needed_classes, AreNeeded}

where_there : (b : Bool) (names : List Name) (name : Name) → b ≡ true → Contains names name → Contains (where_so b names) name
where_there true names name e h = h
where_there false names name e h = absurd cc

where_only : (b : Bool) (names : List Name) (name : Name) → Contains (where_so b names) name → (b ≡ true) × Contains names name
where_only true names name h = (refl, h)
where_only false names name h = absurd (omega (arith, h.1))

only_one : (text name : Name) → Contains (text ∷ []) name → text ≡ name
only_one text name (zero, lt, e) = e
only_one text name (suc k, lt, e) = absurd (omega (arith, lt))

is_text : (e : Entry) (text : Name) → utf8_of e ≡ Some text → e ≡ Utf8 text
is_text (Utf8 t) text h = cc
is_text e text h = absurd cc

module _ (texts : NeededTexts) where
  -- ---- a name that stands for an entry

  entry_needs : (pool : List Entry) (k : ℕ) (e : Entry) (name : Name) → entry_at pool k ≡ e → Contains (names_of_entry texts k e) name → IsNeededBy pool texts name
  entry_needs pool k (Utf8 text) name at h =
      let there : utf8_at pool k ≡ Some text = ap utf8_of at in
      ⊎_elim
      (λ l. let so = where_only (is_marked texts.names.items k) (text ∷ []) name l in
      inl (record { index = k; marked = so.0; stands = there ∙ ap Some (only_one text name so.1) }))
      (λ r. let so = where_only (is_marked texts.descriptors.items k) (classes_in text) name r in
      inr (record { text = text; marked = record { index = k; marked = so.0; stands = there }; among = so.1 }))
      (Contains-append_cases (where_so (is_marked texts.names.items k) (text ∷ [])) (where_so (is_marked texts.descriptors.items k) (classes_in text)) name h)
  entry_needs pool k e name at h = absurd (omega (arith, h.1))

  named_there : (k : ℕ) (text : Name) (e : Entry) → e ≡ Utf8 text → is_marked texts.names.items k ≡ true → Contains (names_of_entry texts k e) text
  named_there k text e is marked =
      subst (λ (x : Entry). Contains (names_of_entry texts k x) text) (sym is)
      (Contains-append_left (where_so (is_marked texts.names.items k) (text ∷ [])) (where_so (is_marked texts.descriptors.items k) (classes_in text)) text
      (where_there (is_marked texts.names.items k) (text ∷ []) text marked (zero, omega arith, refl)))

  described_there : (k : ℕ) (text name : Name) (e : Entry) → e ≡ Utf8 text → is_marked texts.descriptors.items k ≡ true → Contains (classes_in text) name
      → Contains (names_of_entry texts k e) name
  described_there k text name e is marked among =
      subst (λ (x : Entry). Contains (names_of_entry texts k x) name) (sym is)
      (Contains-append_right (where_so (is_marked texts.names.items k) (text ∷ [])) (where_so (is_marked texts.descriptors.items k) (classes_in text)) name
      (where_there (is_marked texts.descriptors.items k) (classes_in text) name marked among))

  -- ---- those of a constant pool

  from_entries : (whole pool : List Entry) (k : ℕ) → ((j : ℕ) → j < length pool → entry_at whole (k + j) ≡ get_or pool j Unusable)
      → (name : Name) → Contains (names_from texts k pool) name → IsNeededBy whole texts name
  from_entries whole [] k at name h = absurd (omega (arith, h.1))
  from_entries whole (e ∷ pool) k at name h =
      let here : k ≡ k + 0 = omega arith in
      ⊎_elim
      (λ l. entry_needs whole k e name (ap (entry_at whole) here ∙ at 0 (omega arith)) l)
      (λ r. from_entries whole pool (suc k) (λ j below. let next : suc k + j ≡ k + suc j = omega arith in ap (entry_at whole) next ∙ at (suc j) (omega (arith, below))) name r)
      (Contains-append_cases (names_of_entry texts k e) (names_from texts (suc k) pool) name h)

  to_entries : (pool : List Entry) (k i : ℕ) (name : Name) → i < length pool → Contains (names_of_entry texts (k + i) (get_or pool i Unusable)) name
      → Contains (names_from texts k pool) name
  to_entries [] k i name below h = absurd (omega (arith, below))
  to_entries (e ∷ pool) k zero name below h =
      let here : k + zero ≡ k = omega arith in
      Contains-append_left (names_of_entry texts k e) (names_from texts (suc k) pool) name (subst (λ (n : ℕ). Contains (names_of_entry texts n e) name) here h)
  to_entries (e ∷ pool) k (suc i) name below h =
      let next : k + suc i ≡ suc k + i = omega arith in
      Contains-append_right (names_of_entry texts k e) (names_from texts (suc k) pool) name
      (to_entries pool (suc k) i name (omega (arith, below)) (subst (λ (n : ℕ). Contains (names_of_entry texts n (get_or pool i Unusable)) name) next h))

  -- an index of a text is one more than a place
  placed : (pool : List Entry) (index : ℕ) (text : Name) → utf8_at pool index ≡ Some text
      → (i : ℕ) × (index ≡ 1 + i) × (i < length pool) × (get_or pool i Unusable ≡ Utf8 text)
  placed pool zero text h = absurd cc
  placed pool (suc i) text h = ⊎_elim
      (λ below. (i, omega arith, below, is_text (get_or pool i Unusable) text h))
      (λ above. let none : get_or pool i Unusable ≡ Unusable = get_or_past pool i Unusable above in absurd (no_text (get_or pool i Unusable) none h))
      (cases_lt i (length pool))
    where
      no_text : (e : Entry) → e ≡ Unusable → utf8_of e ≡ Some text → ⊥
      no_text e none some = let is : utf8_of e ≡ None = ap utf8_of none in absurd cc

  pub needed_there : (pool : List Entry) (name : Name) → IsNeededBy pool texts name → Contains (names_from texts 1 pool) name
  needed_there pool name (inl m) =
      let p = placed pool m.index name m.stands in
      let marked : is_marked texts.names.items (1 + p.0) ≡ true = subst (λ (n : ℕ). is_marked texts.names.items n ≡ true) p.1 m.marked in
      to_entries pool 1 p.0 name p.2 (named_there (1 + p.0) name (get_or pool p.0 Unusable) p.3 marked)
  needed_there pool name (inr d) =
      let p = placed pool d.marked.index d.text d.marked.stands in
      let marked : is_marked texts.descriptors.items (1 + p.0) ≡ true = subst (λ (n : ℕ). is_marked texts.descriptors.items n ≡ true) p.1 d.marked.marked in
      to_entries pool 1 p.0 name p.2 (described_there (1 + p.0) d.text name (get_or pool p.0 Unusable) p.3 marked d.among)

  pub there_needed : (pool : List Entry) (name : Name) → Contains (names_from texts 1 pool) name → IsNeededBy pool texts name
  there_needed pool name h =
      from_entries pool pool 1 (λ j below. let next : 1 + j ≡ suc j = omega arith in ap (entry_at pool) next) name h

  pub are_needed : (file : FileTree) (none : NeededTexts) (names : List Name) → ((name : Name) → IsNeededBy file.pool none name → ⊥)
      → Adds file.pool none texts (needed_classes file) → names ≡ names_from texts 1 file.pool → AreNeeded file names
  are_needed file none names nothing adds are = record {
    only = λ name h. ⊎_elim (λ l. absurd (nothing name l)) (λ r. r) (adds.only name (there_needed file.pool name (subst (λ (xs : List Name). Contains xs name) are h)));
    all = λ name h. subst (λ (xs : List Name). Contains xs name) (sym are) (needed_there file.pool name (adds.added name h));
  }

-- ---- one more

pub filter_map_more : {X Y : Type 0} (h : X → Option Y) (xs : List X) (i : ℕ) (d : X) → i < length xs
    → filter_map h (take (i + 1) xs) ≡ filter_map h (take i xs) ++ option_to_list (h (get_or xs i d))
filter_map_more {X} {Y} h xs i d below =
    ap (filter_map h) (take_more xs i d below) ∙ filter_map-append h (take i xs) (get_or xs i d ∷ []) ∙ ap (λ (l : List Y). filter_map h (take i xs) ++ l) (by (h (get_or xs i d)))
  where
    by : (o : Option Y) → cons_option o [] ≡ option_to_list o
    by None = refl
    by (Some y) = refl

pub pushed : {X : Type 0} (h : X → Option Name) (old mid new : List Name) (xs : List X) (i : ℕ) (d : X) → i < length xs
    → new ≡ mid ++ option_to_list (h (get_or xs i d)) → mid ≡ old ++ filter_map h (take i xs) → new ≡ old ++ filter_map h (take (i + 1) xs)
pushed h old mid new xs i d below is before =
    is ∙ ap (λ (l : List Name). l ++ option_to_list (h (get_or xs i d))) before
    ∙ append_assoc old (filter_map h (take i xs)) (option_to_list (h (get_or xs i d)))
    ∙ ap (λ (l : List Name). old ++ l) (sym (filter_map_more h xs i d below))

names_push : (texts : NeededTexts) (k : ℕ) (pool : List Entry) (e : Entry)
    → names_from texts k (pool ++ e ∷ []) ≡ names_from texts k pool ++ names_of_entry texts (k + length pool) e
names_push texts k [] e = let here : k ≡ k + 0 = omega arith in append-nil (names_of_entry texts k e) ∙ ap (λ (n : ℕ). names_of_entry texts n e) here
names_push texts k (first ∷ pool) e =
    let next : suc k + length pool ≡ k + length (first ∷ pool) = omega arith in
    ap (λ (l : List Name). names_of_entry texts k first ++ l) (names_push texts (suc k) pool e ∙ ap (λ (n : ℕ). names_from texts (suc k) pool ++ names_of_entry texts n e) next)
    ∙ sym (append_assoc (names_of_entry texts k first) (names_from texts (suc k) pool) (names_of_entry texts (k + length (first ∷ pool)) e))

pub names_more : (texts : NeededTexts) (pool : List Constant) (i : ℕ) (constant : Constant) → i < length pool → constant ≡ get_or pool i constant
    → names_from texts 1 (entries_of (take (i + 1) pool)) ≡ names_from texts 1 (entries_of (take i pool)) ++ names_of_entry texts (i + 1) (entry_of constant)
names_more texts pool i constant below is =
    let place : 1 + length (entries_of (take i pool)) ≡ i + 1 = omega (arith, length-map (take i pool) entry_of, length-take-le i pool (omega (arith, below))) in
    ap (names_from texts 1) (map_more entry_of pool i constant below ∙ ap (λ (x : Constant). entries_of (take i pool) ++ entry_of x ∷ []) (sym is))
    ∙ names_push texts 1 (entries_of (take i pool)) (entry_of constant)
    ∙ ap (λ (n : ℕ). names_from texts 1 (entries_of (take i pool)) ++ names_of_entry texts n (entry_of constant)) place

-- ---- descriptors

abbrev pub field_class : Field → Option Name
field_class f = class_of_element (field_of f).element

filtered_map : (fs : List Field) → filter_map (λ (f : FieldType). class_of_element f.element) (map field_of fs) ≡ filter_map field_class fs
filtered_map [] = refl
filtered_map (f ∷ fs) = ap (λ (l : List Name). cons_option (field_class f) l) (filtered_map fs)

-- the classes of the parameters, and of what is returned
pub described_method : (text : Name) (m : MethodType) (parameters : List Field) (returns : Option Field) → field_type text ≡ None → method_type text ≡ Some m
    → map field_of parameters ≡ m.parameters → option_map field_of returns ≡ m.returns
    → filter_map field_class parameters ++ filter_map field_class (option_to_list returns) ≡ classes_in text
described_method text m parameters returns none is are gives =
    let types : types_in text ≡ m.parameters ++ return_types m.returns = rw (none, is) refl in
    let both : m.parameters ++ return_types m.returns ≡ map field_of parameters ++ map field_of (option_to_list returns) =
    ap (λ (l : List FieldType). l ++ return_types m.returns) (sym are) ∙ ap (λ (o : Option FieldType). map field_of parameters ++ return_types o) (sym gives) ∙ ap (λ (l : List FieldType). map field_of parameters ++ l) (by returns) in
    sym (ap (filter_map (λ (f : FieldType). class_of_element f.element)) (types ∙ both)
    ∙ filter_map-append (λ (f : FieldType). class_of_element f.element) (map field_of parameters) (map field_of (option_to_list returns))
    ∙ ap (λ (l : List Name). l ++ filter_map (λ (f : FieldType). class_of_element f.element) (map field_of (option_to_list returns))) (filtered_map parameters)
    ∙ ap (λ (l : List Name). filter_map field_class parameters ++ l) (filtered_map (option_to_list returns)))
  where
    by : (o : Option Field) → return_types (option_map field_of o) ≡ map field_of (option_to_list o)
    by None = refl
    by (Some f) = refl
