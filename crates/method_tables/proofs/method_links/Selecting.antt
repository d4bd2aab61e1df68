-- The methods that classes declare, by numbers of their names and descriptors.
use Rattle.std.proofs.Common.{◌≡◌, ℕ, ◌+◌, ◌<◌, ◌≤◌, Bool, true, false, cond, eqb, ◌&&◌, List, [], ◌∷◌, ◌++◌, length, map, drop, get_or, refl, sym, ap, ◌∙◌, subst, arith, below_more, Option, Some, None}
use Rattle.std.specs.Prelude.{slice_get, is_some, find}
use Rattle.std.specs.Option.{option_and_then, option_map, option_map_or}
use Rattle.std.specs.Map.{lookup}
use Rattle.std.proofs.lemmas.Bool.{false≢true, and_parts, and_from}
use Rattle.std.proofs.lemmas.Option.{slice_get_within, get_or_from_slice_get}
use Rattle.std.proofs.lemmas.Bool.Decides.{Decides-eqb}
use Rattle.constant_pool.specs.Texts.{first_place}
use Rattle.constant_pool.proofs.TextLaws.{no_later, stands_there}
use Rattle.model.specs.Names.{Name, Member}
use Rattle.model.specs.Tree.{FileTree, MethodTree}
use Rattle.model.specs.Classes.{Program, name_of, declared_in, is_method}
use Rattle.model.specs.Lookup.{method_of, method_in_class, is_selectable, in_class, where_so}
use Rattle.hierarchy.specs.Places.{class_at}
use Rattle.hierarchy.specs.declared.place.MemberPlace.{MemberPlace}
use Rattle.hierarchy.proofs.Finding.{find_passes}
use Rattle.hierarchy.proofs.RowLaws.{row_pushed}
use Rattle.types.specs.method_code.Linked.{IsLinked}
use Rattle.method_tables.specs.declared.method_links.selectors.Part.{Part}
use Rattle.method_tables.specs.declared.method_links.selectors.Part.TheVariants as part
use Rattle.method_tables.specs.declared.method_links.declarations.Declaration.{Declaration}
use Rattle.method_tables.specs.method_links.Methods.{member_of, methods_of, member_at, Names}
use Rattle.method_tables.specs.method_links.Numbers.{NumberTable, AreNumbersOf}
use Rattle.method_tables.specs.method_links.Selected.{part_of, parts_of, firsts_of, key_of, is_declaration, selectable_at, AreDeclared}
use Rattle.method_tables.proofs.method_links.Numbering.{at, member_is, at_place}
use Rattle.method_tables.proofs.method_links.Lists.{find_place}
use Rattle.method_tables.proofs.method_links.Found.{same_member}
use Rattle.method_tables.proofs.method_links.ByName.{class_found, method_found}
use Rattle.run_laws.proofs.laws.Lists.{get_map}

-- ---- numbers of texts

stands_among : (texts : List Name) (n : ℕ) (t : Name) → slice_get texts n ≡ Some t → get_or texts (first_place texts t) [] ≡ t
stands_among texts n t e =
    let lt = slice_get_within texts n t e in
    let le : first_place texts t ≤ n = subst (λ z. first_place texts z ≤ n) (get_or_from_slice_get texts n t [] e) (no_later texts n lt) in
    stands_there texts t (omega (arith, lt, le))

module _ (files : Program) (part : Part) where
  first_number : (n : ℕ) (m : Member) → slice_get (methods_of files) n ≡ Some m
      → get_or (firsts_of (parts_of part files)) n 0 ≡ first_place (parts_of part files) (part_of part m)
  first_number n m e =
      get_or_from_slice_get (firsts_of (parts_of part files)) n (first_place (parts_of part files) (part_of part m)) 0
      (get_map (first_place (parts_of part files)) (parts_of part files) n (part_of part m) (get_map (part_of part) (methods_of files) n m e))

  -- methods of one number have one text
  same_text : (n k : ℕ) (m o : Member) → slice_get (methods_of files) n ≡ Some m → slice_get (methods_of files) k ≡ Some o
      → get_or (firsts_of (parts_of part files)) n 0 ≡ get_or (firsts_of (parts_of part files)) k 0 → part_of part m ≡ part_of part o
  same_text n k m o e f h =
      sym (stands_among (parts_of part files) n (part_of part m) (get_map (part_of part) (methods_of files) n m e))
      ∙ ap (λ i. get_or (parts_of part files) i []) (sym (first_number n m e) ∙ h ∙ first_number k o f)
      ∙ stands_among (parts_of part files) k (part_of part o) (get_map (part_of part) (methods_of files) k o f)

  -- and the other way round
  same_number : (n k : ℕ) (m o : Member) → slice_get (methods_of files) n ≡ Some m → slice_get (methods_of files) k ≡ Some o
      → part_of part m ≡ part_of part o
      → get_or (firsts_of (parts_of part files)) n 0 ≡ get_or (firsts_of (parts_of part files)) k 0
  same_number n k m o e f h = first_number n m e ∙ ap (first_place (parts_of part files)) h ∙ sym (first_number k o f)

-- ---- keys

abbrev key_with : ℕ → ℕ → ℕ → Declaration
key_with class name descriptor = record { class = class; name = name; descriptor = descriptor }

abbrev member_with : Name → Name → Name → Member
member_with class name descriptor = record { class = class; name = name; descriptor = descriptor }

same_key : (key : Declaration) → is_declaration key key ≡ true
same_key key = and_from _ _ (same key.class) (and_from _ _ (same key.name) (same key.descriptor))
  where
    same : (n : ℕ) → eqb n n ≡ true
    same n = (Decides-eqb n n).1 refl

key_same : (class a b d f : ℕ) → a ≡ b → d ≡ f → key_with class a d ≡ key_with class b f
key_same class a b d f e g = ap (λ n. key_with class n d) e ∙ ap (key_with class b) g

member_same : (o : Member) (class : Name) (m : Member) → o.class ≡ class → o.name ≡ m.name → o.descriptor ≡ m.descriptor
    → o ≡ in_class class m
member_same o class m a b d =
    ap (λ c. member_with c o.name o.descriptor) a ∙ ap (λ n. member_with class n o.descriptor) b ∙ ap (member_with class m.name) d

-- ---- the entries of the table

module _ (files : Program) (table : NumberTable) (names descriptors : List ℕ) where
  abbrev pub key : ℕ → ℕ → Declaration
  key class number = key_of names descriptors class number

  -- a method that stands at a place in a class and may be selected
  pub record Stands (place : MemberPlace) : Type 0 where
    pub file : FileTree
    pub tree : MethodTree
    pub class : class_at files place.class ≡ Some file
    pub method : slice_get file.methods place.member ≡ Some tree
    pub selectable : is_selectable tree ≡ true

  -- the number of a key is of a method that its class declares so
  pub record IsEntry (wanted : Declaration) (number : ℕ) : Type 0 where
    pub place : MemberPlace
    pub numbered : slice_get table.places number ≡ Some place
    pub stands : Stands place
    pub keyed : is_declaration (key place.class number) wanted ≡ true

  abbrev pub Sound : List (Declaration × ℕ) → Type 0
  Sound declared = (wanted : Declaration) (number : ℕ) → lookup (is_declaration wanted) declared ≡ Some number → IsEntry wanted number

  -- each such method before a number has an entry
  abbrev pub Complete : List (Declaration × ℕ) → ℕ → Type 0
  Complete declared n = (number : ℕ) → number < n → (place : MemberPlace) → slice_get table.places number ≡ Some place → Stands place
      → is_some (lookup (is_declaration (key place.class number)) declared) ≡ true

  pub none_complete : (declared : List (Declaration × ℕ)) → Complete declared 0
  none_complete declared number lt place s h = absurd (no number lt)
    where
      no : (n : ℕ) → n < 0 → ⊥
      no n lt = omega (arith, lt)

  -- one entry more
  module _ (declared new : List (Declaration × ℕ)) (n : ℕ) (place : MemberPlace) (at_n : slice_get table.places n ≡ Some place) (updates : (q : Declaration) → lookup (is_declaration q) new ≡ cond (is_declaration (key place.class n) q) (Some n) (lookup (is_declaration q) declared)) where
    pub more_sound : Stands place → Sound declared → Sound new
    more_sound stands sound wanted number e = by (is_declaration (key place.class n) wanted) refl (sym (updates wanted) ∙ e)
      where
        by : (b : Bool) → is_declaration (key place.class n) wanted ≡ b
            → cond b (Some n) (lookup (is_declaration wanted) declared) ≡ Some number → IsEntry wanted number
        by true h e =
            let same : n ≡ number = cc in
            subst (λ k. IsEntry wanted k) same (record { place = place; numbered = at_n; stands = stands; keyed = h })
        by false h e = sound wanted number e

    pub more_complete : Complete declared n → Complete new (n + 1)
    more_complete complete =
        below_more (λ (k : ℕ). (p : MemberPlace) → slice_get table.places k ≡ Some p → Stands p → is_some (lookup (is_declaration (key p.class k)) new) ≡ true) n
        (λ k lt p s h. ap is_some (updates (key p.class k)) ∙ still (is_declaration (key place.class n) (key p.class k)) (lookup (is_declaration (key p.class k)) declared) (complete k lt p s h))
        (λ p s h. let same : place ≡ p = cc in
        ap is_some (updates (key p.class n)) ∙ ap (λ b. is_some (cond b (Some n) (lookup (is_declaration (key p.class n)) declared))) (subst (λ (z : MemberPlace). is_declaration (key place.class n) (key z.class n) ≡ true) same (same_key (key place.class n))))
      where
        still : (b : Bool) (o : Option ℕ) → is_some o ≡ true → is_some (cond b (Some n) o) ≡ true
        still true o h = refl
        still false o h = h

  stands_at : (place : MemberPlace) → selectable_at files place ≡ true → Stands place
  stands_at place h = by (class_at files place.class) refl h
    where
      in_it : (file : FileTree) → class_at files place.class ≡ Some file → (o : Option MethodTree)
          → slice_get file.methods place.member ≡ o → option_map_or is_selectable o false ≡ true → Stands place
      in_it file c None s h = absurd (false≢true h)
      in_it file c (Some tree) s h = record { file = file; tree = tree; class = c; method = s; selectable = h }

      by : (o : Option FileTree) → class_at files place.class ≡ o
          → option_map_or is_selectable (option_and_then (λ (file : FileTree). slice_get file.methods place.member) o) false ≡ true
          → Stands place
      by None c h = absurd (false≢true h)
      by (Some file) c h = in_it file c (slice_get file.methods place.member) refl h

  selectable_so : (place : MemberPlace) → Stands place → selectable_at files place ≡ true
  selectable_so place st =
      ap (λ o. option_map_or is_selectable (option_and_then (λ (file : FileTree). slice_get file.methods place.member) o) false) st.class
      ∙ ap (λ o. option_map_or is_selectable o false) st.method ∙ st.selectable

  -- a number more whose method may not be selected
  pub pass_over : (declared : List (Declaration × ℕ)) (n : ℕ) (place : MemberPlace) → slice_get table.places n ≡ Some place
      → (Stands place → ⊥) → Complete declared n → Complete declared (n + 1)
  pass_over declared n place at_n unfit complete =
      below_more (λ (k : ℕ). (p : MemberPlace) → slice_get table.places k ≡ Some p → Stands p → is_some (lookup (is_declaration (key p.class k)) declared) ≡ true) n complete
      (λ p s h. let same : p ≡ place = cc in absurd (unfit (subst Stands same h)))

  -- a number more, whose method has an entry if it may be selected
  module _ (declared new : List (Declaration × ℕ)) (n : ℕ) (place : MemberPlace) (at_n : slice_get table.places n ≡ Some place)
      (updates : (q : Declaration) → lookup (is_declaration q) new ≡ cond (selectable_at files place && is_declaration (key place.class n) q) (Some n) (lookup (is_declaration q) declared)) where
    pub step_sound : Sound declared → Sound new
    step_sound sound = by (selectable_at files place) refl updates
      where
        by : (b : Bool) → selectable_at files place ≡ b
            → ((q : Declaration) → lookup (is_declaration q) new
            ≡ cond (b && is_declaration (key place.class n) q) (Some n) (lookup (is_declaration q) declared)) → Sound new
        by true h up = more_sound declared new n place at_n up (stands_at place h) sound
        by false h up = λ wanted number e. sound wanted number (sym (up wanted) ∙ e)

    pub step_complete : Complete declared n → Complete new (n + 1)
    step_complete complete = by (selectable_at files place) refl updates
      where
        by : (b : Bool) → selectable_at files place ≡ b
            → ((q : Declaration) → lookup (is_declaration q) new
            ≡ cond (b && is_declaration (key place.class n) q) (Some n) (lookup (is_declaration q) declared)) → Complete new (n + 1)
        by true h up = more_complete declared new n place at_n up complete
        by false h up = pass_over new n place at_n (λ st. false≢true (sym h ∙ selectable_so place st))
            (λ k lt p s st. ap is_some (up (key p.class k)) ∙ complete k lt p s st)

  -- ---- all entries

  module _ (linked : IsLinked files) (numbers : AreNumbersOf files table) (named : names ≡ firsts_of (parts_of part.Name files)) (described : descriptors ≡ firsts_of (parts_of part.Descriptor files)) where
    -- the method of a number is the one at its place
    method_at : (n : ℕ) (place : MemberPlace) (m : Member) → slice_get table.places n ≡ Some place → member_at files place ≡ Some m
        → slice_get (methods_of files) n ≡ Some m
    method_at n place m s h = sym (at_place files table numbers n place s) ∙ h

    module _ (class number : ℕ) (file : FileTree) (m : Member) (c : class_at files class ≡ Some file) (e : slice_get (methods_of files) number ≡ Some m) where
      -- the method as this class would declare it
      abbrev its : Member
      its = in_class (name_of file) m

      same_names : (j : ℕ) (o : Member) → slice_get (methods_of files) j ≡ Some o → get_or names j 0 ≡ get_or names number 0
          → o.name ≡ m.name
      same_names j o s h = same_text files part.Name j number o m s e (ap (λ (l : List ℕ). get_or l j 0) (sym named) ∙ h ∙ ap (λ (l : List ℕ). get_or l number 0) named)

      same_descriptors : (j : ℕ) (o : Member) → slice_get (methods_of files) j ≡ Some o
          → get_or descriptors j 0 ≡ get_or descriptors number 0 → o.descriptor ≡ m.descriptor
      same_descriptors j o s h = same_text files part.Descriptor j number o m s e (ap (λ (l : List ℕ). get_or l j 0) (sym described) ∙ h ∙ ap (λ (l : List ℕ). get_or l number 0) described)

      found : (j : ℕ) → IsEntry (key class number) j → Names files (Some j) (method_in_class files is_selectable m (name_of file))
      found j entry =
          let place = entry.place in
          let st = entry.stands in
          let parts = and_parts (eqb place.class class) _ entry.keyed in
          let texts = and_parts (eqb (get_or names j 0) (get_or names number 0)) _ parts.1 in
          let in_it : place.class ≡ class = (Decides-eqb place.class class).0 parts.0 in
          let files_same : Some st.file ≡ Some file = sym st.class ∙ ap (class_at files) in_it ∙ c in
          let file_same : st.file ≡ file = cc in
          let o = member_of st.file st.tree in
          let stands : slice_get (methods_of files) j ≡ Some o = method_at j place o entry.numbered (member_is files place.class place.member st.file st.tree st.class st.method) in
          let name : o.name ≡ m.name = same_names j o stands ((Decides-eqb (get_or names j 0) (get_or names number 0)).0 texts.0) in
          let descriptor : o.descriptor ≡ m.descriptor = same_descriptors j o stands ((Decides-eqb (get_or descriptors j 0) (get_or descriptors number 0)).0 texts.1) in
          let same : o ≡ its = member_same o (name_of file) m (ap name_of file_same) name descriptor in
          let tree : method_of files its ≡ Some st.tree = ap (method_of files) (sym same) ∙ method_found files linked place.class place.member st.file st.tree st.class st.method in
          let declared : method_in_class files is_selectable m (name_of file) ≡ Some its = ap (λ b. where_so b its) (ap (λ o. option_map_or is_selectable o false) tree ∙ st.selectable) in
          ap (λ x. Some x) stands ∙ ap (λ z. Some (Some z)) same ∙ sym (ap (option_map (λ m. Some m)) declared)

      module _ (declared : List (Declaration × ℕ)) (complete : Complete declared (length table.places)) (none : lookup (is_declaration (key class number)) declared ≡ None) where
        lost : (tree : MethodTree) → method_of files its ≡ Some tree → is_selectable tree ≡ true → ⊥
        lost tree is h =
            let test = is_method file.pool m.name m.descriptor in
            let in_file : find test file.methods ≡ Some tree = sym (ap (option_and_then (λ (f : FileTree). declared_in f m.name m.descriptor)) (class_found files linked class file c)) ∙ is in
            let at_k = find_place test file.methods tree in_file in
            let k = at_k.0 in
            let same : member_of file tree ≡ its = same_member file m tree (find_passes test file.methods tree in_file) in
            let member : member_at files (at class k) ≡ Some (member_of file tree) = member_is files class k file tree c at_k.1 in
            let j = get_or table.firsts class 0 + k in
            let placed : slice_get table.places j ≡ Some (at class k) = numbers.placed (at class k) (ap is_some member) in
            let stands = method_at j (at class k) (member_of file tree) placed member in
            let there : is_some (lookup (is_declaration (key class j)) declared) ≡ true = complete j (slice_get_within table.places j (at class k) placed) (at class k) placed (record { file = file; tree = tree; class = c; method = at_k.1; selectable = h }) in
            let name : get_or names j 0 ≡ get_or names number 0 = ap (λ (l : List ℕ). get_or l j 0) named ∙ same_number files part.Name j number (member_of file tree) m stands e (ap (λ (o : Member). o.name) same) ∙ ap (λ (l : List ℕ). get_or l number 0) (sym named) in
            let descriptor : get_or descriptors j 0 ≡ get_or descriptors number 0 = ap (λ (l : List ℕ). get_or l j 0) described ∙ same_number files part.Descriptor j number (member_of file tree) m stands e (ap (λ (o : Member). o.descriptor) same) ∙ ap (λ (l : List ℕ). get_or l number 0) (sym described) in
            let keys : key class j ≡ key class number = key_same class (get_or names j 0) (get_or names number 0) (get_or descriptors j 0) (get_or descriptors number 0) name descriptor in
            false≢true (sym (ap is_some none) ∙ ap (λ q. is_some (lookup (is_declaration q) declared)) (sym keys) ∙ there)

        none_declared : (o : Option MethodTree) → method_of files its ≡ o → where_so (option_map_or is_selectable o false) its ≡ None
        none_declared None is = refl
        none_declared (Some tree) is = by (is_selectable tree) refl
          where
            by : (b : Bool) → is_selectable tree ≡ b → where_so b its ≡ None
            by true h = absurd (lost tree is h)
            by false h = refl

        missing : Names files None (method_in_class files is_selectable m (name_of file))
        missing = sym (ap (option_map (λ m. Some m)) (none_declared (method_of files its) refl))

    pub are_declared : (declared : List (Declaration × ℕ)) → Sound declared → Complete declared (length table.places)
        → AreDeclared files names descriptors declared
    are_declared declared sound complete class number file m c e = by (lookup (is_declaration (key class number)) declared) refl
      where
        by : (o : Option ℕ) → lookup (is_declaration (key class number)) declared ≡ o
            → Names files o (method_in_class files is_selectable m (name_of file))
        by (Some j) h = found class number file m c e j (sound (key class number) j h)
        by None h = missing class number file m c e declared complete h

-- ---- texts, one method after the other

pub text_pushed : (files : Program) (part : Part) (done new : List Name) (t : Name) (n : ℕ) (o : Option Member) (all : List Name)
    → o ≡ slice_get (methods_of files) n → Some t ≡ option_map (part_of part) o → new ≡ done ++ t ∷ []
    → done ++ map (part_of part) (drop n (methods_of files)) ≡ all → new ++ map (part_of part) (drop (n + 1) (methods_of files)) ≡ all
text_pushed files part done new t n None all e h is inv = absurd cc
text_pushed files part done new t n (Some m) all e h is inv =
    let text : t ≡ part_of part m = cc in
    row_pushed (part_of part) done new t (methods_of files) n m all (sym e) text is inv
