-- How methods are numbered.
use Rattle.std.proofs.Common.{◌≡◌, ℕ, zero, suc, ◌+◌, ◌-◌, ◌<◌, true, false, eqb, List, [], ◌∷◌, ◌++◌, length, map, drop, get_or, refl, sym, ap, ◌∙◌, subst, append_assoc, arith, Option, Some, None}
use Rattle.std.specs.Prelude.{slice_get, is_some}
use Rattle.std.specs.Option.{option_and_then, option_map, option_map_or}
use Rattle.std.proofs.lemmas.Bool.{and_parts, and_from, true≢false}
use Rattle.std.proofs.lemmas.Bool.Decides.{Decides-eqb}
use Rattle.std.specs.List.{flat_map}
use Rattle.std.proofs.lemmas.List.{map-append, append-nil, length-append}
use Rattle.model.specs.Names.{Member}
use Rattle.model.specs.Tree.{FileTree, MethodTree}
use Rattle.model.specs.Classes.{Program, classes_of}
use Rattle.hierarchy.specs.Places.{class_at}
use Rattle.hierarchy.specs.declared.place.MemberPlace.{MemberPlace}
use Rattle.std.proofs.lemmas.Option.{slice_get-map, slice_get_within}
use Rattle.hierarchy.proofs.RowLaws.{drop_at}
use Rattle.method_tables.proofs.method_links.Lists.{inner}
use Rattle.method_tables.specs.method_links.Methods.{member_of, members_of, methods_of, member_at}
use Rattle.method_tables.specs.method_links.Numbers.{NumberTable, AreNumbersOf, is_place, is_at, places_in, places_from, firsts_from, table_of}

abbrev pub some : {A : Type 0} → A → Option A
some a = Some a

abbrev pub at : ℕ → ℕ → MemberPlace
at class member = record { class = class; member = member }

abbrev pub table_with : List ℕ → List MemberPlace → NumberTable
table_with firsts places = record { firsts = firsts; places = places }

-- ---- at each number stands the place of its method

module _ (files : Program) where
  in_class : (class : ℕ) (file : FileTree) → class_at files class ≡ Some file → (ms : List MethodTree) (k : ℕ)
      → ((j : ℕ) → slice_get file.methods (k + j) ≡ slice_get ms j)
      → map (member_at files) (places_in class k (length ms)) ≡ map some (map (member_of file) ms)
  in_class class file c [] k h = refl
  in_class class file c (m ∷ ms) k h =
      let here : slice_get file.methods k ≡ Some m = ap (slice_get file.methods) (omega arith) ∙ h 0 in
      let first : member_at files (at class k) ≡ Some (member_of file m) = ap (option_and_then (λ (f : FileTree). option_map (member_of f) (slice_get f.methods k))) c ∙ ap (option_map (member_of file)) here in
      let others = in_class class file c ms (suc k) (λ j. ap (slice_get file.methods) (omega arith) ∙ h (suc j)) in
      rw (first, others) refl

  from_class : (rest : List FileTree) (class : ℕ) → ((j : ℕ) → class_at files (class + j) ≡ slice_get rest j)
      → map (member_at files) (places_from class rest) ≡ map some (flat_map members_of rest)
  from_class [] class h = refl
  from_class (file ∷ rest) class h =
      let here : class_at files class ≡ Some file = ap (class_at files) (omega arith) ∙ h 0 in
      map-append (member_at files) (places_in class 0 (length file.methods)) (places_from (suc class) rest)
      ∙ ap (λ l. l ++ map (member_at files) (places_from (suc class) rest)) (in_class class file here file.methods 0 (λ j. ap (slice_get file.methods) (omega arith)))
      ∙ ap (λ l. map some (members_of file) ++ l) (from_class rest (suc class) (λ j. ap (class_at files) (omega arith) ∙ h (suc j)))
      ∙ sym (map-append some (members_of file) (flat_map members_of rest))

-- ---- the numbers of a class's methods follow one another

-- how many methods stand before the class at a place
abbrev front : List FileTree → ℕ → ℕ
front [] i = 0
front (file ∷ files) zero = 0
front (file ∷ files) (suc i) = length file.methods + front files i

first_is : (n : ℕ) (files : List FileTree) (i : ℕ) (file : FileTree) → slice_get files i ≡ Some file
    → get_or (firsts_from n files) i 0 ≡ n + front files i
first_is n [] i file e = absurd cc
first_is n (f ∷ files) zero file e = no_more n
  where
    no_more : (n : ℕ) → n ≡ n + 0
    no_more n = omega arith
first_is n (f ∷ files) (suc i) file e = first_is (n + length f.methods) files i file e ∙ sum n (length f.methods) (front files i)
  where
    sum : (a b c : ℕ) → a + b + c ≡ a + (b + c)
    sum a b c = omega arith

in_at : (class k n j : ℕ) (rest : List MemberPlace) → j < n → slice_get (places_in class k n ++ rest) j ≡ Some (at class (k + j))
in_at class k zero j rest lt = absurd (no j lt)
  where
    no : (j : ℕ) → j < 0 → ⊥
    no j lt = omega (arith, lt)
in_at class k (suc n) zero rest lt = let same : k ≡ k + 0 = omega arith in ap (λ m. Some (at class m)) same
in_at class k (suc n) (suc j) rest lt = let same : suc k + j ≡ k + suc j = omega arith in in_at class (suc k) n j rest (omega (arith, lt)) ∙ ap (λ m. Some (at class m)) same

past_in : (class k n j : ℕ) (rest : List MemberPlace) → slice_get (places_in class k n ++ rest) (n + j) ≡ slice_get rest j
past_in class k zero j rest = let same : 0 + j ≡ j = omega arith in ap (slice_get rest) same
past_in class k (suc n) j rest =
    let more : suc n + j ≡ suc (n + j) = omega arith in
    ap (slice_get (places_in class k (suc n) ++ rest)) more ∙ past_in class (suc k) n j rest

from_at : (class : ℕ) (files : List FileTree) (i k : ℕ) (file : FileTree) → slice_get files i ≡ Some file → k < length file.methods
    → slice_get (places_from class files) (front files i + k) ≡ Some (at (class + i) k)
from_at class [] i k file e lt = absurd cc
from_at class (f ∷ files) zero k file e lt =
    let same : f ≡ file = cc in
    let none : 0 + k ≡ k = omega arith in
    let class_same : class ≡ class + 0 = omega arith in
    ap (slice_get (places_from class (f ∷ files))) none
    ∙ in_at class 0 (length f.methods) k (places_from (suc class) files) (subst (λ (z : FileTree). k < length z.methods) (sym same) lt)
    ∙ ap (λ m. Some (at class m)) none ∙ ap (λ c. Some (at c k)) class_same
from_at class (f ∷ files) (suc i) k file e lt =
    let sum : length f.methods + front files i + k ≡ length f.methods + (front files i + k) = omega arith in
    let class_same : suc class + i ≡ class + suc i = omega arith in
    ap (slice_get (places_from class (f ∷ files))) sum
    ∙ past_in class 0 (length f.methods) (front files i + k) (places_from (suc class) files)
    ∙ from_at (suc class) files i k file e lt
    ∙ ap (λ c. Some (at c k)) class_same

-- ---- the table

within : {A : Type 0} (xs : List A) (k : ℕ) → is_some (slice_get xs k) ≡ true → k < length xs
within [] k e = absurd cc
within (x ∷ xs) zero e = omega arith
within (x ∷ xs) (suc k) e = let lt = within xs k e in omega (arith, lt)

some_of : {A B : Type 0} (f : A → B) (o : Option A) → is_some (option_map f o) ≡ true → is_some o ≡ true
some_of f None e = absurd cc
some_of f (Some a) e = refl

placed_in : (files : Program) (place : MemberPlace) (o : Option FileTree) → class_at files place.class ≡ o
    → is_some (option_and_then (λ (file : FileTree). option_map (member_of file) (slice_get file.methods place.member)) o) ≡ true
    → slice_get (places_from 0 (classes_of files)) (get_or (firsts_from 0 (classes_of files)) place.class 0 + place.member) ≡ Some place
placed_in files place None e h = absurd cc
placed_in files place (Some file) e h =
    let lt = within file.methods place.member (some_of (member_of file) (slice_get file.methods place.member) h) in
    let before : 0 + front (classes_of files) place.class ≡ front (classes_of files) place.class = omega arith in
    let class_same : 0 + place.class ≡ place.class = omega arith in
    ap (λ n. slice_get (places_from 0 (classes_of files)) (n + place.member)) (first_is 0 (classes_of files) place.class file e ∙ before)
    ∙ from_at 0 (classes_of files) place.class place.member file e lt
    ∙ ap (λ c. Some (at c place.member)) class_same

pub table_is : (files : Program) → AreNumbersOf files (table_of files)
unfolding table_of methods_of
table_is files = record {
  numbered = from_class files (classes_of files) 0 (λ j. ap (class_at files) (omega arith));
  placed = λ place h. placed_in files place (class_at files place.class) refl h;
}

-- ---- how the table is made

places_count : (class member n : ℕ) → length (places_in class member n) ≡ n
places_count class member zero = refl
places_count class member (suc n) = ap suc (places_count class (suc member) n)

pub place_pushed : (done new all : List MemberPlace) (class member count : ℕ) → member < count → new ≡ done ++ at class member ∷ []
    → done ++ places_in class member (count - member) ≡ all
    → new ++ places_in class (member + 1) (count - (member + 1)) ≡ all
place_pushed done new all class member count lt is e =
    let one : count - member ≡ suc (count - (member + 1)) = omega arith in
    let more : suc member ≡ member + 1 = omega arith in
    let rest = count - (member + 1) in
    ap (λ l. l ++ places_in class (member + 1) rest) is
    ∙ append_assoc done (at class member ∷ []) (places_in class (member + 1) rest)
    ∙ ap (λ k. done ++ at class member ∷ places_in class k rest) (sym more)
    ∙ ap (λ n. done ++ places_in class member n) (sym one)
    ∙ e

pub all_placed : (done all : List MemberPlace) (class member count : ℕ) → count ≡ member
    → done ++ places_in class member (count - member) ≡ all → done ≡ all
all_placed done all class member count past e =
    let none : count - member ≡ 0 = omega arith in
    sym (append-nil done) ∙ ap (λ n. done ++ places_in class member n) (sym none) ∙ e

module _ (xs : List FileTree) (class : ℕ) (file : FileTree) (there : slice_get xs class ≡ Some file) where
  pub class_placed : (done new all : List MemberPlace) → new ≡ done ++ places_in class 0 (length file.methods)
      → done ++ places_from class (drop class xs) ≡ all → new ++ places_from (class + 1) (drop (class + 1) xs) ≡ all
  class_placed done new all is e =
      let more : suc class ≡ class + 1 = omega arith in
      let rest = drop (class + 1) xs in
      ap (λ l. l ++ places_from (class + 1) rest) is
      ∙ append_assoc done (places_in class 0 (length file.methods)) (places_from (class + 1) rest)
      ∙ ap (λ k. done ++ (places_in class 0 (length file.methods) ++ places_from k rest)) (sym more)
      ∙ ap (λ l. done ++ places_from class l) (sym (drop_at xs class file there))
      ∙ e

  pub first_pushed : (done new all : List ℕ) (places more : List MemberPlace) → new ≡ done ++ length places ∷ []
      → more ≡ places ++ places_in class 0 (length file.methods)
      → done ++ firsts_from (length places) (drop class xs) ≡ all → new ++ firsts_from (length more) (drop (class + 1) xs) ≡ all
  first_pushed done new all places more is next e =
      let rest = drop (class + 1) xs in
      let count : length more ≡ length places + length file.methods = ap length next ∙ length-append places (places_in class 0 (length file.methods)) ∙ ap (λ n. length places + n) (places_count class 0 (length file.methods)) in
      ap (λ l. l ++ firsts_from (length more) rest) is
      ∙ append_assoc done (length places ∷ []) (firsts_from (length more) rest)
      ∙ ap (λ n. done ++ length places ∷ firsts_from n rest) count
      ∙ ap (λ l. done ++ firsts_from (length places) l) (sym (drop_at xs class file there))
      ∙ e

-- ---- numbers and places

pub member_is : (files : Program) (class k : ℕ) (file : FileTree) (m : MethodTree) → class_at files class ≡ Some file
    → slice_get file.methods k ≡ Some m → member_at files (at class k) ≡ Some (member_of file m)
member_is files class k file m c s = ap (option_and_then (λ (f : FileTree). option_map (member_of f) (slice_get f.methods k))) c ∙ ap (option_map (member_of file)) s

module _ (files : Program) (table : NumberTable) (numbers : AreNumbersOf files table) where
  pub place_is : (number : ℕ) → option_map (member_at files) (slice_get table.places number)
      ≡ option_map (λ m. Some m) (slice_get (methods_of files) number)
  place_is number =
      sym (slice_get-map (member_at files) table.places number) ∙ ap (λ (l : List (Option Member)). slice_get l number) numbers.numbered ∙ slice_get-map (λ m. Some m) (methods_of files) number

  pub at_place : (number : ℕ) (place : MemberPlace) → slice_get table.places number ≡ Some place
      → member_at files place ≡ slice_get (methods_of files) number
  at_place number place s = inner (member_at files place) (slice_get (methods_of files) number) (ap (option_map (member_at files)) (sym s) ∙ place_is number)

  pub number_is : (number : ℕ) (place : MemberPlace) → slice_get table.places number ≡ Some place
      → Some (slice_get (methods_of files) number) ≡ option_map (λ m. Some m) (member_at files place)
  number_is number place s =
      ap (λ o. Some o) (sym (at_place number place s)) ∙ ap (option_map (member_at files)) (sym s) ∙ place_is number ∙ ap (option_map (λ m. Some m)) (sym (at_place number place s))

  -- a place that has no number is that of no method
  pub no_number : (place : MemberPlace) → (slice_get table.places (get_or table.firsts place.class 0 + place.member) ≡ Some place → ⊥)
      → None ≡ option_map (λ m. Some m) (member_at files place)
  no_number place none = by (member_at files place) refl
    where
      by : (o : Option Member) → member_at files place ≡ o → None ≡ option_map (λ m. Some m) o
      by None e = refl
      by (Some m) e = absurd (none (numbers.placed place (ap is_some e)))

  -- what a test at the number of a place tells
  pub stands_so : (number : ℕ) (place : MemberPlace) → is_at table.places number place ≡ true → slice_get table.places number ≡ Some place
  stands_so number place h = by (slice_get table.places number) refl h
    where
      by : (o : Option MemberPlace) → slice_get table.places number ≡ o → option_map_or (λ p. is_place p place) o false ≡ true
          → slice_get table.places number ≡ Some place
      by None e h = absurd cc
      by (Some p) e h =
          let parts = and_parts (eqb p.class place.class) _ h in
          let class : p.class ≡ place.class = (Decides-eqb p.class place.class).0 parts.0 in
          let member : p.member ≡ place.member = (Decides-eqb p.member place.member).0 parts.1 in
          e ∙ ap (λ c. Some (at c p.member)) class ∙ ap (λ m. Some (at place.class m)) member

  pub stands_not : (number first : ℕ) (place : MemberPlace) → first ≡ get_or table.firsts place.class 0
      → (first + place.member < length table.places → number ≡ first + place.member) → is_at table.places number place ≡ false
      → None ≡ option_map (λ m. Some m) (member_at files place)
  stands_not number first place is same h = no_number place (λ stands.
      let there : slice_get table.places (first + place.member) ≡ Some place = ap (λ n. slice_get table.places (n + place.member)) is ∙ stands in
      let here : slice_get table.places number ≡ Some place = ap (slice_get table.places) (same (slice_get_within table.places (first + place.member) place there)) ∙ there in
      true≢false (sym (ap (λ o. option_map_or (λ p. is_place p place) o false) here ∙ and_from _ _ ((Decides-eqb place.class place.class).1 refl) ((Decides-eqb place.member place.member).1 refl)) ∙ h))

pub table_made : (files : Program) (firsts : List ℕ) (places : List MemberPlace) → firsts ≡ firsts_from 0 (classes_of files)
    → places ≡ places_from 0 (classes_of files) → table_with firsts places ≡ table_of files
unfolding table_of
table_made files firsts places f p = ap (λ l. table_with l places) f ∙ ap (table_with (firsts_from 0 (classes_of files))) p
