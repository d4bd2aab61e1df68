-- Files that are read one after the other.
use Rattle.std.proofs.Common.{◌≡◌, ℕ, zero, suc, ◌+◌, ◌<◌, List, [], ◌∷◌, ◌++◌, map, length, take, get_or, refl, sym, ap, subst, ◌∙◌, arith, Option, Some, None}
use Rattle.std.specs.Option.{option_map, option_to_list}
use Rattle.std.proofs.lemmas.List.{map-append, map_more, length-map, length-take-le, take_all}
use Rattle.class_tree.specs.declared.tree.ClassFile.{ClassFile}
use Rattle.advice.specs.declared.given.GivenFile.{GivenFile}
use Rattle.advice.specs.Reading.{bytes_of}
use Rattle.classfile.specs.View.{file_of}
use Rattle.hierarchy.specs.Set.{trees_of}
use Rattle.model.specs.Tree.{FileTree}
use Rattle.model.specs.Spells.{Spells}
use Rattle.model.specs.Classes.{Program}
use Rattle.model.specs.CodeParts.{count_from}
use Rattle.model.specs.Linkable.{AreSpelled}

-- ---- numbers from one on

pub count_more : (a n : ℕ) → count_from a (n + 1) ≡ count_from a n ++ (a + n) ∷ []
count_more a zero = let e : a + 0 ≡ a = omega arith in rw e refl
count_more a (suc n) =
    let e : suc n + 1 ≡ suc (n + 1) = omega arith in
    let s : suc a + n ≡ a + suc n = omega arith in
    ap (count_from a) e ∙ ap (λ (l : List ℕ). a ∷ l) (count_more (suc a) n ∙ ap (λ m. count_from (suc a) n ++ m ∷ []) s)

pub counted_at : (a n k : ℕ) → k < n → get_or (map (λ m. Some m) (count_from a n)) k None ≡ Some (a + k)
counted_at a zero k lt = absurd (omega (arith, lt))
counted_at a (suc n) zero lt = let e : a ≡ a + 0 = omega arith in ap (λ m. Some m) e
counted_at a (suc n) (suc k) lt =
    let e : suc a + k ≡ a + suc k = omega arith in
    counted_at (suc a) n k (omega (arith, lt)) ∙ ap (λ m. Some m) e

-- ---- files and their trees

pub spelled_length : (files : List (List ℕ)) (trees : Program) → AreSpelled files trees → length files ≡ length trees
spelled_length [] [] h = refl
spelled_length [] (t ∷ trees) h = absurd h
spelled_length (f ∷ files) [] h = absurd h
spelled_length (f ∷ files) (t ∷ trees) h = let rest = spelled_length files trees h.1 in omega (arith, rest)

-- trees of one file more are trees of those before, and one of the last
pub record Split (files : List (List ℕ)) (bytes : List ℕ) (trees : Program) : Type 0 where
  pub before : Program
  pub last : FileTree
  pub same : trees ≡ before ++ last ∷ []
  pub first : AreSpelled files before
  pub spelled : Spells bytes last

pub split_last : (files : List (List ℕ)) (bytes : List ℕ) (trees : Program) → AreSpelled (files ++ bytes ∷ []) trees
    → Split files bytes trees
split_last [] bytes [] h = absurd h
split_last [] bytes (t ∷ []) h = record { before = []; last = t; same = refl; first = tt; spelled = h.0 }
split_last [] bytes (t ∷ u ∷ trees) h = absurd h.1
split_last (f ∷ files) bytes [] h = absurd h
split_last (f ∷ files) bytes (t ∷ trees) h =
    let rest = split_last files bytes trees h.1 in
    record { before = t ∷ rest.before; last = rest.last; same = ap (λ l. t ∷ l) rest.same; first = (h.0, rest.first); spelled = rest.spelled }

-- what is read of some files: their classes, each at its place
pub record IsRead (files : List (List ℕ)) (classes : List ClassFile) (places : List (Option ℕ)) (count : ℕ) : Type 0 where
  pub their_trees : (trees : Program) → AreSpelled files trees → trees_of classes ≡ trees
  pub their_places : (trees : Program) → AreSpelled files trees → places ≡ map (λ k. Some k) (count_from 0 count)

pub read_none : IsRead [] [] [] 0
read_none = record { their_trees = none; their_places = at_none }
  where
    at_none : (trees : Program) → AreSpelled [] trees → [] ≡ map (λ k. Some k) (count_from 0 0)
    at_none trees h = refl

    none : (trees : Program) → AreSpelled [] trees → trees_of [] ≡ trees
    none [] h = refl
    none (t ∷ trees) h = absurd h

-- the class of a file more
pub read_more : (files : List (List ℕ)) (bytes : List ℕ) (classes : List ClassFile) (places : List (Option ℕ)) (count : ℕ) (class : Option ClassFile)
    → length files ≡ count → IsRead files classes places count → ((tree : FileTree) → Spells bytes tree → option_map file_of class ≡ Some tree)
    → IsRead (files ++ bytes ∷ []) (classes ++ option_to_list class) (places ++ option_map (λ _. length classes) class ∷ []) (count + 1)
read_more files bytes classes places count None same read found = record { their_trees = λ trees h. absurd (none trees h); their_places = λ trees h. absurd (none trees h) }
  where
    no : (tree : FileTree) → None ≡ Some tree → ⊥
    no tree e = cc

    none : (trees : Program) → AreSpelled (files ++ bytes ∷ []) trees → ⊥
    none trees h = let s = split_last files bytes trees h in no s.last (found s.last s.spelled)
read_more files bytes classes places count (Some c) same read found = record { their_trees = all; their_places = each }
  where
    of_some : (tree : FileTree) → Some (file_of c) ≡ Some tree → file_of c ≡ tree
    of_some tree e = cc

    all : (trees : Program) → AreSpelled (files ++ bytes ∷ []) trees → trees_of (classes ++ c ∷ []) ≡ trees
    all trees h =
        let s = split_last files bytes trees h in
        let is : file_of c ≡ s.last = of_some s.last (found s.last s.spelled) in
        map-append file_of classes (c ∷ [])
        ∙ ap (λ (l : Program). l ++ file_of c ∷ []) (read.their_trees s.before s.first)
        ∙ ap (λ (f : FileTree). s.before ++ f ∷ []) is
        ∙ sym s.same

    each : (trees : Program) → AreSpelled (files ++ bytes ∷ []) trees → places ++ Some (length classes) ∷ [] ≡ map (λ k. Some k) (count_from 0 (count + 1))
    each trees h =
        let s = split_last files bytes trees h in
        let long : length classes ≡ count = sym (length-map classes file_of) ∙ ap length (read.their_trees s.before s.first) ∙ sym (spelled_length files s.before s.first) ∙ same in
        let long : length classes ≡ 0 + count = omega arith in
        ap (λ (l : List (Option ℕ)). l ++ Some (length classes) ∷ []) (read.their_places s.before s.first)
        ∙ ap (λ n. map (λ k. Some k) (count_from 0 count) ++ Some n ∷ []) long
        ∙ sym (map-append (λ k. Some k) (count_from 0 count) ((0 + count) ∷ []))
        ∙ ap (map (λ k. Some k)) (sym (count_more 0 count))

-- ---- from the first file to the last

pub read_init : (classes : List ClassFile) (places : List (Option ℕ)) → classes ≡ [] → places ≡ [] → IsRead [] classes places 0
read_init classes places none no_place =
    subst (λ (l : List ClassFile). IsRead [] l places 0) (sym none) (subst (λ (l : List (Option ℕ)). IsRead [] [] l 0) (sym no_place) read_none)

pub read_step : (files : List GivenFile) (i : ℕ) (file : GivenFile) (classes all : List ClassFile) (places each : List (Option ℕ)) (class : Option ClassFile)
    → i < length files → file ≡ get_or files i file → IsRead (map bytes_of (take i files)) classes places i
    → ((tree : FileTree) → Spells (bytes_of file) tree → option_map file_of class ≡ Some tree) → all ≡ classes ++ option_to_list class
    → each ≡ places ++ option_map (λ _. length classes) class ∷ [] → IsRead (map bytes_of (take (i + 1) files)) all each (i + 1)
read_step files i file classes all places each class lt is before found made put =
    let long : length (map bytes_of (take i files)) ≡ i = length-map (take i files) bytes_of ∙ length-take-le i files (omega (arith, lt)) in
    let more = read_more (map bytes_of (take i files)) (bytes_of file) classes places i class long before found in
    let taken : map bytes_of (take (i + 1) files) ≡ map bytes_of (take i files) ++ bytes_of file ∷ [] =
    map_more bytes_of files i file lt ∙ ap (λ (f : GivenFile). map bytes_of (take i files) ++ bytes_of f ∷ []) (sym is) in
    subst (λ (l : List (List ℕ)). IsRead l all each (i + 1)) (sym taken)
    (subst (λ (l : List ClassFile). IsRead (map bytes_of (take i files) ++ bytes_of file ∷ []) l each (i + 1)) (sym made)
    (subst (λ (l : List (Option ℕ)). IsRead (map bytes_of (take i files) ++ bytes_of file ∷ []) (classes ++ option_to_list class) l (i + 1)) (sym put) more))

-- all of them
pub read_all : (files : List GivenFile) (i : ℕ) (classes : List ClassFile) (places : List (Option ℕ)) → i ≡ length files
    → IsRead (map bytes_of (take i files)) classes places i → (trees : Program) → AreSpelled (map bytes_of files) trees
    → (trees_of classes ≡ trees) × (places ≡ map (λ k. Some k) (count_from 0 (length files)))
read_all files i classes places all read trees spelled =
    let whole : take i files ≡ files = take_all i files (omega (arith, all)) in
    let same : IsRead (map bytes_of files) classes places i = subst (λ (l : List GivenFile). IsRead (map bytes_of l) classes places i) whole read in
    (same.their_trees trees spelled, same.their_places trees spelled ∙ ap (λ n. map (λ k. Some k) (count_from 0 n)) all)
