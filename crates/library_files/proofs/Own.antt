-- The classes in whose place class files have their own.
use Rattle.std.proofs.Common.{◌≡◌, ◌∙◌, ℕ, ◌+◌, ◌<◌, List, [], ◌∷◌, ◌++◌, length, get_or, map, take, Bool, true, false, cond, sym, ap}
use Rattle.std.proofs.lemmas.List.{append-nil, map_more, map_push}
use Rattle.std.proofs.lemmas.List.Elements.{filter-append}
use Rattle.model.specs.Classes.{Program}
use Rattle.library_files.specs.declared.library_class.LibraryClass.{LibraryClass}
use Rattle.library_files.specs.Adding.{LibraryFile, library_file}
use Rattle.library_files.specs.Completing.{has_own, own_classes}

-- the classes up to a place, and the one that stands there
pub own_more : (files : Program) (classes : List LibraryClass) (i : ℕ) (d : LibraryClass) (own more : List LibraryClass) (b : Bool) → i < length classes
    → has_own files (library_file (get_or classes i d)) ≡ b → more ≡ own ++ cond b (get_or classes i d ∷ []) []
    → map library_file own ≡ own_classes files (map library_file (take i classes))
    → map library_file more ≡ own_classes files (map library_file (take (i + 1) classes))
own_more files classes i d own more b below is are before =
    let one : map library_file (take (i + 1) classes) ≡ map library_file (take i classes) ++ library_file (get_or classes i d) ∷ [] = map_more library_file classes i d below in
    let at : own_classes files (map library_file (take (i + 1) classes)) ≡ own_classes files (map library_file (take i classes)) ++ cond b (library_file (get_or classes i d) ∷ []) [] =
    ap (own_classes files) one ∙ filter-append (has_own files) (map library_file (take i classes)) (library_file (get_or classes i d) ∷ [])
    ∙ ap (λ (c : Bool). own_classes files (map library_file (take i classes)) ++ cond c (library_file (get_or classes i d) ∷ []) []) is in
    ap (map library_file) are ∙ by b ∙ ap (λ (l : List LibraryFile). l ++ cond b (library_file (get_or classes i d) ∷ []) []) before ∙ sym at
  where
    by : (c : Bool) → map library_file (own ++ cond c (get_or classes i d ∷ []) []) ≡ map library_file own ++ cond c (library_file (get_or classes i d) ∷ []) []
    by true = map_push library_file own (get_or classes i d)
    by false = ap (map library_file) (append-nil own) ∙ sym (append-nil (map library_file own))
