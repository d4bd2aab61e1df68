-- The names that marks of texts stand for, in the order of the constant pool.
use Rattle.std.specs.Prelude.{ℕ, suc, List, [], ◌∷◌, ◌++◌, Bool, map, if◌then◌else◌}
use denote.Ref.{Bor}
use Rattle.model.specs.Names.{Name}
use Rattle.model.specs.Tree.{Entry, Utf8}
use Rattle.model.specs.DescriptorParts.{classes_in}
use Rattle.library_files.specs.declared.needed_texts.NeededTexts.{NeededTexts}
use Rattle.library_files.specs.NeededTexts.{is_marked}

-- some names, or none
abbrev pub where_so : Bool → List Name → List Name
where_so so names = if so then names else []

-- the names of the entry of an index
abbrev pub names_of_entry : NeededTexts → ℕ → Entry → List Name
names_of_entry texts k (Utf8 text) = where_so (is_marked texts.names.items k) (text ∷ []) ++ where_so (is_marked texts.descriptors.items k) (classes_in text)
names_of_entry texts k other = []

-- those of entries, from an index on
abbrev pub names_from : NeededTexts → ℕ → List Entry → List Name
names_from texts k [] = []
names_from texts k (e ∷ pool) = names_of_entry texts k e ++ names_from texts (suc k) pool

-- names that are borrowed
abbrev pub named : List (Bor (List ℕ)) → List Name
named names = map (λ t. t.now) names
