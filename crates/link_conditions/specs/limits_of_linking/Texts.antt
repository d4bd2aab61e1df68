-- Texts, each once, in the order in which they come.
use Rattle.std.specs.Prelude.{List, [], ◌∷◌, ◌++◌, if◌then◌else◌}
use Rattle.std.specs.List.{list_any}
use Rattle.model.specs.Names.{Name, name_eq}

abbrev pub with_text : List Name → Name → List Name
with_text texts text = if list_any (name_eq text) texts then texts else texts ++ text ∷ []

abbrev pub with_texts : List Name → List Name → List Name
with_texts texts [] = texts
with_texts texts (text ∷ more) = with_texts (with_text texts text) more
