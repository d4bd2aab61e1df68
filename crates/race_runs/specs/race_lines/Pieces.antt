-- Pieces of the lines of races, by numbers and places.
use Rattle.std.specs.Prelude.{◌≡◌, ℕ, List, [], ◌++◌, codes}
use Rattle.std.specs.Option.{option_map_or}
use Rattle.model.specs.Classes.{Program}
use Rattle.model.specs.Names.{Member}
use Rattle.model.specs.Report.{number}
use Rattle.hierarchy.specs.Places.{name_at}
use Rattle.hierarchy.specs.declared.place.MemberPlace.{MemberPlace}
use Rattle.listings.specs.printed_names.Printed.{printed}
use Rattle.traces.specs.Methods.{name_in}
use Rattle.field_names.specs.named_fields.Fields.{member_at}

abbrev pub words_of : (class name : List ℕ) → List ℕ
words_of class name = printed class ++ (codes "." ++ printed name)

-- the name of the field at a place of a class
abbrev pub field_name_in : Program → (class place : ℕ) → List ℕ
field_name_in trees class place = option_map_or (λ (m : Member). m.name) (member_at trees class place) []

abbrev pub field_place_words : Program → (class place : ℕ) → List ℕ
field_place_words trees class place = words_of (name_at trees class) (field_name_in trees class place)

abbrev pub offset_place_words : Program → MemberPlace → (offset : ℕ) → List ℕ
offset_place_words trees place offset = words_of (name_at trees place.class) (name_in trees place) ++ (codes " " ++ number offset)

-- words of this kind stand behind a text now
abbrev pub AddsSpelled : (Spells : List ℕ → Type 0) → (old new : List ℕ) → Type 0
AddsSpelled Spells old new = (words : List ℕ) × (new ≡ old ++ words) × Spells words
