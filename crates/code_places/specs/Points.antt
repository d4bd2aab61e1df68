-- What a place stands for: offsets of methods (own; JVMS 4.6, 4.7.12, 4.9.1).
use Rattle.std.specs.Prelude.{ℕ, zero, suc, List, [], ◌∷◌, ◌++◌, Bool, true, false, ◌==◌, ◌&&◌, if◌then◌else◌, map, slice_index_or}
use Rattle.std.specs.Option.{option_map_or}
use Rattle.std.specs.List.{list_any}
use Rattle.model.specs.Names.{Name, Member, name_eq}
use Rattle.model.specs.Classes.{Program, Body, body_of}
use Rattle.model.specs.InstructionStarts.{starts}
use Rattle.linked_code.specs.Numbers.{methods_of}
use Rattle.place_texts.specs.declared.place.Position.{Position}
use Rattle.place_texts.specs.declared.place.Position.TheVariants as position
use Rattle.code_places.specs.declared.points.Point.{Point}
use Rattle.place_texts.specs.Places.{PlaceOf}
use Rattle.code_places.specs.Lines.{offsets_of_line}

-- ---- of a method

-- the descriptor is that of the place, if that tells one
abbrev pub describes : PlaceOf → Name → Bool
describes place descriptor = option_map_or (λ (wanted : Name). name_eq descriptor wanted) place.descriptor true

-- a method is one of those of the place
abbrev pub names : PlaceOf → Member → Bool
names place m = name_eq m.class place.class && (name_eq m.name place.method && describes place m.descriptor)

-- the offsets of a position in a code: those at which the line begins, or the offset itself, where an instruction begins there
abbrev pub offsets_at : Position → Body → List ℕ
offsets_at (position.Line n) body = offsets_of_line (starts body.code.code) body.pool body.code.attributes n
offsets_at (position.Offset n) body = if slice_index_or (starts body.code.code) n false then n ∷ [] else []

-- the offsets that a place stands for of a method with a body
abbrev pub offsets_in : PlaceOf → Member → Body → List ℕ
offsets_in place m body = if names place m then offsets_at place.position body else []

-- those of a method; none where it has no code
abbrev pub offsets_of : Program → PlaceOf → Member → List ℕ
offsets_of trees place m = option_map_or (offsets_in place m) (body_of trees m) []

-- a place stands for this offset of this method
abbrev pub is_point : Program → PlaceOf → Member → ℕ → Bool
is_point trees place m offset = list_any (λ o. o == offset) (offsets_of trees place m)

-- a method is one of those of the place, and has code
abbrev pub has_code : Program → PlaceOf → Member → Bool
has_code trees place m = option_map_or (λ (body : Body). names place m) (body_of trees m) false

-- ---- by numbers

abbrev pub points_at : ℕ → List ℕ → List Point
points_at number offsets = map (λ (o : ℕ). record { method = number; offset = o }) offsets

-- those of methods that are numbered from a number on
abbrev pub points_from : Program → PlaceOf → (number : ℕ) → List Member → List Point
points_from trees place number [] = []
points_from trees place number (m ∷ methods) = points_at number (offsets_of trees place m) ++ points_from trees place (suc number) methods

abbrev pub all_points : Program → PlaceOf → List Point
all_points trees place = points_from trees place 0 (methods_of trees)
