-- What is said of an event: words, and texts between them (own).
use Rattle.std.specs.Prelude.{◌≡◌, ℕ, List, [], ◌∷◌, ◌++◌, Option, Some, None, ◌&&◌, ◌==◌, if◌then◌else◌, nat_le, length, codes}
use Rattle.std.specs.List.{flat_map, slice_range}
use Rattle.model.specs.Texts.{Text}
use Rattle.listings.specs.printed_names.Printed.{printed}
use Rattle.traces.specs.declared.form.Form.{Form}
use Rattle.traces.specs.declared.form.Form.TheVariants.{Json}
use Rattle.traces.specs.declared.said.Mark.{Mark}
use Rattle.traces.specs.JsonTexts.{escaped, member}
use Rattle.traces.specs.Quotations.{quotation}

pub data Piece : Type 0 where
  Words : (bytes : List ℕ) → Piece
  Quoted : (text : Text) → Piece

-- as it stands in a line; an object has all of it in a string
abbrev pub piece_in : Form → Piece → List ℕ
piece_in Json (Words bytes) = escaped bytes
piece_in Json (Quoted text) = escaped (quotation text)
piece_in form (Words bytes) = printed bytes
piece_in form (Quoted text) = quotation text

-- it stands behind a text now
abbrev pub IsPiece : Form → Piece → (old new : List ℕ) → Type 0
IsPiece form piece old new = new ≡ old ++ piece_in form piece

abbrev pub pieces_in : Form → List Piece → List ℕ
pieces_in form pieces = flat_map (piece_in form) pieces

-- what was done, if there is more to tell
abbrev pub did : Form → Option (List Piece) → List ℕ
did form None = []
did Json (Some pieces) = member (codes "did") (codes "\"" ++ (pieces_in Json pieces ++ codes "\""))
did form (Some pieces) = codes " | " ++ pieces_in form pieces

-- ---- pieces as they are gathered: all words, all units of the texts, and where the texts stand

-- from one place up to another, where these are places
abbrev pub part_at : {X : Type 0} → List X → (from to : ℕ) → List X
part_at xs from to = if nat_le from to && nat_le to (length xs) then slice_range xs from to else []

-- from these places on: before each text stand the words up to its mark, and its units end at its mark
abbrev pub gathered_from : List ℕ → Text → (from first : ℕ) → List Mark → List Piece
gathered_from words units from first [] = Words (part_at words from (length words)) ∷ []
gathered_from words units from first (mark ∷ marks) =
    Words (part_at words from mark.words) ∷ Quoted (part_at units first mark.units) ∷ gathered_from words units mark.words mark.units marks

abbrev pub gathered : List ℕ → Text → List Mark → List Piece
gathered words units marks = gathered_from words units 0 0 marks

-- nothing is told where there is neither a word nor a text
abbrev pub deed : List ℕ → Text → List Mark → Option (List Piece)
deed words units marks = if length words == 0 && length marks == 0 then None else Some (gathered words units marks)
