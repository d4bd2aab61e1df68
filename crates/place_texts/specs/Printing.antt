-- Texts with places as they are written (own): each word in a line.
use Rattle.std.specs.Prelude.{ℕ, List, [], ◌∷◌, ◌++◌, decimal}
use Rattle.std.specs.List.{flat_map}
use Rattle.schedule.specs.schedule_text.Text.{entry_word}
use Rattle.place_texts.specs.declared.place.Deed.{Deed}
use Rattle.place_texts.specs.Places.{DeedOf, Entry, Until, deed_of}
use Rattle.place_texts.specs.Texts.{place_words}

abbrev pub deed_word : DeedOf → List ℕ
deed_word (Entry entry) = entry_word entry
deed_word (Until t place) = decimal t ++ 64 ∷ place_words place

abbrev pub deed_line : Deed → List ℕ
deed_line deed = deed_word (deed_of deed) ++ 10 ∷ []

abbrev pub deed_lines : List Deed → List ℕ
deed_lines deeds = flat_map deed_line deeds
