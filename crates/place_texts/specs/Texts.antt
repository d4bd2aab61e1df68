-- Texts with places (own): the words of such a text are entries, and places behind the thread that goes on.
use Rattle.std.specs.Prelude.{◌≡◌, ℕ, List, [], ◌∷◌, ◌++◌, None, decimal, unwrap_or}
use Rattle.schedule.specs.schedule_text.Text.{SpellsSchedule}
use Rattle.place_texts.specs.declared.place.Position.{Position}
use Rattle.place_texts.specs.declared.place.Position.TheVariants as position
use Rattle.place_texts.specs.Fitting.{once}
use Rattle.place_texts.specs.Places.{PlaceOf, DeedOf, Entry, Until}

-- `:LINE` or `+OFFSET`
abbrev pub position_words : Position → List ℕ
position_words (position.Line n) = 58 ∷ decimal n
position_words (position.Offset n) = 43 ∷ decimal n

-- `CLASS.METHOD:LINE`, where a descriptor may stand behind the method's name
abbrev pub place_words : PlaceOf → List ℕ
place_words p = p.class ++ 46 ∷ ((p.method ++ unwrap_or p.descriptor []) ++ position_words p.position)

-- A word spells an entry as a text of its own does; and a place behind a thread that it spells so, and an `@`.
abbrev pub SpellsDeed : List ℕ → DeedOf → Type 0
SpellsDeed word (Entry entry) = SpellsSchedule word None (entry ∷ [])
SpellsDeed word (Until t place) = (thread : List ℕ) × SpellsSchedule thread None (once t ∷ []) × (word ≡ thread ++ 64 ∷ place_words place)

abbrev pub SpellDeeds : List (List ℕ) → List DeedOf → Type 0
SpellDeeds [] [] = Unit {0}
SpellDeeds (word ∷ words) (deed ∷ deeds) = SpellsDeed word deed × SpellDeeds words deeds
SpellDeeds [] (deed ∷ deeds) = ⊥
SpellDeeds (word ∷ words) [] = ⊥
