use Rattle.std.proofs.Common.{take}
use Rattle.place_texts.specs.Places.{deeds_of}
use Rattle.place_texts.specs.Reading.{texts}
use Rattle.place_texts.specs.Texts.{SpellDeeds}
use Rattle.place_texts.proofs.read.placed_deeds.Given as goal

-- the words so far spell the deeds so far
abbrev pub invariant-words : goal.invariant-words
invariant-words l = SpellDeeds (texts (take l.word-index l.words)) (deeds_of l.deeds.items)
