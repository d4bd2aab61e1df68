use Rattle.std.proofs.Common.{◌≡◌, false, take}
use Rattle.std.specs.List.{list_any}
use Rattle.place_texts.specs.declared.words.TextWord.{TextWord}
use Rattle.place_texts.specs.Reading.{is_marked}
use Rattle.place_texts.proofs.read.has_place.Given as goal

abbrev pub invariant-words : goal.invariant-words
invariant-words l = list_any (λ (w : TextWord). is_marked w.bytes.items) (take l.word-index l.words) ≡ false
