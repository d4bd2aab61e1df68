use Rattle.std.proofs.Common.{◌≡◌, take, map}
use Rattle.model.specs.ReferenceTypes.{Char}
use Rattle.model.specs.Worlds.{kept}
use Rattle.string_methods.proofs.parts.chars.Given as goal

abbrev pub invariant-loop-word : goal.invariant-loop-word
invariant-loop-word l = l.units.items ≡ map (kept Char) (take l.word-index l.words)
