use Rattle.std.proofs.Common.{◌≡◌, map, take}
use Rattle.model.specs.Texts.{decoded}
use Rattle.linker.proofs.field_links.string_numbers.decoded_texts.Given as goal

abbrev pub invariant-loop-number : goal.invariant-loop-number
invariant-loop-number l = map (λ text. text.items) l.all.items ≡ map decoded (take l.number l.texts)
