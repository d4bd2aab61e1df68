use Rattle.std.proofs.Common.{◌≡◌, ◌++◌, take}
use Rattle.std.specs.List.{flat_map}
use Rattle.model.specs.Listing.{class_word, operand}
use Rattle.listings.proofs.disasm.member.push_classes.Given as goal

abbrev pub invariant-classes : goal.invariant-classes
invariant-classes l = l.text.items ≡ l.fn.text.items ++ flat_map (λ i. operand (class_word l.file.pool i)) (take l.index-index l.classes)
