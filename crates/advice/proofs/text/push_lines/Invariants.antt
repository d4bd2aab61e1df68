use Rattle.std.proofs.Common.{◌≡◌, [], ◌++◌, take, map}
use Rattle.std.specs.Prelude.{codes}
use Rattle.link_conditions.specs.limits_of_linking.Texts.{with_texts}
use Rattle.advice.specs.Advice.{indented, words_of}
use Rattle.advice.proofs.text.push_lines.Given as goal

abbrev pub invariant-loop-one : goal.invariant-loop-one
invariant-loop-one l = record {
  lines : l.lines ≡ with_texts [] (map words_of (take l.one-index l.told));
  text : l.text.items ≡ l.initial.text.items ++ indented (codes "    ") l.lines;
}
