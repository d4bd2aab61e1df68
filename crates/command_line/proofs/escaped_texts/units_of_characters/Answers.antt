use Rattle.std.proofs.Common.{rules, ℕ, Some, ap, arith, sym, ◌∙◌}
use Rattle.std.proofs.lemmas.List.{drop_all}
use Rattle.command_line.specs.EscapedTexts.{escape_of, units_behind}
use Rattle.command_line.proofs.CommandLineLemmas.{refuses}
use Rattle.command_line.proofs.EscapedTextLemmas.{all_behind, all_read, character_read, escape_read, in_front, no_escape_read, passed_over}
use Rattle.command_line.proofs.escaped_texts.units_of_characters.Goals.{then-passed_over-gt0, else-passed_over-gt0+then-character-ne92+in_ok-push_character, else-passed_over-gt0+else-character-ne92+in-Some+in_ok-push}
use Rattle.command_line.proofs.escaped_texts.units_of_characters.Goals as goal

pub returns-in_default-clause-none : goal.returns-in_default-clause-none
returns-in_default-clause-none c =
    refuses c.no_escape.result _ c.no_escape.ensures
    (no_escape_read _ c.args.characters.now c.characters.at c.index-characters-at.result c.characters-test.true (search rules) c.characters.units.items c.characters.passed_over c.characters.invariant
    (omega (arith, c.if-passed_over-gt0.false)) (search rules)
    (sym c.in_default.is ∙ c.escape_of.ensures ∙ ap escape_of (all_behind c.args.characters.now c.characters.at)))

pub characters-preserved : goal.characters-preserved
characters-preserved c =
    let read = c.args.characters.now in
    let units = c.characters.units.items in
    let left = c.characters.passed_over in
    let so_far = c.characters.invariant in
    elim c.if-passed_over-gt0.branch [
      | then-passed_over-gt0 w ↦ passed_over _ read c.characters.at c.index-characters-at.result c.characters-test.true (search rules) units left so_far _ _ w.if-passed_over-gt0.true (search rules) (search rules)
      | else-passed_over-gt0+then-character-ne92+in_ok-push_character w ↦
          character_read _ read c.characters.at c.index-characters-at.result c.characters-test.true (search rules) units left so_far (omega (arith, w.if-passed_over-gt0.false)) _ _ (search rules) (search rules) (search rules)
      | else-passed_over-gt0+else-character-ne92+in-Some+in_ok-push w ↦
          escape_read _ read c.characters.at c.index-characters-at.result c.characters-test.true (search rules) units left so_far (omega (arith, w.if-passed_over-gt0.false)) _ w.in-Some.unit _ (search rules)
          (ap (λ (k : ℕ). Some (w.in-Some.unit, k)) w.passed_over-is ∙ sym w.in-Some.is ∙ w.escape_of.ensures ∙ ap escape_of (all_behind read c.characters.at)) (search rules)
    ]

pub returns-clause-units : goal.returns-clause-units
returns-clause-units c = all_read c.characters.passed_over c.characters.units.items _ (c.characters.invariant ∙ ap (λ l. in_front c.characters.units.items (units_behind c.characters.passed_over l)) (drop_all c.characters.at c.args.characters.now (omega (arith, c.characters-test.false))))
