use Rattle.std.proofs.Common.{◌≡◌, ◌∙◌, chars, rules, subst, Some, None}
use Rattle.std.specs.Prelude.{IfErr, IfOk}
use Rattle.std.proofs.lemmas.Str.{chars_from_encodes}
use Rattle.command_line.specs.CommandLine.{Refuses}
use Rattle.command_line.specs.EscapedTexts.{units_behind}
use Rattle.command_line.proofs.escaped_texts.units_of.Goals as goal

pub returns-clause-units : goal.returns-clause-units
returns-clause-units c =
    let characters : c.in_ok-characters.characters.items ≡ chars c.args.word.now = search (rules, chars_from_encodes) in
    subst (λ l. IfOk c.units_of_characters.result (λ units. units_behind 0 l ≡ Some units.items)) (c.as_slice.ensures.value ∙ characters) c.units_of_characters.ensures.units

pub returns-clause-none : goal.returns-clause-none
returns-clause-none c =
    let characters : c.in_ok-characters.characters.items ≡ chars c.args.word.now = search (rules, chars_from_encodes) in
    subst (λ l. IfErr c.units_of_characters.result (λ usage. Refuses usage (units_behind 0 l ≡ None))) (c.as_slice.ensures.value ∙ characters) c.units_of_characters.ensures.none
