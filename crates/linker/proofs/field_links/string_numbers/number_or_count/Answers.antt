use Rattle.std.proofs.Common.{ℕ, length, Option, ap, ◌∙◌}
use Rattle.std.specs.Option.{option_map_or}
use Rattle.model.specs.Names.{name_eq}
use Rattle.linker.proofs.class_constants.Numbers.{position_or}
use Rattle.linker.proofs.field_links.string_numbers.number_or_count.Goals as goal

pub returns-in-None : goal.returns-in-None
returns-in-None c =
    let texts = c.args.texts.now in
    c.count.ensures ∙ ap (λ (o : Option ℕ). option_map_or (λ (n : ℕ). n) o (length texts)) c.in-None.ensures ∙ position_or (name_eq c.args.text.now) texts
