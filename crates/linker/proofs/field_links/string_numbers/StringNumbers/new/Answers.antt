use Rattle.std.proofs.Common.{◌∙◌, [], map, ap}
use Rattle.std.specs.List.{position_or_len}
use Rattle.model.specs.Names.{name_eq}
use Rattle.model.specs.StringConstants.{division_text, main_text}
use Rattle.model.specs.Texts.{decoded}
use Rattle.linker.proofs.field_links.string_numbers.StringNumbers.new.Goals as goal

pub returns : goal.returns
returns c =
    let all = c.in_ok-texts.ensures in
    record {
      rows = c.in_ok-number_rows.ensures;
      texts = c.in_ok-decoded_texts.ensures ∙ ap (map decoded) all;
      empty = c.number_or_count.ensures ∙ ap (position_or_len (name_eq [])) all;
      division = c.number_or_count-2.ensures ∙ ap (position_or_len (name_eq division_text)) all;
      main = c.number_or_count-3.ensures ∙ ap (position_or_len (name_eq main_text)) all;
    }
