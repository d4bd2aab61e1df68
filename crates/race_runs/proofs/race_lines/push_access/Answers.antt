use Rattle.race_runs.proofs.race_lines.Adding.{spelled_access}
use Rattle.race_runs.proofs.race_lines.push_access.Goals as goal

pub returns : goal.returns
returns c =
    spelled_access c.push_number.result c.args.names.now.linked.now c.args.access c.args.text.now.items c.push_words.new.text.items c.push_words-2.new.text.items c.push_site.new.text.items
    c.push_words-3.new.text.items c.push_number.new.text.items c.kind_word.result.now c.kind_word.ensures c.in_ok-push_words.ensures c.in_ok-push_words-2.ensures c.in_ok-push_site.ensures
    c.in_ok-push_words-3.ensures c.push_number.ensures
