use Rattle.race_runs.proofs.race_lines.Adding.{spelled_race}
use Rattle.race_runs.proofs.race_lines.push_race.Goals as goal

pub returns : goal.returns
returns c =
    spelled_race c.push_words-4.result c.args.names.now.linked.now c.args.race c.args.text.now.items c.push_words.new.text.items c.push_variable.new.text.items c.push_words-2.new.text.items
    c.push_access.new.text.items c.push_words-3.new.text.items c.push_access-2.new.text.items c.push_words-4.new.text.items c.in_ok-push_words.ensures c.in_ok-push_variable.ensures
    c.in_ok-push_words-2.ensures c.in_ok-push_access.ensures c.in_ok-push_words-3.ensures c.in_ok-push_access-2.ensures c.push_words-4.ensures
