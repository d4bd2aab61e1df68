use Rattle.traces.proofs.Counts.{members_counted, words_counted}
use Rattle.traces.proofs.fold.push_count.Goals as goal

pub returns-in-Json : goal.returns-in-Json
returns-in-Json c =
    members_counted c.push_number_member-in-Json.result c.args.text.now.items c.push_number_member.new.text.items c.push_number_member-in-Json.new.text.items c.args.form c.in-Json.is c.args.count c.args.last
    c.in_ok-push_number_member.ensures c.push_number_member-in-Json.ensures

pub returns : goal.returns
returns c =
    words_counted c.push_number-2.result c.args.text.now.items c.push_words-2.new.text.items c.push_number-2.new.text.items c.args.form c.in_default.not-Json c.args.count c.args.last
    c.push_words.new.text.items c.push_number.new.text.items c.in_ok-push_words.ensures c.in_ok-push_number.ensures c.in_ok-push_words-2.ensures c.push_number-2.ensures
