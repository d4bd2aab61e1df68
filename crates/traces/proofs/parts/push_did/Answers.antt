use Rattle.std.proofs.Common.{sym, ◌∙◌}
use Rattle.traces.proofs.Pieces.{member_told, words_told}
use Rattle.traces.proofs.parts.push_did.Goals as goal

pub returns-in-Json : goal.returns-in-Json
returns-in-Json c =
    let said = c.args.said.now in
    member_told said.words.items said.units.items said.marks.items c.push_words-in-Json.result c.args.form c.args.text.now.items _ _ _ (sym c.is_empty.ensures ∙ c.if-is_empty.false) c.in-Json.is c.in_ok-push_words.ensures
    c.in_ok-push.ensures c.push_words-in-Json.ensures

pub returns : goal.returns
returns c =
    let said = c.args.said.now in
    words_told said.words.items said.units.items said.marks.items c.push-2.result c.args.form c.args.text.now.items _ _ (sym c.is_empty.ensures ∙ c.if-is_empty.false) c.in_default.not-Json c.in_ok-push_words-2.ensures c.push-2.ensures
