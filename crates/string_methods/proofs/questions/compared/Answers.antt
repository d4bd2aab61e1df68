use Rattle.std.proofs.Common.{◌≡◌, length, rules, sym, ◌∙◌}
use Rattle.string_methods.proofs.AlongTexts.{compared_longer}
use Rattle.string_methods.proofs.questions.compared.Goals as goal

pub returns-then-other-text : goal.returns-then-other-text
returns-then-other-text c =
    let at_end : c.loop-at.at ≡ length c.args.other.now = search (rules, c.loop-at.auto.at-end, c.min-at-end.ensures, c.loop-at-test.false, c.if-other-text.true) in
    c.low_bits.ensures ∙ sym (compared_longer c.args.text.now c.args.other.now c.loop-at.at at_end (search (rules, c.if-other-text.true))) ∙ c.loop-at.invariant
