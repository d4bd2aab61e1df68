use Rattle.std.proofs.Common.{[], List, ℕ, map, take, sym, ap, ◌∙◌, arith}
use Rattle.link_conditions.specs.limits_of_linking.Texts.{with_text, with_texts}
use Rattle.advice.specs.Advice.{words_of}
use Rattle.advice.specs.declared.told.Told.{Told}
use Rattle.advice.proofs.TextLaws.{lines_more}
use Rattle.advice.proofs.text.push_lines.Goals as goal

pub loop-one-preserved : goal.loop-one-preserved
loop-one-preserved c =
    let told = c.args.told.now in
    let one = c.one-item.result in
    let before = with_texts [] (map words_of (take c.loop-one.one-index told)) in
    let more = lines_more told c.loop-one.one-index one (omega (arith, c.loop-one-test.true)) in
    record {
      lines =
          c.in_ok-push_once.ensures.lines
          ∙ ap (λ (w : List ℕ). with_text c.loop-one.lines w) c.deref.ensures.value
          ∙ ap (λ (l : List (List ℕ)). with_text l (words_of one)) c.loop-one.invariant.lines
          ∙ ap (λ (t : Told). with_text before (words_of t)) c.one-item.is
          ∙ sym more;
      text = c.in_ok-push_once.ensures.text c.args.text.now.items c.loop-one.invariant.text;
    }
