use Rattle.std.proofs.Common.{◌∙◌, ◌∷◌, ap, length, subst, sym, take, ◌+◌}
use Rattle.std.specs.List.{All}
use Rattle.std.proofs.lemmas.List.{take_all}
use Rattle.std.proofs.lemmas.List.Elements.{All-more}
use Rattle.std.proofs.Math.Seq.{drop-length}
use Rattle.model.specs.Texts.{Text}
use Rattle.search.specs.run_outcomes.Lines.{lines_of}
use Rattle.search.proofs.run_outcomes.LineLaws.{EndsNoLine, is_no_end, rest_is, split_at, split_none}
use Rattle.search.proofs.run_outcomes.lines.split_line.Goals as goal

pub returns-then-text-at-eq-LINE_FEED-clause-lines : goal.returns-then-text-at-eq-LINE_FEED-clause-lines
returns-then-text-at-eq-LINE_FEED-clause-lines c =
    let text = c.args.text.now in
    split_at text c.units.at c.units-test.true c.if-text-at-eq-LINE_FEED.true c.units.invariant
    ∙ ap (λ (l : Text). take c.units.at text ∷ lines_of l) (sym (rest_is text (c.units.at + 1)))

pub units-preserved : goal.units-preserved
units-preserved c =
    All-more EndsNoLine c.args.text.now c.units.at 0 c.units-test.true c.units.invariant (is_no_end _ c.if-text-at-eq-LINE_FEED.false)

pub returns-clause-lines : goal.returns-clause-lines
returns-clause-lines c =
    let text = c.args.text.now in
    split_none text c.requires (subst (λ (l : Text). All EndsNoLine l) (take_all c.units.at text c.units-test.false) c.units.invariant)
    ∙ ap (λ (l : Text). text ∷ lines_of l) (sym (rest_is text (length text) ∙ drop-length text))
