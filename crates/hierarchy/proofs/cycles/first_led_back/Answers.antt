use Rattle.std.proofs.Common.{◌≡◌, ◌∙◌, true, length, sym, ap}
use Rattle.class_tree.specs.View.{file_of}
use Rattle.model.specs.Classes.{classes_of}
use Rattle.model.specs.Hierarchy.{is_above, in_cycle}
use Rattle.hierarchy.specs.Ranks.{is_reached}
use Rattle.hierarchy.proofs.Finding.{position_first}
use Rattle.hierarchy.proofs.Indices.{file_behind, none_more}
use Rattle.hierarchy.proofs.CycleLaws.{unreached}
use Rattle.hierarchy.proofs.cycles.first_led_back.Goals as goal

pub returns-then-leads_back : goal.returns-then-leads_back
returns-then-leads_back c =
    let files = c.args.set.now in
    let file = file_of c.in-Some.file.now in
    let at = sym (c.in-Some.ensures ∙ file_behind files c.loop-number.number) in
    let above : in_cycle files file ≡ true = ap (λ name. is_above files (length (classes_of files)) name name) (sym c.class_name-class.ensures) ∙ c.leads_back.ensures c.if-leads_back.true in
    position_first (in_cycle files) files c.loop-number.number file at above c.loop-number.invariant

pub loop-number-preserved : goal.loop-number-preserved
loop-number-preserved c =
    let files = c.args.set.now in
    let ranks = c.as_slice-ranks.result.now in
    let class = c.class_name-class.result.now in
    let file = file_of c.in-Some.file.now in
    let at = sym (c.in-Some.ensures ∙ file_behind files c.loop-number.number) in
    none_more (in_cycle files) files c.loop-number.number file at c.loop-number.invariant
    (ap (λ name. is_above files (length (classes_of files)) name name) (sym c.class_name-class.ensures)
    ∙ unreached files ranks (c.never_rise.ensures c.if-not-never_rise.false) (length (classes_of files)) class
    (ap (λ rank. is_reached files ranks rank class) (sym c.rank_of-rank.ensures) ∙ sym c.is_reached.ensures ∙ c.if-is_reached.false))
