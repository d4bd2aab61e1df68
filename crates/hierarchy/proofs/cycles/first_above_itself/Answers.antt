use Rattle.std.proofs.Common.{◌≡◌, ◌∙◌, ◌≤◌, true, false, length, sym, ap, arith}
use Rattle.std.specs.List.{list_any}
use Rattle.class_tree.specs.View.{file_of}
use Rattle.model.specs.Classes.{classes_of}
use Rattle.model.specs.Hierarchy.{is_above, in_cycle}
use Rattle.hierarchy.proofs.Finding.{position_first, position_absent}
use Rattle.hierarchy.proofs.Indices.{none_more, none_all, file_behind, count_behind, take_enough}
use Rattle.hierarchy.proofs.cycles.first_above_itself.Goals as goal

pub returns-in_default : goal.returns-in_default
returns-in_default c =
    let files = c.args.set.now in
    sym (position_absent (in_cycle files) files (none_all (in_cycle files) files c.loop-number.number (sym (c.in_default.ensures ∙ file_behind files c.loop-number.number)) c.loop-number.invariant))

pub returns-then-is_above_itself : goal.returns-then-is_above_itself
returns-then-is_above_itself c =
    let files = c.args.set.now in
    let file = file_of c.in-Some.file.now in
    let at = sym (c.in-Some.ensures ∙ file_behind files c.loop-number.number) in
    let above : in_cycle files file ≡ true = ap (λ name. is_above files (length (classes_of files)) name name) (sym c.class_name.ensures) ∙ sym c.is_above_itself.ensures ∙ c.if-is_above_itself.true in
    sym (position_first (in_cycle files) files c.loop-number.number file at above c.loop-number.invariant)

pub loop-number-preserved : goal.loop-number-preserved
loop-number-preserved c =
    let files = c.args.set.now in
    let file = file_of c.in-Some.file.now in
    let at = sym (c.in-Some.ensures ∙ file_behind files c.loop-number.number) in
    let not_above : in_cycle files file ≡ false = ap (λ name. is_above files (length (classes_of files)) name name) (sym c.class_name.ensures) ∙ sym c.is_above_itself.ensures ∙ c.if-is_above_itself.false in
    none_more (in_cycle files) files c.loop-number.number file at c.loop-number.invariant not_above

pub returns : goal.returns
returns c =
    let files = c.args.set.now in
    let all : length files ≤ c.loop-number.number = omega (arith, c.loop-number-test.false, c.saturating_sub-number-end.ensures, c.count.ensures, count_behind files) in
    sym (position_absent (in_cycle files) files (ap (list_any (in_cycle files)) (sym (take_enough files c.loop-number.number all)) ∙ c.loop-number.invariant))
