use Rattle.std.proofs.Common.{◌≡◌, ◌∙◌, refl, sym, ap}
use Rattle.std.specs.Option.{option_map}
use Rattle.model.specs.Types.{type_meets}
use Rattle.model.specs.Operands.{over_types, is_ready}
use Rattle.types.specs.View.{frame_in}
use Rattle.instruction_types.specs.operand_types.RowView.{row_in}
use Rattle.instruction_types.specs.operand_types.Local.{row_at, row_ready}
use Rattle.instruction_types.proofs.operand_types.Rows.{no_row, not_ready, no_memory, leads}
use Rattle.instruction_types.proofs.operand_types.local.local_flow.Goals as goal

pub returns-in_default : goal.returns-in_default
returns-in_default c =
    let files = c.args.set.now in
    let site = c.args.site in
    let t = frame_in files c.args.frame.now in
    no_row files c.args.max_stack t t (row_at site) (sym (ap (λ o. option_map (row_in files site.code.now site.offset) o) c.in_default.is) ∙ c.row_of.ensures files) refl

pub returns-then-not-is_met : goal.returns-then-not-is_met
returns-then-not-is_met c =
    let files = c.args.set.now in
    let site = c.args.site in
    let t = frame_in files c.args.frame.now in
    let row = row_in files site.code.now site.offset c.in-Some.row in
    let is = sym (ap (λ o. option_map (row_in files site.code.now site.offset) o) c.in-Some.is) ∙ c.row_of.ensures files in
    let asked : c.is_met.result ≡ row_ready files row c.args.max_stack t = c.is_met.ensures ∙ ap (λ w. is_ready (type_meets files) over_types w c.args.max_stack t.slots) (c.asked.ensures files) in
    not_ready files c.args.max_stack t t row c.is_met.result (row_at site) is asked c.if-not-is_met.true refl

pub returns-in_err-targets : goal.returns-in_err-targets
returns-in_err-targets c =
    let files = c.args.set.now in
    let site = c.args.site in
    let t = frame_in files c.args.frame.now in
    let row = row_in files site.code.now site.offset c.in-Some.row in
    let is = sym (ap (λ o. option_map (row_in files site.code.now site.offset) o) c.in-Some.is) ∙ c.row_of.ensures files in
    let asked : c.is_met.result ≡ row_ready files row c.args.max_stack t = c.is_met.ensures ∙ ap (λ w. is_ready (type_meets files) over_types w c.args.max_stack t.slots) (c.asked.ensures files) in
    no_memory files c.args.max_stack t t row c.is_met.result c.from_residual.result (row_at site) is asked c.if-not-is_met.false c.from_residual.ensures.0 refl

pub returns-in_err-run : goal.returns-in_err-run
returns-in_err-run c =
    let files = c.args.set.now in
    let site = c.args.site in
    let t = frame_in files c.args.frame.now in
    let row = row_in files site.code.now site.offset c.in-Some.row in
    let is = sym (ap (λ o. option_map (row_in files site.code.now site.offset) o) c.in-Some.is) ∙ c.row_of.ensures files in
    let asked : c.is_met.result ≡ row_ready files row c.args.max_stack t = c.is_met.ensures ∙ ap (λ w. is_ready (type_meets files) over_types w c.args.max_stack t.slots) (c.asked.ensures files) in
    no_memory files c.args.max_stack t (frame_in files c.run.new.frame) row c.is_met.result c.from_residual-in_err-run.result (row_at site) is asked c.if-not-is_met.false c.from_residual-in_err-run.ensures.0 (c.in_err-run.ensures.err files)

pub returns : goal.returns
returns c =
    let files = c.args.set.now in
    let site = c.args.site in
    let t = frame_in files c.args.frame.now in
    let row = row_in files site.code.now site.offset c.in-Some.row in
    let is = sym (ap (λ o. option_map (row_in files site.code.now site.offset) o) c.in-Some.is) ∙ c.row_of.ensures files in
    let asked : c.is_met.result ≡ row_ready files row c.args.max_stack t = c.is_met.ensures ∙ ap (λ w. is_ready (type_meets files) over_types w c.args.max_stack t.slots) (c.asked.ensures files) in
    leads files c.args.max_stack t (frame_in files c.run.new.frame) row c.is_met.result c.in_ok-targets.targets (row_at site) is asked c.if-not-is_met.false (c.in_ok-run.ensures.ok files) c.in_ok-targets.ensures
