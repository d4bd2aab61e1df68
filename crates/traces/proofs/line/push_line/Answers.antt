use Rattle.std.proofs.Common.{List, ℕ, ◌++◌, ap, ◌∙◌}
use Rattle.traces.specs.Lines.{instruction_words}
use Rattle.traces.proofs.MethodPlaces.{told_line}
use Rattle.traces.proofs.line.push_line.Goals as goal

pub returns : goal.returns
returns c = λ stack sees.
    let words = instruction_words c.args.names.now.linked.now stack in
    let told = c.as_slice-2.ensures.value ∙ c.in_ok-push_instruction.ensures stack sees ∙ ap (λ (l : List ℕ). l ++ words) c.clear-2.ensures.words in
    told_line _ c.args.line.form c.args.names.now.linked.now c.args.line.number c.args.line.event.thread stack c.args.text.now.items _ _ _ _ _ _ _ _ _ _ c.in_ok-push_head.ensures (c.in_ok-push_place.ensures stack sees) c.in_ok-push_part.ensures
    c.in_ok-push_part-2.ensures told c.in_ok-push_did.ensures c.in_ok-push_members.ensures c.push_end.ensures
