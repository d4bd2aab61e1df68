use Rattle.std.proofs.Common.{refl}
use Rattle.std.proofs.lemmas.Result.{on_ok_weaker}
use Rattle.thread_stacks.specs.Stacks.{shown_frame}
use Rattle.thread_rules.specs.declared.next_rules.NextRule.TheVariants as rule
use Rattle.next_accesses.specs.next_access.Next.{TellsFrame, TellsStack}
use Rattle.next_accesses.proofs.next_access.Adding.{adds_as, adds_none}
use Rattle.next_accesses.proofs.next_access.Meant.{top_told, no_top, other_told}
use Rattle.next_accesses.proofs.next_access.push_accesses_with.Goals as goal

pub returns-in-Some : goal.returns-in-Some
returns-in-Some c =
    let trees = c.args.tables.now.linked.now in
    let frame = shown_frame c.in-Some.frame in
    on_ok_weaker c.push_accesses_on.result
    (adds_as (TellsFrame trees c.args.program.now c.args.shared.now c.args.thread frame) (TellsStack trees c.args.program.now c.args.shared.now c.args.thread c.args.stack.now)
    c.args.found.now.items c.push_accesses_on.new.found.items
    (λ told h. top_told c.rules_are_meant.ensures.holds trees c.args.program.now c.args.shared.now c.args.thread c.args.stack.now rule.Bytecode
    c.in-Bytecode.ensures refl frame c.in-Some.ensures told h))
    c.push_accesses_on.ensures

pub returns-in-None : goal.returns-in-None
returns-in-None c =
    let trees = c.args.tables.now.linked.now in
    adds_none (TellsStack trees c.args.program.now c.args.shared.now c.args.thread c.args.stack.now) c.args.found.now.items
    (no_top c.rules_are_meant.ensures.holds trees c.args.program.now c.args.shared.now c.args.thread c.args.stack.now rule.Bytecode c.in-Bytecode.ensures refl c.in-None.ensures)

pub returns-in_default : goal.returns-in_default
returns-in_default c =
    let trees = c.args.tables.now.linked.now in
    adds_none (TellsStack trees c.args.program.now c.args.shared.now c.args.thread c.args.stack.now) c.args.found.now.items
    (other_told c.rules_are_meant.ensures.holds trees c.args.program.now c.args.shared.now c.args.thread c.args.stack.now c.next_rule.result
    c.next_rule.ensures (λ e. c.in_default.not-Bytecode e))
