use Rattle.std.proofs.Common.{List, sym, ap, subst}
use Rattle.std.proofs.lemmas.Result.{on_ok_weaker}
use Rattle.thread_stacks.specs.Stacks.{shown_frame}
use Rattle.race_places.specs.declared.run_actions.Action.{Action}
use Rattle.next_accesses.specs.builder_texts.Texts.{accesses_in}
use Rattle.next_accesses.specs.element_ranges.Ranges.{actions_if}
use Rattle.next_accesses.specs.next_access.Called.{AccessesBy, ClonesOnTop}
use Rattle.next_accesses.proofs.next_access.Adding.{adds_as, adds_told}
use Rattle.next_accesses.proofs.next_access.push_called.Goals as goal

pub returns-in-Builds : goal.returns-in-Builds
returns-in-Builds c =
    let trees = c.args.tables.now.linked.now in
    let operands = (shown_frame c.args.frame.now).operands in
    let told = accesses_in c.texts_on.result in
    on_ok_weaker c.push_texts.result
    (λ e. adds_told (AccessesBy trees c.args.program.now c.args.heap.now.objects operands c.args.method) c.args.found.now.items c.push_texts.new.found.items told e
    (subst (λ m. AccessesBy trees c.args.program.now c.args.heap.now.objects operands m told) (sym c.in-Builds.is) (ap accesses_in c.texts_on.ensures)))
    c.push_texts.ensures

pub returns-in-Writes : goal.returns-in-Writes
returns-in-Writes c =
    let trees = c.args.tables.now.linked.now in
    let operands = (shown_frame c.args.frame.now).operands in
    let told = actions_if c.chars_accessed.result in
    on_ok_weaker c.push_range.result
    (λ e. adds_told (AccessesBy trees c.args.program.now c.args.heap.now.objects operands c.args.method) c.args.found.now.items c.push_range.new.found.items told e
    (subst (λ m. AccessesBy trees c.args.program.now c.args.heap.now.objects operands m told) (sym c.in-Writes.is) (ap actions_if c.chars_accessed.ensures)))
    c.push_range.ensures

pub returns-in-Clones : goal.returns-in-Clones
returns-in-Clones c =
    let trees = c.args.tables.now.linked.now in
    let operands = (shown_frame c.args.frame.now).operands in
    on_ok_weaker c.push_clone.result
    (adds_as (ClonesOnTop trees c.args.program.now c.args.heap.now.objects operands) (AccessesBy trees c.args.program.now c.args.heap.now.objects operands c.args.method)
    c.args.found.now.items c.push_clone.new.found.items
    (λ told h. subst (λ m. AccessesBy trees c.args.program.now c.args.heap.now.objects operands m told) (sym c.in-Clones.is) h))
    c.push_clone.ensures
