use Rattle.std.proofs.Common.{◌≡◌, ◌++◌, ap, ◌∙◌}
use Rattle.next_accesses.specs.racy_states.Racy.{with_accesses}
use Rattle.next_accesses.proofs.racy_states.Growing.{no_threads, one_more}
use Rattle.next_accesses.proofs.racy_states.next_accesses.Goals as goal

pub threads-preserved : goal.threads-preserved
threads-preserved c =
    let added = c.in_ok-push_next_accesses.ensures in
    let all : c.deref.result.now ≡ added.0 = c.deref.ensures.value ∙ added.1 ∙ ap (λ l. l ++ added.0) c.clear.ensures.items in
    one_more c.args.tables.now.linked.now c.args.program.now c.args.shared.now c.threads.thread c.threads.found.items c.threads.invariant
    added.0 added.2 c.add_accesses.new.found.items (c.in_ok-add_accesses.ensures ∙ ap (λ told. with_accesses c.threads.thread told c.threads.found.items) all)
