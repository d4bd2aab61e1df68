use Rattle.std.proofs.Common.{List, ◌∷◌, ◌++◌, [], ap, ◌∙◌, subst}
use Rattle.thread_stacks.specs.Stacks.{ShownEntry}
use Rattle.kept_states.specs.States.{AreThreadsBehind}
use Rattle.kept_states.proofs.Written.{all_read, first_read}
use Rattle.kept_states.proofs.threads.read_threads.Goals as goal

pub returns-clause-threads : goal.returns-clause-threads
returns-clause-threads c =
    all_read c.args.parts.now c.in_ok-main.main c.args.numbers.now c.in_ok-main.others.now c.in_ok-threads.threads.threads c.in_ok-threads.stack
    c.read_others.new.threads.threads c.read_others.new.stacks.items c.in_ok-main.ensures
    (first_read c.args.parts.now c.in_ok-main.main c.args.limit c.in_ok-row.row.now c.in_ok-threads.threads c.in_ok-threads.stack c.in_ok-row.ensures c.in_ok-threads.ensures)
    (subst (λ (ss : List (List ShownEntry)). AreThreadsBehind c.args.parts.now c.in_ok-main.others.now c.in_ok-threads.threads.threads ss c.read_others.new.threads.threads c.read_others.new.stacks.items)
    (c.in_ok-push.ensures.items ∙ ap (λ (ss : List (List ShownEntry)). ss ++ c.in_ok-threads.stack ∷ []) c.in_ok-stacks.ensures.items) c.in_ok-read_others.ensures.threads)
