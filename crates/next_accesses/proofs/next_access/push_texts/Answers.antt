use Rattle.next_accesses.proofs.next_access.Adding.{texts_added}
use Rattle.next_accesses.proofs.next_access.push_texts.Goals as goal

pub returns : goal.returns
returns c = texts_added _ _ _ _ c.args.accesses c.in_ok-push.ensures c.in_ok-push-2.ensures c.in_ok-push-3.ensures
