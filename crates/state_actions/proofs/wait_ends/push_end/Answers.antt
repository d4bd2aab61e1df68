use Rattle.state_actions.proofs.wait_ends.Waits.{end_told}
use Rattle.state_actions.proofs.wait_ends.push_end.Goals as goal

pub returns : goal.returns
returns c =
    end_told c.args.thread c.args.waiting.now c.args.threads.now.threads _ c.push_wakes.new.actions.items _ c.has_ended.result c.has_ended.ensures c.if-not-has_ended.false
    c.in_ok-push_wakes.ensures c.in_ok-push.ensures.items
