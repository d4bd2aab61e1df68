use Rattle.std.proofs.Common.{◌≡◌, ◌∷◌, ◌++◌, [], ◌∙◌, ap, ℕ, List, Option}
use Rattle.model.specs.State.{Monitor}
use Rattle.model.specs.Monitors.{monitor_at}
use Rattle.heap.proofs.Same.{one_like, on_ok}
use Rattle.heap.proofs.monitor.records.Records.add_like.Goals as goal

pub returns : goal.returns
returns c =
    let mine : Option ℕ → ℕ → List Monitor = λ owner count. c.args.self.now
    ++ record { owner = owner; count = count; waiters = [] } ∷ [] in
    let added : c.add.new.self ≡ mine (monitor_at c.args.other.now c.args.index).owner
    (monitor_at c.args.other.now c.args.index).count =
    c.in_ok-add.ensures.ok ∙ ap (λ owner. mine owner c.count.result) c.owner.ensures
    ∙ ap (mine (monitor_at c.args.other.now c.args.index).owner) c.count.ensures in
    on_ok c.join_all.result _ (c.join_all.new.self ≡ c.args.self.now ++ monitor_at c.args.other.now c.args.index ∷ [])
    (λ joined. one_like c.args.self.now c.add.new.self c.join_all.new.self c.len-at.result
    (monitor_at c.args.other.now c.args.index) c.len-at.ensures added joined)
    c.join_all.ensures
