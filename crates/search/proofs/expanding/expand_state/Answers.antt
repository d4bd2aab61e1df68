use Rattle.std.proofs.Common.{length, ap, ◌∙◌}
use Rattle.std.proofs.lemmas.Result.{IfOk-weaker}
use Rattle.machine_state.specs.declared.state.Shared.{Shared}
use Rattle.search.proofs.Expanded.{all_events}
use Rattle.search.proofs.expanding.expand_state.Goals as goal

pub returns : goal.returns
returns c =
    IfOk-weaker c.expand_threads.result _ _
    (λ r grown.
    all_events c.other_threads_are_left.ensures.holds c.args.most c.args.number c.len-threads.result c.args.walk.states r.1.states c.args.walk.machine c.requires.number c.requires.there.is_in
    (c.len-threads.ensures.length ∙ ap (λ (s : Shared). length s.threads.threads) c.shared.ensures.same) r.1 r.0 grown)
    c.expand_threads.ensures
