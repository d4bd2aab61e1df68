use Rattle.std.proofs.Common.{arith, rules, ◌≡◌, ◌∙◌, ◌+◌, ◌<◌, ◌++◌, List, ℕ, true, false, ap, drop, length, subst, sym, vec_items}
use Rattle.engines.specs.Goals.{begins_return, without_returns}
use Rattle.engines.proofs.DeviceLemmas.{tail_cut}
use Rattle.engines.proofs.OutcomeLemmas.{keeps_one, leaves_out}
use Rattle.engines.proofs.commands.outcome_texts.without_returns.Goals.{then-not-begins_return+in_ok-push, else-not-begins_return}
use Rattle.engines.proofs.commands.outcome_texts.without_returns.Goals as goal

pub bytes-preserved : goal.bytes-preserved
bytes-preserved c =
    let bytes = c.args.bytes.now in
    let place = c.bytes.place in
    let within : place < length bytes = omega (arith, c.bytes-test.true, c.bytes.auto.place-end) in
    let begins : c.begins_return.result ≡ begins_return (drop place bytes) = c.begins_return.ensures ∙ ap begins_return (tail_cut place bytes) in
    elim c.if-not-begins_return.branch [
      | then-not-begins_return+in_ok-push w ↦
          let no : c.begins_return.result ≡ false = search rules in
          subst (λ (kept : List ℕ). kept ++ without_returns (drop (place + 1) bytes) ≡ without_returns bytes) (sym (ap vec_items w.kept-is ∙ w.in_ok-push.ensures.items))
          (keeps_one c.bytes.kept.items bytes place _ within (sym begins ∙ no) c.bytes.invariant)
      | else-not-begins_return w ↦
          let yes : c.begins_return.result ≡ true = search rules in
          subst (λ (kept : List ℕ). kept ++ without_returns (drop (place + 1) bytes) ≡ without_returns bytes) (sym (ap vec_items w.kept-is))
          (leaves_out c.bytes.kept.items bytes place 0 within (sym begins ∙ yes) c.bytes.invariant)
    ]
