use Rattle.std.proofs.Common.{◌≡◌, sym, ap, subst, ◌∙◌}
use Rattle.std.specs.Prelude.{◌↔◌, Bool, IsTrue}
use Rattle.std.specs.Ordering.{is_eq}
use Rattle.search.specs.run_outcomes.Outcomes.{told_by}
use Rattle.search.proofs.run_outcomes.SameLaws.{same_are_equal}
use Rattle.search.proofs.run_outcomes.outcomes.Outcome.is_same.Goals as goal

pub returns-clause-equal : goal.returns-clause-equal
returns-clause-equal c =
    subst (λ (b : Bool). IsTrue b ↔ (told_by c.args.self.now ≡ told_by c.args.other.now)) (sym (c.is_eq.ensures ∙ ap is_eq c.compare.ensures))
    (same_are_equal (told_by c.args.self.now) (told_by c.args.other.now))
