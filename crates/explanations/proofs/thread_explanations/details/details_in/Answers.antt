use Rattle.std.proofs.Common.{List, ap, map, subst, vec_items, ◌∙◌}
use Rattle.linked_code.specs.declared.program.LinkedProgram.{LinkedProgram}
use Rattle.explanations.specs.declared.thread_explanations.waits.Wait.{Wait}
use Rattle.explanations.specs.thread_explanations.Cycles.{AreCycles}
use Rattle.explanations.specs.thread_explanations.Waits.{waits_of}
use Rattle.explanations.proofs.thread_explanations.details.details_in.Goals as goal

pub returns : goal.returns
returns c = (
  c.in_ok-waits.ensures.all ∙ ap (λ (p : LinkedProgram). waits_of p c.args.shared.now c.args.ends.now) c.deref.ensures,
  subst (λ (l : List Wait). AreCycles l (map vec_items c.in_ok-found.found.items)) c.deref-2.ensures.value c.in_ok-found.ensures,
)
