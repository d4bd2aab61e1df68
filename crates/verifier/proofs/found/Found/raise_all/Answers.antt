use Rattle.run_laws.proofs.typing_search.Linking.{ordered_from}
use Rattle.types.specs.method_code.View.{files_of}
use Rattle.verifier.proofs.Passing.{raises_none, raises_more, raises_all}
use Rattle.verifier.proofs.found.Found.raise_all.Goals as goal

pub loop-lead-init : goal.loop-lead-init
loop-lead-init c =
    let m = c.args.method.now in
    record {
      over = c.requires.over;
      raised = raises_none m (ordered_from (files_of m) c.requires.linked.1.no_refusal) c.args.self.now c.args.leads.now c.args.frame.now c.args.changed.now c.requires.over;
    }

pub loop-lead-preserved : goal.loop-lead-preserved
loop-lead-preserved c =
    let m = c.args.method.now in
    record {
      over = c.in_ok-raise.ensures.over;
      raised = raises_more m (ordered_from (files_of m) c.requires.linked.1.no_refusal) c.args.self.now c.args.leads.now c.args.frame.now c.args.changed.now c.loop-lead.lead-index _ c.loop-lead.self c.raise.new.self c.loop-lead-test.true c.loop-lead.invariant.raised c.in_ok-raise.ensures.raised;
    }

pub returns : goal.returns
returns c =
    let m = c.args.method.now in
    raises_all m (ordered_from (files_of m) c.requires.linked.1.no_refusal) c.args.self.now c.args.leads.now c.args.frame.now c.args.changed.now c.loop-lead.lead-index c.loop-lead.self c.loop-lead-test.false c.loop-lead.invariant.raised
