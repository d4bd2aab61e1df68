use Rattle.std.proofs.Common.{◌≡◌, ◌∙◌, ◌+◌, ◌||◌, ◌≤◌, Bool, length, refl, sym, ap, drop, arith}
use Rattle.std.specs.List.{list_any}
use Rattle.model.specs.Types as model
use Rattle.model.specs.Typing.{is_any_this}
use Rattle.types.specs.View.{frame_in}
use Rattle.instruction_types.specs.Successors.{found_by}
use Rattle.instruction_types.proofs.Leading.{any_next, any_end}
use Rattle.verifier.proofs.flow_effects.lead.finds_this.Goals as goal

pub returns-then-is_any_this : goal.returns-then-is_any_this
returns-then-is_any_this c =
    let files = c.args.set.now in
    let found = found_by files c.args.wants.now c.args.frame.now in
    let is : c.is_any_this.result ≡ _ = c.is_any_this.ensures files ∙ ap is_any_this (c.operand_in.ensures files) in
    sym (ap (λ (b : Bool). b || list_any is_any_this (drop (c.loop-k.k + 1) found)) c.if-is_any_this.true) ∙ sym (any_next is_any_this model.NullType found c.loop-k.k c.is_any_this.result refl is) ∙ c.loop-k.invariant

pub loop-k-preserved : goal.loop-k-preserved
loop-k-preserved c =
    let files = c.args.set.now in
    let found = found_by files c.args.wants.now c.args.frame.now in
    let is : c.is_any_this.result ≡ _ = c.is_any_this.ensures files ∙ ap is_any_this (c.operand_in.ensures files) in
    sym (ap (λ (b : Bool). b || list_any is_any_this (drop (c.loop-k.k + 1) found)) c.if-is_any_this.false) ∙ sym (any_next is_any_this model.NullType found c.loop-k.k c.is_any_this.result refl is) ∙ c.loop-k.invariant

pub returns : goal.returns
returns c =
    let end : length c.args.wants.now.pops.items ≤ c.loop-k.k = omega arith in
    sym (any_end is_any_this (length c.args.wants.now.pops.items) c.loop-k.k (frame_in c.args.set.now c.args.frame.now).slots.stack end) ∙ c.loop-k.invariant
