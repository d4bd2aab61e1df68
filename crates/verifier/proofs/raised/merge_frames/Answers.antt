use Rattle.std.proofs.Common.{◌∙◌, None, sym, ap}
use Rattle.std.specs.Prelude.{Some}
use Rattle.std.proofs.lemmas.Bool.{false≢true}
use Rattle.types.specs.method_code.View.{files_of}
use Rattle.verifier.specs.Packed.{parts_in}
use Rattle.verifier.proofs.Linked.{has_superclasses}
use Rattle.verifier.proofs.Entries.{below_in, join_in}
use Rattle.verifier.proofs.raised.merge_frames.Goals as goal

pub frame_join-requires : goal.frame_join-requires
frame_join-requires c = has_superclasses (files_of c.args.method.now) _ c.set-2.ensures c.requires.1.no_refusal

pub returns-then-is_frame_below : goal.returns-then-is_frame_below
returns-then-is_frame_below c =
    below_in (files_of c.args.method.now) _ c.in_ok-frame.frame c.in_ok-there.there c.args.frame.now c.args.there.now _ _ c.set.ensures c.in_ok-frame.ensures c.in_ok-there.ensures c.is_frame_below.ensures c.if-is_frame_below.true

pub returns-in_default : goal.returns-in_default
returns-in_default c =
    join_in (files_of c.args.method.now) _ c.in_ok-there.there c.in_ok-frame.frame c.args.there.now c.args.frame.now _ None c.set-2.ensures c.in_ok-there.ensures c.in_ok-frame.ensures c.in_ok-found.ensures c.in_default.is

pub returns : goal.returns
returns c =
    let files = files_of c.args.method.now in
    let above = below_in files _ c.in_ok-frame.frame c.in_ok-there.there c.args.frame.now c.args.there.now _ _ c.set.ensures c.in_ok-frame.ensures c.in_ok-there.ensures c.is_frame_below.ensures c.if-is_frame_below.false in
    let join = join_in files _ c.in_ok-there.there c.in_ok-frame.frame c.args.there.now c.args.frame.now _ (Some c.in-Some.join) c.set-2.ensures c.in_ok-there.ensures c.in_ok-frame.ensures c.in_ok-found.ensures c.in-Some.is in
    (λ e. false≢true (sym above ∙ e), join ∙ ap (λ p. Some (parts_in files p)) (sym c.in_ok-join.ensures))
