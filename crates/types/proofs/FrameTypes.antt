-- The order and the join of frame types, by those of their locals and of their stacks with the top last.
use Rattle.std.proofs.Common.{◌≡◌, List, map, reverse, Option, Bool, ◌&&◌, Some, sym, ap, ◌∙◌}
use Rattle.std.specs.Prelude.{option_map}
use Rattle.model.specs.Classes.{Program}
use Rattle.model.specs.Types.{VerificationType}
use Rattle.model.specs.TypeOrder.{pairwise, is_mark_below, is_stack_below, is_local_below, is_frame_below}
use Rattle.model.specs.TypeJoin.{join_pairwise, stack_join, local_join, frame_of_slots, frame_join}
use Rattle.types.specs.declared.frame_type.FrameType.{FrameType}
use Rattle.types.specs.declared.verification_type.VerificationType as declared_type
use Rattle.types.specs.View.{type_in, frame_in}
use Rattle.types.proofs.Pairwise.{pairwise_reverse, join_reverse}

module _ (files : Program) (a b : FrameType) where
  abbrev in_model : List declared_type.VerificationType → List VerificationType
  in_model ts = map (type_in files) ts

  abbrev locals_of : FrameType → List VerificationType
  locals_of f = in_model f.locals.items

  abbrev stack_of : FrameType → List VerificationType
  stack_of f = in_model f.stack.items

  pub below_by : (x y m : Bool) (la lb sa sb : List declared_type.VerificationType)
      → la ≡ a.locals.items → lb ≡ b.locals.items → sa ≡ a.stack.items → sb ≡ b.stack.items
      → x ≡ pairwise (is_local_below files) (in_model la) (in_model lb) → y ≡ pairwise (is_stack_below files) (in_model sa) (in_model sb)
      → m ≡ is_mark_below a.constructed b.constructed
      → (x && (y && m)) ≡ is_frame_below files (frame_in files a) (frame_in files b)
  below_by x y m la lb sa sb p q r s e f g =
      let locals = e ∙ ap (λ l. pairwise (is_local_below files) (in_model l) (in_model lb)) p ∙ ap (λ l. pairwise (is_local_below files) (locals_of a) (in_model l)) q in
      let stack = f ∙ ap (λ l. pairwise (is_stack_below files) (in_model l) (in_model sb)) r ∙ ap (λ l. pairwise (is_stack_below files) (stack_of a) (in_model l)) s ∙ sym (pairwise_reverse (is_stack_below files) (stack_of a) (stack_of b)) in
      ap (λ v. v && (y && m)) locals
      ∙ ap (λ v. pairwise (is_local_below files) (locals_of a) (locals_of b) && (v && m)) stack
      ∙ ap (λ v. pairwise (is_local_below files) (locals_of a) (locals_of b) && (pairwise (is_stack_below files) (reverse (stack_of a)) (reverse (stack_of b)) && v)) g

  pub joined_by : (x y : Option (List VerificationType)) (m : Bool) (la lb sa sb : List declared_type.VerificationType)
      → la ≡ a.locals.items → lb ≡ b.locals.items → sa ≡ a.stack.items → sb ≡ b.stack.items
      → x ≡ join_pairwise (λ s t. Some (local_join files s t)) (in_model la) (in_model lb)
      → y ≡ join_pairwise (stack_join files) (in_model sa) (in_model sb) → m ≡ (a.constructed && b.constructed)
      → frame_of_slots m x (option_map reverse y) ≡ frame_join files (frame_in files a) (frame_in files b)
  joined_by x y m la lb sa sb p q r s e f g =
      let joins = λ (s t : VerificationType). Some (local_join files s t) in
      let locals = e ∙ ap (λ l. join_pairwise joins (in_model l) (in_model lb)) p ∙ ap (λ l. join_pairwise joins (locals_of a) (in_model l)) q in
      let stack = f ∙ ap (λ l. join_pairwise (stack_join files) (in_model l) (in_model sb)) r ∙ ap (λ l. join_pairwise (stack_join files) (stack_of a) (in_model l)) s in
      let turned = ap (λ o. option_map reverse o) stack ∙ sym (join_reverse (stack_join files) (stack_of a) (stack_of b)) in
      ap (λ v. frame_of_slots m v (option_map reverse y)) locals
      ∙ ap (λ v. frame_of_slots m (join_pairwise joins (locals_of a) (locals_of b)) v) turned
      ∙ ap (λ v. frame_of_slots v (join_pairwise joins (locals_of a) (locals_of b)) (join_pairwise (stack_join files) (reverse (stack_of a)) (reverse (stack_of b)))) g
