use Rattle.std.proofs.Common.{◌≡◌, ◌∙◌, ℕ, ◌+◌, List, ◌++◌, map, take, refl, sym, ap}
use Rattle.std.proofs.Math.Seq.{take-add}
use Rattle.model.specs.Tree.{FileTree}
use Rattle.model.specs.BuiltIn.{built_in_classes}
use Rattle.class_tree.specs.View.{file_of}
use Rattle.class_tree.specs.builtin.View.{built_in_from}
use Rattle.class_tree.proofs.builtin.classes.built_in_classes.Goals as goal

-- behind the first classes those that follow
with_next : (at count : ℕ) (before part now : List FileTree) → now ≡ before ++ part → before ≡ take at built_in_classes
    → part ≡ built_in_from at count → now ≡ take (at + count) built_in_classes
with_next at count before part now n b p =
    n ∙ ap (λ xs. xs ++ part) b ∙ ap (λ xs. take at built_in_classes ++ xs) p ∙ sym (take-add at count built_in_classes)

all_of_them : take 37 built_in_classes ≡ built_in_classes
unfolding built_in_classes
all_of_them = refl

pub returns : goal.returns
returns c =
    let two = with_next 0 2 _ _ _ c.in_ok-push_classes.ensures (ap (map file_of) c.new-classes.ensures.items) c.from_object.ensures.1 in
    let three = with_next 2 1 _ _ _ c.in_ok-push_classes-2.ensures two c.from_thread.ensures.1 in
    let four = with_next 3 1 _ _ _ c.in_ok-push_classes-3.ensures three c.from_string.ensures.1 in
    let five = with_next 4 1 _ _ _ c.in_ok-push_classes-4.ensures four c.from_class.ensures.1 in
    let seven = with_next 5 2 _ _ _ c.in_ok-push_classes-5.ensures five c.from_system.ensures.1 in
    let fifteen = with_next 7 8 _ _ _ c.in_ok-push_classes-6.ensures seven c.from_throwable.ensures.1 in
    let twenty_three = with_next 15 8 _ _ _ c.in_ok-push_classes-7.ensures fifteen c.from_abstract_method_error.ensures.1 in
    let thirty_one = with_next 23 8 _ _ _ c.in_ok-push_classes-8.ensures twenty_three c.from_illegal_argument_exception.ensures.1 in
    let most = with_next 31 5 _ _ _ c.in_ok-push_classes-9.ensures thirty_one c.from_char_sequence.ensures.1 in
    with_next 36 1 _ _ _ c.in_ok-push_classes-10.ensures most c.from_string_builder.ensures.1 ∙ all_of_them
