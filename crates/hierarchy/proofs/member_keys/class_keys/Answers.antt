use Rattle.std.proofs.Common.{◌≡◌, ◌∙◌, ℕ, List, Option, map, sym, ap}
use Rattle.std.specs.List.{list_any}
use Rattle.model.specs.Pool.{utf8_of}
use Rattle.constant_pool.specs.View.{entry_of}
use Rattle.class_tree.specs.declared.tree.Field.{Field}
use Rattle.class_tree.specs.declared.tree.Method.{Method}
use Rattle.class_tree.specs.View.{field_of, method_of}
use Rattle.hierarchy.specs.MemberKeys.{number_of, numbers_of, field_key, method_key, has_unnumbered_field, has_unnumbered_method}
use Rattle.hierarchy.proofs.KeyLaws.{map_twice, any_of_map}
use Rattle.hierarchy.proofs.member_keys.class_keys.Goals as goal

pub returns : goal.returns
returns c =
    let texts = c.args.texts.now in
    let file = c.args.file.now in
    let all = numbers_of texts file.pool in
    let made : c.in_ok-numbers.numbers.items ≡ all =
    c.in_ok-numbers.ensures ∙ map_twice entry_of (λ e. number_of texts (utf8_of e)) c.constants.result.now
    ∙ ap (λ l. map (λ e. number_of texts (utf8_of e)) l) c.constants.ensures in
    record {
      of_fields =
          c.in_ok-field_keys.ensures
          ∙ ap (λ (n : List (Option ℕ)). map (λ f. field_key n (field_of f)) c.deref-4.result.now) (c.deref-3.ensures.value ∙ made)
          ∙ ap (λ (l : List Field). map (λ f. field_key all (field_of f)) l) c.deref-4.ensures.value
          ∙ map_twice field_of (field_key all) file.fields.items;
      of_methods =
          c.in_ok-method_keys.ensures
          ∙ ap (λ (n : List (Option ℕ)). map (λ m. method_key n (method_of m)) c.deref-6.result.now) (c.deref-5.ensures.value ∙ made)
          ∙ ap (λ (l : List Method). map (λ m. method_key all (method_of m)) l) c.deref-6.ensures.value
          ∙ map_twice method_of (method_key all) file.methods.items;
      fields_numbered =
          sym (any_of_map field_of (has_unnumbered_field file.pool all) file.fields.items)
          ∙ ap (λ (l : List Field). list_any (λ f. has_unnumbered_field file.pool all (field_of f)) l) (sym c.deref-2.ensures.value)
          ∙ ap (λ (n : List (Option ℕ)). list_any (λ f. has_unnumbered_field file.pool n (field_of f)) c.deref-2.result.now) (sym (c.deref.ensures.value ∙ made))
          ∙ sym c.has_unnumbered_field.ensures ∙ c.if-has_unnumbered_field.false;
      methods_numbered =
          sym (any_of_map method_of (has_unnumbered_method file.pool all) file.methods.items)
          ∙ ap (λ (l : List Method). list_any (λ m. has_unnumbered_method file.pool all (method_of m)) l) (sym c.deref-else-has_unnumbered_field-2.ensures.value)
          ∙ ap (λ (n : List (Option ℕ)). list_any (λ m. has_unnumbered_method file.pool n (method_of m)) c.deref-else-has_unnumbered_field-2.result.now) (sym (c.deref-else-has_unnumbered_field.ensures.value ∙ made))
          ∙ sym c.has_unnumbered_method.ensures ∙ c.if-has_unnumbered_method.false;
    }
