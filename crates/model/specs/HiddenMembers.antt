-- The private members of built-in classes, which no instruction of a file may name, and which fields count as cells (own).
use Rattle.std.specs.Prelude.{List, [], ◌∷◌, Bool, not, ◌||◌}
use Rattle.std.specs.List.{list_any}
use Rattle.model.specs.Names.{Member, member_eq, thread_target, thread_name, thread_ordinal, thread_priority, builder_text, throwable_message, throwable_cause, throwable_suppressed, string_described, string_lower, system_check}

abbrev pub hidden_fields : List Member
hidden_fields =
    thread_target ∷ thread_name ∷ thread_ordinal ∷ thread_priority ∷ builder_text ∷ throwable_message ∷ throwable_cause ∷ throwable_suppressed ∷ []

abbrev pub is_hidden : Member → Bool
is_hidden field = list_any (member_eq field) hidden_fields

-- Of the hidden fields, the target of a Thread alone counts for the limit on cells.
abbrev pub is_cell : Member → Bool
is_cell field = not (is_hidden field) || member_eq field thread_target

abbrev pub hidden_methods : List Member
hidden_methods = string_described ∷ string_lower ∷ system_check ∷ []

abbrev pub is_hidden_method : Member → Bool
is_hidden_method method = list_any (member_eq method) hidden_methods
