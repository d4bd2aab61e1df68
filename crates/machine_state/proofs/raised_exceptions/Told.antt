-- What an exception tells that the machine makes: its message and its cause, by their words.
use Rattle.std.proofs.Common.{◌≡◌, ℕ, suc, List, [], ◌∷◌, Option, Some, None, map, refl, sym, ap, subst, ◌∙◌}
use Rattle.std.specs.Option.{option_map_or}
use Rattle.model.specs.Names.{Name, Member, throwable_message, throwable_cause, throwable_suppressed}
use Rattle.model.specs.Classes.{Program}
use Rattle.model.specs.DescriptorScan.{element_at, field_at, field_type}
use Rattle.model.specs.Lookup.{instance_fields}
use Rattle.model.specs.MachineExceptions.{with_message, with_cause}
use Rattle.model.specs.Opening.{with_first}
use Rattle.model.specs.Operands.{words}
use Rattle.model.specs.State.{ObjectOf, Instance}
use Rattle.model.specs.Worlds.{cells_of}
use Rattle.linked_code.specs.declared.program.LinkedProgram.{LinkedProgram}
use Rattle.machine_state.specs.shown_objects.Shown.{ShowsObject}
use Rattle.machine_state.specs.raised_exceptions.Raised.{IsNumbered, telling_object, text_word, throwable_fields}

-- the fields of Throwable, with the words of the first two
abbrev pub told_fields : (message cause : ℕ) → List (Member × ℕ)
told_fields message cause = (throwable_message, message) ∷ (throwable_cause, cause) ∷ (throwable_suppressed, 0) ∷ []

abbrev pub cause_word : Option ℕ → ℕ
cause_word cause = option_map_or suc cause 0

module _ (trees : Program) (class : Name) where
  abbrev pub telling : Option Name → Option ℕ → List Member → ObjectOf ℕ
  telling text cause fields = with_cause words cause (with_message words trees text (Instance class (map (with_first words) fields)))

  of_fields : (text : Option Name) (cause : Option ℕ) → telling text cause throwable_fields ≡ Instance class (told_fields (text_word trees text) (cause_word cause))
  unfolding field_type field_at element_at
  of_fields None None = refl
  of_fields None (Some exception) = refl
  of_fields (Some text) None = refl
  of_fields (Some text) (Some exception) = refl

  module _ (number : ℕ) (is : IsNumbered trees number class) (text : Option Name) (cause : Option ℕ) where
    pub told : telling text cause (instance_fields trees class) ≡ Instance class (told_fields (text_word trees text) (cause_word cause))
    told = ap (telling text cause) is.fields ∙ of_fields text cause

    pub none_counted : 0 ≡ cells_of (telling text cause (instance_fields trees class))
    none_counted = sym (ap cells_of told)

    pub told_shown : (p : LinkedProgram)
        → ShowsObject trees p.components.items (telling_object number (text_word trees text) (cause_word cause)) (telling text cause (instance_fields trees class))
    told_shown p =
        subst (ShowsObject trees p.components.items (telling_object number (text_word trees text) (cause_word cause))) (sym told)
        (record { kind = (is.class, sym is.fields, is.other); words = refl })
