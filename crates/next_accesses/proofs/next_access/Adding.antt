-- What is put behind other accesses.
use Rattle.std.proofs.Common.{◌≡◌, refl, sym, ap, subst, ◌∙◌, List, [], ◌++◌, Option, Some, None}
use Rattle.std.specs.Option.{option_to_list}
use Rattle.std.proofs.lemmas.List.{append-nil, append_assoc}
use Rattle.race_places.specs.declared.run_actions.Action.{Action}
use Rattle.next_accesses.specs.declared.builder_texts.TextAccesses.{TextAccesses}
use Rattle.next_accesses.specs.builder_texts.Texts.{accesses_in}
use Rattle.next_accesses.specs.next_access.Added.{Adds}

pub texts_added : (old one two three : List Action) (told : TextAccesses) → one ≡ old ++ option_to_list told.first → two ≡ one ++ option_to_list told.second
    → three ≡ two ++ option_to_list told.third → three ≡ old ++ accesses_in told
texts_added old one two three told e f g =
    let first = option_to_list told.first in
    let second = option_to_list told.second in
    let third = option_to_list told.third in
    g ∙ ap (λ l. l ++ third) (f ∙ ap (λ l. l ++ second) e ∙ append_assoc old first second) ∙ append_assoc old (first ++ second) third

-- nothing is
pub adds_none : (Are : List Action → Type 0) (old : List Action) → Are [] → Adds Are old old
adds_none Are old h = ([], sym (append-nil old), h)

-- by another name
pub adds_as : (Are Also : List Action → Type 0) (old new : List Action) → ((told : List Action) → Are told → Also told) → Adds Are old new → Adds Also old new
adds_as Are Also old new f h = (h.0, h.1, f h.0 h.2)

pub adds_told : (Are : List Action → Type 0) (old new told : List Action) → new ≡ old ++ told → Are told → Adds Are old new
adds_told Are old new told e h = (told, e, h)
