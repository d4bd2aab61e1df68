-- The first String of a text, one object after the other.
use Rattle.std.proofs.Common.{◌≡◌, ◌<◌, ◌≤◌, ◌+◌, ◌-◌, ◌^◌, ℕ, suc, List, Option, Some, None, length, drop, if◌then◌else◌, refl, sym, ap, arith, ◌∙◌}
use Rattle.std.specs.Prelude.{slice_get, slice_index}
use Rattle.std.specs.Option.{option_or}
use Rattle.std.proofs.lemmas.List.{drop_more}
use Rattle.std.proofs.lemmas.Option.{slice_get_past}
use Rattle.model.specs.StringMethods.{is_same_text}
use Rattle.model.specs.Texts.{Text}
use Rattle.heap.specs.Heap.{Object}
use Rattle.machine_instructions.specs.thread_methods.Texts.{text_in}
use Rattle.machine_instructions.specs.thread_methods.TextWrites.{first_of, first_among, string_if}

-- what is behind the last object is none
pub string_past : (objects : List Object) (text : Text) (object : ℕ) → length objects ≤ object → string_if objects text object ≡ None
string_past objects text object behind = ap (λ found. string_by text object found) (slice_get_past objects object behind)
  where
    string_by : Text → ℕ → Option Object → Option ℕ
    string_by text object found = if is_same_text text (text_in found) then Some object else None

pub first_step : (objects : List Object) (text : Text) (first count place : ℕ) (found : Option ℕ) → place < count
    → found ≡ string_if objects text (first + place)
    → first_of objects text (first + place) (count - place) ≡ option_or found (first_of objects text (first + (place + 1)) (count - (place + 1)))
first_step objects text first count place found below is =
    let more : count - place ≡ suc (count - (place + 1)) = omega (arith, below) in
    let at : suc (first + place) ≡ first + (place + 1) = omega arith in
    ap (first_of objects text (first + place)) more ∙ (λ i. option_or (sym is i) (first_of objects text (at i) (count - (place + 1))))

pub among_step : (objects : List Object) (text : Text) (strings : List ℕ) (place : ℕ) (found : Option ℕ) → place < length strings
    → found ≡ string_if objects text (slice_index strings place)
    → first_among objects text (drop place strings) ≡ option_or found (first_among objects text (drop (place + 1) strings))
among_step objects text strings place found below is =
    ap (first_among objects text) (drop_more strings place 0 below) ∙ ap (λ o. option_or o (first_among objects text (drop (place + 1) strings))) (sym is)
