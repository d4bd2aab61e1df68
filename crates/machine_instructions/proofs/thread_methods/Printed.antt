-- What the methods of PrintStream print, by words and by the definitions.
use Rattle.std.proofs.Common.{◌≡◌, ◌<◌, ◌≤◌, ◌+◌, ◌^◌, ◌⊎◌, inl, inr, ℕ, ℤ, pos, negsuc, zero, suc, List, [], ◌∷◌, ◌++◌, map, length, length-append, FitsSigned, rules, arith, refl, sym, ap, subst, ◌∙◌}
use Rattle.std.specs.Prelude.{slice_index_or, unwrap_or}
use Rattle.std.specs.Fmt.{signed_decimal}
use Rattle.std.specs.Int.{w32}
use Rattle.std.proofs.Math.Facts.{sfits_to_z}
use Rattle.std.proofs.lemmas.Fmt.{decimal_nonempty, length_signed_le}
use Rattle.std.proofs.lemmas.List.Elements.{All-head, All-tail}
use Rattle.model.specs.declared.print_method.PrintMethod.{PrintMethod}
use Rattle.model.specs.declared.print_method.PrintMethod.TheVariants.{Println, PrintlnChar, PrintlnInt, PrintlnString, PrintChar, PrintInt, PrintString}
use Rattle.model.specs.declared.instr.Conversion.TheVariants.{ToChar}
use Rattle.model.specs.Classes.{Program}
use Rattle.model.specs.Linkable.{IsLinkable}
use Rattle.model.specs.Ints.{signed, converted}
use Rattle.model.specs.Texts.{Text, int_line}
use Rattle.model.specs.BuiltInMethods.{string_shown, string_text, printed_by}
use Rattle.model.specs.Operands.{words, word_reference}
use Rattle.model.specs.State.{ObjectOf, Instance, Primitives, References, Characters, WorldOf}
use Rattle.model.specs.Worlds.{no_object, text_of}
use Rattle.heap.specs.Heap.{Object}
use Rattle.linked_code.specs.declared.types.LinkedType.{LinkedType}
use Rattle.machine_state.specs.shown_objects.Shown.{AreUnits, ShowsObjects}
use Rattle.machine_instructions.specs.thread_methods.Printed.{unit_in, string_by, printed_of, IsRoomFor}
use Rattle.machine_instructions.proofs.thread_methods.TextAnswers.{AreUnitsOf}
use Rattle.machine_instructions.proofs.thread_methods.ShownTexts.{texts, units}

-- ---- numbers

number_some : (z : ℤ) → FitsSigned w32 z → 0 < length (signed_decimal z)
number_some (pos n) fits = decimal_nonempty n (omega (arith, fits))
number_some (negsuc n) fits = omega arith

number_short : (z : ℤ) → FitsSigned w32 z → length (signed_decimal z) ≤ 11
number_short (pos n) fits = length_signed_le 10 (pos n) (omega (arith, fits)) (omega (arith, fits))
number_short (negsuc n) fits = length_signed_le 10 (negsuc n) (omega (arith, fits)) (omega (arith, fits))

-- what has no String as its operand has room in twelve units
pub has_room : (print : PrintMethod) (objects : List Object) (word : ℕ) → word < 2 ^ 32
    → (print ≡ Println) ⊎ ((print ≡ PrintlnChar) ⊎ ((print ≡ PrintlnInt) ⊎ ((print ≡ PrintChar) ⊎ (print ≡ PrintInt))))
    → IsRoomFor 12 (printed_of print objects word)
has_room print objects word h is = by is
  where
    z : ℤ
    z = signed word

    fits : FitsSigned w32 z
    fits = sfits_to_z {w = w32} {n = word} (search (rules, h))

    one : length (int_line word) ≡ length (signed_decimal z) + 1
    one = length-append (signed_decimal z) (10 ∷ [])

    of : (m : PrintMethod) → print ≡ m → IsRoomFor 12 (printed_of m objects word) → IsRoomFor 12 (printed_of print objects word)
    of m e = subst (λ n. IsRoomFor 12 (printed_of n objects word)) (sym e)

    by : (print ≡ Println) ⊎ ((print ≡ PrintlnChar) ⊎ ((print ≡ PrintlnInt) ⊎ ((print ≡ PrintChar) ⊎ (print ≡ PrintInt))))
        → IsRoomFor 12 (printed_of print objects word)
    by (inl e) = of Println e (record { enough = omega arith; needed = λ n. omega arith })
    by (inr (inl e)) = of PrintlnChar e (record { enough = omega arith; needed = λ n. omega arith })
    by (inr (inr (inl e))) = of PrintlnInt e (record { enough = omega (arith, one, number_short z fits); needed = λ n. omega (arith, one) })
    by (inr (inr (inr (inl e)))) = of PrintChar e (record { enough = omega arith; needed = λ n. omega arith })
    by (inr (inr (inr (inr e)))) = of PrintInt e (record { enough = omega (arith, number_short z fits); needed = λ n. number_some z fits })

-- ---- Strings

units_same : (text : Text) → AreUnits text → map unit_in text ≡ text
units_same [] h = refl
units_same (u ∷ text) h =
    let small : u < 2 ^ 16 = All-head (λ unit. unit < 2 ^ 16) u text h in
    let same : unit_in u ≡ u = omega (arith, small) in
    λ i. same i ∷ units_same text (All-tail (λ unit. unit < 2 ^ 16) u text h) i

-- the text of an object
text_shown : (m : ObjectOf ℕ) → AreUnitsOf (string_text m) → map unit_in (unwrap_or (string_text m) []) ≡ text_of m
text_shown (Instance class fields) h = refl
text_shown (Primitives of elements) h = refl
text_shown (References of elements) h = refl
text_shown (Characters text) h = units_same text h

module _ (files : List (List ℕ)) (trees : Program) (linkable : IsLinkable files trees) (components : List LinkedType) where
  module _ (objects : List Object) (world : WorldOf ℕ) (shows : ShowsObjects trees components objects world.heap) where
    string_is : (word : ℕ) → string_by objects word ≡ string_shown world (word_reference word)
    string_is zero = refl
    string_is (suc r) =
        ap (λ text. map unit_in (unwrap_or text [])) (texts files trees linkable components objects world.heap shows r)
        ∙ text_shown (slice_index_or world.heap r no_object) (units files trees linkable components objects world.heap shows r)

    -- so what is printed is what the definitions say
    pub printed_is : (print : PrintMethod) (word : ℕ) (ops : List ℕ) → word ≡ slice_index_or ops 0 0
        → printed_of print objects word ≡ printed_by words print world ops
    printed_is Println word ops e = refl
    printed_is PrintlnChar word ops e = ap (λ w. converted ToChar w ∷ 10 ∷ []) e
    printed_is PrintlnInt word ops e = ap int_line e
    printed_is PrintlnString word ops e = ap (λ text. text ++ 10 ∷ []) (string_is word ∙ ap (λ w. string_shown world (word_reference w)) e)
    printed_is PrintChar word ops e = ap (λ w. converted ToChar w ∷ []) e
    printed_is PrintInt word ops e = ap (λ w. signed_decimal (signed w)) e
    printed_is PrintString word ops e = string_is word ∙ ap (λ w. string_shown world (word_reference w)) e
