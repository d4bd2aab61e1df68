use Rattle.std.proofs.Common.{◌≡◌, ◌∷◌, ◌++◌, [], ◌∙◌, ap, append_assoc, arith, codes, decimal, false, length, List, map, ℕ, Option, refl, rules, subst, sym, tests, true}
use Rattle.schedule.specs.Files.{CheckedFits, Checksums}
use Rattle.schedule.specs.schedule_text.Text.{checked_words, last_words}
use Rattle.schedule.proofs.schedule_text.ChecksumLaws.{ends_lengths}
use Rattle.schedule.proofs.schedule_text.LimitLaws.{same_Some, same_pair, same_recording}
use Rattle.schedule.proofs.schedule_text.recordings.recording.Goals as goal

pub returns-in_default-clause-only : goal.returns-in_default-clause-only
returns-in_default-clause-only c = λ r. λ rest. λ fits. λ is.
    let first = c.heading.ensures.only _ is in
    let limits = c.limits.ensures.only r.limits _ fits.cells first.1 in
    absurd (c.in_default.not-Some r.limits limits.0)

pub returns-clause-only : goal.returns-clause-only
returns-clause-only c = λ r. λ rest. λ fits. λ is.
    let first = c.heading.ensures.only _ is in
    let limits = c.in-Some.ensures.only r.limits _ fits.cells first.1 in
    let second = c.heading-2.ensures.only _ limits.1 in
    let lengths = c.in_ok-lengths.ensures.only r.lengths (last_words r.checksums ++ rest) fits.lengths fits.count (ends_lengths r.checksums rest)
    (second.1 ∙ append_assoc (map decimal r.lengths) (last_words r.checksums) rest) in
    let numbers : c.in_ok-lengths.lengths.items ≡ r.lengths = ap (λ (p : List ℕ × List (List ℕ)). p.0) lengths in
    let behind : c.lengths.new.words ≡ last_words r.checksums ++ rest = ap (λ (p : List ℕ × List (List ℕ)). p.1) lengths in
    let count : length r.lengths ≡ c.len.result = omega (arith, ap length numbers, c.in_ok-lengths.lengths.ok.0, c.len.ensures) in
    let checked = c.in_ok-checksums.ensures.only r.checksums (codes "#events" ∷ rest) (subst (λ n. CheckedFits n r.checksums) count fits.checksums) (rest, refl)
    (behind ∙ append_assoc (checked_words r.checksums) (codes "#events" ∷ []) rest) in
    let checksums : c.in_ok-checksums.checksums ≡ r.checksums = ap (λ (p : Option Checksums × List (List ℕ)). p.0) checked in
    let last : c.checked.new.words ≡ codes "#events" ∷ rest = ap (λ (p : Option Checksums × List (List ℕ)). p.1) checked in
    let third = c.heading-3.ensures.only rest last in
    same_pair _ _ _ _ (same_recording c.new.result r (c.new.ensures.of_limits ∙ same_Some c.in-Some.limits r.limits limits.0) (c.new.ensures.of_lengths ∙ numbers) (c.new.ensures.of_checksums ∙ checksums)) third.1

pub returns-then-not-heading-3-clause-only : goal.returns-then-not-heading-3-clause-only
returns-then-not-heading-3-clause-only c = λ r. λ rest. λ fits. λ is.
    let first = c.heading.ensures.only _ is in
    let limits = c.in-Some.ensures.only r.limits _ fits.cells first.1 in
    let second = c.heading-2.ensures.only _ limits.1 in
    let lengths = c.in_ok-lengths.ensures.only r.lengths (last_words r.checksums ++ rest) fits.lengths fits.count (ends_lengths r.checksums rest)
    (second.1 ∙ append_assoc (map decimal r.lengths) (last_words r.checksums) rest) in
    let numbers : c.in_ok-lengths.lengths.items ≡ r.lengths = ap (λ (p : List ℕ × List (List ℕ)). p.0) lengths in
    let behind : c.lengths.new.words ≡ last_words r.checksums ++ rest = ap (λ (p : List ℕ × List (List ℕ)). p.1) lengths in
    let count : length r.lengths ≡ c.len.result = omega (arith, ap length numbers, c.in_ok-lengths.lengths.ok.0, c.len.ensures) in
    let checked = c.in_ok-checksums.ensures.only r.checksums (codes "#events" ∷ rest) (subst (λ n. CheckedFits n r.checksums) count fits.checksums) (rest, refl)
    (behind ∙ append_assoc (checked_words r.checksums) (codes "#events" ∷ []) rest) in
    let last : c.checked.new.words ≡ codes "#events" ∷ rest = ap (λ (p : Option Checksums × List (List ℕ)). p.1) checked in
    let third = c.heading-3.ensures.only rest last in
    let no : c.heading-3.result ≡ false = search (rules, tests) in
    absurd (let bad : false ≡ true = sym no ∙ third.0 in cc)
