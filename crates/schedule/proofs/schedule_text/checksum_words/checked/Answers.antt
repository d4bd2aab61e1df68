use Rattle.std.proofs.Common.{◌≡◌, ◌++◌, ◌∙◌, ap, false, List, ℕ, rules, subst, sym, tests, true}
use Rattle.schedule.specs.Files.{CheckedFits}
use Rattle.schedule.specs.schedule_text.Text.{library_words}
use Rattle.schedule.proofs.schedule_text.ChecksumLaws.{are_told, not_told, passed}
use Rattle.schedule.proofs.schedule_text.LimitLaws.{same_pair}
use Rattle.schedule.proofs.schedule_text.checksum_words.checked.Goals as goal

pub returns-then-not-begins_with-clause-only : goal.returns-then-not-begins_with-clause-only
returns-then-not-begins_with-clause-only c = λ d rest fits end is.
    let no : c.begins_with.result ≡ false = search (rules, tests) in
    let p = not_told c.args.words.now d rest (λ begins. let bad : false ≡ true = sym no ∙ c.begins_with.ensures.not begins.0 begins.1 in cc) is in
    same_pair _ _ _ _ p.0 p.1

pub returns-in_default-clause-only : goal.returns-in_default-clause-only
returns-in_default-clause-only c = λ d rest fits end is.
    let yes : c.begins_with.result ≡ true = search (rules, tests) in
    let told = are_told c.args.words.now d rest (c.begins_with.ensures.is yes) end is in
    let all = subst (CheckedFits c.args.count) told.same fits in
    let behind = passed (λ w. w.now) c.next.result c.args.words.now c.next.new.self _ _ c.next.ensures.some c.next.ensures.none told.told in
    let files = c.in_ok-files.ensures.only told.checksums.files (library_words told.checksums.library ++ rest) all.files all.count_is behind in
    let left : c.checksums.new.words ≡ library_words told.checksums.library ++ rest = ap (λ (p : List ℕ × List (List ℕ)). p.1) files in
    absurd (c.in_default.not-Some told.checksums.library (c.library.ensures.only told.checksums.library rest all.library end left).0)
