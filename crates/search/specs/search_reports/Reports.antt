-- The text of what a search answers (own).
use Rattle.std.specs.Prelude.{◌≡◌, ℕ, suc, pos, List, [], ◌∷◌, ◌++◌, Bool, false, length, map, codes, refl}
use Rattle.std.specs.Fmt.{digits}
use Rattle.std.specs.Char.{encode_utf8}
use Rattle.std.specs.Char.Utf16.{utf16_chars}
use Rattle.model.specs.declared.end.End.TheVariants as ends
use Rattle.model.specs.Texts.{number_line, printed_lines}
use Rattle.model.specs.Report.{Ended, end_state_of, number, line, thread_lines, report_text}
use Rattle.run_laws.specs.interleavings.Ends.{Outcome}
use Rattle.search.specs.declared.kinds.Kinds.{Kinds}
use Rattle.search.specs.declared.search_reports.answers.Answer.{Answer}
use Rattle.search.specs.declared.search_reports.answers.Answer.TheVariants as answer

-- what was printed, and the threads by their numbers
abbrev pub outcome_lines : Outcome → List ℕ
outcome_lines o = printed_lines o.printed ++ thread_lines 0 o.ends

-- an outcome with its number
abbrev pub outcome_text : ℕ → Outcome → List ℕ
outcome_text i o = line (codes "outcome " ++ number i) ++ outcome_lines o

-- outcomes that are numbered from i
abbrev pub outcome_texts : ℕ → List Outcome → List ℕ
outcome_texts i [] = []
outcome_texts i (o ∷ others) = outcome_text i o ++ outcome_texts (suc i) others

-- a line, where it is told
abbrev pub line_if : Bool → List ℕ → List ℕ
line_if Bool.true text = line text
line_if false text = []

-- that a race is told: the line of one is behind the word
abbrev pub race_kind : (is_told : Bool) → (race : List ℕ) → List ℕ
race_kind Bool.true race = codes "kind " ++ race
race_kind false race = []

-- a line for each kind that is told
abbrev pub kind_lines : Kinds → (race : List ℕ) → List ℕ
kind_lines kinds race =
    race_kind kinds.race race
    ++ (line_if kinds.uncaught (codes "kind uncaught") ++ (line_if kinds.deadlock (codes "kind deadlock") ++ line_if kinds.endless (codes "kind endless")))

-- where a run was found its report, else all outcomes and kinds
abbrev pub found_text : Answer → (race : List ℕ) → List ℕ
found_text (answer.Found schedule r end) race = report_text r.printed.items (map end_state_of r.threads.items) r.events end
found_text (answer.Complete outcomes kinds) race =
    outcome_texts 1 outcomes ++ (line (codes "outcomes " ++ number (length outcomes)) ++ kind_lines kinds race)
found_text answer.GaveUp race = []

abbrev pub answer_word : Answer → List ℕ
answer_word (answer.Found schedule r end) = codes "found"
answer_word (answer.Complete outcomes kinds) = codes "complete"
answer_word answer.GaveUp = codes "gave up"

-- That there is no data race, where no run comes to a racy state. That no run has one then (JLS 17.4.5) is known, and
-- isn't proved here.
abbrev pub race_line : (race own_edges : Bool) → List ℕ
race_line Bool.true own_edges = []
race_line false Bool.true = line (codes "no data race, by edges of this machine's own")
race_line false false = line (codes "no data race: correctly synchronized")

-- of which runs the outcomes of a complete answer are, as what never ends has none; and the line on races
abbrev pub scope_text : Answer → (own_edges : Bool) → List ℕ
scope_text (answer.Found schedule r end) own_edges = []
scope_text (answer.Complete outcomes kinds) own_edges = line (codes "of runs that end") ++ race_line kinds.race own_edges
scope_text answer.GaveUp own_edges = []

-- that, how many states were met, of which runs it is told, and what the answer is
abbrev pub search_text : Answer → (race : List ℕ) → (own_edges : Bool) → ℕ → List ℕ
search_text a race own_edges states =
    found_text a race ++ (line (codes "states " ++ number states) ++ (scope_text a own_edges ++ line (codes "search " ++ answer_word a)))

-- ---- examples

no_kinds : Kinds
no_kinds = record { race = false; uncaught = false; deadlock = false; endless = false }

two_kinds : Kinds
two_kinds = record { race = Bool.true; uncaught = false; deadlock = false; endless = Bool.true }

two_ended : ℕ → Outcome
two_ended n = record { printed = number_line (pos n); ends = Ended ∷ Ended ∷ [] }

lists_both : search_text (answer.Complete (two_ended 1 ∷ two_ended 2 ∷ []) two_kinds) (codes "race A.n\n") false 40
    ≡ codes "outcome 1\n1\nthread 0 ended\nthread 1 ended\noutcome 2\n2\nthread 0 ended\nthread 1 ended\noutcomes 2\nkind race A.n\nkind endless\nstates 40\nof runs that end\nsearch complete\n"
unfolding digits two_ended two_kinds utf16_chars encode_utf8
lists_both = refl

lists_none : search_text (answer.Complete [] no_kinds) [] false 3
    ≡ codes "outcomes 0\nstates 3\nof runs that end\nno data race: correctly synchronized\nsearch complete\n"
unfolding digits no_kinds
lists_none = refl

by_own_edges : search_text (answer.Complete [] no_kinds) [] Bool.true 3
    ≡ codes "outcomes 0\nstates 3\nof runs that end\nno data race, by edges of this machine's own\nsearch complete\n"
unfolding digits no_kinds
by_own_edges = refl

gives_up : search_text answer.GaveUp [] false 1000 ≡ codes "states 1000\nsearch gave up\n"
unfolding digits
gives_up = refl
