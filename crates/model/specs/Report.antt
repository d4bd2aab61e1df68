-- The text of a report (own).
use Rattle.std.specs.Prelude.{◌≡◌, ℕ, suc, ℤ, pos, negsuc, List, [], ◌∷◌, ◌++◌, ◌==◌, if◌then◌else◌, codes, refl}
use Rattle.std.specs.List.{flat_map}
use Rattle.std.specs.Char.{encode_utf8}
use Rattle.std.specs.Char.Utf16.{utf16_chars}
use Rattle.std.specs.Fmt.{digits, decimal, signed_decimal}
use Rattle.model.specs.Texts.{Text, printed_lines, number_line}
use Rattle.model.specs.declared.end.End.{End}
use Rattle.model.specs.declared.end.End.TheVariants as ends
use Rattle.model.specs.declared.end.RunCause.{RunCause}
use Rattle.model.specs.declared.end.RunCause.TheVariants as causes
use Rattle.model.specs.declared.report.EndState.{EndState}
use Rattle.model.specs.declared.report.EndState.TheVariants as states

-- how a thread stands when the run has ended; an exception by the name of its class, with slashes
pub data ThreadEnd : Type 0 where
  Ended : ThreadEnd
  Threw : List ℕ → ThreadEnd
  Blocked : ThreadEnd
  Waiting : ThreadEnd
  Joining : ThreadEnd
  Initialising : ThreadEnd
  Runnable : ThreadEnd

-- the same without where the name lies in memory
abbrev pub end_state_of : EndState → ThreadEnd
end_state_of states.Ended = Ended
end_state_of (states.Threw name) = Threw name.items
end_state_of states.Blocked = Blocked
end_state_of states.Waiting = Waiting
end_state_of states.Joining = Joining
end_state_of states.Initialising = Initialising
end_state_of states.Runnable = Runnable

-- a number in decimal
abbrev pub number : ℕ → List ℕ
number n = decimal n

-- the same, with a minus sign where it is negative
abbrev pub signed_number : ℤ → List ℕ
signed_number z = signed_decimal z

-- a text and a line feed
abbrev pub line : List ℕ → List ℕ
line text = text ++ 10 ∷ []

-- the bytes of a class's name, on one line: a line feed as a backslash and an n
abbrev pub on_one_line : List ℕ → List ℕ
on_one_line name = flat_map (λ byte. if byte == 10 then codes "\\n" else byte ∷ []) name

abbrev pub thread_word : ThreadEnd → List ℕ
thread_word Ended = codes "ended"
thread_word (Threw name) = codes "threw " ++ on_one_line name
thread_word Blocked = codes "blocked"
thread_word Waiting = codes "waiting"
thread_word Joining = codes "joining"
thread_word Initialising = codes "initialising"
thread_word Runnable = codes "runnable"

abbrev pub thread_line : ℕ → ThreadEnd → List ℕ
thread_line i state = line (codes "thread " ++ (number i ++ (codes " " ++ thread_word state)))

-- the lines of threads that are numbered from i
abbrev pub thread_lines : ℕ → List ThreadEnd → List ℕ
thread_lines i [] = []
thread_lines i (state ∷ others) = thread_line i state ++ thread_lines (suc i) others

abbrev pub cause_word : RunCause → List ℕ
cause_word causes.Monitors = codes "monitors"
cause_word causes.LockCount = codes "lockcount"
cause_word causes.Memory = codes "memory"
cause_word causes.Objects = codes "objects"
cause_word causes.Cells = codes "cells"
cause_word causes.Threads = codes "threads"

abbrev pub end_words : End → List ℕ
end_words ends.Schedule = codes "schedule"
end_words (ends.NotEnabled i) = codes "not enabled " ++ number i
end_words (ends.Refused i cause) = codes "refused " ++ (number i ++ (codes " " ++ cause_word cause))
end_words ends.Quiet = codes "quiet"
end_words ends.Budget = codes "budget"

-- the text that was printed, the threads by their numbers, how many events were done, and why no more were
abbrev pub report_text : Text → List ThreadEnd → ℕ → End → List ℕ
report_text printed threads events end =
    printed_lines printed ++ (thread_lines 0 threads ++ (line (codes "events " ++ number events) ++ line (codes "end " ++ end_words end)))

-- ---- examples

prints_seven : report_text (number_line (pos 7)) (Ended ∷ []) 8 ends.Quiet ≡ codes "7\nthread 0 ended\nevents 8\nend quiet\n"
unfolding digits utf16_chars encode_utf8
prints_seven = refl

prints_least : report_text (number_line (negsuc 2147483647)) (Threw (codes "java/lang/Error") ∷ Waiting ∷ []) 12 (ends.Refused 12 causes.Threads)
    ≡ codes "-2147483648\nthread 0 threw java/lang/Error\nthread 1 waiting\nevents 12\nend refused 12 threads\n"
unfolding digits utf16_chars encode_utf8
prints_least = refl

-- a line that isn't ended, and a class whose name has a line feed
prints_a_part : report_text (codes "a") (Threw (codes "a\nb") ∷ []) 5 ends.Budget ≡ codes "a\nthread 0 threw a\\nb\nevents 5\nend budget\n"
unfolding digits utf16_chars encode_utf8
prints_a_part = refl
