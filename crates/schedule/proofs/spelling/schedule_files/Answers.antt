use Rattle.std.proofs.Common.{◌≡◌, refl, sym, ap, ℕ, List, [], ◌∷◌, ◌++◌, Option, Some, None, take}
use Rattle.std.specs.Prelude.{codes}
use Rattle.std.specs.Str.{bytes_eq}
use Rattle.std.proofs.Math.Dec.{lit≤}
use Rattle.std.proofs.lemmas.Bool.{false≢true}
use Rattle.model.specs.declared.event.Event.{Event}
use Rattle.model.specs.declared.event.ScheduleEntry.{ScheduleEntry}
use Rattle.model.specs.Schedule.{EntryFits}
use Rattle.schedule.specs.FileExamples.{main_event}
use Rattle.schedule.specs.Files.{Checksums, Recording, ScheduleFile, version, version_of}
use Rattle.schedule.proofs.spelling.schedule_files.Goals as goal

-- so many events of thread 0 with pick 0
abbrev times : ℕ → ScheduleEntry
times n = record { event = main_event; repeat = n }

three_fit : EntryFits (times 3)
three_fit = record { thread = lit≤ tt; pick = lit≤ tt; repeat = (lit≤ tt, lit≤ tt); alone = λ h. refl }

five_fit : EntryFits (times 5)
five_fit = record { thread = lit≤ tt; pick = lit≤ tt; repeat = (lit≤ tt, lit≤ tt); alone = λ h. refl }

eight_fit : EntryFits (times 8)
eight_fit = record { thread = lit≤ tt; pick = lit≤ tt; repeat = (lit≤ tt, lit≤ tt); alone = λ h. refl }

other_magic : (bytes : List ℕ) (r : Option Recording) (events : List Event) → (take 4 bytes ≡ codes "JSCH" → ⊥)
    → ScheduleFile bytes r events → ⊥
other_magic bytes r events other file = other (ap (take 4) file.spelled)

not_jsch : ◌≡◌ {A = List ℕ} (0x4a ∷ 0x53 ∷ 0x43 ∷ 0x49 ∷ []) (0x4a ∷ 0x53 ∷ 0x43 ∷ 0x48 ∷ []) → ⊥
not_jsch e = false≢true (ap (λ xs. bytes_eq xs (codes "JSCH")) e)

no_version : (c : Option Checksums) → ◌≡◌ {A = List ℕ} (0x4a ∷ 0x53 ∷ 0x43 ∷ 0x48 ∷ version_of c ∷ []) (0x4a ∷ 0x53 ∷ 0x43 ∷ 0x48 ∷ 4 ∷ []) → ⊥
no_version None e = absurd cc
no_version (Some c) e = absurd cc

other_version : (r : Option Recording) (rest : List ℕ) → take 5 (codes "JSCH" ++ (version r ++ rest)) ≡ 0x4a ∷ 0x53 ∷ 0x43 ∷ 0x48 ∷ 4 ∷ []
    → ⊥
other_version None rest e = absurd cc
other_version (Some r) rest e = no_version r.checksums e

pub returns : goal.returns
returns c =
    record {
      holds = record {
        first_spells = record {
          entries = times 8 ∷ [];
          fits = record { count = lit≤ tt; each = (eight_fit, tt) };
          recording_fits = tt;
          spelled = refl;
          stands_for = refl;
        };
        second_spells = record {
          entries = times 8 ∷ [];
          fits = record { count = lit≤ tt; each = (eight_fit, tt) };
          recording_fits = record { cells = lit≤ tt; count = lit≤ tt; lengths = (lit≤ tt, tt); checksums = tt };
          spelled = refl;
          stands_for = refl;
        };
        third_spells = record {
          entries = times 8 ∷ [];
          fits = record { count = lit≤ tt; each = (eight_fit, tt) };
          recording_fits = record {
            cells = lit≤ tt;
            count = lit≤ tt;
            lengths = (lit≤ tt, tt);
            checksums = record { count_is = refl; files = (lit≤ tt, tt); library = lit≤ tt };
          };
          spelled = refl;
          stands_for = refl;
        };
        other_entries = record {
          entries = times 3 ∷ times 5 ∷ [];
          fits = record { count = lit≤ tt; each = (three_fit, (five_fit, tt)) };
          recording_fits = tt;
          spelled = refl;
          stands_for = refl;
        };
        other_magic = other_magic;
        jsci = λ r events file. other_magic _ r events not_jsch file;
        fourth_version = λ r events file. other_version r _ (sym (ap (take 5) file.spelled));
      };
    }
