-- What a command does over the files that its words stand for.
use Rattle.std.proofs.Common.{arith, ◌≡◌, ◌⊎◌, ◌∙◌, ℕ, List, Option, inl, inr, length, map, refl, string_bytes, subst, sym}
use Rattle.std.proofs.lemmas.List.{length-map}
use Rattle.std.specs.Prelude.{None, Some}
use Rattle.model.specs.Names.{Name}
use Rattle.std.specs.declared.string.String.{String}
use Rattle.std.specs.Global.{Global}
use Rattle.command_line.specs.CommandLine.{Refuses, Spells}
use Rattle.command_line.proofs.CommandLineLemmas.{refuses_more}
use Rattle.command_line.specs.declared.options.Command.{Command}
use Rattle.command_line.specs.declared.usage.Usage.{Usage}
use Rattle.program_files.specs.Folders.{Held, Listed}
use Rattle.program_files.specs.declared.files_fault.FilesFault.{FilesFault}
use Rattle.program_files.specs.declared.files_fault.FilesFault.TheVariants as files
use Rattle.engines.specs.Commands.{AreFiles, HasNoFiles, IsDone, IsDoneOver, IsKeptFirst, IsReadToo, IsUndone, IsUndoneAs, IsUndoneOver, IsUnread, Stops}
use Rattle.library_files.specs.Adding.{LibraryFile}
use Rattle.engines.specs.Complaints.{complaint_of}
use Rattle.engines.specs.Devices.{IsUnable}
use Rattle.engines.specs.Handed.{AreHanded, IsComplaint, IsUnread as IsUnreadFile, refused_name}
use Rattle.engines.specs.Failures.{TellsComplaint, TellsFailure}
use Rattle.engines.specs.Files.{Written, held_at, known}
use Rattle.engines.specs.declared.fault.Fault.{Fault}
use Rattle.engines.specs.declared.status.Status.{Status}
use Rattle.engines.specs.declared.complaint.Complaint.{Complaint}
use Rattle.engines.specs.declared.complaint.Complaint.TheVariants as complaints

module _ (library : List LibraryFile) (held : Held) (listed : Listed) (input : Option (List ℕ)) (command : Command) (old new : Option (List ℕ)) where
  -- without files nothing is done
  pub no_files : (fault : FilesFault) → HasNoFiles held listed command fault → new ≡ old
      → IsUndone library held listed input command old new (complaint_of fault) None
  no_files files.Device none same = inl (inl tt, same, refl)
  no_files files.Memory none same = inl (inl tt, same, refl)
  no_files (files.Empty path) none same = (none, same, refl)
  no_files (files.TooDeep path) none same = (none, same, refl)
  no_files (files.Mains names) none same = (none, same, refl)
  no_files (files.NoClass name) none same = (none, same, refl)
  no_files (files.NoMain name) none same = (none, same, refl)

  -- the files that are checked are those that its words stand for
  module _ (items paths : List (String Global)) (same : paths ≡ items) (are : AreFiles held listed command (map string_bytes items)) where
    are_paths : AreFiles held listed command (map string_bytes paths)
    are_paths = subst (λ files. AreFiles held listed command (map string_bytes files)) (sym same) are

    pub read_too : (usage : Usage) → Refuses usage (IsReadToo command (map string_bytes paths)) → new ≡ old
        → IsUndone library held listed input command old new (complaints.Usage usage) None
    read_too usage read kept = (refuses_more usage _ _ (λ too. (map string_bytes paths, are_paths, too)) read, kept, refl)

    module _ (files : List (List ℕ)) (added own : List LibraryFile) (handed : AreHanded library command (held_at held (map string_bytes paths)) files added own)
        (given : ℕ) (counted : given ≡ length paths) where
      all : given ≡ length (map string_bytes paths)
      all = counted ∙ sym (length-map paths string_bytes)

      undone_as : (fault : Fault) (refused : Option Name) (written : Written) → refused ≡ refused_name given added fault
          → IsUnread command (map string_bytes paths)
          → IsUndoneOver held given own (known files) input command old new fault written
          → IsUndoneAs library held listed input command old new fault refused written
      undone_as fault refused written named unread undone =
          let over = subst (λ n. IsUndoneOver held n own (known files) input command old new fault written) all undone in
          let name = subst (λ n. refused ≡ refused_name n added fault) all named in
          (map string_bytes paths, are_paths, unread, files, added, own, handed, name, over)

      pub undone_over : (fault : Fault) (complaint : Complaint) (written : Written) → IsComplaint given added fault complaint
          → IsUnread command (map string_bytes paths)
          → IsUndoneOver held given own (known files) input command old new fault written
          → IsUndone library held listed input command old new complaint written
      undone_over fault (complaints.Usage usage) written is unread undone = absurd is
      undone_over fault (complaints.Files other) written is unread undone = absurd is
      undone_over fault (complaints.Fault told) written (same, name) unread undone =
          subst (λ f. IsUndone library held listed input command old new (complaints.Fault f) written) (sym same) (inr (undone_as fault None written (sym name) unread undone))
      undone_over fault (complaints.Library told name) written (same, is) unread undone =
          subst (λ f. IsUndoneAs library held listed input command old new f (Some name.now) written) (sym same) (undone_as fault (Some name.now) written (sym is) unread undone)

      pub done_over : (text : List ℕ) (written : Written) (status : Status) → IsUnread command (map string_bytes paths)
          → IsDoneOver held given own (known files) input command text written status
          → IsDone library held listed input command text written status
      done_over text written status unread done =
          let over = subst (λ n. IsDoneOver held n own (known files) input command text written status) all done in
          (map string_bytes paths, are_paths, unread, files, added, own, handed, over)

  -- where a file can't be read, nothing is done: what comes before it is told
  pub unread_over : (fault first : Fault) → IsUnreadFile fault → (first ≡ fault) ⊎ (IsUnable first ⊎ IsKeptFirst held command first) → new ≡ old
      → IsUndone library held listed input command old new (complaints.Fault first) None
  unread_over fault first unread (inl is) same = inl (subst (λ f. IsUnable f ⊎ (IsUnreadFile f ⊎ IsKeptFirst held command f)) (sym is) (inr (inl unread)), same, refl)
  unread_over fault first unread (inr (inl unable)) same = inl (inl unable, same, refl)
  unread_over fault first unread (inr (inr kept)) same = inl (inr (inr kept), same, refl)

  -- what a command does not do, the words do not
  pub undone_stops : (words : List (List ℕ)) (complaint : Complaint) (written : Written) → Spells words command
      → IsUndone library held listed input command old new complaint written → Stops library held listed input words old new complaint written
  undone_stops words (complaints.Usage usage) written spells undone = inr (command, spells, undone)
  undone_stops words (complaints.Files fault) written spells undone = (command, spells, undone)
  undone_stops words (complaints.Fault fault) written spells undone = inr (command, spells, undone)
  undone_stops words (complaints.Library fault name) written spells undone = (command, spells, undone)

-- what keeps files from being handed on is told as it is
pub told_files : (elsewhere : Type 0) (fault : FilesFault) (n : ℕ) → (fault ≡ files.Device → elsewhere) → TellsComplaint elsewhere (complaint_of fault) n n
told_files elsewhere files.Device n failed = inr (failed refl)
told_files elsewhere files.Memory n failed = omega arith
told_files elsewhere (files.Empty path) n failed = omega arith
told_files elsewhere (files.TooDeep path) n failed = omega arith
told_files elsewhere (files.Mains names) n failed = omega arith
told_files elsewhere (files.NoClass name) n failed = omega arith
told_files elsewhere (files.NoMain name) n failed = omega arith

-- a complaint of a fault is told as the fault is
pub told_complaint : (elsewhere : Type 0) (given : ℕ) (added : List LibraryFile) (fault : Fault) (complaint : Complaint) (old new : ℕ) → IsComplaint given added fault complaint
    → TellsFailure elsewhere fault old new → TellsComplaint elsewhere complaint old new
told_complaint elsewhere given added fault (complaints.Usage usage) old new is told = absurd is
told_complaint elsewhere given added fault (complaints.Files other) old new is told = absurd is
told_complaint elsewhere given added fault (complaints.Fault f) old new (same, name) told = subst (λ g. TellsFailure elsewhere g old new) (sym same) told
told_complaint elsewhere given added fault (complaints.Library f n) old new (same, name) told = subst (λ g. TellsFailure elsewhere g old new) (sym same) told

-- what comes before files that can't be read is told as it is, or else that they can't be
pub told_first : (elsewhere : Type 0) (fault first : Fault) (n : ℕ) → TellsFailure elsewhere fault n n
    → (first ≡ fault) ⊎ ((m : ℕ) → TellsFailure elsewhere first m m) → TellsFailure elsewhere first n n
told_first elsewhere fault first n told (inl is) = subst (λ f. TellsFailure elsewhere f n n) (sym is) told
told_first elsewhere fault first n told (inr all) = all n
