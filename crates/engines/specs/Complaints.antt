-- What is told on standard error (own).
use Rattle.std.specs.Prelude.{ℕ, List, ◌++◌, Option, codes, decimal}
use Rattle.std.specs.Io.KnownBytes.{Appends}
use Rattle.model.specs.Report.{line}
use Rattle.model.specs.Names.{Name}
use Rattle.link_conditions.specs.declared.refusal.why.Refusal.{Refusal}
use Rattle.link_conditions.specs.refusal.Lines.{cause_words, kind_words, method_words, numbered, refusal_line}
use Rattle.schedule.specs.Names.{fault_name}
use Rattle.schedule.specs.schedule_text.Names.{text_fault_name}
use Rattle.code_places.specs.There.{place_fault_name}
use Rattle.engines.specs.declared.complaint.Complaint.{Complaint}
use Rattle.engines.specs.declared.complaint.Complaint.TheVariants as complaints
use Rattle.program_files.specs.declared.files_fault.FilesFault.{FilesFault}
use Rattle.program_files.specs.declared.files_fault.FilesFault.TheVariants as files
use Rattle.engines.specs.declared.fault.Fault.{Fault}
use Rattle.engines.specs.declared.fault.Fault.TheVariants as faults

-- the line that tells a fault, without its end
abbrev pub fault_line : Fault → List ℕ
fault_line faults.Device = codes "device"
fault_line faults.Memory = codes "run refused Memory"
fault_line (faults.Refusal refusal) = refusal_line refusal
fault_line (faults.Schedule fault) = codes "schedule refused " ++ fault_name fault
fault_line (faults.Text fault) = codes "schedule refused " ++ text_fault_name fault
fault_line (faults.Place missing) = codes "schedule refused " ++ (place_fault_name missing.fault ++ (codes " line " ++ decimal missing.line))

-- the line that tells the refusal of a class of the library, without its end
abbrev pub library_refusal_line : Name → Refusal → List ℕ
library_refusal_line name r =
    codes "refused " ++ (kind_words r.kind
    ++ (codes " library " ++ (name ++ (method_words r.method ++ (numbered (codes " offset ") r.offset ++ cause_words r.cause)))))

-- the line that tells a fault of a class of the library, without its end
abbrev pub library_line : Name → Fault → List ℕ
library_line name (faults.Refusal refusal) = library_refusal_line name refusal
library_line name fault = fault_line fault

-- what it comes to that words stand for no files
abbrev pub complaint_of : FilesFault → Complaint
complaint_of files.Device = complaints.Fault faults.Device
complaint_of files.Memory = complaints.Fault faults.Memory
complaint_of fault = complaints.Files fault

-- A fault is told by its line, and so is the refusal of a class of the library. Of what is wrong with words nothing is known but that it has a text.
abbrev pub Tells : Complaint → Option (List ℕ) → Option (List ℕ) → Type 0
Tells (complaints.Usage usage) old new = Unit {0}
Tells (complaints.Files fault) old new = Unit {0}
Tells (complaints.Fault fault) old new = Appends old new (line (fault_line fault))
Tells (complaints.Library fault name) old new = Appends old new (line (library_line name.now fault))
