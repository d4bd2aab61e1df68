-- The line of an event: where its thread stood, and its instruction (own; JVMS 2.6, 5.5).
use Rattle.std.specs.Prelude.{◌≡◌, ℕ, ◌+◌, ◌-◌, ◌*◌, List, [], ◌∷◌, ◌++◌, Option, Some, None, Bool, IsTrue, length, replicate, codes, min, nat_lt, not, ◌==◌, if◌then◌else◌}
use Rattle.std.specs.List.{list_all}
use Rattle.std.specs.Option.{option_map_or}
use Rattle.model.specs.Classes.{Program, Body, body_of}
use Rattle.model.specs.Instruction.{sized_at}
use Rattle.model.specs.Listing.{meaning}
use Rattle.model.specs.Names.{Name, Member}
use Rattle.model.specs.Report.{number, line}
use Rattle.model.specs.State.{Invocation, Initialisation, StackOf}
use Rattle.listings.specs.printed_names.Printed.{printed}
use Rattle.traces.specs.declared.form.Form.{Form}
use Rattle.traces.specs.declared.form.Form.TheVariants.{Plain, Columns, Json}
use Rattle.traces.specs.JsonTexts.{member, text_member}
use Rattle.traces.specs.declared.members.DeedMembers.{DeedMembers}
use Rattle.traces.specs.Pieces.{Piece, did}

-- ---- the event

-- a number in seven places or more
abbrev pub in_seven : ℕ → List ℕ
in_seven n = replicate (7 - length (number n)) 32 ++ number n

-- a column has 24 places; what thread 7 and those above it do stands in one
abbrev pub indent : ℕ → List ℕ
indent t = replicate (24 * min t 7) 32

-- the number of the event and that of its thread
abbrev pub head_words : Form → (n t : ℕ) → List ℕ
head_words Plain n t = number n ++ (codes " " ++ number t)
head_words Columns n t = in_seven n ++ (codes " " ++ (indent t ++ number t))
head_words Json n t = codes "{\"event\":" ++ (number n ++ member (codes "thread") (number t))

-- a thread by its number
abbrev pub thread_words : ℕ → List ℕ
thread_words t = codes "thread " ++ number t

-- ---- where its thread stood

-- a method by its class and its name
abbrev pub method_words : Member → List ℕ
method_words method = method.class ++ (codes "." ++ method.name)

-- the same as members of an object
abbrev pub method_members : Member → List ℕ
method_members method = text_member (codes "class") method.class ++ text_member (codes "method") method.name

-- a method and the offset of an instruction
abbrev pub frame_in : Form → Member → ℕ → List ℕ
frame_in Json method offset = method_members method ++ member (codes "offset") (number offset)
frame_in form method offset = codes " " ++ (printed (method_words method) ++ (codes " " ++ number offset))

abbrev pub class_in : Form → Name → List ℕ
class_in Json class = text_member (codes "class") class
class_in form class = codes " " ++ printed class

abbrev pub nowhere_in : Form → List ℕ
nowhere_in Json = []
nowhere_in form = codes " -"

-- the method of the frame on top and the offset of its instruction, or the class on top, or neither
abbrev pub place_in : {A : Type 0} → Form → StackOf A → List ℕ
place_in form [] = nowhere_in form
place_in form (Invocation frame ∷ stack) = frame_in form frame.method frame.place.offset
place_in form (Initialisation class phase ∷ stack) = class_in form class

-- ---- its instruction

-- the instruction at an offset of a body, as a listing has it
abbrev pub meaning_in : ℕ → Body → List ℕ
meaning_in offset body = if nat_lt offset (length body.code.code) then meaning body.pool body.code.code offset (sized_at body.code.code offset) else []

-- that of the frame on top
abbrev pub instruction_words : {A : Type 0} → Program → StackOf A → List ℕ
instruction_words trees [] = []
instruction_words trees (Invocation frame ∷ stack) = option_map_or (meaning_in frame.place.offset) (body_of trees frame.method) []
instruction_words trees (Initialisation class phase ∷ stack) = []

-- ---- what was done, as members of an object

abbrev pub text_if : (key text : List ℕ) → List ℕ
text_if key [] = []
text_if key (x ∷ text) = text_member key (x ∷ text)

abbrev pub number_if : (key : List ℕ) → Option ℕ → List ℕ
number_if key None = []
number_if key (Some n) = member key (number n)

-- a word for it, the monitor that was entered or left and how often it is entered since, how much is printed, and the thread that was started
abbrev pub deed_members : DeedMembers → List ℕ
deed_members told =
    text_if (codes "op") told.op.now
    ++ (text_if (codes "monitor") told.monitor.now
    ++ (number_if (codes "count") told.count
    ++ (number_if (codes "printed") told.printed
    ++ (number_if (codes "started") told.started
    ++ text_if (codes "object") told.object.now))))

-- no other form tells it
abbrev pub members_in : Form → Option DeedMembers → List ℕ
members_in Json (Some told) = deed_members told
members_in form told = []

-- they stand behind a text now
abbrev pub AddsMembers : Form → (old new : List ℕ) → Type 0
AddsMembers form old new = (told : Option DeedMembers) × (new ≡ old ++ members_in form told)

-- ---- the line

-- a part that is there stands behind a mark, or is a member of an object
abbrev pub part : Form → (mark key words : List ℕ) → List ℕ
part form mark key [] = []
part Json mark key (x ∷ words) = text_member key (x ∷ words)
part form mark key (x ∷ words) = mark ++ printed (x ∷ words)

abbrev pub end_words : Form → List ℕ
end_words Json = codes "}\n"
end_words form = codes "\n"

-- the event, the thread's place, the source, the instruction, and what was done, in words and as members
abbrev pub line_words : {A : Type 0} → Form → Program → (n t : ℕ) → StackOf A → (source : List ℕ) → Option (List Piece) → Option DeedMembers → List ℕ
line_words form trees n t stack source deed told =
    head_words form n t
    ++ (place_in form stack
    ++ (part form (codes " ") (codes "source") source
    ++ (part form (codes " ") (codes "instruction") (instruction_words trees stack)
    ++ (did form deed
    ++ (members_in form told
    ++ end_words form)))))

-- no byte of a text is a line feed
abbrev pub is_within_line : List ℕ → Bool
is_within_line text = list_all (λ b. not (b == 10)) text

-- a line feed at the end, and no other
abbrev pub IsOneLine : List ℕ → Type 0
IsOneLine text = (words : List ℕ) × (text ≡ line words) × IsTrue (is_within_line words)

-- the one line of an event of a thread with this stack, whatever is said of the source and of what was done
abbrev pub IsLine : {A : Type 0} → Form → Program → (n t : ℕ) → StackOf A → List ℕ → Type 0
IsLine form trees n t stack text = IsOneLine text × (source : List ℕ) × (deed : Option (List Piece)) × (told : Option DeedMembers)
    × (text ≡ line_words form trees n t stack source deed told)

-- it stands behind a text now
abbrev pub AddsLine : {A : Type 0} → Form → Program → (n t : ℕ) → StackOf A → (old new : List ℕ) → Type 0
AddsLine form trees n t stack old new = (added : List ℕ) × (new ≡ old ++ added) × IsLine form trees n t stack added

-- ---- the line of a run of local instructions

-- the offset of the last one
abbrev pub last_in : Form → ℕ → List ℕ
last_in Json offset = member (codes "last_offset") (number offset)
last_in form offset = codes ".." ++ number offset

-- how many they are, and the number of the last event
abbrev pub count_in : Form → (count last : ℕ) → List ℕ
count_in Json count last = member (codes "last_event") (number last) ++ member (codes "local_instructions") (number count)
count_in form count last = codes " | " ++ (number count ++ (codes " local instructions, up to event " ++ number last))

-- so many events of a thread from number n on, in a method, between these offsets
abbrev pub fold_words : Form → (n count t : ℕ) → Member → (from to : ℕ) → List ℕ
fold_words form n count t method from to =
    head_words form n t
    ++ (frame_in form method from
    ++ (last_in form to
    ++ (count_in form count (n + (count - 1))
    ++ end_words form)))
