-- Each line of a trace is one line.
use Rattle.std.proofs.Common.{◌≡◌, ◌==◌, ◌-◌, ◌*◌, ◌/◌, ◌%◌, ℕ, zero, suc, List, [], ◌∷◌, ◌++◌, Option, Some, None, true, false, Bool, replicate, length, take, codes, refl, ap, sym, ◌∙◌, append_assoc, not, nat_lt, min, ◌&&◌, arith}
use Rattle.std.specs.Prelude.{◌||◌, if◌then◌else◌, nat_le}
use Rattle.std.specs.Fmt.{digits, digits_onto, digit_glyph}
use Rattle.std.specs.List.{flat_map}
use Rattle.std.proofs.lemmas.Bool.Decides.{nat_tests}
use Rattle.std.proofs.lemmas.List.Folds.{list_all-append}
use Rattle.model.specs.Classes.{Program}
use Rattle.model.specs.Listing.{hex_byte, hex_digit, hex_short}
use Rattle.model.specs.Names.{Member, Name}
use Rattle.model.specs.Report.{number, line}
use Rattle.model.specs.State.{Invocation, Initialisation, StackOf}
use Rattle.model.specs.Texts.{decoded}
use Rattle.listings.specs.printed_names.Printed.{printed, printed_byte}
use Rattle.traces.specs.declared.form.Form.{Form}
use Rattle.traces.specs.declared.form.Form.TheVariants.{Plain, Columns, Json}
use Rattle.traces.specs.JsonTexts.{escape, escaped, quoted, member, text_member}
use Rattle.traces.specs.Quotations.{quotation, shown, shown_units}
use Rattle.traces.specs.declared.members.DeedMembers.{DeedMembers}
use Rattle.traces.specs.Pieces.{Piece, Words, Quoted, did, piece_in, pieces_in}
use Rattle.traces.specs.Lines.{IsOneLine, is_within_line, class_in, deed_members, end_words, frame_in, head_words, in_seven, indent, instruction_words, line_words, members_in, method_members, method_words, nowhere_in, number_if, part, place_in, text_if}

abbrev Is : List ℕ → Type 0
Is text = is_within_line text ≡ true

-- ---- texts together

both : (a b : List ℕ) → Is a → Is b → Is (a ++ b)
both a b first second =
    let parts = list_all-append (λ (c : ℕ). not (c == 10)) a b in
    parts ∙ ap (λ (t : Bool). t && is_within_line b) first ∙ second

one : (b : ℕ) (rest : List ℕ) → (b == 10) ≡ false → Is rest → Is (b ∷ rest)
one b rest other behind = ap (λ (t : Bool). not t && is_within_line rest) other ∙ behind

all_of : (f : ℕ → List ℕ) → ((b : ℕ) → Is (f b)) → (text : List ℕ) → Is (flat_map f text)
all_of f each [] = refl
all_of f each (b ∷ text) = both (f b) (flat_map f text) (each b) (all_of f each text)

-- ---- numbers

glyph : (d : ℕ) → (digit_glyph false d == 10) ≡ false
glyph d = grind (arith, nat_tests)

chosen : (t : Bool) (a b : List ℕ) → Is a → Is b → Is (if t then a else b)
chosen true a b one other = one
chosen false a b one other = other

onto : (k n : ℕ) (behind : List ℕ) → Is behind → Is (digits_onto k 10 false n behind)
onto zero n behind is = is
onto (suc k) n behind is =
    let longer = digit_glyph false (n % 10) ∷ behind in
    let next : Is longer = one (digit_glyph false (n % 10)) behind (glyph (n % 10)) is in
    chosen (n / 10 == 0) longer (digits_onto k 10 false (n / 10) longer) next (onto k (n / 10) longer next)

numbers : (n : ℕ) → Is (number n)
unfolding digits
numbers n = onto 64 n [] refl

spaces : (n : ℕ) → Is (replicate n 32)
spaces zero = refl
spaces (suc n) = spaces n

-- ---- names

hex : (n : ℕ) → (hex_digit n == 10) ≡ false
hex n = grind (arith, nat_tests)

hex_bytes : (b : ℕ) → Is (hex_byte b)
hex_bytes b = one (hex_digit (b / 16)) (hex_digit (b % 16) ∷ []) (hex (b / 16)) (one (hex_digit (b % 16)) [] (hex (b % 16)) refl)

printed_bytes : (b : ℕ) → Is (printed_byte b)
printed_bytes b = by (b == 0x5c) refl
  where
    control : (t : Bool) → (nat_lt b 0x20 || (b == 0x7f)) ≡ t → Is (if t then codes "\\x" ++ hex_byte b else b ∷ [])
    control true e = both (codes "\\x") (hex_byte b) refl (hex_bytes b)
    control false e =
        let other : (b == 10) ≡ false = grind (arith, nat_tests) in
        one b [] other refl

    by : (t : Bool) → (b == 0x5c) ≡ t → Is (if t then codes "\\\\" else if nat_lt b 0x20 || (b == 0x7f) then codes "\\x" ++ hex_byte b else b ∷ [])
    by true e = refl
    by false e = control (nat_lt b 0x20 || (b == 0x7f)) refl

printed_texts : (text : List ℕ) → Is (printed text)
unfolding printed
printed_texts text = all_of printed_byte printed_bytes text

escapes : (u : ℕ) → Is (escape u)
escapes u = by ((u == 0x22) || (u == 0x5c)) refl
  where
    short : Is (hex_short u)
    short = both (hex_byte (u / 256)) (hex_byte (u % 256)) (hex_bytes (u / 256)) (hex_bytes (u % 256))

    plain : (t : Bool) → (nat_le 0x20 u && nat_lt u 0x7f) ≡ t → Is (if t then u ∷ [] else codes "\\u" ++ hex_short u)
    plain true e =
        let other : (u == 10) ≡ false = grind (arith, nat_tests) in
        one u [] other refl
    plain false e = both (codes "\\u") (hex_short u) refl short

    by : (t : Bool) → ((u == 0x22) || (u == 0x5c)) ≡ t
        → Is (if t then 0x5c ∷ u ∷ [] else if nat_le 0x20 u && nat_lt u 0x7f then u ∷ [] else codes "\\u" ++ hex_short u)
    by true e =
        let other : (u == 10) ≡ false = grind (arith, nat_tests) in
        one u [] other refl
    by false e = plain (nat_le 0x20 u && nat_lt u 0x7f) refl

quoted_texts : (text : List ℕ) → Is (quoted text)
unfolding escaped
quoted_texts text = both (codes "\"") (escaped text ++ codes "\"") refl (both (escaped text) (codes "\"") (all_of escape escapes (decoded text)) refl)

members : (key value : List ℕ) → Is key → Is value → Is (member key value)
members key value named is = both (codes ",\"") (key ++ (codes "\":" ++ value)) refl (both key (codes "\":" ++ value) named (both (codes "\":") value refl is))

text_members : (key text : List ℕ) → Is key → Is (text_member key text)
text_members key text named = members key (quoted text) named (quoted_texts text)

-- ---- the parts of a line

heads : (form : Form) (n t : ℕ) → Is (head_words form n t)
heads Plain n t = both (number n) (codes " " ++ number t) (numbers n) (both (codes " ") (number t) refl (numbers t))
heads Columns n t =
    both (in_seven n) (codes " " ++ (indent t ++ number t)) (both (replicate (7 - length (number n)) 32) (number n) (spaces (7 - length (number n))) (numbers n))
    (both (codes " ") (indent t ++ number t) refl (both (indent t) (number t) (spaces (24 * min t 7)) (numbers t)))
heads Json n t =
    both (codes "{\"event\":") (number n ++ member (codes "thread") (number t)) refl
    (both (number n) (member (codes "thread") (number t)) (numbers n) (members (codes "thread") (number t) refl (numbers t)))

in_words : (method : Member) (offset : ℕ) → Is (codes " " ++ (printed (method_words method) ++ (codes " " ++ number offset)))
in_words method offset =
    both (codes " ") (printed (method_words method) ++ (codes " " ++ number offset)) refl
    (both (printed (method_words method)) (codes " " ++ number offset) (printed_texts (method_words method)) (both (codes " ") (number offset) refl (numbers offset)))

frames : (form : Form) (method : Member) (offset : ℕ) → Is (frame_in form method offset)
frames Json method offset =
    both (method_members method) (member (codes "offset") (number offset))
    (both (text_member (codes "class") method.class) (text_member (codes "method") method.name) (text_members (codes "class") method.class refl) (text_members (codes "method") method.name refl))
    (members (codes "offset") (number offset) refl (numbers offset))
frames Plain method offset = in_words method offset
frames Columns method offset = in_words method offset

classes : (form : Form) (class : Name) → Is (class_in form class)
classes Json class = text_members (codes "class") class refl
classes Plain class = both (codes " ") (printed class) refl (printed_texts class)
classes Columns class = both (codes " ") (printed class) refl (printed_texts class)

nowhere : (form : Form) → Is (nowhere_in form)
nowhere Json = refl
nowhere Plain = refl
nowhere Columns = refl

places : {A : Type 0} (form : Form) (stack : StackOf A) → Is (place_in form stack)
places form [] = nowhere form
places form (Invocation frame ∷ stack) = frames form frame.method frame.place.offset
places form (Initialisation class phase ∷ stack) = classes form class

parts : (form : Form) (mark key words : List ℕ) → Is mark → Is key → Is (part form mark key words)
parts form mark key [] marked named = refl
parts Json mark key (x ∷ words) marked named = text_members key (x ∷ words) named
parts Plain mark key (x ∷ words) marked named = both mark (printed (x ∷ words)) marked (printed_texts (x ∷ words))
parts Columns mark key (x ∷ words) marked named = both mark (printed (x ∷ words)) marked (printed_texts (x ∷ words))

shown_texts : (units : List ℕ) → Is (shown_units units)
shown_texts units = all_of shown each units
  where
    each : (u : ℕ) → Is (shown u)
    each u = chosen (u == 10) (codes "\\n") (escape u) refl (escapes u)

quotations : (text : List ℕ) → Is (quotation text)
quotations text =
    both (codes "\"") (if nat_le (length text) 40 then shown_units text ++ codes "\"" else shown_units (take 40 text) ++ codes "..\"") refl
    (chosen (nat_le (length text) 40) (shown_units text ++ codes "\"") (shown_units (take 40 text) ++ codes "..\"")
    (both (shown_units text) (codes "\"") (shown_texts text) refl) (both (shown_units (take 40 text)) (codes "..\"") (shown_texts (take 40 text)) refl))

pieces : (form : Form) (piece : Piece) → Is (piece_in form piece)
unfolding escaped
pieces Json (Words bytes) = all_of escape escapes (decoded bytes)
pieces Json (Quoted text) = all_of escape escapes (decoded (quotation text))
pieces Plain (Words bytes) = printed_texts bytes
pieces Plain (Quoted text) = quotations text
pieces Columns (Words bytes) = printed_texts bytes
pieces Columns (Quoted text) = quotations text

all_pieces : (form : Form) (all : List Piece) → Is (pieces_in form all)
all_pieces form [] = refl
all_pieces form (piece ∷ all) = both (piece_in form piece) (pieces_in form all) (pieces form piece) (all_pieces form all)

dids : (form : Form) (deed : Option (List Piece)) → Is (did form deed)
dids form None = refl
dids Json (Some all) =
    members (codes "did") (codes "\"" ++ (pieces_in Json all ++ codes "\"")) refl
    (both (codes "\"") (pieces_in Json all ++ codes "\"") refl (both (pieces_in Json all) (codes "\"") (all_pieces Json all) refl))
dids Plain (Some all) = both (codes " | ") (pieces_in Plain all) refl (all_pieces Plain all)
dids Columns (Some all) = both (codes " | ") (pieces_in Columns all) refl (all_pieces Columns all)

texts_if : (key text : List ℕ) → Is key → Is (text_if key text)
texts_if key [] named = refl
texts_if key (x ∷ text) named = text_members key (x ∷ text) named

numbers_if : (key : List ℕ) (n : Option ℕ) → Is key → Is (number_if key n)
numbers_if key None named = refl
numbers_if key (Some n) named = members key (number n) named (numbers n)

deeds : (told : DeedMembers) → Is (deed_members told)
deeds told =
    let op = text_if (codes "op") told.op.now in
    let monitor = text_if (codes "monitor") told.monitor.now in
    let count = number_if (codes "count") told.count in
    let printed = number_if (codes "printed") told.printed in
    let started = number_if (codes "started") told.started in
    let object = text_if (codes "object") told.object.now in
    both op (monitor ++ (count ++ (printed ++ (started ++ object)))) (texts_if (codes "op") told.op.now refl)
    (both monitor (count ++ (printed ++ (started ++ object))) (texts_if (codes "monitor") told.monitor.now refl)
    (both count (printed ++ (started ++ object)) (numbers_if (codes "count") told.count refl)
    (both printed (started ++ object) (numbers_if (codes "printed") told.printed refl)
    (both started object (numbers_if (codes "started") told.started refl) (texts_if (codes "object") told.object.now refl)))))

all_members : (form : Form) (told : Option DeedMembers) → Is (members_in form told)
all_members Plain told = refl
all_members Columns told = refl
all_members Json None = refl
all_members Json (Some told) = deeds told

-- ---- the line

-- before its end
abbrev bracket : Form → List ℕ
bracket Json = codes "}"
bracket Plain = []
bracket Columns = []

ends : (form : Form) → end_words form ≡ line (bracket form)
ends Json = refl
ends Plain = refl
ends Columns = refl

brackets : (form : Form) → Is (bracket form)
brackets Json = refl
brackets Plain = refl
brackets Columns = refl

begins : (form : Form) (words text : List ℕ) → Is words → text ≡ words ++ end_words form → IsOneLine text
begins form words text is e =
    (words ++ bracket form, e ∙ ap (λ (l : List ℕ). words ++ l) (ends form) ∙ sym (append_assoc words (bracket form) (10 ∷ [])), both words (bracket form) is (brackets form))

pub is_one_line : {A : Type 0} (form : Form) (trees : Program) (n t : ℕ) (stack : StackOf A) (source : List ℕ) (deed : Option (List Piece))
    (told : Option DeedMembers) → IsOneLine (line_words form trees n t stack source deed told)
is_one_line form trees n t stack source deed told =
    let a = head_words form n t in
    let b = place_in form stack in
    let c = part form (codes " ") (codes "source") source in
    let d = part form (codes " ") (codes "instruction") (instruction_words trees stack) in
    let e = did form deed in
    let f = members_in form told in
    begins form (a ++ (b ++ (c ++ (d ++ (e ++ f))))) (a ++ (b ++ (c ++ (d ++ (e ++ (f ++ end_words form))))))
    (both a (b ++ (c ++ (d ++ (e ++ f)))) (heads form n t)
    (both b (c ++ (d ++ (e ++ f))) (places form stack)
    (both c (d ++ (e ++ f)) (parts form (codes " ") (codes "source") source refl refl)
    (both d (e ++ f) (parts form (codes " ") (codes "instruction") (instruction_words trees stack) refl refl)
    (both e f (dids form deed) (all_members form told))))))
    (simp append_assoc)
