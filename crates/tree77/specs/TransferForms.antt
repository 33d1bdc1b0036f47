-- The forms of input and output statements, behind their keywords (X3.9 section 12).
use Rattle.std.specs.Prelude.{◌||◌, not, ℕ, Bool, true, false, List, [], ◌∷◌, codes, Option, Some, None, if◌then◌else◌}
use Rattle.std.specs.Option.{option_map, option_and_then}
use Rattle.text_base.specs.Trees as e
use Rattle.text_base.specs.Trees.{Expr}
use Rattle.tree77.specs.FormWords.{made, behind, listed, keyed, unsupported, expression, expression_sorts, is_designator, variable_of, or_none}
use Rattle.tree77.specs.Forms.{Form, one, two, group, nothing, mark, name, label, numeral, portion, format_text, inside, both, choice, told, perhaps, repeated, seen, judged, refused}
use Rattle.tree77.specs.Lexemes.{Part, is_label, decimal}
use Rattle.tree77.specs.ListForms.{input_item, output_item}
use Rattle.tree77.specs.Statements as s
use Rattle.tree77.specs.Statements.{UnitRef, FormatRef, Control, FileControl, Listed, Simple, listeds_of}

-- ---- units and formats

-- a unit: `*`, or an expression (X3.9 section 12.3)
abbrev pub unit : Form UnitRef
unit = choice (codes "*") (made (λ x. s.star_unit) (mark 42)) (made s.given_unit expression)

-- what stands for a format that is refused
abbrev pub no_format : FormatRef
no_format = s.label_format 0

-- digits are a format where they are a label; else they are refused
abbrev pub digits_format : List ℕ → Option (FormatRef × List Part)
digits_format w = if is_label w then Some (s.label_format (decimal w), []) else Some (no_format, unsupported (codes "FORMAT") ∷ [])

-- `*`, a label or a character constant (X3.9 section 12.4); another expression is refused
abbrev pub format : Form FormatRef
format =
    choice (codes "*") (made (λ x. s.star_format) (mark 42))
    (told (two 48 (0 ∷ codes ",)")) (judged digits_format numeral)
    (told (two 39 (0 ∷ codes ",)")) (made (λ p. s.text_format p.0 p.1) format_text)
    (refused (unsupported (codes "FORMAT")) (made (λ x. no_format) expression))))

-- ---- specifiers (X3.9 section 12.8.1)

-- a specifier of a control list; the last stands for one that is refused
pub data Specifier : Type 0 where
  -- a unit without a keyword, and a format without one
  first_unit : UnitRef → Specifier
  second_format : FormatRef → Specifier
  unit_is : UnitRef → Specifier
  format_is : FormatRef → Specifier
  file_is : Expr → Specifier
  status_is : Expr → Specifier
  iostat_is : List ℕ → Specifier
  error_is : ℕ → Specifier
  ending_is : ℕ → Specifier
  other : Specifier

-- IOSTAT names a variable; another designator is refused
abbrev pub iostat_by : Option (List ℕ) → Specifier × List Part
iostat_by (Some x) = (iostat_is x, [])
iostat_by None = (other, unsupported (codes "CONTROL") ∷ [])

abbrev pub iostat_of : Expr → Option (Specifier × List Part)
iostat_of x = if is_designator x then Some (iostat_by (variable_of x)) else None

abbrev pub iostat : Form Specifier
iostat = judged iostat_of (portion true (codes "),=:"))

-- another specifier than those of a statement is refused
abbrev pub other_specifier : Form Specifier
other_specifier = refused (unsupported (codes "CONTROL")) (made (λ p. other) (both name (behind 61 expression)))

-- IOSTAT and ERR, which each of these statements may have
abbrev pub common_specifier : Form Specifier
common_specifier = keyed (codes "IOSTAT") iostat (keyed (codes "ERR") (made error_is label) other_specifier)

-- the specifiers with a keyword of WRITE, READ, OPEN, and of CLOSE and REWIND
abbrev pub write_specifier : Form Specifier
write_specifier = keyed (codes "UNIT") (made unit_is unit) (keyed (codes "FMT") (made format_is format) common_specifier)

abbrev pub read_specifier : Form Specifier
read_specifier = keyed (codes "END") (made ending_is label) write_specifier

abbrev pub given_unit : Form Specifier
given_unit = made (λ x. unit_is (s.given_unit x)) expression

abbrev pub close_specifier : Form Specifier
close_specifier = keyed (codes "UNIT") given_unit common_specifier

abbrev pub open_specifier : Form Specifier
open_specifier = keyed (codes "FILE") (made file_is expression) (keyed (codes "STATUS") (made status_is expression) close_specifier)

-- a name and an equals sign stand before a specifier with a keyword
abbrev pub specifier : Form Specifier → Form Specifier → Form Specifier
specifier keyword f = told (two 65 (codes "=")) keyword f

-- ---- control lists

-- sets what isn't set yet
abbrev pub once : {A B : Type 0} → Option A → A → (Option A → B) → Option B
once None x set = Some (set (Some x))
once (Some y) x set = None

-- what specifiers have set
pub record Settings : Type 0 where
  pub unit : Option UnitRef
  pub format : Option FormatRef
  pub file : Option Expr
  pub status : Option Expr
  pub iostat : Option (List ℕ)
  pub error : Option ℕ
  pub ending : Option ℕ

abbrev pub nothing_set : Settings
nothing_set = record { unit = None; format = None; file = None; status = None; iostat = None; error = None; ending = None }

-- one specifier more
abbrev pub add : Settings → Specifier → Option Settings
add c (first_unit u) = once c.unit u (λ x. record c { unit = x })
add c (second_format f) = once c.format f (λ x. record c { format = x })
add c (unit_is u) = once c.unit u (λ x. record c { unit = x })
add c (format_is f) = once c.format f (λ x. record c { format = x })
add c (file_is x) = once c.file x (λ y. record c { file = y })
add c (status_is x) = once c.status x (λ y. record c { status = y })
add c (iostat_is v) = once c.iostat v (λ x. record c { iostat = x })
add c (error_is l) = once c.error l (λ x. record c { error = x })
add c (ending_is l) = once c.ending l (λ x. record c { ending = x })
add c other = Some c

-- each specifier once
abbrev pub settings_from : Settings → List Specifier → Option Settings
settings_from c [] = Some c
settings_from c (x ∷ xs) = option_and_then (λ d. add d x) (settings_from c xs)

-- a format without a keyword needs a unit without one before it
abbrev pub is_first : Specifier → Bool
is_first (first_unit u) = true
is_first _ = false

abbrev pub is_second : Specifier → Bool
is_second (second_format f) = true
is_second _ = false

abbrev pub may_follow : Specifier → Specifier → Bool
may_follow x y = is_first x || not (is_second y)

-- those behind the first
abbrev pub behind_first : Specifier → Option (Specifier × List Specifier) → Option (List Specifier)
behind_first x None = Some []
behind_first x (Some p) = if may_follow x p.0 then Some (p.0 ∷ p.1) else None

-- what the specifiers set, each once
abbrev pub collected : Specifier × Option (Specifier × List Specifier) → Option Settings
collected p = option_and_then (λ c. add c p.0) (option_and_then (settings_from nothing_set) (behind_first p.0 p.1))

-- the unit first, without a keyword or with one, and the format second; those behind have keywords
abbrev pub transfer_specifiers : Form Specifier → Form (Specifier × Option (Specifier × List Specifier))
transfer_specifiers keyword =
    both (specifier keyword (made first_unit unit))
    (perhaps 44 (both (specifier keyword (made second_format format)) (repeated (codes ",") (behind 44 keyword))))

-- the unit first, without a keyword or with one; those behind have keywords
abbrev pub file_specifiers : Form Specifier → Form (Specifier × Option (Specifier × List Specifier))
file_specifiers keyword =
    both (specifier keyword (made (λ x. first_unit (s.given_unit x)) expression))
    (perhaps 44 (both keyword (repeated (codes ",") (behind 44 keyword))))

-- ---- control lists of transfers (X3.9 section 12.8)

-- a substring, which as a unit is an internal file
abbrev pub is_substring : Expr → Bool
is_substring (e.substring x from to) = true
is_substring _ = false

abbrev pub is_internal : UnitRef → Bool
is_internal (s.given_unit x) = is_substring x
is_internal s.star_unit = false

abbrev pub is_star : FormatRef → Bool
is_star s.star_format = true
is_star _ = false

-- a list-directed transfer with an internal file is refused
abbrev pub if_internal : UnitRef → FormatRef → List Part
if_internal u f = if is_internal u then (if is_star f then unsupported (codes "CONTROL") ∷ [] else []) else []

-- and so is one without a format
abbrev pub control_with : UnitRef → Option FormatRef → Settings → Control × List Part
control_with u None c = (record { unit = u; format = no_format; iostat = c.iostat; error = c.error; ending = c.ending }, unsupported (codes "UNFORMATTED") ∷ [])
control_with u (Some f) c = (record { unit = u; format = f; iostat = c.iostat; error = c.error; ending = c.ending }, if_internal u f)

-- a unit must be there
abbrev pub control_of : Settings → Option (Control × List Part)
control_of c = option_map (λ u. control_with u c.format c) c.unit

-- `(control)` of a transfer
abbrev pub control : Form Specifier → Form Control
control keyword = judged (λ p. option_and_then control_of (collected p)) (inside (transfer_specifiers keyword))

-- ---- READ, WRITE and PRINT

-- items, or none
abbrev pub some_items : Form Listed → Form (List Listed)
some_items item = choice expression_sorts (listed item) (nothing [])

-- `(control) [list]`
abbrev pub read_by_control : ℕ → Form Simple
read_by_control n = made (λ p. s.read (s.by_control p.0) (listeds_of p.1)) (both (control read_specifier) (some_items (input_item n)))

-- `format [, list]`
abbrev pub read_by_format : ℕ → Form Simple
read_by_format n = made (λ p. s.read (s.by_format p.0) (listeds_of (or_none p.1))) (both format (perhaps 44 (listed (input_item n))))

-- `READ (control) [list]`, `READ format [, list]`: a format that begins with parentheses has a comma or an operator behind them
abbrev pub read : ℕ → Form Simple
read n = told (group (codes ",/*+-.")) (read_by_format n) (told (one (codes "(")) (read_by_control n) (read_by_format n))

-- `WRITE (control) [list]`
abbrev pub write : ℕ → Form Simple
write n = made (λ p. s.write p.0 (listeds_of p.1)) (both (control write_specifier) (some_items (output_item n)))

-- `PRINT format [, list]`
abbrev pub print : ℕ → Form Simple
print n = made (λ p. s.print p.0 (listeds_of (or_none p.1))) (both format (perhaps 44 (listed (output_item n))))

-- ---- OPEN, CLOSE and REWIND (X3.9 section 12.10)

abbrev pub given_of : UnitRef → Option Expr
given_of (s.given_unit x) = Some x
given_of s.star_unit = None

abbrev pub file_control_of : Settings → Option FileControl
file_control_of c = option_map (λ u. record { unit = u; file = c.file; status = c.status; iostat = c.iostat; error = c.error }) (option_and_then given_of c.unit)

-- `(control)`
abbrev pub file_control : Form Specifier → Form FileControl
file_control keyword = seen (λ p. option_and_then file_control_of (collected p)) (inside (file_specifiers keyword))

abbrev pub open_ : Form Simple
open_ = made s.open_ (file_control open_specifier)

abbrev pub close_ : Form Simple
close_ = made s.close_ (file_control close_specifier)

-- a unit alone
abbrev pub unit_alone : Expr → FileControl
unit_alone x = record { unit = x; file = None; status = None; iostat = None; error = None }

-- `REWIND (control)`, and `REWIND unit` where the unit doesn't stand in parentheses as a whole
abbrev pub rewind : Form Simple
rewind = told (group (0 ∷ [])) (made s.rewind (file_control close_specifier)) (made (λ x. s.rewind (unit_alone x)) expression)
