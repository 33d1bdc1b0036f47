-- The forms of single parts of control lists and statements, of which the readers are made.
use Rattle.std.specs.Prelude.{List, codes, Option}
use Rattle.tree77.specs.FormWords.{made, behind, listed, or_none, unsupported, expression}
use Rattle.tree77.specs.Forms.{Form, format_text, both, judged, refused, numeral, perhaps, repeated}
use Rattle.tree77.specs.Statements as s
use Rattle.tree77.specs.Statements.{FormatRef, Listed}
use Rattle.tree77.specs.TransferForms as f

-- digits as a format, and a character constant; another expression, which is refused
abbrev pub label_format : Form FormatRef
label_format = judged f.digits_format numeral

abbrev pub constant_format : Form FormatRef
constant_format = made (λ p. s.text_format p.0 p.1) format_text

abbrev pub other_format : Form FormatRef
other_format = refused (unsupported (codes "FORMAT")) (made (λ x. f.no_format) expression)

-- the first and the second specifier of a transfer, and what stands behind the first
abbrev pub transfer_first : Form f.Specifier → Form f.Specifier
transfer_first keyword = f.specifier keyword (made f.first_unit f.unit)

abbrev pub transfer_second : Form f.Specifier → Form f.Specifier
transfer_second keyword = f.specifier keyword (made f.second_format f.format)

abbrev pub transfer_others : Form f.Specifier → Form (Option (f.Specifier × List f.Specifier))
transfer_others keyword = perhaps 44 (both (transfer_second keyword) (repeated (codes ",") (behind 44 keyword)))

-- the same of an OPEN, CLOSE or REWIND
abbrev pub file_first : Form f.Specifier → Form f.Specifier
file_first keyword = f.specifier keyword (made (λ x. f.first_unit (s.given_unit x)) expression)

abbrev pub file_others : Form f.Specifier → Form (Option (f.Specifier × List f.Specifier))
file_others keyword = perhaps 44 (both keyword (repeated (codes ",") (behind 44 keyword)))

-- items behind a comma, or none
abbrev pub items_behind : Form Listed → Form (List Listed)
items_behind item = made or_none (perhaps 44 (listed item))
