-- The declared tree of a format as the plain one.
use Rattle.std.specs.Prelude.{List, map}
use Rattle.text_base.specs.Formats as t
use Rattle.text_base.specs.Formats.{items_of}
use Rattle.text_base.specs.declared.format.FormatEdit.{FormatEdit}
use Rattle.text_base.specs.declared.format.FormatEdit.TheVariants as v
use Rattle.text_base.specs.declared.format.FormatItem.{FormatItem, fold-FormatItem}
use Rattle.text_base.specs.declared.format.FormatItem.TheOpen.{FormatItem-F}

abbrev pub edit_of : FormatEdit → t.FormatEdit
edit_of (v.Integers r w m) = t.integers r w m
edit_of (v.Logicals r w) = t.logicals r w
edit_of (v.Texts r w) = t.texts r w
edit_of (v.Blanks n) = t.blanks n
edit_of (v.Text characters) = t.text characters

abbrev pub item_step : FormatItem-F t.FormatItem → t.FormatItem
item_step (FormatItem-F.Edit d) = t.edit (edit_of d)
item_step FormatItem-F.RecordEnd = t.record_end
item_step (FormatItem-F.Group r xs) = t.group r (items_of xs)

unfoldable pub item_of : FormatItem → t.FormatItem
item_of = fold-FormatItem t.FormatItem item_step

-- the items of a format
abbrev pub format_items : List FormatItem → t.FormatItems
format_items xs = items_of (map item_of xs)
