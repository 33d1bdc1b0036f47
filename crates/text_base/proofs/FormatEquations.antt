-- The equations of the link of formats, at each variant.
use Rattle.std.proofs.Common.{◌≡◌, ℕ, List, map, sym, ap, ◌∙◌}
use Rattle.text_base.specs.Formats as t
use Rattle.text_base.specs.Formats.{items_of}
use Rattle.text_base.specs.FormatPlain.{edit_of, item_step, item_of}
use Rattle.text_base.specs.declared.format.FormatEdit.{FormatEdit}
use Rattle.text_base.specs.declared.format.FormatItem.{FormatItem, fold-roll-FormatItem, map-FormatItem, roll-FormatItem}
use Rattle.text_base.specs.declared.format.FormatItem.TheOpen.{FormatItem-F}
use Rattle.text_base.specs.declared.format.FormatItem.TheVariants as v

item_roll : (x : FormatItem-F FormatItem) → item_of (roll-FormatItem x) ≡ item_step (map-FormatItem FormatItem t.FormatItem item_of x)
unfolding item_of
item_roll x = fold-roll-FormatItem t.FormatItem item_step x

pub item_edit : (d : FormatEdit) → item_of (v.Edit d) ≡ t.edit (edit_of d)
item_edit d = ap item_of (sym (v.rolls-Edit d)) ∙ item_roll (FormatItem-F.Edit d)

pub item_end : item_of v.RecordEnd ≡ t.record_end
item_end = ap item_of (sym v.rolls-RecordEnd) ∙ item_roll FormatItem-F.RecordEnd

pub item_group : (r : ℕ) (xs : List FormatItem) → item_of (v.Group r xs) ≡ t.group r (items_of (map item_of xs))
item_group r xs = ap item_of (sym (v.rolls-Group r xs)) ∙ item_roll (FormatItem-F.Group r xs)

pub ruleset format_equations = (item_edit, item_end, item_group)
