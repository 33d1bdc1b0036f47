use Rattle.std.proofs.Common.{◌≡◌, ◌==◌, ◌+◌, not, ◌||◌, drop}
use Rattle.std.specs.List.{position_from}
use Rattle.text_base.specs.Chars.{is_digit}
use Rattle.text_base.specs.LineRefusals as refusals
use Rattle.card_reader.proofs.fault.label_column.Given as goal

-- the first such column of all is the first of what is left
abbrev pub invariant-loop-index : goal.invariant-loop-index
invariant-loop-index l = position_from (λ c. not (c == 32 || is_digit c)) (l.index + 1) (drop l.index l.field) ≡ refusals.label_column l.line
