-- Parts of the forms of control statements that have readers of their own.
use Rattle.std.specs.Prelude.{List, ◌++◌, codes, Some}
use Rattle.text_base.specs.Trees.{Expr}
use Rattle.tree77.specs.ControlForms.{digits_code, text_code, actual}
use Rattle.tree77.specs.Forms.{Form, numeral, seen}
use Rattle.tree77.specs.FormWords.{made, grouped, expression, expression_sorts}
use Rattle.tree77.specs.Statements as s
use Rattle.tree77.specs.Statements.{Simple}

-- STOP with digits, and with a character constant
abbrev pub digits_stop : Form Simple
digits_stop = made (λ c. s.stop (Some c)) (seen digits_code numeral)

abbrev pub text_stop : Form Simple
text_stop = made (λ c. s.stop (Some c)) (seen text_code expression)

-- actual arguments in parentheses, or nothing
abbrev pub actuals : Form (List Expr)
actuals = grouped (expression_sorts ++ codes "*") actual
