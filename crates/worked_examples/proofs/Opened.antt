-- One name that opens the readings of statements and expressions, decimal digits, and the table of intrinsic functions, where a
-- proof computes them.
use Rattle.std.specs.Fmt.{digits}
use Rattle.group77.specs.Building.{build}
use Rattle.group77.specs.Grouping.{read_factor, read_term, read_signed, read_sum, read_concatenation, read_relation, read_negation, read_conjunction, read_disjunction, read_equivalence, group}
use Rattle.expr77.specs.LexemeReading.{read_number, behind_complex, read_lexeme, lexemes_of}
use Rattle.format77.specs.Reading.{lexeme_at, wide_of}
use Rattle.forms77.specs.Reading.{read_portion}
use Rattle.parse77.specs.Reading.{read_statement}
use Rattle.text_base.specs.Operators.{intrinsic}

unfoldable pub opened : Unit {0}
unfolding digits build read_factor read_term read_signed read_sum read_concatenation read_relation read_negation read_conjunction read_disjunction read_equivalence group read_number behind_complex read_lexeme lexemes_of lexeme_at wide_of read_portion read_statement intrinsic
opened = tt
