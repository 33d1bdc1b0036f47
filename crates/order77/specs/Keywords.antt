-- The keyword of a statement, without blanks: what its refusal shows for its order and its nesting.
use Rattle.std.specs.Prelude.{ℕ, List, codes}
use Rattle.tree77.specs.Statements as s
use Rattle.tree77.specs.Statements.{Header, Declared, Type77, Simple, Statement, header, declared, statement_function, guarded, if_then, else_if, else_, end_if, do_, end}

abbrev pub header_keyword : Header → List ℕ
header_keyword (s.program x) = codes "PROGRAM"
header_keyword (s.subroutine x ds) = codes "SUBROUTINE"
header_keyword (s.function t x ds) = codes "FUNCTION"
header_keyword (s.block_data x) = codes "BLOCKDATA"

abbrev pub type_keyword : Type77 → List ℕ
type_keyword s.integer_type = codes "INTEGER"
type_keyword s.logical_type = codes "LOGICAL"
type_keyword (s.character_type l) = codes "CHARACTER"

abbrev pub declared_keyword : Declared → List ℕ
declared_keyword (s.implicit is) = codes "IMPLICIT"
declared_keyword (s.parameter es) = codes "PARAMETER"
declared_keyword (s.typed t ds) = type_keyword t
declared_keyword (s.dimension ds) = codes "DIMENSION"
declared_keyword (s.common bs) = codes "COMMON"
declared_keyword (s.equivalence xs) = codes "EQUIVALENCE"
declared_keyword (s.external xs) = codes "EXTERNAL"
declared_keyword (s.intrinsic xs) = codes "INTRINSIC"
declared_keyword (s.save xs) = codes "SAVE"
declared_keyword (s.data_ gs) = codes "DATA"
declared_keyword (s.format xs) = codes "FORMAT"

abbrev pub simple_keyword : Simple → List ℕ
simple_keyword (s.assign d x) = codes "="
simple_keyword (s.goto l) = codes "GOTO"
simple_keyword (s.computed ls x) = codes "GOTO"
simple_keyword (s.arithmetic x a b c) = codes "IF"
simple_keyword s.continue = codes "CONTINUE"
simple_keyword s.return_ = codes "RETURN"
simple_keyword (s.stop c) = codes "STOP"
simple_keyword (s.calling f xs) = codes "CALL"
simple_keyword (s.read b xs) = codes "READ"
simple_keyword (s.write c xs) = codes "WRITE"
simple_keyword (s.print f xs) = codes "PRINT"
simple_keyword (s.open_ c) = codes "OPEN"
simple_keyword (s.close_ c) = codes "CLOSE"
simple_keyword (s.rewind c) = codes "REWIND"

-- an assignment and a statement function have `=`
abbrev pub keyword : Statement → List ℕ
keyword (header h) = header_keyword h
keyword (declared d) = declared_keyword d
keyword (statement_function f ds x) = codes "="
keyword (s.simple a) = simple_keyword a
keyword (guarded x a) = codes "IF"
keyword (if_then x) = codes "IF"
keyword (else_if x) = codes "ELSEIF"
keyword else_ = codes "ELSE"
keyword end_if = codes "ENDIF"
keyword (do_ t r) = codes "DO"
keyword end = codes "END"
