-- Statements, by their labels and their characters without blanks, and what they spell or why they are refused.
use Rattle.std.specs.Prelude.{ℕ, List, [], ◌∷◌, ◌++◌, map, codes, pos, Some, None}
use Rattle.text_base.specs.Formats as f
use Rattle.text_base.specs.Pieces.{Piece, plain, whole, broken}
use Rattle.text_base.specs.Trees.{Expr, call, none, more, Exprs, binary, unary, minus, less, times, add, subtract, paren, text, substring, at, absent}
use Rattle.text_base.specs.declared.refusal.Cause.TheVariants.{NotAStatement, Unsupported, ConstantRange, NameTooLong}
use Rattle.text_base.specs.declared.stop_code.StopCode.TheVariants.{Digits, Text}
use Rattle.tree77.specs.Lexemes.{Part}
use Rattle.tree77.specs.Spelling.{SpellsStatement, IsRefusedStatement}
use Rattle.tree77.specs.Statements as s
use Rattle.tree77.specs.Statements.{Statement, header, declared, simple, guarded}
use Rattle.worked_examples.specs.Read.{variable, number}

-- characters outside kept text, as pieces
abbrev pub outside : List ℕ → List Piece
outside characters = map plain characters

-- a statement with its label, 0 where it has none
abbrev pub Written : Type 0
Written = ℕ × List Piece

-- one without a label and without kept text
abbrev pub written : List ℕ → Written
written characters = (0, outside characters)

abbrev pub Spells : Written → Statement → Type 0
Spells w x = SpellsStatement w.0 w.1 x

abbrev pub IsRefusedWith : Written → Part → Type 0
IsRefusedWith w p = IsRefusedStatement w.0 w.1 p

-- ---- words for trees

abbrev pub v : List ℕ → Expr
v x = variable x

abbrev pub exprs : List Expr → Exprs
exprs [] = none
exprs (e ∷ es) = more e (exprs es)

abbrev pub call_of : List ℕ → List Expr → Expr
call_of x es = call x (exprs es)

-- the assignment of a value to a variable
abbrev pub assigns : List ℕ → Expr → Statement
assigns x value = simple (s.assign (variable x) value)

-- a name with dimensions from 1 on, and a range without increment
abbrev pub upto : ℕ → s.Dimension
upto n = record { lower = None; upper = Some (number n) }

abbrev pub named : List ℕ → List s.Dimension → s.Declarator
named x ds = record { name = x; dimensions = ds; length = None }

abbrev pub from_to : List ℕ → ℕ → ℕ → s.Range
from_to x a b = record { variable = x; from = number a; to = number b; by = None }

abbrev pub items : List s.Listed → s.Listeds
items xs = s.listeds_of xs

abbrev pub control : s.UnitRef → s.FormatRef → s.Control
control unit format = record { unit = unit; format = format; iostat = None; error = None; ending = None }

abbrev pub unit_alone : ℕ → s.FileControl
unit_alone n = record { unit = number n; file = None; status = None; iostat = None; error = None }

abbrev pub one_edit : f.FormatEdit → f.FormatItems
one_edit d = f.items_of (f.edit d ∷ [])

-- ---- statements and what they spell

abbrev pub statements : List (Written × Statement)
statements =
    -- headers
    (written (codes "PROGRAMT"), header (s.program (codes "T")))
    ∷ (written (codes "PROGRAMA23456789_123456789_123456789_1"), header (s.program (codes "A23456789_123456789_123456789_1")))
    ∷ (written (codes "SUBROUTINES"), header (s.subroutine (codes "S") []))
    ∷ (written (codes "SUBROUTINES(A,B)"), header (s.subroutine (codes "S") (codes "A" ∷ codes "B" ∷ [])))
    ∷ (written (codes "FUNCTIONF()"), header (s.function None (codes "F") []))
    ∷ (written (codes "INTEGERFUNCTIONF(A)"), header (s.function (Some s.integer_type) (codes "F") (codes "A" ∷ [])))
    ∷ (written (codes "CHARACTER*8FUNCTIONF(A)"), header (s.function (Some (s.character_type (Some (s.given (number 8))))) (codes "F") (codes "A" ∷ [])))
    ∷ (written (codes "BLOCKDATA"), header (s.block_data None))
    -- declarations
    ∷ (written (codes "IMPLICITINTEGER(A-H,O),LOGICAL(L)"), declared (s.implicit (record { type = s.integer_type; letters = record { from = 65; to = 72 } ∷ record { from = 79; to = 79 } ∷ [] } ∷ record { type = s.logical_type; letters = record { from = 76; to = 76 } ∷ [] } ∷ [])))
    ∷ (written (codes "PARAMETER(N=6)"), declared (s.parameter (record { name = codes "N"; value = number 6 } ∷ [])))
    ∷ (written (codes "INTEGERA(3),I"), declared (s.typed s.integer_type (named (codes "A") (upto 3 ∷ []) ∷ named (codes "I") [] ∷ [])))
    ∷ (written (codes "INTEGERFUNCTIONF(*)"), declared (s.typed s.integer_type (named (codes "FUNCTIONF") (record { lower = None; upper = None } ∷ []) ∷ [])))
    ∷ (written (codes "CHARACTER*8HELLO"), declared (s.typed (s.character_type (Some (s.given (number 8)))) (named (codes "HELLO") [] ∷ [])))
    ∷ (written (codes "CHARACTERC*(*),D*4"), declared (s.typed (s.character_type None) (record { name = codes "C"; dimensions = []; length = Some s.assumed } ∷ record { name = codes "D"; dimensions = []; length = Some (s.given (number 4)) } ∷ [])))
    ∷ (written (codes "DIMENSIONA(0:3)"), declared (s.dimension (named (codes "A") (record { lower = Some (number 0); upper = Some (number 3) } ∷ []) ∷ [])))
    ∷ (written (codes "COMMONA,/B/C,D//E"), declared (s.common (record { name = None; members = named (codes "A") [] ∷ [] } ∷ record { name = Some (codes "B"); members = named (codes "C") [] ∷ named (codes "D") [] ∷ [] } ∷ record { name = None; members = named (codes "E") [] ∷ [] } ∷ [])))
    ∷ (written (codes "EQUIVALENCE(A,B(2))"), declared (s.equivalence ((v (codes "A") ∷ call_of (codes "B") (number 2 ∷ []) ∷ []) ∷ [])))
    ∷ (written (codes "SAVEA,/B/"), declared (s.save (s.saved_name (codes "A") ∷ s.saved_block (codes "B") ∷ [])))
    ∷ (written (codes "DATAA/2*3,N*-4,M/"), declared (s.data_ (record { objects = items (s.item (v (codes "A")) ∷ []); values = record { times = s.number_times (pos 2); constant = number 3 } ∷ record { times = s.name_times (codes "N"); constant = unary minus (number 4) } ∷ record { times = s.once; constant = v (codes "M") } ∷ [] } ∷ [])))
    ∷ (written (codes "DATA((A(I,J),I=1,2),J=1,3)/6*0/"), declared (s.data_ (record { objects = items (s.loop (items (s.loop (items (s.item (call_of (codes "A") (v (codes "I") ∷ v (codes "J") ∷ [])) ∷ [])) (from_to (codes "I") 1 2) ∷ [])) (from_to (codes "J") 1 3) ∷ []); values = record { times = s.number_times (pos 6); constant = number 0 } ∷ [] } ∷ [])))
    -- formats: a label makes one
    ∷ ((10, outside (codes "FORMAT(I5)")), declared (s.format (one_edit (f.integers 1 5 None))))
    ∷ ((10, outside (codes "FORMAT()")), declared (s.format f.none))
    -- assignments and a statement function; keywords aren't reserved
    ∷ (written (codes "I=0"), assigns (codes "I") (number 0))
    ∷ (written (codes "I=0002147483647"), assigns (codes "I") (number 2147483647))
    ∷ (written (codes "J=I+4-K"), assigns (codes "J") (binary subtract (binary add (v (codes "I")) (number 4)) (v (codes "K"))))
    ∷ (written (codes "X=2*(Y+1)"), assigns (codes "X") (binary times (number 2) (paren (binary add (v (codes "Y")) (number 1)))))
    ∷ ((0, outside (codes "C=") ++ whole (codes "'it''s'") ∷ []), assigns (codes "C") (text (codes "it's")))
    ∷ (written (codes "A(I)(2:)=B"), simple (s.assign (substring (call_of (codes "A") (v (codes "I") ∷ [])) (at (number 2)) absent) (v (codes "B"))))
    ∷ (written (codes "F()=1"), s.statement_function (codes "F") [] (number 1))
    ∷ (written (codes "END=1"), assigns (codes "END") (number 1))
    ∷ (written (codes "DO10I=15"), assigns (codes "DO10I") (number 15))
    -- control
    ∷ (written (codes "DO10I=1,5"), s.do_ 10 (from_to (codes "I") 1 5))
    ∷ (written (codes "GOTO00010"), simple (s.goto 10))
    ∷ (written (codes "GOTO(10,20),I"), simple (s.computed (10 ∷ 20 ∷ []) (v (codes "I"))))
    ∷ (written (codes "IF(I)10,20,30"), simple (s.arithmetic (v (codes "I")) 10 20 30))
    ∷ (written (codes "IF(L)THEN"), s.if_then (v (codes "L")))
    ∷ (written (codes "IF(L)THEN=3"), guarded (v (codes "L")) (s.assign (v (codes "THEN")) (number 3)))
    ∷ (written (codes "IF(I.LT.3)GOTO10"), guarded (binary less (v (codes "I")) (number 3)) (s.goto 10))
    ∷ (written (codes "ELSEIF(L)THEN"), s.else_if (v (codes "L")))
    ∷ (written (codes "ELSE"), s.else_)
    ∷ (written (codes "ENDIF"), s.end_if)
    ∷ (written (codes "CONTINUE"), simple s.continue)
    ∷ (written (codes "RETURN"), simple s.return_)
    ∷ (written (codes "STOP"), simple (s.stop None))
    ∷ (written (codes "STOP00077"), simple (s.stop (Some (Digits (codes "00077")))))
    ∷ ((0, outside (codes "STOP") ++ whole (codes "'A'") ∷ []), simple (s.stop (Some (Text (codes "A")))))
    ∷ (written (codes "END"), s.end)
    ∷ (written (codes "CALLS"), simple (s.calling (codes "S") []))
    ∷ (written (codes "CALLS(A,1)"), simple (s.calling (codes "S") (v (codes "A") ∷ number 1 ∷ [])))
    -- input and output
    ∷ (written (codes "READ(5,100,END=99)I"), simple (s.read (s.by_control (record { unit = s.given_unit (number 5); format = s.label_format 100; iostat = None; error = None; ending = Some 99 })) (items (s.item (v (codes "I")) ∷ []))))
    ∷ (written (codes "READ*,I"), simple (s.read (s.by_format s.star_format) (items (s.item (v (codes "I")) ∷ []))))
    ∷ (written (codes "WRITE(6,10)(A)+B,(C(I),I=1,3)"), simple (s.write (control (s.given_unit (number 6)) (s.label_format 10)) (items (s.item (binary add (paren (v (codes "A"))) (v (codes "B"))) ∷ s.loop (items (s.item (call_of (codes "C") (v (codes "I") ∷ [])) ∷ [])) (from_to (codes "I") 1 3) ∷ []))))
    ∷ ((0, outside (codes "WRITE(UNIT=*,FMT=") ++ whole (codes "'(I5)'") ∷ outside (codes ")")), simple (s.write (control s.star_unit (s.text_format (codes "(I5)") (one_edit (f.integers 1 5 None)))) s.none))
    ∷ (written (codes "PRINT10"), simple (s.print (s.label_format 10) s.none))
    ∷ ((0, outside (codes "OPEN(7,FILE=") ++ whole (codes "'A'") ∷ outside (codes ",ERR=9)")), simple (s.open_ (record { unit = number 7; file = Some (text (codes "A")); status = None; iostat = None; error = Some 9 })))
    ∷ (written (codes "CLOSE(7)"), simple (s.close_ (unit_alone 7)))
    ∷ (written (codes "REWIND(5)"), simple (s.rewind (unit_alone 5)))
    ∷ (written (codes "REWIND(5)+1"), simple (s.rewind (record { unit = binary add (paren (number 5)) (number 1); file = None; status = None; iostat = None; error = None })))
    ∷ []

-- ---- statements that are refused

abbrev pub unsupported : List ℕ → Part
unsupported word = record { cause = Unsupported; shown = word }

abbrev pub no_statement : List ℕ → Part
no_statement shown = record { cause = NotAStatement; shown = shown }

abbrev pub refused_statements : List (Written × Part)
refused_statements =
    ((0, []), no_statement [])
    -- no spelling: a header without a name, something behind CONTINUE and END, assignments without a side, and others
    ∷ (written (codes "PROGRAM"), no_statement (codes "PROGRAM"))
    ∷ (written (codes "PROGRAM1"), no_statement (codes "PROGRAM1"))
    ∷ (written (codes "CONTINUE1"), no_statement (codes "CONTINUE1"))
    ∷ (written (codes "ENDT"), no_statement (codes "ENDT"))
    ∷ (written (codes "I="), no_statement (codes "I="))
    ∷ (written (codes "I==1"), no_statement (codes "I==1"))
    ∷ (written (codes "I=J=1"), no_statement (codes "I=J=1"))
    ∷ (written (codes "1=I"), no_statement (codes "1=I"))
    ∷ (written (codes "I=A*-B"), no_statement (codes "I=A*-B"))
    ∷ ((0, outside (codes "C=") ++ broken (codes "'it") ∷ []), no_statement (codes "C='it"))
    ∷ ((0, outside (codes "C=") ++ whole (codes "''") ∷ []), no_statement (codes "C=''"))
    ∷ (written (codes "EQUIVALENCE(A)"), no_statement (codes "EQUIVALENCE("))
    ∷ (written (codes "DIMENSIONA(1,1,1,1,1,1,1,1)"), no_statement (codes "DIMENSIONA(1"))
    ∷ (written (codes "GOTO0"), no_statement (codes "GOTO0"))
    ∷ (written (codes "STOP123456"), no_statement (codes "STOP123456"))
    ∷ (written (codes "INTEGERA*4"), no_statement (codes "INTEGERA*4"))
    ∷ (written (codes "DOI=1,3"), no_statement (codes "DOI=1,3"))
    ∷ (written (codes "FORMAT(I5)"), no_statement (codes "FORMAT(I5)"))
    ∷ (written (codes "OPEN(*)"), no_statement (codes "OPEN(*)"))
    ∷ (written (codes "READ(5,10)I+1"), no_statement (codes "READ(5,10)I+"))
    ∷ (written (codes "IF(L)DO10I=1,3"), no_statement (codes "IF(L)DO10I=1"))
    ∷ ((0, outside (codes "PRINT") ++ whole (codes "'(I5)X'") ∷ []), no_statement (codes "PRINT'(I5)X'"))
    -- forms and parts that are refused
    ∷ (written (codes "REALX"), unsupported (codes "REAL"))
    ∷ (written (codes "DOUBLEPRECISIONFUNCTIONF(X)"), unsupported (codes "DOUBLEPRECISION"))
    ∷ (written (codes "IMPLICITCOMPLEX(A)"), unsupported (codes "COMPLEX"))
    ∷ (written (codes "IMPLICITNONE"), unsupported (codes "NONE"))
    ∷ (written (codes "I=1.5"), unsupported (codes "CONSTANT"))
    ∷ (written (codes "CHARACTER*1.5A"), unsupported (codes "CONSTANT"))
    ∷ (written (codes "INTEGER*4A"), unsupported (codes "LENGTH"))
    ∷ (written (codes "CHARACTER*(*)FUNCTIONF()"), unsupported (codes "LENGTH"))
    ∷ ((0, outside (codes "PAUSE") ++ broken (codes "'A") ∷ []), unsupported (codes "PAUSE"))
    ∷ (written (codes "IF(L)BACKSPACE5"), unsupported (codes "BACKSPACE"))
    ∷ (written (codes "ASSIGN10TOI"), unsupported (codes "ASSIGN"))
    ∷ (written (codes "GOTOI,(10,20)"), unsupported (codes "GOTO"))
    ∷ (written (codes "RETURN1"), unsupported (codes "RETURN"))
    ∷ (written (codes "SUBROUTINES(A,*)"), unsupported (codes "RETURN"))
    ∷ (written (codes "CALLS(*10)"), unsupported (codes "RETURN"))
    ∷ (written (codes "DO10WHILE(L)"), unsupported (codes "WHILE"))
    ∷ (written (codes "ENDDO"), unsupported (codes "ENDDO"))
    ∷ (written (codes "READ(5)I"), unsupported (codes "UNFORMATTED"))
    ∷ (written (codes "WRITE(6,10,REC=3)I"), unsupported (codes "CONTROL"))
    ∷ (written (codes "READ(C(1:2),*)I"), unsupported (codes "CONTROL"))
    ∷ (written (codes "PRINT0,I"), unsupported (codes "FORMAT"))
    ∷ (written (codes "READ(I),J"), unsupported (codes "FORMAT"))
    ∷ ((10, outside (codes "FORMAT(F8.3)")), unsupported (codes "EDIT"))
    ∷ ((0, outside (codes "PRINT") ++ whole (codes "'(E9.2)'") ∷ []), unsupported (codes "EDIT"))
    -- the lowest cause, and among equal ones the first
    ∷ (written (codes "I=2147483648"), record { cause = ConstantRange; shown = codes "2147483648" })
    ∷ (written (codes "I=2147483648+1.5"), unsupported (codes "CONSTANT"))
    ∷ (written (codes "WRITE(6,X,REC=3)I"), unsupported (codes "FORMAT"))
    ∷ (written (codes "A23456789_123456789_123456789_12=1"), record { cause = NameTooLong; shown = codes "A23456789_123456789_123456789_1" })
    ∷ []
