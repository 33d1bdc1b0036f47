-- Keywords, and beginnings of statements.
use Rattle.std.specs.Prelude.{ℕ, List, [], ◌∷◌, codes}
use Rattle.scan77.specs.declared.word.Word.{Word}
use Rattle.scan77.specs.declared.word.Word.TheVariants as word
use Rattle.tree77.specs.Kinds.{Kind, format, loop, assign, keyword, unsupported, refused_function, nothing}

-- the keywords of accepted statements, with their characters
abbrev pub accepted_words : List (Word × List ℕ)
accepted_words =
    (word.Program, codes "PROGRAM")
    ∷ (word.Subroutine, codes "SUBROUTINE")
    ∷ (word.Function, codes "FUNCTION")
    ∷ (word.BlockData, codes "BLOCKDATA")
    ∷ (word.Implicit, codes "IMPLICIT")
    ∷ (word.Parameter, codes "PARAMETER")
    ∷ (word.Integer, codes "INTEGER")
    ∷ (word.Logical, codes "LOGICAL")
    ∷ (word.Character, codes "CHARACTER")
    ∷ (word.Dimension, codes "DIMENSION")
    ∷ (word.Common, codes "COMMON")
    ∷ (word.Equivalence, codes "EQUIVALENCE")
    ∷ (word.External, codes "EXTERNAL")
    ∷ (word.Intrinsic, codes "INTRINSIC")
    ∷ (word.Save, codes "SAVE")
    ∷ (word.Data, codes "DATA")
    ∷ (word.Format, codes "FORMAT")
    ∷ (word.GoTo, codes "GOTO")
    ∷ (word.If, codes "IF")
    ∷ (word.ElseIf, codes "ELSEIF")
    ∷ (word.Else, codes "ELSE")
    ∷ (word.EndIf, codes "ENDIF")
    ∷ (word.Do, codes "DO")
    ∷ (word.Continue, codes "CONTINUE")
    ∷ (word.Stop, codes "STOP")
    ∷ (word.End, codes "END")
    ∷ (word.Call, codes "CALL")
    ∷ (word.Return, codes "RETURN")
    ∷ (word.Read, codes "READ")
    ∷ (word.Write, codes "WRITE")
    ∷ (word.Print, codes "PRINT")
    ∷ (word.Open, codes "OPEN")
    ∷ (word.Close, codes "CLOSE")
    ∷ (word.Rewind, codes "REWIND")
    ∷ []

-- the keywords of other statements, with their characters
abbrev pub refused_words : List (Word × List ℕ)
refused_words =
    (word.Real, codes "REAL")
    ∷ (word.DoublePrecision, codes "DOUBLEPRECISION")
    ∷ (word.Complex, codes "COMPLEX")
    ∷ (word.Entry, codes "ENTRY")
    ∷ (word.Pause, codes "PAUSE")
    ∷ (word.Inquire, codes "INQUIRE")
    ∷ (word.Backspace, codes "BACKSPACE")
    ∷ (word.EndFile, codes "ENDFILE")
    ∷ (word.Include, codes "INCLUDE")
    ∷ (word.Namelist, codes "NAMELIST")
    ∷ (word.Assign, codes "ASSIGN")
    ∷ (word.DoWhile, codes "DOWHILE")
    ∷ (word.EndDo, codes "ENDDO")
    ∷ (word.ImplicitNone, codes "IMPLICITNONE")
    ∷ []

-- labels and characters of statements, with their kinds
abbrev pub kinds : List ((ℕ × List ℕ) × Kind)
kinds =
    -- a FORMAT has a label
    ((10, codes "FORMAT(I3)"), format)
    ∷ ((0, codes "FORMAT(I3)"), keyword (codes "FORMAT"))
    ∷ ((10, codes "FORMAT(I3)=1"), format)
    ∷ ((0, codes "FORMAT(I3)=1"), assign)
    -- a DO has a comma behind the equals sign
    ∷ ((0, codes "DO10I=1,5"), loop)
    ∷ ((0, codes "DO10,I=1,5"), loop)
    ∷ ((0, codes "DO10I=15"), assign)
    ∷ ((0, codes "DO10I=A(1,5)"), assign)
    ∷ ((0, codes "DOI=1,5"), assign)
    ∷ ((0, codes "DO10WHILE(L)"), unsupported (codes "DOWHILE"))
    -- a name, none, one or two groups, and an equals sign
    ∷ ((0, codes "I=1"), assign)
    ∷ ((0, codes "IF(1)=2"), assign)
    ∷ ((0, codes "C(I)(2:3)=D"), assign)
    ∷ ((0, codes "END=1"), assign)
    ∷ ((0, codes "IF(I.EQ.1)GOTO10"), keyword (codes "IF"))
    ∷ ((0, codes "IF(I.EQ.1)J=2"), keyword (codes "IF"))
    -- FUNCTION behind a type
    ∷ ((0, codes "INTEGERFUNCTIONF(A,B)"), keyword (codes "FUNCTION"))
    ∷ ((0, codes "CHARACTER*(5)FUNCTIONF()"), keyword (codes "FUNCTION"))
    ∷ ((0, codes "INTEGERFUNCTIONF(1)"), keyword (codes "INTEGER"))
    ∷ ((0, codes "REALFUNCTIONF(A)"), refused_function (codes "REAL"))
    ∷ ((0, codes "DOUBLEPRECISIONFUNCTIONF(A)"), refused_function (codes "DOUBLEPRECISION"))
    -- the longest keyword
    ∷ ((0, codes "PROGRAMT"), keyword (codes "PROGRAM"))
    ∷ ((0, codes "END"), keyword (codes "END"))
    ∷ ((0, codes "ENDIF"), keyword (codes "ENDIF"))
    ∷ ((0, codes "ENDFILE10"), unsupported (codes "ENDFILE"))
    ∷ ((0, codes "ENDDO"), unsupported (codes "ENDDO"))
    ∷ ((0, codes "ELSEIF(L)THEN"), keyword (codes "ELSEIF"))
    ∷ ((0, codes "IMPLICITNONE"), unsupported (codes "IMPLICITNONE"))
    ∷ ((0, codes "CONTINUE"), keyword (codes "CONTINUE"))
    ∷ ((0, codes "STOP"), keyword (codes "STOP"))
    ∷ ((0, codes "PAUSE"), unsupported (codes "PAUSE"))
    -- no keyword
    ∷ ((0, codes "X"), nothing)
    ∷ ((0, codes "1=I"), nothing)
    ∷ []
