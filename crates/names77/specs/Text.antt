-- The statements of a unit in the order of the text.
use Rattle.std.specs.Prelude.{ℕ, nat_lt, List, [], ◌∷◌, ◌++◌, if◌then◌else◌}
use Rattle.unit77.specs.Tree.{Line, flat}
use Rattle.unit77.specs.Programs.{ProgramUnit}

-- a statement, and those behind it, among the statements of another list
abbrev pub front : Line → (List Line → List Line) → List Line → List Line
front x rest [] = x ∷ rest []
front x rest (y ∷ ys) = if nat_lt y.number x.number then y ∷ front x rest ys else x ∷ rest (y ∷ ys)

-- two lists, each in the order of the text, as one
abbrev pub merged : List Line → List Line → List Line
merged [] ys = ys
merged (x ∷ xs) ys = front x (merged xs) ys

-- all statements of a unit but its END
abbrev pub text_of : ProgramUnit → List Line
text_of u = u.headers ++ merged (merged u.declared u.functions) (flat u.items)

-- ---- merging, as one list waits until a statement of the other is taken

-- the first statements that don't stand behind a number, and the others
abbrev pub first_lines : ℕ → List Line → List Line
first_lines n [] = []
first_lines n (x ∷ xs) = if nat_lt n x.number then [] else x ∷ first_lines n xs

abbrev pub other_lines : ℕ → List Line → List Line
other_lines n [] = []
other_lines n (x ∷ xs) = if nat_lt n x.number then x ∷ xs else other_lines n xs
