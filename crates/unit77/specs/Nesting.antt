-- Which nested lists a unit may have (X3.9 sections 11.5 to 11.10). `open_` are the statements that the DOs and arms begin with
-- in which a place stands, the innermost first.
use Rattle.std.specs.Prelude.{◌≡◌, ◌⊎◌, ◌==◌, ◌||◌, ℕ, Bool, true, false, List, [], ◌∷◌}
use Rattle.tree77.specs.Statements.{Statement, header, declared, statement_function, end}
use Rattle.order77.specs.declared.mark.Sort.{Sort}
use Rattle.order77.specs.declared.mark.Sort.TheVariants.{Plain, Leaving, Do, If, ElseIf, Else, EndIf}
use Rattle.order77.specs.declared.mark.Mark.{Mark}
use Rattle.order77.specs.Counts.{sort_of}
use Rattle.unit77.specs.Tree.{Line, Items, done, simple, loop, block, Arms, last, arm, first_line, flat}

-- it is executable, and not END (X3.9 section 7.1)
abbrev pub is_executable : Statement → Bool
is_executable (header h) = false
is_executable (declared d) = false
is_executable (statement_function f ds x) = false
is_executable end = false
is_executable _ = true

abbrev pub sort : Line → Sort
sort l = sort_of l.statement

-- an executable statement as nesting sees it
abbrev pub mark : Line → Mark
mark l = record { number = l.number; label = l.label; sort = sort l }

-- a DO whose terminal statement has the label
abbrev pub names : ℕ → Sort → Bool
names k (Do t) = t == k
names k _ = false

-- some open DO names the label
abbrev pub named : ℕ → List Mark → Bool
named k [] = false
named k (h ∷ hs) = names k h.sort || named k hs

-- the innermost open construct is a DO that names the label
abbrev pub innermost : ℕ → List Mark → Bool
innermost k [] = false
innermost k (h ∷ hs) = names k h.sort

-- an arm that may stand behind an arm
abbrev pub Follows : Sort → Sort → Type 0
Follows h next = ((h ≡ If) ⊎ (h ≡ ElseIf)) × ((next ≡ ElseIf) ⊎ (next ≡ Else))

-- no open DO names the statement's label
abbrev pub Free : List Mark → Line → Type 0
Free open_ l = named l.label open_ ≡ false

abbrev mutual
  -- A list. That of a DO, whose statement is the innermost one, ends with its terminal statement, or with a DO that shares it;
  -- nowhere else stands the label of an open DO, nor a DO with the same label.
  pub Nests : Bool → List Mark → Items → Type 0
  Nests of_loop open_ done = of_loop ≡ false
  Nests of_loop open_ (simple l more) =
      ((((sort l ≡ Plain) ⊎ (sort l ≡ Leaving)) × Free open_ l) × Nests of_loop open_ more)
      ⊎ ((of_loop ≡ true) × (sort l ≡ Plain) × (innermost l.label open_ ≡ true) × (more ≡ done))
  Nests of_loop open_ (loop l inside more) =
      (t : ℕ) × (sort l ≡ Do t) × Free open_ l × Nests true (mark l ∷ open_) inside
      × (((named t open_ ≡ false) × Nests of_loop open_ more) ⊎ ((of_loop ≡ true) × (innermost t open_ ≡ true) × (more ≡ done)))
  Nests of_loop open_ (block arms e more) =
      (sort (first_line arms) ≡ If) × Free open_ (first_line arms) × NestsArms open_ arms × (sort e ≡ EndIf) × Nests of_loop open_ more

  pub NestsArms : List Mark → Arms → Type 0
  NestsArms open_ (last h is) = Nests false (mark h ∷ open_) is
  NestsArms open_ (arm h is more) = Nests false (mark h ∷ open_) is × Follows (sort h) (sort (first_line more)) × NestsArms open_ more

-- the statements nest to the items
abbrev pub IsNesting : List Line → Items → Type 0
IsNesting lines items = (flat items ≡ lines) × Nests false [] items
