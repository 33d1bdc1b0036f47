-- Written programs and maps that aren't right for the program that assigns 1 to I.
use Rattle.std.specs.Prelude.{ℕ, List, [], ◌∷◌, codes}
use Rattle.text_base.specs.Trees.{name, assign}
use Rattle.text_base.specs.Values.{integers}
use Rattle.program77.specs.Layout.{layout_of}
use Rattle.program77.specs.Meaning.{run77}
use Rattle.tree90.specs.Tree.{simple, Code, done, item, integer_object, FreeProgram}
use Rattle.tree90.specs.Meaning.{run90}
use Rattle.project_set.specs.MapText.{MapLine}
use Rattle.project_set.specs.Match.{IsMap, Matches}
use Rattle.worked_examples.specs.Read.{number, short_program}
use Rattle.worked_examples.specs.Runs.{object}

-- a program T with the one variable I
abbrev with_i : Code → FreeProgram
with_i code = record {
  units = record { head = []; name = codes "T"; inner = []; declared = integer_object (codes "I") ∷ []; code = code; tail = [] } ∷ [];
  tail = [];
}

-- one that assigns another value, and one that assigns none
abbrev pub other_value : FreeProgram
other_value = with_i (item [] (simple (assign (name (codes "I")) (number 2))) done)

abbrev pub no_value : FreeProgram
no_value = with_i done

-- where I begins with 0, by no map the written program matches after any number of statements
abbrev pub NeverMatches : FreeProgram → Type 0
NeverMatches written = (lines : List MapLine) (m : ℕ) → IsMap (layout_of short_program) written lines
    → Matches (layout_of short_program) lines (run77 short_program 1) (run90 (object (codes "I") 0 ∷ []) written m) → ⊥

-- the line of I, with the place that it stands at
abbrev pub line_at : ℕ → MapLine
line_at place = record { sequence = codes "T.I"; first = 0; count = 1; kind = integers; home = codes "T"; object = codes "I"; at = place }

-- the line of I, with another object
abbrev pub line_to : List ℕ → MapLine
line_to x = record (line_at 1) { object = x }

abbrev pub IsNoMap : List MapLine → Type 0
IsNoMap lines = IsMap (layout_of short_program) other_value lines → ⊥
