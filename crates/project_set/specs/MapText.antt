-- The map: where each place of the source's storage stands in the written program.
use Rattle.std.specs.Prelude.{ℕ, List, [], ◌++◌, codes, decimal, map, flat_map, slice_get, Option, unwrap_or}
use Rattle.std.specs.Option.{option_map}
use Rattle.program77.specs.Tree.{SourceUnit, SourceProgram}
use Rattle.text_base.specs.Values.{Kind, integers, logicals, characters}
use Rattle.program77.specs.Layout.{Home, local, Sequence, Layout, variables_from}

-- A line: places of a sequence, from the first on, seen with a kind, stand in an object of a written unit,
-- from a place on that is counted from 1.
pub record MapLine : Type 0 where
  pub sequence : List ℕ
  pub first : ℕ
  pub count : ℕ
  pub kind : Kind
  pub home : List ℕ
  pub object : List ℕ
  pub at : ℕ

abbrev pub kind_text : Kind → List ℕ
kind_text integers = codes "I"
kind_text logicals = codes "L"
kind_text characters = codes "C"

abbrev pub map_line_text : MapLine → List ℕ
map_line_text l =
    l.sequence ++ codes " " ++ decimal l.first ++ codes " " ++ decimal l.count ++ codes " " ++ kind_text l.kind ++ codes " "
    ++ l.home ++ codes ":" ++ l.object ++ codes " " ++ decimal l.at ++ codes "\n"

abbrev pub map_text : List MapLine → List ℕ
map_text ls = flat_map map_line_text ls

-- a local sequence is named by its unit and its first entity
abbrev pub home_text : List (List ℕ) → Home → List ℕ
home_text units (local unit x) = unwrap_or (slice_get units unit) [] ++ codes "." ++ x

-- the name of the sequence of this number
abbrev pub sequence_text : Layout → ℕ → Option (List ℕ)
sequence_text layout sequence = option_map (λ (s : Sequence). home_text layout.units s.home) (slice_get layout.sequences sequence)

-- a variable is its own sequence, and the object of its name in its unit
abbrev pub map_line_of : List (List ℕ) → ℕ × List ℕ → MapLine
map_line_of units v = record {
  sequence = home_text units (local v.0 v.1);
  first = 0;
  count = 1;
  kind = integers;
  home = unwrap_or (slice_get units v.0) [];
  object = v.1;
  at = 1;
}

abbrev pub map_lines : SourceProgram → List MapLine
map_lines p = map (map_line_of (map (λ (u : SourceUnit). u.name) p.units)) (variables_from 0 p.units)

-- the line of a variable of the unit of this name
abbrev pub line_of : List ℕ → List ℕ → MapLine
line_of unit x = record { sequence = unit ++ codes "." ++ x; first = 0; count = 1; kind = integers; home = unit; object = x; at = 1 }

-- the lines of these variables of the unit of this name
abbrev pub lines_text : List ℕ → List (List ℕ) → List ℕ
lines_text unit names = map_text (map (line_of unit) names)
