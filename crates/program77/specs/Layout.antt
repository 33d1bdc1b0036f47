-- Where the variables of a program stand in storage sequences (X3.9 section 2.13).
use Rattle.std.specs.Prelude.{ℕ, ◌+◌, Bool, false, ◌&&◌, ◌==◌, List, [], ◌∷◌, ◌++◌, map, take, sum_by, Option, Some, None, if◌then◌else◌}
use Rattle.std.specs.List.{enumerate_from}
use Rattle.std.specs.Str.{bytes_eq}
use Rattle.text_base.specs.Values.{Kind, integers}
use Rattle.program77.specs.Tree.{SourceUnit, SourceProgram}
use Rattle.program77.specs.Typing.{variables}

-- a local sequence has the number of its unit, and its first entity by appearance
pub data Home : Type 0 where
  local : ℕ → List ℕ → Home

-- a storage sequence: whether its places are those of characters, and how many they are
pub record Sequence : Type 0 where
  pub home : Home
  pub has_text : Bool
  pub count : ℕ

-- an entity with storage: its unit's number, its name, where it begins, the type by which it sees its places, and how many they are
pub record Entity : Type 0 where
  pub unit : ℕ
  pub name : List ℕ
  pub sequence : ℕ
  pub offset : ℕ
  pub kind : Kind
  pub count : ℕ

-- the names of the units, the sequences by number, and the entities
pub record Layout : Type 0 where
  pub units : List (List ℕ)
  pub sequences : List Sequence
  pub entities : List Entity

-- the variables of the units in order, each with the number of its unit
abbrev pub variables_from : ℕ → List SourceUnit → List (ℕ × List ℕ)
variables_from u [] = []
variables_from u (unit ∷ units) = map (λ x. (u, x)) (variables unit) ++ variables_from (u + 1) units

-- each variable is a sequence of its own, of one place
abbrev pub sequence_of : ℕ × List ℕ → Sequence
sequence_of v = record { home = local v.0 v.1; has_text = false; count = 1 }

abbrev pub entity_of : ℕ × (ℕ × List ℕ) → Entity
entity_of e = record { unit = e.1.0; name = e.1.1; sequence = e.0; offset = 0; kind = integers; count = 1 }

-- the one placing of a program
abbrev pub layout_of : SourceProgram → Layout
layout_of p = let all = variables_from 0 p.units in record {
  units = map (λ (unit : SourceUnit). unit.name) p.units;
  sequences = map sequence_of all;
  entities = map entity_of (enumerate_from 0 all);
}

-- how many numeric places a sequence has, and how many character places
abbrev pub numeric_count : Sequence → ℕ
numeric_count s = if s.has_text then 0 else s.count

abbrev pub text_count : Sequence → ℕ
text_count s = if s.has_text then s.count else 0

-- The number, in the store, of the place that has this offset in this sequence. The sequences stand one after
-- another, numeric ones and those of characters apart.
abbrev pub numeric_place : Layout → ℕ → ℕ → ℕ
numeric_place layout sequence offset = sum_by numeric_count (take sequence layout.sequences) + offset

abbrev pub text_place : Layout → ℕ → ℕ → ℕ
text_place layout sequence offset = sum_by text_count (take sequence layout.sequences) + offset

-- the entity of a unit that has this name
abbrev pub entity_named : List Entity → ℕ → List ℕ → Option Entity
entity_named [] unit x = None
entity_named (e ∷ es) unit x = if e.unit == unit && bytes_eq e.name x then Some e else entity_named es unit x
