-- When the storage of the source and the objects of the written program hold the same, by a map.
use Rattle.std.specs.Prelude.{◌≡◌, ℕ, ℤ, ◌+◌, ◌-◌, ◌<◌, ◌≤◌, ◌&&◌, Bool, not, nat_lt, List, Contains, slice_get, Option, Some, None, if◌then◌else◌}
use Rattle.std.specs.Option.{option_and_then}
use Rattle.text_base.specs.Values.{Held, holds_integer, holds_logical, Kind, integers, logicals, characters}
use Rattle.text_base.specs.Runs.{Final, going, ended, fault}
use Rattle.program77.specs.Tree.{SourceProgram}
use Rattle.program77.specs.Layout.{Sequence, Entity, Layout, layout_of, numeric_place, text_place}
use Rattle.program77.specs.Meaning.{Store, run77}
use Rattle.tree90.specs.Tree.{Declared, integer_object, FreeProgram}
use Rattle.tree90.specs.Proper.{declared_name}
use Rattle.tree90.specs.Meaning.{Objects, object_integer, object_logical, object_byte, declared_in, IsStart, run90}
use Rattle.project_set.specs.MapText.{MapLine, sequence_text}

-- some entity sees the place with the kind
pub record IsSeen (layout : Layout) (sequence offset : ℕ) (kind : Kind) : Type 0 where
  pub entity : Entity
  pub placed : Contains layout.entities entity
  pub in_sequence : entity.sequence ≡ sequence
  pub from : entity.offset ≤ offset
  pub to : offset < entity.offset + entity.count
  pub with_kind : entity.kind ≡ kind

-- the line covers the place with the kind
pub record Covers (layout : Layout) (line : MapLine) (sequence offset : ℕ) (kind : Kind) : Type 0 where
  pub named : sequence_text layout sequence ≡ Some line.sequence
  pub from : line.first ≤ offset
  pub to : offset < line.first + line.count
  pub with_kind : line.kind ≡ kind

-- the place of the line's object that stands for the offset
abbrev pub object_place : MapLine → ℕ → ℕ
object_place line offset = line.at + (offset - line.first)

-- exactly one line covers the place with the kind
pub record OneLine (layout : Layout) (lines : List MapLine) (sequence offset : ℕ) (kind : Kind) : Type 0 where
  pub index : ℕ
  pub line : MapLine
  pub at : slice_get lines index ≡ Some line
  pub covers : Covers layout line sequence offset kind
  pub only : (other : ℕ) (that : MapLine) → slice_get lines other ≡ Some that → Covers layout that sequence offset kind → other ≡ index

-- a declared object has a place of this number, counted from 1, for values of the kind
abbrev pub HasPlace : Declared → Kind → ℕ → Type 0
HasPlace (integer_object x) integers place = place ≡ 1
HasPlace (integer_object x) logicals place = ⊥
HasPlace (integer_object x) characters place = ⊥

-- the place is one of an object of this name that a unit of the program declares
pub record IsObjectPlace (program : FreeProgram) (home object : List ℕ) (kind : Kind) (place : ℕ) : Type 0 where
  pub declared : Declared
  pub in_program : Contains (declared_in program) (home, declared)
  pub named : declared_name declared ≡ object
  pub has : HasPlace declared kind place

-- The line covers places that some entity sees with its kind, and nothing else, and each stands in a place of an object that
-- the program declares, of that kind.
pub record IsNeeded (layout : Layout) (program : FreeProgram) (line : MapLine) : Type 0 where
  pub some : 0 < line.count
  pub objects : (offset : ℕ) → line.first ≤ offset → offset < line.first + line.count → IsObjectPlace program line.home line.object line.kind (object_place line offset)
  pub sequence : ℕ
  pub named : sequence_text layout sequence ≡ Some line.sequence
  pub seen : (offset : ℕ) → line.first ≤ offset → offset < line.first + line.count → IsSeen layout sequence offset line.kind

-- A map of the layout to the program: for each place and each kind with which some entity sees it exactly one line covers the
-- place with that kind, there are no other lines, and different pairs of place and kind have different object places.
pub record IsMap (layout : Layout) (program : FreeProgram) (lines : List MapLine) : Type 0 where
  pub one_line : (sequence offset : ℕ) (kind : Kind) → IsSeen layout sequence offset kind → OneLine layout lines sequence offset kind
  pub no_other : (line : MapLine) → Contains lines line → IsNeeded layout program line
  pub apart : (s o s' o' : ℕ) (k k' : Kind) (line line' : MapLine) → Contains lines line → Contains lines line'
      → Covers layout line s o k → Covers layout line' s' o' k'
      → line.home ≡ line'.home → line.object ≡ line'.object → object_place line o ≡ object_place line' o'
      → (s ≡ s') × (o ≡ o') × (k ≡ k')

-- what a place of a sequence holds, if the sequence has it: a numeric one, and one of characters
abbrev pub held_in : List Held → ℕ → ℕ → Option Sequence → Option Held
held_in numbers place offset None = None
held_in numbers place offset (Some s) = if not s.has_text && nat_lt offset s.count then slice_get numbers place else None

abbrev pub held_at : Layout → Store → ℕ → ℕ → Option Held
held_at layout store sequence offset = held_in store.numbers (numeric_place layout sequence offset) offset (slice_get layout.sequences sequence)

abbrev pub byte_in : List (Option ℕ) → ℕ → ℕ → Option Sequence → Option ℕ
byte_in texts place offset None = None
byte_in texts place offset (Some s) = if s.has_text && nat_lt offset s.count then option_and_then (λ b. b) (slice_get texts place) else None

abbrev pub byte_held : Layout → Store → ℕ → ℕ → Option ℕ
byte_held layout store sequence offset = byte_in store.texts (text_place layout sequence offset) offset (slice_get layout.sequences sequence)

-- each place that holds an integer, a logical or a byte has that value in the object place of its line
pub record IsCarried (layout : Layout) (lines : List MapLine) (store : Store) (objects : Objects) : Type 0 where
  pub integer : (s o : ℕ) (v : ℤ) (line : MapLine) → held_at layout store s o ≡ Some (holds_integer v) → Contains lines line → Covers layout line s o integers
      → object_integer objects line.home line.object (object_place line o) ≡ Some v
  pub logical : (s o : ℕ) (b : Bool) (line : MapLine) → held_at layout store s o ≡ Some (holds_logical b) → Contains lines line → Covers layout line s o logicals
      → object_logical objects line.home line.object (object_place line o) ≡ Some b
  pub byte : (s o b : ℕ) (line : MapLine) → byte_held layout store s o ≡ Some b → Contains lines line → Covers layout line s o characters
      → object_byte objects line.home line.object (object_place line o) ≡ Some b

-- Unless the first has faulted, the second has the same defined storage contents, and has ended exactly where the
-- first has, with the same code.
abbrev pub Matches : Layout → List MapLine → Final Store → Final Objects → Type 0
Matches layout lines (going w) (going w') = IsCarried layout lines w w'
Matches layout lines (going w) (ended w' c') = ⊥
Matches layout lines (going w) (fault here' kind') = ⊥
Matches layout lines (ended w c) (going w') = ⊥
Matches layout lines (ended w c) (ended w' c') = IsCarried layout lines w w' × (c ≡ c')
Matches layout lines (ended w c) (fault here' kind') = ⊥
Matches layout lines (fault here kind) f = Unit {0}

-- By the map the written program does what the source does, whatever its objects hold at the start: for every n for which
-- the source runs n statements without fault there are m statements, n or more, after which the two match.
pub record DoesTheSame (source : SourceProgram) (written : FreeProgram) (lines : List MapLine) : Type 0 where
  pub is_map : IsMap (layout_of source) written lines
  pub follows : (start : Objects) → IsStart written start → (n : ℕ) → (m : ℕ) × (n ≤ m) × Matches (layout_of source) lines (run77 source n) (run90 start written m)
