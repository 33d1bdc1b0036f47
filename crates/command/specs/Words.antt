-- The words of the command line, and the command that they form.
use Rattle.std.specs.Prelude.{ℕ, Bool, false, not, ◌&&◌, ◌==◌, List, [], ◌∷◌, ◌++◌, map, codes, Option, Some, None, String, string_bytes, if◌then◌else◌}
use Rattle.std.specs.declared.alloc.Global.{Global}
use Rattle.std.specs.Str.{bytes_eq}
use Rattle.std.specs.List.{list_any}

-- the words, as bytes
abbrev pub words_of : List (String Global) → List (List ℕ)
words_of words = map string_bytes words

-- `one FILE OUT`
pub record Command : Type 0 where
  pub file : List ℕ
  pub out : List ℕ

abbrev pub map_name : List ℕ → List ℕ
map_name out = out ++ codes ".map"

abbrev pub report_name : List ℕ → List ℕ
report_name out = out ++ codes ".report"

-- the names that are written, in their order
abbrev pub output_names : List ℕ → List (List ℕ)
output_names out = out ∷ map_name out ∷ report_name out ∷ []

-- a word that isn't empty and doesn't begin with a dash
abbrev pub is_operand : List ℕ → Bool
is_operand [] = false
is_operand (first ∷ rest) = not (first == 45)

-- two operands, where no output has the file's name
abbrev pub are_operands : List ℕ → List ℕ → Bool
are_operands file out = is_operand file && is_operand out && not (list_any (bytes_eq file) (output_names out))

-- the command, where the words have its form
abbrev pub form : List (List ℕ) → Option Command
form (mode ∷ file ∷ out ∷ []) = if bytes_eq mode (codes "one") && are_operands file out then Some (record { file = file; out = out }) else None
form words = None
