-- The forms of declarations, behind their keywords.
use Rattle.std.specs.Prelude.{pos, ℕ, nat_le, List, [], ◌∷◌, length, codes, Option, Some, None, if◌then◌else◌}
use Rattle.std.specs.Option.{option_map}
use Rattle.text_base.specs.Trees as e
use Rattle.text_base.specs.Trees.{Expr, int}
use Rattle.tree77.specs.FormWords.{made, behind, flag, listed, unsupported, expression, designator, constant, integer}
use Rattle.tree77.specs.Forms.{Form, one, text, nothing, mark, word, name, numeral, number, inside, both, choice, told, perhaps, repeated, seen, judged, refused, small_or_0}
use Rattle.tree77.specs.Lexemes as lexeme
use Rattle.tree77.specs.Lexemes.{Part, part_of}
use Rattle.tree77.specs.ListForms.{data_object}
use Rattle.tree77.specs.Statements as s
use Rattle.tree77.specs.Statements.{Type77, Length, Dimension, Declarator, Equation, Letters, Implicit, Block, Saved, Times, Value, DataGroup, Declared, listeds_of}

-- ---- dimensions (X3.9 section 5.1)

-- an upper bound, which may be `*`
abbrev pub upper_bound : Form (Option Expr)
upper_bound = choice (codes "*") (made (λ x. None) (mark 42)) (made Some expression)

-- `[e :] e`, `[e :] *`
abbrev pub dimension_of : Expr → Option (Option Expr) → Dimension
dimension_of x None = record { lower = None; upper = Some x }
dimension_of x (Some to) = record { lower = Some x; upper = to }

abbrev pub one_dimension : Form Dimension
one_dimension = choice (codes "*") (made (λ x. record { lower = None; upper = None }) (mark 42)) (made (λ p. dimension_of p.0 p.1) (both expression (perhaps 58 upper_bound)))

-- seven dimensions at most
abbrev pub up_to_seven : List Dimension → Option (List Dimension)
up_to_seven xs = if nat_le (length xs) 7 then Some xs else None

abbrev pub dimensions : Form (List Dimension)
dimensions = seen up_to_seven (inside (listed one_dimension))

-- dimensions in parentheses, or none
abbrev pub some_dimensions : Form (List Dimension)
some_dimensions = choice (codes "(") dimensions (nothing [])

-- `name [(dimensions)]`
abbrev pub declarator : Form Declarator
declarator = made (λ p. record { name = p.0; dimensions = p.1; length = None }) (both name some_dimensions)

-- ---- lengths (X3.9 section 8.4.2)

abbrev pub length_inside : Form Length
length_inside = choice (codes "*") (made (λ x. s.assumed) (mark 42)) (made s.given expression)

-- what stands for a real constant, which is refused
abbrev pub zero_length : Length
zero_length = s.given (int (pos 0))

-- digits, or none
abbrev pub some_digits : Form (Unit {0})
some_digits = choice (codes "0") (made (λ w. tt {0}) numeral) (nothing (tt {0}))

-- Digits are an integer constant; with a point behind them, and digits or none behind that, they are a real constant, which is
-- refused.
abbrev pub number_or_real : List ℕ → Option (Unit {0}) → Length × List Part
number_or_real w None = (s.given (int (pos (small_or_0 w))), part_of 0 (lexeme.integer w))
number_or_real w (Some e) = (zero_length, unsupported (codes "CONSTANT") ∷ [])

abbrev pub digits_first : Form Length
digits_first = judged (λ p. Some (number_or_real p.0 p.1)) (both numeral (perhaps 46 some_digits))

abbrev pub point_first : Form Length
point_first = refused (unsupported (codes "CONSTANT")) (made (λ p. zero_length) (both (mark 46) numeral))

-- an integer constant, for which a real constant may stand; behind its digits a name may stand
abbrev pub plain_length : Form Length
plain_length = choice (codes ".") point_first digits_first

-- the length of a type, behind its star: an integer constant, or an expression or a star in parentheses
abbrev pub type_length : Form Length
type_length = choice (codes "(") (inside length_inside) plain_length

-- the own length of a name, behind its star
abbrev pub own_length : Form Length
own_length = told (one (codes "(")) (inside length_inside) (made s.given (integer (codes ",")))

-- the length of a type that has none, which is refused
abbrev pub refused_length : Form Length
refused_length = refused (unsupported (codes "LENGTH")) type_length

-- ---- types (X3.9 section 8.4)

-- a length, and a comma that may stand behind it
abbrev pub separated : Form Length → Form Length
separated f = made (λ p. p.0) (both f (flag 44))

-- INTEGER and LOGICAL: `[*length [,]] name [(dimensions)], ..`, of which a length is refused
abbrev pub names_of_type : Form (List Declarator)
names_of_type = made (λ p. p.1) (both (perhaps 42 (separated refused_length)) (listed declarator))

abbrev pub integers : Form Declared
integers = made (s.typed s.integer_type) names_of_type

abbrev pub logicals : Form Declared
logicals = made (s.typed s.logical_type) names_of_type

-- `name [(dimensions)] [*length]`
abbrev pub character_declarator : Form Declarator
character_declarator = made (λ p. record { name = p.0; dimensions = p.1.0; length = p.1.1 }) (both name (both some_dimensions (perhaps 42 own_length)))

-- CHARACTER: `[*length [,]] name [(dimensions)] [*length], ..`
abbrev pub characters : Form Declared
characters = made (λ p. s.typed (s.character_type p.0) p.1) (both (perhaps 42 (separated type_length)) (listed character_declarator))

-- the length of a type before FUNCTION (X3.9 section 15.5.1), of which `*(*)` is refused
abbrev pub function_inside : Form Length
function_inside = choice (codes "*") (refused (unsupported (codes "LENGTH")) (made (λ x. s.assumed) (mark 42))) (made s.given expression)

abbrev pub function_length : Form Length
function_length = choice (codes "(") (inside function_inside) (made (λ n. s.given (int (pos n))) number)

-- what stands between a type and FUNCTION
abbrev pub integer_size : Form Type77
integer_size = made (λ l. s.integer_type) (perhaps 42 (refused (unsupported (codes "LENGTH")) function_length))

abbrev pub logical_size : Form Type77
logical_size = made (λ l. s.logical_type) (perhaps 42 (refused (unsupported (codes "LENGTH")) function_length))

abbrev pub character_size : Form Type77
character_size = made s.character_type (perhaps 42 function_length)

-- ---- IMPLICIT (X3.9 section 8.5)

abbrev pub letter_of : List ℕ → Option ℕ
letter_of (c ∷ []) = Some c
letter_of _ = None

abbrev pub letter : Form ℕ
letter = seen letter_of name

-- `a`, `a-b`, in alphabetical order
abbrev pub letters_of : ℕ → Option ℕ → Option Letters
letters_of a None = Some (record { from = a; to = a })
letters_of a (Some b) = if nat_le a b then Some (record { from = a; to = b }) else None

abbrev pub letters : Form Letters
letters = seen (λ p. letters_of p.0 p.1) (both letter (perhaps 45 letter))

-- a word of a type, behind which a length, a parenthesis or nothing stands, or another form
abbrev pub type_word : List ℕ → Form Type77 → Form Type77 → Form Type77
type_word w f g = told (text w (0 ∷ codes "(*")) (made (λ p. p.1) (both (word w) f)) g

abbrev pub no_length : Form (Option Length)
no_length = perhaps 42 refused_length

-- a type that is refused, for which INTEGER stands
abbrev pub refused_type : List ℕ → Form Type77
refused_type w = refused (unsupported w) (made (λ p. s.integer_type) (both (word w) (perhaps 42 type_length)))

abbrev pub refused_word : List ℕ → Form Type77 → Form Type77
refused_word w g = told (text w (0 ∷ codes "(*")) (refused_type w) g

abbrev pub implicit_type : Form Type77
implicit_type =
    type_word (codes "INTEGER") (made (λ l. s.integer_type) no_length)
    (type_word (codes "LOGICAL") (made (λ l. s.logical_type) no_length)
    (type_word (codes "CHARACTER") (made s.character_type (perhaps 42 type_length))
    (refused_word (codes "REAL") (refused_word (codes "DOUBLEPRECISION") (refused_type (codes "COMPLEX"))))))

-- `IMPLICIT type (letters, ..), ..`
abbrev pub implicit : Form Declared
implicit = made s.implicit (listed (made (λ p. record { type = p.0; letters = p.1 }) (both implicit_type (inside (listed letters)))))

-- ---- others

-- `PARAMETER (name = e, ..)` (X3.9 section 8.6)
abbrev pub equation : Form Equation
equation = made (λ p. record { name = p.0; value = p.1 }) (both name (behind 61 expression))

abbrev pub parameter : Form Declared
parameter = made s.parameter (inside (listed equation))

-- `DIMENSION name (dimensions), ..` (X3.9 section 8.1)
abbrev pub array_declarator : Form Declarator
array_declarator = made (λ p. record { name = p.0; dimensions = p.1; length = None }) (both name dimensions)

abbrev pub dimension : Form Declared
dimension = made s.dimension (listed array_declarator)

-- `/[block]/` (X3.9 section 8.3)
abbrev pub block : Form (Option (List ℕ))
block = made (λ p. p.1.0) (both (mark 47) (both (choice (codes "A") (made Some name) (nothing None)) (mark 47)))

-- a member of COMMON, and the block that begins with it, if one does
pub record Member : Type 0 where
  pub block : Option (Option (List ℕ))
  pub declared : Declarator

abbrev pub first_member : Form Member
first_member = made (λ p. record { block = Some p.0; declared = p.1 }) (both block declarator)

abbrev pub member : Form Member
member = choice (codes "/") first_member (made (λ d. record { block = None; declared = d }) declarator)

-- one member more, before the members of no block yet and the blocks behind them
abbrev pub add_member : Option (Option (List ℕ)) → Declarator → List Declarator × List Block → List Declarator × List Block
add_member None d p = (d ∷ p.0, p.1)
add_member (Some b) d p = ([], record { name = b; members = d ∷ p.0 } ∷ p.1)

-- the members before the first block, and the blocks
abbrev pub in_blocks : List Member → List Declarator × List Block
in_blocks [] = ([], [])
in_blocks (m ∷ ms) = add_member m.block m.declared (in_blocks ms)

-- the block that a first member is of: blank COMMON, where no other block begins with it
abbrev pub or_blank : Option (Option (List ℕ)) → Option (List ℕ)
or_blank None = None
or_blank (Some b) = b

abbrev pub blocks_of : Member → List Member → List Block
blocks_of m ms = (add_member (Some (or_blank m.block)) m.declared (in_blocks ms)).1

-- `COMMON [/[block]/] list [[,] /[block]/ list] ..`
abbrev pub common : Form Declared
common = made (λ p. s.common (blocks_of p.0 p.1)) (both member (repeated (codes ",/") (choice (codes ",") (behind 44 member) first_member)))

-- two or more
abbrev pub two_or_more : List Expr → Option (List Expr)
two_or_more (x ∷ y ∷ xs) = Some (x ∷ y ∷ xs)
two_or_more _ = None

-- `EQUIVALENCE (list), ..` (X3.9 section 8.2)
abbrev pub equivalence : Form Declared
equivalence = made s.equivalence (listed (seen two_or_more (inside (listed (designator (codes "),=:"))))))

-- `EXTERNAL name, ..`, `INTRINSIC name, ..` (X3.9 sections 8.7 and 8.8)
abbrev pub external : Form Declared
external = made s.external (listed name)

abbrev pub intrinsic : Form Declared
intrinsic = made s.intrinsic (listed name)

-- `SAVE [list]`; a member is a name or a block (X3.9 section 8.9)
abbrev pub saved : Form Saved
saved = choice (codes "/") (made (λ p. s.saved_block p.1.0) (both (mark 47) (both name (mark 47)))) (made s.saved_name name)

abbrev pub save : Form Declared
save = choice (codes "/A") (made s.save (listed saved)) (nothing (s.save []))

-- ---- DATA (X3.9 section 9)

-- how often a constant counts: an integer constant or the name of one
abbrev pub times_of : Expr → Option Times
times_of (e.int n) = Some (s.number_times n)
times_of (e.name x) = Some (s.name_times x)
times_of _ = None

abbrev pub value_of : Expr → Option Expr → Option Value
value_of x None = Some (record { times = s.once; constant = x })
value_of x (Some y) = option_map (λ t. record { times = t; constant = y }) (times_of x)

abbrev pub data_constant : Form Expr
data_constant = constant (codes ",/*")

-- a constant, which may stand behind `r*`
abbrev pub value : Form Value
value = seen (λ p. value_of p.0 p.1) (both data_constant (perhaps 42 data_constant))

-- `objects / values /`
abbrev pub data_group : ℕ → Form DataGroup
data_group n = made (λ p. record { objects = listeds_of p.0; values = p.1.1.0 }) (both (listed (data_object n)) (both (mark 47) (both (listed value) (mark 47))))

-- the same behind a comma or none
abbrev pub next_group : ℕ → Form DataGroup
next_group n = made (λ p. p.1) (both (flag 44) (data_group n))

abbrev pub data_ : ℕ → Form Declared
data_ n = made (λ p. s.data_ (p.0 ∷ p.1)) (both (data_group n) (repeated (codes ",A0'(.+-") (next_group n)))
