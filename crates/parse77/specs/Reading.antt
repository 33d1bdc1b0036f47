-- The reading of a statement as a function: what it gives is what the statement spells, or why it is refused.
use Rattle.std.specs.Prelude.{ℕ, List, [], ◌∷◌, codes, take, flat_map, Option, Some, None, if◌then◌else◌}
use Rattle.std.specs.Option.{option_map, option_and_then}
use Rattle.std.specs.Str.{bytes_eq}
use Rattle.text_base.specs.Cards.{Card}
use Rattle.text_base.specs.Pieces.{Piece, piece_text}
use Rattle.text_base.specs.declared.limits.TheConstants.{MOST_SHOWN}
use Rattle.text_base.specs.declared.refusal.Cause.TheVariants.{NotAStatement}
use Rattle.tree77.specs.Forms.{ahead, one, text}
use Rattle.tree77.specs.FormTable as sort
use Rattle.tree77.specs.FormTable.{Sort}
use Rattle.tree77.specs.FormWords.{unsupported}
use Rattle.tree77.specs.Kinds as kind
use Rattle.tree77.specs.Kinds.{Kind, outline_of}
use Rattle.tree77.specs.Lexemes.{Part, first_lowest}
use Rattle.tree77.specs.Spelling.{Sorts, sort_in, keyword_sorts, size_sorts, stand_in, unread_function, shown_word}
use Rattle.tree77.specs.Statements as s
use Rattle.tree77.specs.Statements.{Statement, header, declared, simple, guarded, if_then}
use Rattle.scan77.specs.KindReading.{read_kind}
use Rattle.scan77.specs.PieceReading.{pieces_of}
use Rattle.scan77.specs.PieceSlice.{behind_plain, split_group, split_size}
use Rattle.expr77.specs.Gathering.{keep}
use Rattle.format77.specs.Reading.{format_of}
use Rattle.format77.specs.TextReading.{items_and_parts}
use Rattle.forms77.specs.Reading.{parts_in}
use Rattle.forms77.specs.Whole.{whole_of}

-- what pieces are read as, with the lowest part of them that is refused; nothing where they spell nothing, even with such parts
abbrev pub Read : Type 0
Read = Option (Statement × Option Part)

-- ---- statements but logical IF

-- behind a word: the form of a sort
abbrev pub read_behind : List ℕ → Sort → List Piece → Read
read_behind word k pieces = option_and_then (whole_of k) (behind_plain word pieces)

-- FORMAT
abbrev pub read_body : List Piece → Read
read_body pieces = option_map (λ r. (declared (s.format r.0), first_lowest r.1)) (items_and_parts (format_of 0 pieces))

abbrev pub read_format : List Piece → Read
read_format pieces = option_and_then read_body (behind_plain (codes "FORMAT") pieces)

-- a header with the type that stands before it
abbrev pub with_type : Statement → Statement → Option Statement
with_type (declared (s.typed t [])) (header (s.function None x ds)) = Some (header (s.function (Some t) x ds))
with_type _ _ = None

-- the lower of two parts, the first of equal ones
abbrev pub lower_of : Option Part → Option Part → Option Part
lower_of first second = keep first (parts_in second)

-- two parts of a statement as one, where they can be one
abbrev pub joined : (Statement → Statement → Option Statement) → Read → Read → Read
joined join first second = option_and_then (λ a. option_and_then (λ b. option_map (λ x. (x, lower_of a.1 b.1)) (join a.0 b.0)) second) first

-- behind a type: its length or none, FUNCTION, a name and dummies
abbrev pub read_sized : Sort → List Piece × List Piece → Read
read_sized k parts = joined with_type (whole_of k parts.0) (read_behind (codes "FUNCTION") sort.function_sort parts.1)

abbrev pub read_header : Sort → List Piece → Read
read_header k pieces = option_and_then (read_sized k) (split_size pieces)

-- behind the type, if it stands here, and else as the others say
abbrev pub behind_type : Option (List Piece) → Sort → Read → Read
behind_type None k others = others
behind_type (Some rest) k others = read_header k rest

-- the first of some types that stands here
abbrev pub read_typed : Sorts → List Piece → Read
read_typed [] pieces = None
read_typed (k ∷ ks) pieces = behind_type (behind_plain k.0 pieces) k.1 (read_typed ks pieces)

-- FUNCTION without a type, if it stands here, and else with one
abbrev pub untyped_or : Option (List Piece) → Read → Read
untyped_or None typed = typed
untyped_or (Some rest) typed = whole_of sort.function_sort rest

abbrev pub read_function : List Piece → Read
read_function pieces = untyped_or (behind_plain (codes "FUNCTION") pieces) (read_typed size_sorts pieces)

-- behind the condition of an IF: three labels, THEN, or what stands under it
abbrev pub read_branch : (List Piece → List Piece → Read) → List Piece → List Piece × List Piece → Read
read_branch under pieces parts =
    if ahead (one (codes "0")) parts.1 then whole_of sort.arithmetic_sort pieces
    else (if ahead (text (codes "THEN") (0 ∷ [])) parts.1 then whole_of sort.then_sort pieces
    else under parts.0 parts.1)

abbrev pub read_if : (List Piece → List Piece → Read) → List Piece → Read
read_if under pieces = option_and_then (λ rest. option_and_then (read_branch under rest) (split_group rest)) (behind_plain (codes "IF") pieces)

-- a statement that begins with this keyword
abbrev pub read_keyword : (List Piece → List Piece → Read) → List ℕ → List Piece → Read
read_keyword under word pieces =
    if bytes_eq word (codes "FUNCTION") then read_function pieces
    else (if bytes_eq word (codes "IF") then read_if under pieces
    else option_and_then (λ k. read_behind word k pieces) (sort_in keyword_sorts word))

-- a statement that is refused as a whole, with the word that its refusal shows
abbrev pub read_refused : Statement → List ℕ → Read
read_refused x word = Some (x, Some (unsupported word))

-- a statement of this kind; `under` reads what stands under a logical IF, by the condition and the pieces behind it
abbrev pub read_as : (List Piece → List Piece → Read) → Kind → List Piece → Read
read_as under kind.format pieces = read_format pieces
read_as under kind.loop pieces = read_behind (codes "DO") sort.do_sort pieces
read_as under kind.assign pieces = whole_of sort.assignment_sort pieces
read_as under (kind.keyword word) pieces = read_keyword under word pieces
read_as under (kind.unsupported word) pieces = read_refused (stand_in word) (shown_word word)
read_as under (kind.refused_function type) pieces = read_refused unread_function type
read_as under kind.nothing pieces = None

-- ---- logical IF

-- no statement of its own stands under a statement that is under a logical IF
abbrev pub no_other : List Piece → List Piece → Read
no_other front under = None

-- a condition with a simple statement
abbrev pub guards : Statement → Statement → Option Statement
guards (if_then e) (simple a) = Some (guarded e a)
guards _ _ = None

-- a condition, and the statement behind it
abbrev pub read_guarded : List Piece → List Piece → Read
read_guarded front under = joined guards (whole_of sort.condition_sort front) (read_as no_other (read_kind 0 (outline_of under)) under)

-- ---- all statements

-- the statement with this label that the pieces spell, with the lowest part of them that is refused
unfoldable pub read_statement : ℕ → List Piece → Read
read_statement label pieces = read_as read_guarded (read_kind label (outline_of pieces)) pieces

-- what is read, or why it is refused
pub data Outcome : Type 0 where
  accepted : Statement → Outcome
  rejected : Part → Outcome

abbrev pub unless_part : Statement → Option Part → Outcome
unless_part x None = accepted x
unless_part x (Some p) = rejected p

abbrev pub outcome_from : List Piece → Read → Outcome
outcome_from pieces None = rejected (record { cause = NotAStatement; shown = take MOST_SHOWN (flat_map piece_text pieces) })
outcome_from pieces (Some r) = unless_part r.0 r.1

abbrev pub outcome_of : ℕ → List Piece → Outcome
outcome_of label pieces = outcome_from pieces (read_statement label pieces)

-- the outcome of a card
abbrev pub card_outcome : Card → Outcome
card_outcome card = outcome_of card.label (pieces_of card.label card.text)
