-- Formats, by their pieces, and what they are: the tree, the word for which a part is refused, or none.
use Rattle.std.specs.Prelude.{ℕ, zero, suc, List, [], ◌∷◌, ◌++◌, replicate, codes, Some, None}
use Rattle.text_base.specs.Pieces.{Piece, whole, broken, plain_pieces}
use Rattle.text_base.specs.Formats.{integers, logicals, texts, blanks, text, FormatItem, edit, record_end, group, FormatItems, SpellsFormat, IsRefusedFormat, SpellsNoFormat}
use Rattle.format77.specs.Reading.{Outcome, accepted, refused, no_format}
use Rattle.text_base.specs.Formats.{items_of}

abbrev one_i5 : FormatItem
one_i5 = edit (integers 1 5 None)

-- an accepted format of these items
abbrev gives : List FormatItem → Outcome
gives items = accepted (items_of items)

abbrev edit_word : Outcome
edit_word = refused (codes "EDIT")

abbrev depth_word : Outcome
depth_word = refused (codes "DEPTH")

-- so many parentheses around I5, and their tree
abbrev pub deep_text : ℕ → List ℕ
deep_text n = replicate n 40 ++ (codes "I5" ++ replicate n 41)

abbrev pub deep : ℕ → FormatItems
deep zero = items_of (one_i5 ∷ [])
deep (suc n) = items_of (group 1 (deep n) ∷ [])

abbrev pub rows : List (List Piece × Outcome)
rows =
    -- each descriptor
    (plain_pieces (codes "(I5)"), gives (one_i5 ∷ []))
    ∷ (plain_pieces (codes "( i 5 )"), gives (one_i5 ∷ []))
    ∷ (plain_pieces (codes "(3I5)"), gives (edit (integers 3 5 None) ∷ []))
    ∷ (plain_pieces (codes "(I5.3)"), gives (edit (integers 1 5 (Some 3)) ∷ []))
    ∷ (plain_pieces (codes "(2I10.0)"), gives (edit (integers 2 10 (Some 0)) ∷ []))
    ∷ (plain_pieces (codes "(I3.3)"), gives (edit (integers 1 3 (Some 3)) ∷ []))
    ∷ (plain_pieces (codes "(A)"), gives (edit (texts 1 None) ∷ []))
    ∷ (plain_pieces (codes "(2A,A10)"), gives (edit (texts 2 None) ∷ edit (texts 1 (Some 10)) ∷ []))
    ∷ (plain_pieces (codes "(4L2)"), gives (edit (logicals 4 2) ∷ []))
    ∷ (plain_pieces (codes "(10X,I5)"), gives (edit (blanks 10) ∷ one_i5 ∷ []))
    ∷ (plain_pieces (codes "(") ++ whole (codes "'it''s'") ∷ plain_pieces (codes ")"), gives (edit (text (codes "it's")) ∷ []))
    ∷ (plain_pieces (codes "(3H") ++ whole (codes "a,b") ∷ plain_pieces (codes ",I5)"), gives (edit (text (codes "a,b")) ∷ one_i5 ∷ []))
    -- numbers from 1 to 9999, with zeros before them
    ∷ (plain_pieces (codes "(9999I0009999)"), gives (edit (integers 9999 9999 None) ∷ []))
    ∷ (plain_pieces (codes "(I10000)"), no_format)
    ∷ (plain_pieces (codes "(I0)"), no_format)
    ∷ (plain_pieces (codes "(0I5)"), no_format)
    ∷ (plain_pieces (codes "(I5.6)"), no_format)
    ∷ (plain_pieces (codes "(0X)"), no_format)
    ∷ (plain_pieces (codes "(X)"), no_format)
    ∷ (plain_pieces (codes "(I)"), no_format)
    ∷ (plain_pieces (codes "(L)"), no_format)
    -- slashes and commas
    ∷ (plain_pieces (codes "(I5/I5)"), gives (one_i5 ∷ record_end ∷ one_i5 ∷ []))
    ∷ (plain_pieces (codes "(I5,/,I5)"), gives (one_i5 ∷ record_end ∷ one_i5 ∷ []))
    ∷ (plain_pieces (codes "(//)"), gives (record_end ∷ record_end ∷ []))
    ∷ (plain_pieces (codes "(I5I5)"), no_format)
    ∷ (plain_pieces (codes "(I5,,I5)"), no_format)
    ∷ (plain_pieces (codes "(I5,)"), no_format)
    ∷ (plain_pieces (codes "(,I5)"), no_format)
    ∷ (plain_pieces (codes "(3/)"), no_format)
    -- groups
    ∷ (plain_pieces (codes "()"), gives [])
    ∷ (plain_pieces (codes "(2(I5,A),/)"), gives (group 2 (items_of (one_i5 ∷ edit (texts 1 None) ∷ [])) ∷ record_end ∷ []))
    ∷ (plain_pieces (codes "(I5,(A/(I5)))"), gives (one_i5 ∷ group 1 (items_of (edit (texts 1 None) ∷ record_end ∷ group 1 (items_of (one_i5 ∷ [])) ∷ [])) ∷ []))
    ∷ (plain_pieces (codes "(I5,())"), no_format)
    ∷ (plain_pieces (codes "(I5(A))"), no_format)
    ∷ (plain_pieces (codes "((I5)"), no_format)
    ∷ (plain_pieces (codes "(I5))"), no_format)
    ∷ (plain_pieces (codes "(I5)A"), no_format)
    ∷ (plain_pieces (codes "(I5)(A)"), no_format)
    ∷ (plain_pieces (codes "2(I5)"), no_format)
    ∷ ([], no_format)
    ∷ (plain_pieces (deep_text 200), accepted (deep 199))
    ∷ (plain_pieces (deep_text 201), depth_word)
    -- descriptors that are refused
    ∷ (plain_pieces (codes "(F10.2)"), edit_word)
    ∷ (plain_pieces (codes "(3E15.7E3,I5)"), edit_word)
    ∷ (plain_pieces (codes "(TL5,TR2,T10,S,SP,SS,BN,BZ)"), edit_word)
    ∷ (plain_pieces (codes "(I5:I5)"), edit_word)
    ∷ (plain_pieces (codes "(I5,:,I5)"), edit_word)
    ∷ (plain_pieces (codes "(1PE12.5)"), edit_word)
    ∷ (plain_pieces (codes "(-2P3F10.2)"), edit_word)
    ∷ (plain_pieces (codes "(1P3X,I5)"), edit_word)
    ∷ (plain_pieces (codes "(1P3.2E5.2)"), edit_word)
    ∷ (plain_pieces (codes "(2P(I5))"), edit_word)
    ∷ (plain_pieces (codes "(F10.2I5)"), no_format)
    ∷ (plain_pieces (codes "(F10.2.3)"), no_format)
    ∷ (plain_pieces (codes "(+I5)"), no_format)
    ∷ (plain_pieces (codes "(B5)"), no_format)
    ∷ (plain_pieces (codes "(F10.2,I0)"), no_format)
    ∷ (plain_pieces (codes "(Q5)"), no_format)
    ∷ (plain_pieces (codes "(1P3I5)"), edit_word)
    ∷ (plain_pieces (codes "(2P,I5,-2P)"), edit_word)
    ∷ (plain_pieces (codes "(P35X,I5)"), edit_word)
    ∷ (plain_pieces (codes "(P99999X)"), no_format)
    ∷ (plain_pieces (codes "(F10000.2)"), edit_word)
    ∷ (plain_pieces (codes "(") ++ (plain_pieces (deep_text 200) ++ plain_pieces (codes ",E5)")), depth_word)
    ∷ (plain_pieces (codes "(E5,") ++ (plain_pieces (deep_text 200) ++ plain_pieces (codes ")")), edit_word)
    -- texts
    ∷ (plain_pieces (codes "(") ++ whole (codes "''") ∷ plain_pieces (codes ")"), no_format)
    ∷ (plain_pieces (codes "(") ++ broken (codes "'abc)") ∷ [], no_format)
    ∷ (plain_pieces (codes "(") ++ whole (codes "'a'") ∷ plain_pieces (codes "I5)"), no_format)
    ∷ (plain_pieces (codes "(4H") ++ whole (codes "abc") ∷ plain_pieces (codes ")"), no_format)
    ∷ (plain_pieces (codes "(2") ++ whole (codes "'a'") ∷ plain_pieces (codes ")"), no_format)
    ∷ []

-- the pieces are what the outcome says
abbrev pub IsOutcome : ℕ → List Piece → Outcome → Type 0
IsOutcome depth pieces (accepted items) = SpellsFormat depth pieces items
IsOutcome depth pieces (refused word) = IsRefusedFormat depth pieces word
IsOutcome depth pieces no_format = SpellsNoFormat pieces
