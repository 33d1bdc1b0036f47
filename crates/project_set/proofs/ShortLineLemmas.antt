-- The lines that are written for a source are short.
use Rattle.std.proofs.Common.{◌≡◌, ℕ, ◌+◌, ◌≤◌, true, List, [], ◌∷◌, ◌++◌, length, map, codes, Option, Some, None, IfSome, refl, ◌∙◌, subst, arith, length-append}
use Rattle.std.specs.Prelude.{replicate, flat_map}
use Rattle.std.specs.List.{list_all}
use Rattle.std.specs.Option.{option_and_then}
use Rattle.std.proofs.lemmas.Bool.{leb-true, and_from, and_parts}
use Rattle.std.proofs.lemmas.List.Folds.{list_all-append}
use Rattle.text_base.specs.Cards.{Card, Comment}
use Rattle.text_base.specs.Chars.{is_name}
use Rattle.text_base.specs.Trees.{Action}
use Rattle.text_base.specs.declared.refusal.Place.{Place}
use Rattle.program77.specs.Built as built
use Rattle.program77.specs.Built.{Built, program, action, end_of_unit}
use Rattle.program77.specs.Tree.{simple, continue, Code, done, item, SourceUnit}
use Rattle.text_base.specs.Names.{action_variables}
use Rattle.program77.specs.Typing.{code_variables, variables}
use Rattle.program77.specs.Built.{SpellsBuilt}
use Rattle.unit77.specs.Tree.{Line}
use Rattle.program77.specs.SourceReading.{ReadCard, read_card, read_of, Ended, join_code, read_code, text_from, unit_with, read_unit}
use Rattle.tree90.specs.Tree as free
use Rattle.text_base.specs.Remarks.{Remark}
use Rattle.tree90.specs.Tree.{integer_object}
use Rattle.tree90.specs.Plain.{CodeAndTail, with_item}
use Rattle.tree90.specs.Printed.{action_text, stmt_text, declared_text, code_text, unit_text}
use Rattle.tree90.specs.Proper.{IsWritableCode}
use Rattle.project_set.specs.Refusals.{is_built_action, is_short, is_built_as, is_built_card, unbuilt_refusals}
use Rattle.project_set.specs.Rewrite.{comments_from, remarks_at, written_list, written_unit}
use Rattle.project_set.proofs.RefusalLemmas.{all_built}
use Rattle.project_set.proofs.ShortPieces.{has_no_feed, no_feed_append, no_feed_name, name_is_short, IsShortLines, short_nothing, short_append, short_indented}
use Rattle.project_set.proofs.ShortRemarks.{are_short_remarks, are_short_comments, are_writable, remarks_append, remarks_are_short, remarks_at_are_short, comments_from_are_short}
use Rattle.project_set.proofs.SpellingLemmas.{PlainAction, action_is_plain, header_is_named}

-- what is written for a list can be written, in short lines
pub record ShortListed (r : CodeAndTail) : Type 0 where
  pub printed_short : IsShortLines (code_text 1 r.0)
  pub writable : IsWritableCode r.0
  pub tail : are_short_remarks r.1 ≡ true

-- a list is written so, whatever the comments are, as long as they are short
abbrev pub IsShortCode : Code → Type 0
IsShortCode code =
    (cs : List Comment) (k : ℕ) (left : List Remark) → are_short_comments cs ≡ true → are_short_remarks left ≡ true → ShortListed (written_list cs k left code)

-- the comments that are left over, and those before the statement of this number
left_and_here : (cs : List Comment) (k : ℕ) (left : List Remark) → are_short_comments cs ≡ true → are_short_remarks left ≡ true → are_short_remarks (left ++ remarks_at cs k) ≡ true
left_and_here cs k left short e = remarks_append left (remarks_at cs k) e (remarks_at_are_short cs k short)

-- the line of a statement that can be converted fits
line_fits : (a : Action) → is_short a ≡ true → 2 + length (action_text a) ≤ 132
line_fits a e = omega (arith, leb-true (length (stmt_text 1 (free.simple a))) 133 e, length-append (32 ∷ 32 ∷ action_text a) (10 ∷ []))

-- a statement before a list, with the comments before it
action_and_more : (remarks : List Remark) (a : Action) (more : CodeAndTail) → are_short_remarks remarks ≡ true → is_short a ≡ true → PlainAction a → ShortListed more → ShortListed (with_item remarks (free.simple a) more)
action_and_more remarks a more short fits one rest = record {
  printed_short = short_append (short_append (remarks_are_short remarks short) (short_indented 2 (action_text a) one.plain (line_fits a fits))) rest.printed_short;
  writable = (are_writable remarks short, one.writable, rest.writable);
  tail = rest.tail;
}

-- what the law on sources says: a statement that is read is what the card spells
abbrev pub CardFound : Type 0
CardFound = (card : Card) (b : Built) → read_card card ≡ Some b → SpellsBuilt card b

-- a list that is written in short lines, and refers to names alone
pub record ShortCode (code : Code) : Type 0 where
  pub listed : IsShortCode code
  pub names : list_all is_name (code_variables code) ≡ true

abbrev ShortEnded : Option Ended → Type 0
ShortEnded ended = IfSome ended (λ r. ShortCode r.0)

-- nothing is short
nothing_is_short : ShortCode done
nothing_is_short = record { listed = λ cs k left short e. record { printed_short = short_nothing; writable = tt; tail = left_and_here cs k left short e }; names = refl }

-- a CONTINUE is left out
continue_is_short : (label : ℕ) (here : Place) (more : Code) → ShortCode more → ShortCode (item label here continue more)
continue_is_short label here more rest = record {
  listed = λ cs k left short e. rest.listed cs (k + 1) (left ++ remarks_at cs k) short (left_and_here cs k left short e);
  names = rest.names;
}

module _ (found : CardFound) where
  -- a statement that can be converted, before a list
  action_is_short : (card : Card) (a : Action) (label : ℕ) (more : Code) → read_card card ≡ Some (action a) → is_built_as (Some (action a)) ≡ true → ShortCode more → ShortCode (item label card.place (simple a) more)
  action_is_short card a label more was built rest =
      let parts = and_parts (is_built_action a) (is_short a) built in
      let plain = action_is_plain card a (found card (action a) was) parts.0 in
      record {
        listed = λ cs k left short e. action_and_more (left ++ remarks_at cs k) a (written_list cs (k + 1) [] more) (left_and_here cs k left short e) parts.1 plain (rest.listed cs (k + 1) [] short refl);
        names = list_all-append is_name (action_variables a) (code_variables more) ∙ and_from _ _ plain.named rest.names;
      }

  -- a statement that is read, before a list
  join_is_short : (card : Card) (s : Built) (rest : List ReadCard) (more : Option Ended) → read_card card ≡ Some s → is_built_as (Some s) ≡ true → ShortEnded more → ShortEnded (join_code card.place s rest more)
  join_is_short card (program x) rest more was built short = tt
  join_is_short card (action a) rest None was built short = tt
  join_is_short card (action a) rest (Some r) was built short = action_is_short card a 0 r.0 was built short
  join_is_short card built.continue rest None was built short = tt
  join_is_short card built.continue rest (Some r) was built short = continue_is_short 0 card.place r.0 short
  join_is_short card end_of_unit [] more was built short = nothing_is_short
  join_is_short card end_of_unit (next ∷ rest) more was built short = tt

  -- the list that is read of cards that can be converted
  list_is_short : (cards : List Card) → list_all is_built_card cards ≡ true → ShortEnded (read_code (map read_of cards))
  list_is_short [] built = tt
  list_is_short (card ∷ rest) built =
      let b = and_parts (is_built_card card) (list_all is_built_card rest) built in
      go (read_card card) refl b.0 (list_is_short rest b.1)
    where
      go : (o : Option Built) → read_card card ≡ o → is_built_as o ≡ true → ShortEnded (read_code (map read_of rest))
          → ShortEnded (option_and_then (λ s. join_code card.place s (map read_of rest) (read_code (map read_of rest))) o)
      go None was built short = tt
      go (Some s) was built short = join_is_short card s (map read_of rest) (read_code (map read_of rest)) was built short

-- ---- declarations

-- a line with a word and a name
word_and_name : (n : ℕ) (word x : List ℕ) → has_no_feed word ≡ true → n + length word ≤ 100 → is_name x ≡ true → IsShortLines (replicate n 32 ++ (word ++ x) ++ 10 ∷ [])
word_and_name n word x none few named =
    short_indented n (word ++ x) (no_feed_append word x none (no_feed_name x named)) (omega (arith, length-append word x, few, name_is_short x named))

-- each declaration is a short line
declarations_are_short : (xs : List (List ℕ)) → list_all is_name xs ≡ true → IsShortLines (flat_map declared_text (map integer_object xs))
declarations_are_short [] e = short_nothing
declarations_are_short (x ∷ xs) e =
    let b = and_parts (is_name x) (list_all is_name xs) e in
    short_append (word_and_name 2 (codes "INTEGER :: ") x refl (omega arith) b.0) (declarations_are_short xs b.1)

-- ---- units

-- a unit that has a name, refers to names alone, and whose statements are short
pub record ShortUnit (u : SourceUnit) : Type 0 where
  pub named : is_name u.name ≡ true
  pub names : list_all is_name (code_variables u.code) ≡ true
  pub listed : IsShortCode u.code

-- the lines of what is written for such a unit are short
pub unit_lines : (cs : List Comment) (first : ℕ) (u : SourceUnit) → are_short_comments cs ≡ true → ShortUnit u → list_all is_name (variables u) ≡ true → IsShortLines (unit_text (written_unit cs first u))
unit_lines cs first u short s named =
    let listed = s.listed (comments_from cs (first + 2)) (first + 1) [] (comments_from_are_short cs (first + 2) short) refl in
    short_append (short_append (short_append (short_append (short_append (short_append (short_append (short_append
    (remarks_are_short _ (remarks_at_are_short cs first short))
    (word_and_name 0 (codes "PROGRAM ") u.name refl (omega arith) s.named))
    (remarks_are_short _ (remarks_at_are_short cs (first + 1) short)))
    (short_indented 2 (codes "IMPLICIT NONE") refl (omega arith)))
    (short_indented 2 (codes "SAVE") refl (omega arith)))
    (declarations_are_short (variables u) named))
    listed.printed_short)
    (remarks_are_short _ listed.tail))
    (word_and_name 0 (codes "END PROGRAM ") u.name refl (omega arith) s.named)

module _ (found : CardFound) where
  -- the unit that is read behind its first card
  unit_with_is_short : (text : List Line) (card : Card) (s : Built) (ended : Option Ended) → read_card card ≡ Some s → ShortEnded ended → IfSome (unit_with text card.place s ended) ShortUnit
  unit_with_is_short text card (program x) None was short = tt
  unit_with_is_short text card (program x) (Some r) was short = record { named = header_is_named card x (found card (program x) was); names = short.names; listed = short.listed }
  unit_with_is_short text card (action a) ended was short = tt
  unit_with_is_short text card built.continue ended was short = tt
  unit_with_is_short text card end_of_unit ended was short = tt

  -- the unit that is read of cards that can be converted
  cards_are_short : (cards : List Card) → list_all is_built_card cards ≡ true → IfSome (read_unit (map read_of cards)) ShortUnit
  cards_are_short [] built = tt
  cards_are_short (card ∷ rest) built =
      go (read_card card) refl (list_is_short found rest (and_parts (is_built_card card) (list_all is_built_card rest) built).1)
    where
      go : (o : Option Built) → read_card card ≡ o → ShortEnded (read_code (map read_of rest)) → IfSome (option_and_then (λ s. unit_with (text_from 0 (map read_of (card ∷ rest))) card.place s (read_code (map read_of rest))) o) ShortUnit
      go None was short = tt
      go (Some s) was short = unit_with_is_short (text_from 0 (map read_of (card ∷ rest))) card s (read_code (map read_of rest)) was short

-- so is the unit that is read of a file of which no statement is refused
pub unit_is_short : CardFound → (cards : List Card) (u : SourceUnit) → unbuilt_refusals cards ≡ [] → read_unit (map read_of cards) ≡ Some u → ShortUnit u
unit_is_short found cards u none e = subst (λ o. IfSome o ShortUnit) e (cards_are_short found cards (all_built cards none))
