-- The statements that are read line by line are those of the file.
use Rattle.std.proofs.Common.{◌≡◌, ◌∙◌, sym, ap, refl, ℕ, suc, ◌+◌, Bool, true, false, not, cond, ◌&&◌, List, [], ◌∷◌, ◌++◌, take, map, arith}
use Rattle.std.specs.Prelude.{if◌then◌else◌}
use Rattle.std.specs.List.{take_while, prefix_len}
use Rattle.text_base.specs.Lines.{is_comment, is_initial, label_of, statement_field}
use Rattle.text_base.specs.Kept.{kept}
use Rattle.text_base.specs.declared.refusal.Place.{Place}
use Rattle.text_base.specs.Cards.{Card, statement_lines, grouped, fields, card_of, cards_of}

-- ---- statements, before the lines that are left

-- columns 7 to 72 of the continuation lines before the next initial line
abbrev pub following : List (List ℕ) → List ℕ
following [] = []
following (l ∷ ls) = if is_comment l then following ls else (if is_initial l then [] else statement_field l ++ following ls)

-- the statement of an initial line, before the lines that are left
abbrev pub card_from : Place → List ℕ → List (List ℕ) → Card
card_from place l ls =
    let text = statement_field l ++ following ls in
    record { label = label_of l; text = text; kept = kept (label_of l) text; place = place }

-- the line begins a statement
abbrev pub begins : List ℕ → Bool
begins l = not (is_comment l) && is_initial l

-- the statements among the lines that are left
abbrev pub read_statements : ℕ → ℕ → List (List ℕ) → List Card
read_statements file number [] = []
read_statements file number (l ∷ ls) =
    if begins l then card_from (record { file = file; line = number }) l ls ∷ read_statements file (number + 1) ls else read_statements file (number + 1) ls

-- ---- what is read

abbrev is_continuation : ℕ × List ℕ → Bool
is_continuation q = not (is_initial q.1)

-- the continuation lines before the next initial line
following_is : (n : ℕ) (ls : List (List ℕ)) → fields (take_while is_continuation (statement_lines n ls)) ≡ following ls
following_is n [] = refl
following_is n (l ∷ ls) = go (is_comment l) (following_is (n + 1) ls)
  where
    inner : (i : Bool) → fields (take_while is_continuation (statement_lines (n + 1) ls)) ≡ following ls
        → fields (take (cond (not i) (1 + prefix_len is_continuation (statement_lines (n + 1) ls)) 0) ((n, l) ∷ statement_lines (n + 1) ls)) ≡ (if i then [] else statement_field l ++ following ls)
    inner true rest = refl
    inner false rest =
        let next : 1 + prefix_len is_continuation (statement_lines (n + 1) ls) ≡ suc (prefix_len is_continuation (statement_lines (n + 1) ls)) = omega arith in
        ap (λ k. fields (take k ((n, l) ∷ statement_lines (n + 1) ls))) next ∙ ap (λ t. statement_field l ++ t) rest

    go : (c : Bool) → fields (take_while is_continuation (statement_lines (n + 1) ls)) ≡ following ls
        → fields (take_while is_continuation (cond (not c) ((n, l) ∷ statement_lines (n + 1) ls) (statement_lines (n + 1) ls))) ≡ (if c then following ls else (if is_initial l then [] else statement_field l ++ following ls))
    go true rest = rest
    go false rest = inner (is_initial l) rest

-- the statement of an initial line, whose continuation lines have these characters
abbrev made_of : ℕ → ℕ → List ℕ → List ℕ → Card
made_of file n l more =
    let text = statement_field l ++ more in
    record { label = label_of l; text = text; kept = kept (label_of l) text; place = record { file = file; line = n } }

-- what is read are the statements among the lines
pub read_is_cards : (file n : ℕ) (ls : List (List ℕ)) → read_statements file n ls ≡ cards_of file n ls
read_is_cards file n [] = refl
read_is_cards file n (l ∷ ls) = go (is_comment l) (read_is_cards file (n + 1) ls)
  where
    inner : (i : Bool) → read_statements file (n + 1) ls ≡ cards_of file (n + 1) ls
        → (if i then card_from (record { file = file; line = n }) l ls ∷ read_statements file (n + 1) ls else read_statements file (n + 1) ls)
        ≡ map (card_of file) (if i then ((n, l), take_while is_continuation (statement_lines (n + 1) ls)) ∷ grouped (statement_lines (n + 1) ls) else grouped (statement_lines (n + 1) ls))
    inner true rest = λ i. made_of file n l (sym (following_is (n + 1) ls) i) ∷ rest i
    inner false rest = rest

    go : (c : Bool) → read_statements file (n + 1) ls ≡ cards_of file (n + 1) ls
        → (if not c && is_initial l then card_from (record { file = file; line = n }) l ls ∷ read_statements file (n + 1) ls else read_statements file (n + 1) ls)
        ≡ map (card_of file) (grouped (cond (not c) ((n, l) ∷ statement_lines (n + 1) ls) (statement_lines (n + 1) ls)))
    go true rest = rest
    go false rest = inner (is_initial l) rest
