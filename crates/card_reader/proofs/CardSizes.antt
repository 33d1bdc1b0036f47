-- A statement of a file is short: it has 66 characters for each of its lines, and no more lines than the file has bytes.
use Rattle.std.proofs.Common.{◌≡◌, ℕ, suc, ◌*◌, ◌-◌, ◌<◌, ◌≤◌, ◌==◌, Bool, true, false, not, cond, List, [], ◌∷◌, length, get_or, take, drop, replicate, refl, arith}
use Rattle.std.specs.List.{All, enumerate_from, prefix_len, take_while}
use Rattle.std.proofs.lemmas.List.{length-append, length-map, length-replicate, length-take}
use Rattle.std.proofs.lemmas.List.Concat.{length-flat_map}
use Rattle.std.proofs.lemmas.List.Elements.{All-nil, All-cons, All-map}
use Rattle.std.proofs.lemmas.List.FromFn.{length-enumerate_from}
use Rattle.std.proofs.lemmas.List.Sums.{length-filter, count_by-le-length, sum_by-le}
use Rattle.text_base.specs.Lines.{with_first, cut, without_return, lines, is_comment, is_initial, statement_field}
use Rattle.text_base.specs.Kept.{kept}
use Rattle.text_base.specs.Cards.{statement_lines, grouped, fields, card_of, cards}
use Rattle.text_base.specs.declared.limits.TheConstants.{GREATEST_COUNT, LARGEST_FILE}

abbrev Group : Type 0
Group = (ℕ × List ℕ) × List (ℕ × List ℕ)

-- ---- marks

pub marked : (file : ℕ) (bytes : List ℕ) → All (λ card. card.kept ≡ kept card.label card.text) (cards file bytes)
marked file bytes = All-map (λ card. card.kept ≡ kept card.label card.text) (card_of file) (grouped (statement_lines 1 (lines bytes))) (λ k d within. refl)

-- ---- characters

field_length : (l : List ℕ) → length (statement_field l) ≡ 66
field_length l =
    let text = take 66 (drop 6 l) in
    omega (arith, length-append text (replicate (66 - length text) 32), length-replicate {A = ℕ} (66 - length text) 32, length-take 66 (drop 6 l))

fields_length : (ps : List (ℕ × List ℕ)) → length (fields ps) ≤ length ps * 66
fields_length ps =
    let field : ℕ × List ℕ → List ℕ = λ p. statement_field p.1 in
    omega (arith, length-flat_map field ps, sum_by-le (λ p. length (field p)) 66 ps (λ k d within. omega (arith, field_length (get_or ps k d).1)))

-- ---- lines

first_length : (c : ℕ) (ls : List (List ℕ)) → length (with_first c ls) ≤ suc (length ls)
first_length c [] = omega arith
first_length c (l ∷ ls) = omega arith

-- each line has a byte of its own
pub cut_length : (bytes : List ℕ) → length (cut bytes) ≤ length bytes
cut_length [] = omega arith
cut_length (c ∷ t) = go (c == 10) (cut_length t)
  where
    go : (b : Bool) → length (cut t) ≤ length t → length (cond b ([] ∷ cut t) (with_first c (cut t))) ≤ suc (length t)
    go true le = omega (arith, le)
    go false le = omega (arith, le, first_length c (cut t))

statement_lines_length : (bytes : List ℕ) → length (statement_lines 1 (lines bytes)) ≤ length bytes
statement_lines_length bytes =
    let some : ℕ × List ℕ → Bool = λ p. not (is_comment p.1) in
    let numbered = enumerate_from 1 (lines bytes) in
    omega (arith, length-filter some numbered, count_by-le-length some numbered, length-enumerate_from 1 (lines bytes), length-map (cut bytes) without_return, cut_length bytes)

-- ---- groups

taken_length : (p : ℕ × List ℕ → Bool) (ps : List (ℕ × List ℕ)) → length (take_while p ps) ≤ length ps
taken_length p ps = omega (arith, length-take (prefix_len p ps) ps)

-- the lines of a group are some of all lines
grouped_lines : (n : ℕ) (ps : List (ℕ × List ℕ)) → length ps ≤ n → All (λ (g : Group). length g.1 < n) (grouped ps)
grouped_lines n [] le = All-nil (λ (g : Group). length g.1 < n)
grouped_lines n (p ∷ ps) le = go (is_initial p.1) (grouped_lines n ps (omega arith))
  where
    more : List (ℕ × List ℕ)
    more = take_while (λ (q : ℕ × List ℕ). not (is_initial q.1)) ps

    go : (b : Bool) → All (λ (g : Group). length g.1 < n) (grouped ps) → All (λ (g : Group). length g.1 < n) (cond b ((p, more) ∷ grouped ps) (grouped ps))
    go true rest = All-cons (λ (g : Group). length g.1 < n) (p, more) (grouped ps) (omega (arith, taken_length (λ (q : ℕ × List ℕ). not (is_initial q.1)) ps)) rest
    go false rest = rest

-- ---- statements

card_length : (file n : ℕ) (g : Group) → length g.1 < n → n ≤ LARGEST_FILE → length (card_of file g).text < GREATEST_COUNT
card_length file n g within le =
    omega (arith, length-append (statement_field g.0.1) (fields g.1), field_length g.0.1, fields_length g.1)

pub short : (file : ℕ) (bytes : List ℕ) → length bytes ≤ LARGEST_FILE → All (λ card. length card.text < GREATEST_COUNT) (cards file bytes)
short file bytes le =
    let ps = statement_lines 1 (lines bytes) in
    let few = grouped_lines (length bytes) ps (statement_lines_length bytes) in
    All-map (λ card. length card.text < GREATEST_COUNT) (card_of file) (grouped ps) (λ k d within. card_length file (length bytes) (get_or (grouped ps) k d) (few k d within) le)
