-- A file has no more statements than bytes.
use Rattle.std.proofs.Common.{◌≡◌, ℕ, suc, ◌-◌, ◌^◌, ◌<◌, ◌≤◌, ◌==◌, Bool, true, false, not, cond, List, [], ◌∷◌, length, map, refl, ap, arith}
use Rattle.std.specs.List.{enumerate_from, take_while}
use Rattle.std.proofs.lemmas.List.{length-map}
use Rattle.std.proofs.lemmas.List.FromFn.{length-enumerate_from}
use Rattle.std.proofs.lemmas.List.Sums.{length-filter, count_by-le-length}
use Rattle.text_base.specs.Cards.{statement_lines, grouped, card_of, cards}
use Rattle.text_base.specs.LineRefusals.{card_refusals}
use Rattle.text_base.specs.Lines.{with_first, cut, without_return, lines, is_comment, is_initial}
use Rattle.program77.specs.SourceReading.{read_of, reading_card}
use Rattle.order77.specs.ReadViews.{readings_from, readings_of}
use Rattle.order77.specs.declared.read.ReadStatement.{ReadStatement}
use Rattle.project_set.proofs.RefusalLemmas.{lines_accepted}

-- ---- lines

first_length : (c : ℕ) (ls : List (List ℕ)) → length (with_first c ls) ≤ suc (length ls)
first_length c [] = omega arith
first_length c (l ∷ ls) = omega arith

-- each line has a byte of its own
cut_length : (bytes : List ℕ) → length (cut bytes) ≤ length bytes
cut_length [] = omega arith
cut_length (c ∷ t) = go (c == 10) (cut_length t)
  where
    go : (b : Bool) → length (cut t) ≤ length t → length (cond b ([] ∷ cut t) (with_first c (cut t))) ≤ suc (length t)
    go true le = omega (arith, le)
    go false le = omega (arith, le, first_length c (cut t))

statement_lines_length : (bytes : List ℕ) → length (statement_lines 1 (lines bytes)) ≤ length bytes
statement_lines_length bytes =
    let some : ℕ × List ℕ → Bool = λ p. not (is_comment p.1) in
    let numbered = enumerate_from 1 (lines bytes) in
    omega (arith, length-filter some numbered, count_by-le-length some numbered, length-enumerate_from 1 (lines bytes), length-map (cut bytes) without_return, cut_length bytes)

-- ---- statements

-- each statement has a line of its own
grouped_length : (ps : List (ℕ × List ℕ)) → length (grouped ps) ≤ length ps
grouped_length [] = omega arith
grouped_length (p ∷ ps) = go (is_initial p.1) (grouped_length ps)
  where
    more : List (ℕ × List ℕ)
    more = take_while (λ (q : ℕ × List ℕ). not (is_initial q.1)) ps

    go : (b : Bool) → length (grouped ps) ≤ length ps → length (cond b ((p, more) ∷ grouped ps) (grouped ps)) ≤ suc (length ps)
    go true le = omega (arith, le)
    go false le = omega (arith, le)

few_cards : (file : ℕ) (bytes : List ℕ) → length (cards file bytes) ≤ length bytes
few_cards file bytes =
    let ps = statement_lines 1 (lines bytes) in
    omega (arith, length-map (grouped ps) (card_of file), grouped_length ps, statement_lines_length bytes)

-- the statements of a file of which no line is refused
pub counted_cards : {X Y : Type 0} (f : X → Y) (xs : List X) (bytes : List ℕ) (ys : List Y) → map f xs ≡ ys → length ys ≡ length (cards 0 bytes) → card_refusals 0 bytes ≡ [] → length xs < 2 ^ 32 - 1
counted_cards f xs bytes ys same all none =
    let few = (lines_accepted bytes none).0 in
    omega (arith, length-map xs f, ap length same, all, few_cards 0 bytes, few)

-- so are the statements that are read of it
readings_length : (n : ℕ) (statements : List ReadStatement) → length (readings_from n statements) ≡ length statements
readings_length n [] = refl
readings_length n (read ∷ statements) = ap suc (readings_length (suc n) statements)

pub few_readings : (bytes : List ℕ) (statements : List ReadStatement) → map reading_card (readings_of statements) ≡ map read_of (cards 0 bytes) → card_refusals 0 bytes ≡ [] → length statements < 2 ^ 32
few_readings bytes statements alike none =
    let few = counted_cards reading_card (readings_of statements) bytes (map read_of (cards 0 bytes)) alike (length-map (cards 0 bytes) read_of) none in
    omega (arith, readings_length 0 statements, few)
