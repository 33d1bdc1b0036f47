-- The readings of the cards of a file, and the units that the file is.
use Rattle.std.proofs.Common.{◌≡◌, ◌≢◌, ℕ, suc, ◌+◌, ◌<◌, ◌&&◌, ◌||◌, Bool, true, false, List, [], ◌∷◌, ◌++◌, map, length, take, get_or, Option, Some, None, refl, sym, ap, ◌∙◌, subst}
use Rattle.std.proofs.lemmas.List.{length-map, map_more}
use Rattle.std.specs.Prelude.{not, if◌then◌else◌}
use Rattle.std.specs.List.{zip}
use Rattle.std.specs.Option.{option_map}
use Rattle.text_base.specs.Cards.{Card}
use Rattle.card_reader.specs.Deck.{card_of}
use Rattle.card_reader.specs.declared.card.Card as deck
use Rattle.tree77.specs.CardSpelling.{SpellsCard}
use Rattle.tree77.specs.Statements.{Statement}
use Rattle.scan77.specs.PieceReading.{pieces_of}
use Rattle.unit77.specs.CardPrograms.{SpellsLine, SpellLines, AreUnitsOf}
use Rattle.order77.specs.Counts.{Reading, counts_as, counts_action, is_end}
use Rattle.unit77.specs.Laws.{AreNumbered, AreReadOrRefused, IsProgram, ProgramOrNot, OneProgram}
use Rattle.unit77.specs.Programs.{ProgramUnit, AreUnits, reading_of}
use Rattle.order77.specs.ReadViews.{reading_at, readings_from, readings_of}
use Rattle.order77.specs.Settling.{as_function, arrays_ahead, is_text, functions_behind, settled_as, settled}
use Rattle.unit77.specs.Tree.{Line}
use Rattle.unit77.specs.Views.{line}
use Rattle.order77.specs.declared.read.ReadStatement.{ReadStatement}
use Rattle.parse77.specs.Reading.{Read, accepted, read_statement, outcome_from, card_outcome}
use Rattle.parse77.specs.Statement.{reading_by, card_reading, card_readings, file_readings, deck_refusals}

-- ---- what settling keeps

-- only what a reading spells may change
record IsKept (q r : Reading) : Type 0 where
  number : q.number ≡ r.number
  refusal : q.refusal ≡ r.refusal
  none : q.statement ≡ None → r.statement ≡ None
  some : (x : Statement) → q.statement ≡ Some x → (y : Statement) × (r.statement ≡ Some y)

abbrev AreKept : List Reading → List Reading → Type 0
AreKept [] rs = rs ≡ []
AreKept (q ∷ qs) [] = ⊥
AreKept (q ∷ qs) (r ∷ rs) = IsKept q r × AreKept qs rs

mapped_none : (o : Option Statement) → option_map as_function o ≡ None → o ≡ None
mapped_none None e = refl
mapped_none (Some x) e = absurd cc

mapped_some : (o : Option Statement) (x : Statement) → option_map as_function o ≡ Some x → (y : Statement) × (o ≡ Some y)
mapped_some None x e = absurd cc
mapped_some (Some y) x e = (y, refl)

one_kept : (b : Bool) (r : Reading) → IsKept (settled_as (b, r)) r
one_kept true r = record { number = refl; refusal = refl; none = mapped_none r.statement; some = mapped_some r.statement }
one_kept false r = record { number = refl; refusal = refl; none = λ e. e; some = λ x e. (x, e) }

-- an END and what follows it, or another statement and what follows that
abbrev behind : Bool → Bool → List Bool → (Bool → List Bool) → List Bool
behind ends b ended next = if ends then false ∷ ended else b ∷ next b

abbrev settled_by : List Bool → List Reading → List Reading
settled_by fs rs = map settled_as (zip fs rs)

behind_kept : (ends b : Bool) (ended : List Bool) (next : Bool → List Bool) (r : Reading) (rs : List Reading) → AreKept (settled_by ended rs) rs → ((b : Bool) → AreKept (settled_by (next b) rs) rs)
    → AreKept (settled_by (behind ends b ended next) (r ∷ rs)) (r ∷ rs)
behind_kept true b ended next r rs e f = (one_kept false r, e)
behind_kept false b ended next r rs e f = (one_kept b r, f b)

all_kept : (is_executed : Bool) (arrays : List (List ℕ)) (rs : List Reading) → AreKept (settled_by (functions_behind is_executed arrays rs) rs) rs
all_kept is_executed arrays [] = refl
all_kept is_executed arrays (r ∷ rs) =
    behind_kept (is_end (counts_as r)) (not is_executed && is_text arrays r) (functions_behind false (arrays_ahead rs) rs) (λ b. functions_behind (is_executed || (not b && counts_action (counts_as r))) arrays rs) r rs
    (all_kept false (arrays_ahead rs) rs) (λ b. all_kept (is_executed || (not b && counts_action (counts_as r))) arrays rs)

settled_kept : (rs : List Reading) → AreKept (settled rs) rs
settled_kept rs = all_kept false (arrays_ahead rs) rs

kept_numbered : (n : ℕ) (qs rs : List Reading) → AreKept qs rs → AreNumbered n rs → AreNumbered n qs
kept_numbered n [] rs k a = tt
kept_numbered n (q ∷ qs) [] k a = absurd k
kept_numbered n (q ∷ qs) (r ∷ rs) k a = (k.0.number ∙ a.0, kept_numbered (suc n) qs rs k.1 a.1)

kept_refused : (qs rs : List Reading) → AreKept qs rs → AreReadOrRefused rs → AreReadOrRefused qs
kept_refused [] rs k a = tt
kept_refused (q ∷ qs) [] k a = absurd k
kept_refused (q ∷ qs) (r ∷ rs) k a = (λ e f. a.0 (k.0.none e) (sym k.0.refusal ∙ f), kept_refused qs rs k.1 a.1)

kept_length : (qs rs : List Reading) → AreKept qs rs → length qs ≡ length rs
kept_length [] rs k = ap length (sym k)
kept_length (q ∷ qs) [] k = absurd k
kept_length (q ∷ qs) (r ∷ rs) k = ap suc (kept_length qs rs k.1)

-- ---- readings of which none is refused

-- it is read, and not refused
record IsAccepted (r : Reading) : Type 0 where
  refusal : r.refusal ≡ None
  statement : (x : Statement) × (r.statement ≡ Some x)

abbrev AreAccepted : List Reading → Type 0
AreAccepted [] = Unit {0}
AreAccepted (r ∷ rs) = IsAccepted r × AreAccepted rs

lines_accepted : (ls : List Line) → AreAccepted (map reading_of ls)
lines_accepted [] = tt
lines_accepted (l ∷ ls) = (record { refusal = refl; statement = (l.statement, refl) }, lines_accepted ls)

kept_accepted : (qs rs : List Reading) → AreKept qs rs → AreAccepted qs → AreAccepted rs
kept_accepted [] rs k a = subst AreAccepted (sym k) tt
kept_accepted (q ∷ qs) [] k a = absurd k
kept_accepted (q ∷ qs) (r ∷ rs) k a = (
  record { refusal = sym k.0.refusal ∙ a.0.refusal; statement = k.0.some a.0.statement.0 a.0.statement.1 },
  kept_accepted qs rs k.1 a.1,
)

-- ---- cards

cards_numbered : (n : ℕ) (cards : List Card) → AreNumbered n (card_readings n cards)
cards_numbered n [] = tt
cards_numbered n (card ∷ cards) = (refl, cards_numbered (suc n) cards)

nothing_refused : (n : ℕ) (card : Card) (read : Read) → (reading_by n card read).statement ≡ None → (reading_by n card read).refusal ≢ None
nothing_refused n card None e f = absurd cc
nothing_refused n card (Some r) e f = absurd cc

cards_refused : (n : ℕ) (cards : List Card) → AreReadOrRefused (card_readings n cards)
cards_refused n [] = tt
cards_refused n (card ∷ cards) = (nothing_refused n card (read_statement card.label (pieces_of card.label card.text)), cards_refused (suc n) cards)

cards_length : (n : ℕ) (cards : List Card) → length (card_readings n cards) ≡ length cards
cards_length n [] = refl
cards_length n (card ∷ cards) = ap suc (cards_length (suc n) cards)

-- the line of a card that spells this statement
abbrev line_of : ℕ → Card → Statement → Line
line_of n card x = line n card.label card.place x

accepted_read : (n : ℕ) (card : Card) (read : Read) (x : Statement) → outcome_from (pieces_of card.label card.text) read ≡ accepted x → reading_by n card read ≡ reading_of (line_of n card x)
accepted_read n card None x e = absurd cc
accepted_read n card (Some (y, Some p)) x e = absurd cc
accepted_read n card (Some (y, None)) x e = let same : y ≡ x = cc in ap (λ z. reading_of (line_of n card z)) same

read_accepted : (n : ℕ) (card : Card) (read : Read) → IsAccepted (reading_by n card read) → (x : Statement) × (outcome_from (pieces_of card.label card.text) read ≡ accepted x)
read_accepted n card None a = let e = a.refusal in absurd cc
read_accepted n card (Some (y, Some p)) a = let e = a.refusal in absurd cc
read_accepted n card (Some (y, None)) a = (y, refl)

-- ---- the units that a file is

pub record FileLaws : Type 0 where
  pub card_found : (card : Card) (x : Statement) → card_outcome card ≡ accepted x → SpellsCard card x
  pub card_only : (card : Card) (x : Statement) → SpellsCard card x → card_outcome card ≡ accepted x
  pub program : ProgramOrNot

-- lines that cards spell, whose readings are those of the cards
record AreSpelled (n : ℕ) (cards : List Card) : Type 0 where
  lines : List Line
  spells : SpellLines n cards lines
  same : map reading_of lines ≡ card_readings n cards

pub file_refused : (cards : List Card) → AreReadOrRefused (file_readings cards)
file_refused cards = let rs = card_readings 0 cards in kept_refused (settled rs) rs (settled_kept rs) (cards_refused 0 cards)

pub file_numbered : (cards : List Card) → AreNumbered 0 (file_readings cards)
file_numbered cards = let rs = card_readings 0 cards in kept_numbered 0 (settled rs) rs (settled_kept rs) (cards_numbered 0 cards)

module _ (laws : FileLaws) where
  -- the line and the reading of a card are the same
  card_line : (n : ℕ) (card : Card) (l : Line) → SpellsLine n card l → reading_of l ≡ card_reading n card
  card_line n card l s =
      (let a = s.number in let b = s.label in let c = s.place in
      let e : reading_of l ≡ reading_of (line_of n card l.statement) = cc in e)
      ∙ sym (accepted_read n card (read_statement card.label (pieces_of card.label card.text)) l.statement (laws.card_only card l.statement s.spelled))

  lines_read : (n : ℕ) (cards : List Card) (ls : List Line) → SpellLines n cards ls → map reading_of ls ≡ card_readings n cards
  lines_read n [] ls s = ap (map reading_of) s
  lines_read n (card ∷ cards) [] s = absurd s
  lines_read n (card ∷ cards) (l ∷ ls) s = let first = card_line n card l s.0 in let rest = lines_read (suc n) cards ls s.1 in cc

  lines_spelled : (n : ℕ) (cards : List Card) → AreAccepted (card_readings n cards) → AreSpelled n cards
  lines_spelled n [] a = record { lines = []; spells = refl; same = refl }
  lines_spelled n (card ∷ cards) a =
      let read = read_statement card.label (pieces_of card.label card.text) in
      let (x, e) = read_accepted n card read a.0 in
      let rest = lines_spelled (suc n) cards a.1 in
      let first = sym (accepted_read n card read x e) in
      record {
        lines = line_of n card x ∷ rest.lines;
        spells = (record { number = refl; label = refl; place = refl; spelled = laws.card_found card x e }, rest.spells);
        same = let others = rest.same in cc;
      }

  pub file_read : (cards : List Card) (us : List ProgramUnit) → AreUnitsOf cards us → IsProgram (file_readings cards) us
  file_read cards us a = record { lines = a.lines; read = a.told ∙ ap settled (lines_read 0 cards a.spelled a.spells); units = a.units }

  pub file_as_read : (cards : List Card) (us : List ProgramUnit) → IsProgram (file_readings cards) us → AreUnitsOf cards us
  file_as_read cards us p =
      let rs = card_readings 0 cards in
      let all = lines_spelled 0 cards (kept_accepted (settled rs) rs (settled_kept rs) (subst AreAccepted p.read (lines_accepted p.lines))) in
      record { spelled = all.lines; spells = all.spells; lines = p.lines; told = p.read ∙ ap settled (sym all.same); units = p.units }

  pub file_found : (cards : List Card) → deck_refusals cards ≡ [] → (us : List ProgramUnit) × AreUnitsOf cards us
  file_found cards none = let (us, p) = (laws.program (file_readings cards) (file_numbered cards) (file_refused cards)).0 none in (us, file_as_read cards us p)

  pub file_only : (cards : List Card) (us : List ProgramUnit) → AreUnitsOf cards us → deck_refusals cards ≡ []
  file_only cards us a = (laws.program (file_readings cards) (file_numbered cards) (file_refused cards)).1 (us, file_read cards us a)

-- ---- a file is the units of one program

same_line : (l m : Line) → reading_of l ≡ reading_of m → l ≡ m
same_line l m e =
    let number : l.number ≡ m.number = ap (λ (r : Reading). r.number) e in
    let label : l.label ≡ m.label = ap (λ (r : Reading). r.label) e in
    let place : l.place ≡ m.place = ap (λ (r : Reading). r.place) e in
    let some : Some l.statement ≡ Some m.statement = ap (λ (r : Reading). r.statement) e in
    let statement : l.statement ≡ m.statement = cc in
    let whole : line l.number l.label l.place l.statement ≡ line m.number m.label m.place m.statement = cc in whole

same_lines : (ls ms : List Line) → map reading_of ls ≡ map reading_of ms → ls ≡ ms
same_lines [] [] e = refl
same_lines [] (m ∷ ms) e = absurd cc
same_lines (l ∷ ls) [] e = absurd cc
same_lines (l ∷ ls) (m ∷ ms) e =
    let first : reading_of l ≡ reading_of m = cc in
    let rest : map reading_of ls ≡ map reading_of ms = cc in
    let a = same_line l m first in let b = same_lines ls ms rest in cc

pub one_list : OneProgram → (rs : List Reading) (us vs : List ProgramUnit) → IsProgram rs us → IsProgram rs vs → us ≡ vs
one_list one rs us vs p q = one p.lines us vs p.units (subst (λ ls. AreUnits ls vs) (same_lines q.lines p.lines (q.read ∙ sym p.read)) q.units)

-- ---- the statements in the code

readings_length : (n : ℕ) (xs : List ReadStatement) → length (readings_from n xs) ≡ length xs
readings_length n [] = refl
readings_length n (x ∷ xs) = ap suc (readings_length (suc n) xs)

-- as many as what was read into the deck has
pub deck_length : (xs : List ReadStatement) (cards : List deck.Card) → readings_of xs ≡ file_readings (map card_of cards) → length xs ≡ length cards
deck_length xs cards e =
    let rs = card_readings 0 (map card_of cards) in
    sym (readings_length 0 xs) ∙ ap length e ∙ kept_length (settled rs) rs (settled_kept rs) ∙ cards_length 0 (map card_of cards) ∙ length-map cards card_of

-- one more card
readings_grow : (n : ℕ) (xs : List ReadStatement) (cards : List Card) (x : ReadStatement) (card : Card) → readings_from n xs ≡ card_readings n cards
    → ((k : ℕ) → reading_at k x ≡ card_reading k card) → readings_from n (xs ++ x ∷ []) ≡ card_readings n (cards ++ card ∷ [])
readings_grow n [] [] x card e f = ap (λ r. r ∷ []) (f n)
readings_grow n [] (d ∷ cards) x card e f = absurd cc
readings_grow n (y ∷ xs) [] x card e f = absurd cc
readings_grow n (y ∷ xs) (d ∷ cards) x card e f =
    let first : reading_at n y ≡ card_reading n d = cc in
    let rest : readings_from (suc n) xs ≡ card_readings (suc n) cards = cc in
    let more = readings_grow (suc n) xs cards x card rest f in cc

pub readings_more : (xs : List ReadStatement) (cards : List deck.Card) (i : ℕ) (x : ReadStatement) (card : deck.Card) → i < length cards → card ≡ get_or cards i card
    → readings_of xs ≡ card_readings 0 (map card_of (take i cards)) → ((k : ℕ) → reading_at k x ≡ card_reading k (card_of card)) → readings_of (xs ++ x ∷ []) ≡ card_readings 0 (map card_of (take (i + 1) cards))
readings_more xs cards i x card lt at e f =
    readings_grow 0 xs (map card_of (take i cards)) x (card_of card) e f
    ∙ ap (card_readings 0) (ap (λ y. map card_of (take i cards) ++ card_of y ∷ []) at ∙ sym (map_more card_of cards i card lt))
