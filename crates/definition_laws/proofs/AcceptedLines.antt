-- Nothing is refused of the lines of a file where they are accepted, and its statements can then be read.
use Rattle.std.proofs.Common.{◌≡◌, ◌≢◌, ◌↔◌, refl, ℕ, ◌*◌, ◌-◌, ◌≤◌, Bool, true, false, cond, List, [], ◌∷◌, length, get_or, take, drop, map, filter, replicate, None, arith}
use Rattle.std.specs.Prelude.{nat_lt, if◌then◌else◌}
use Rattle.std.specs.List.{All, AllByRecursion, zip}
use Rattle.std.specs.Int.{IsInRange}
use Rattle.std.proofs.lemmas.Bool.{ltb-false, le-ltb}
use Rattle.std.proofs.lemmas.List.{length-append, length-replicate, length-take}
use Rattle.std.proofs.lemmas.List.Concat.{length-flat_map}
use Rattle.std.proofs.lemmas.List.Elements.{All-from_recursion, recursion_from_All, All-map}
use Rattle.std.proofs.lemmas.List.Sums.{length-filter, count_by-le-length, sum_by-le}
use Rattle.std.proofs.lemmas.Str.Parse.{IsDigitsTest, digits_value_short, numerals_by_value}
use Rattle.text_base.specs.Chars.{is_digit}
use Rattle.text_base.specs.Kept.{Scan, scan_start, scan_after, marks_from}
use Rattle.text_base.specs.Lines.{lines, label_field, label_of, statement_field}
use Rattle.text_base.specs.Cards.{grouped, fields, card_of, cards}
use Rattle.text_base.specs.LineRefusals.{too_large, line_refusals}
use Rattle.text_base.specs.declared.limits.TheConstants.{LARGEST_FILE}
use Rattle.text_base.specs.declared.refusal.Refusal.{Refusal}
use Rattle.definition_laws.specs.AcceptedLines.{CanStand, lines_of_statements, LinesAreAccepted, IsReadable, CardsAreReadable}
use Rattle.definition_laws.proofs.AcceptedFaults.{Stand}
use Rattle.definition_laws.proofs.AcceptedGroups.{Numbered, Line, Group, Short, lines_follow}

-- ---- files

sized : (b : Bool) (large : Refusal) (rest : List Refusal) → ((if b then large ∷ [] else rest) ≡ []) ↔ ((b ≡ false) × (rest ≡ []))
sized true large rest = (λ e. absurd cc, λ h. absurd cc)
sized false large rest = (λ e. (refl, e), λ h. h.1)

-- each character with its mark
abbrev Marked : List ℕ → List ℕ → Type 0
Marked text marks = All (λ p. CanStand p.0 p.1) (zip text marks)

all_stand : (s : Scan) (t : List ℕ) → Stand s t ↔ AllByRecursion (λ p. CanStand p.0 p.1) (zip t (marks_from s t))
all_stand s [] = (λ h. tt, λ h. tt)
all_stand s (c ∷ t) = let more = all_stand (scan_after s c) t in (λ h. (h.0, more.0 h.1), λ h. (h.0, more.1 h.1))

marked : (s : Scan) (t : List ℕ) → Stand s t ↔ Marked t (marks_from s t)
marked s t = (λ h. All-from_recursion _ _ ((all_stand s t).0 h), λ h. (all_stand s t).1 (recursion_from_All _ _ h))

of_each : {X Y : Type 0} (P : X → Type 0) (f : Y → X) (ys : List Y) → AllByRecursion P (map f ys) → AllByRecursion (λ y. P (f y)) ys
of_each P f [] h = tt
of_each P f (y ∷ ys) h = (h.0, of_each P f ys h.1)

pub lines_are_accepted : LinesAreAccepted
lines_are_accepted file bytes =
    let ps = lines_of_statements bytes in
    let size = sized (nat_lt LARGEST_FILE (length bytes)) (too_large file (length bytes)) (line_refusals file 1 None (lines bytes)) in
    let follow = lines_follow file 1 None (lines bytes) tt in (
      λ e. let s = size.0 e in let f = follow.0 s.1 in
          let own : All Line ps = All-from_recursion Line ps f.1.0 in
          let groups : All Group (grouped ps) = All-from_recursion Group (grouped ps) f.1.2 in
          record {
            size = ltb-false _ _ s.0;
            lengths = All-from_recursion Short (lines bytes) f.0;
            labels = λ k d h. (own k d h).0;
            blanks = λ k d h. (own k d h).1;
            begun = f.1.1;
            continued = λ k d h. (groups k d h).0;
            sixth = λ k d h. (own k d h).2;
            text = All-map (λ card. Marked card.text card.kept) (card_of 0) (grouped ps) (λ k d h. (marked _ _).0 (groups k d h).1);
          },
      λ a. let text = All-from_recursion (λ g. Marked (card_of 0 g).text (card_of 0 g).kept) (grouped ps)
          (of_each (λ card. Marked card.text card.kept) (card_of 0) (grouped ps) (recursion_from_All (λ card. Marked card.text card.kept) (cards 0 bytes) a.text)) in
          size.1 (
            le-ltb _ _ a.size,
            follow.1 (
              recursion_from_All Short (lines bytes) a.lengths,
              (
                recursion_from_All Line ps (λ k d h. (a.labels k d h, a.blanks k d h, a.sixth k d h)),
                a.begun,
                recursion_from_All Group (grouped ps) (λ k d h. (a.continued k d h, (marked _ _).1 (text k d h))),
              ),
            ),
          ),
    )

-- ---- statements

characters : (s : Scan) (t : List ℕ) → Stand s t → AllByRecursion (λ c. (32 ≤ c) × (c ≢ 127)) t
characters s [] h = tt
characters s (c ∷ t) h = ((h.0.0, h.0.1), characters (scan_after s c) t h.1)

-- digits
abbrev Digits : List ℕ → Type 0
Digits ds = AllByRecursion (IsInRange 48 57) ds

are_digits : IsDigitsTest Digits
are_digits = record { empty = tt; parts = λ c cs h. h; more = λ c cs r h. (r, h) }

filtered : (t : List ℕ) → Digits (filter is_digit t)
filtered [] = tt
filtered (c ∷ t) = go (is_digit c) refl (filtered t)
  where
    go : (b : Bool) → is_digit c ≡ b → Digits (filter is_digit t) → Digits (cond b (c ∷ filter is_digit t) (filter is_digit t))
    go true is more = (grind (arith, is), more)
    go false is more = more

label_short : (l : List ℕ) → label_of l ≤ 99999
label_short l =
    let ds = filter is_digit (label_field l) in
    let few : length ds ≤ 5 = omega (arith, length-filter is_digit (label_field l), count_by-le-length is_digit (label_field l), length-take 5 l) in
    omega (arith, digits_value_short (numerals_by_value Digits are_digits) ds 5 (filtered (label_field l)) few)

field_length : (l : List ℕ) → length (statement_field l) ≡ 66
field_length l =
    let text = take 66 (drop 6 l) in
    omega (arith, length-append text (replicate (66 - length text) 32), length-replicate {A = ℕ} (66 - length text) 32, length-take 66 (drop 6 l))

fields_length : (ps : List Numbered) → length (fields ps) ≤ length ps * 66
fields_length ps =
    let field : Numbered → List ℕ = λ p. statement_field p.1 in
    omega (arith, length-flat_map field ps, sum_by-le (λ p. length (field p)) 66 ps (λ k d within. omega (arith, field_length (get_or ps k d).1)))

readable : (file : ℕ) (g : Numbered × List Numbered) → Group g → IsReadable (card_of file g)
readable file g h = record {
  label = label_short g.0.1;
  text = All-from_recursion (λ c. (32 ≤ c) × (c ≢ 127)) (card_of file g).text (characters (scan_start (label_of g.0.1)) (card_of file g).text h.1);
  size = omega (arith, h.0, length-append (statement_field g.0.1) (fields g.1), field_length g.0.1, fields_length g.1);
}

pub cards_are_readable : CardsAreReadable
cards_are_readable file bytes e =
    let s = (sized (nat_lt LARGEST_FILE (length bytes)) (too_large file (length bytes)) (line_refusals file 1 None (lines bytes))).0 e in
    let groups : All Group (grouped (lines_of_statements bytes)) = All-from_recursion Group (grouped (lines_of_statements bytes)) ((lines_follow file 1 None (lines bytes) tt).0 s.1).1.2 in
    All-map IsReadable (card_of file) (grouped (lines_of_statements bytes)) (λ k d h. readable file (get_or (grouped (lines_of_statements bytes)) k d) (groups k d h))
