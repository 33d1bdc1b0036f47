-- The pieces behind a group, digits or a length stand behind it.
use Rattle.std.proofs.Common.{◌≡◌, ℕ, ◌+◌, ◌-◌, ◌≤◌, Bool, true, false, ◌==◌, List, [], ◌∷◌, ◌++◌, Option, Some, None, refl, sym, ap, ◌∙◌, arith}
use Rattle.std.specs.Prelude.{if◌then◌else◌}
use Rattle.std.specs.Option.{option_map}
use Rattle.text_base.specs.Chars.{is_digit}
use Rattle.text_base.specs.Pieces.{Piece, plain, whole, broken}
use Rattle.text_base.proofs.Optional.{mapped}
use Rattle.tree77.specs.Kinds.{open_after}
use Rattle.scan77.specs.Cutting.{behind_passing}
use Rattle.scan77.specs.FirstPiece.{piece_of}
use Rattle.scan77.specs.declared.first_piece.FirstPiece.{FirstPiece}
use Rattle.scan77.specs.declared.first_piece.FirstPiece.TheVariants as v
use Rattle.scan77.specs.PieceSlice.{uncons_plain, uncons_piece, with_piece, split_partner, split_group, split_digits, digits_or_group, split_size}

-- both parts are all pieces
abbrev pub AreParts : List Piece → Option (List Piece × List Piece) → Type 0
AreParts pieces o = (r : List Piece × List Piece) → o ≡ Some r → pieces ≡ r.0 ++ r.1

more_parts : (p : Piece) (pieces : List Piece) (o : Option (List Piece × List Piece)) → AreParts pieces o → AreParts (p ∷ pieces) (with_piece p o)
more_parts p pieces o are r e =
    let m = mapped o (λ (x : List Piece × List Piece). (p ∷ x.0, x.1)) r e in
    ap (λ (x : List Piece). p ∷ x) (are m.from m.was) ∙ ap (λ (x : List Piece × List Piece). x.0 ++ x.1) m.is

these_parts : (first rest : List Piece) → AreParts (first ++ rest) (Some (first, rest))
these_parts first rest r e = let same : ◌≡◌ {A = List Piece × List Piece} (first, rest) r = cc in ap (λ (x : List Piece × List Piece). x.0 ++ x.1) same

partner_parts : (n : ℕ) (pieces : List Piece) → AreParts pieces (split_partner n pieces)
partner_parts n [] r e = absurd cc
partner_parts n (plain c ∷ rest) r e = go (open_after n c == 0) (partner_parts (open_after n c) rest) r e
  where
    go : (b : Bool) → AreParts rest (split_partner (open_after n c) rest) → AreParts (plain c ∷ rest) (if b then Some (plain c ∷ [], rest) else with_piece (plain c) (split_partner (open_after n c) rest))
    go true are = these_parts (plain c ∷ []) rest
    go false are = more_parts (plain c) rest (split_partner (open_after n c) rest) are
partner_parts n (whole t ∷ rest) r e = more_parts (whole t) rest (split_partner n rest) (partner_parts n rest) r e
partner_parts n (broken t ∷ rest) r e = more_parts (broken t) rest (split_partner n rest) (partner_parts n rest) r e

pub group_parts : (pieces : List Piece) → AreParts pieces (split_group pieces)
group_parts [] r e = absurd cc
group_parts (plain c ∷ rest) r e = go (c == 40) r e
  where
    go : (b : Bool) → AreParts (plain c ∷ rest) (if b then split_partner 0 (plain c ∷ rest) else None)
    go true r e = partner_parts 0 (plain c ∷ rest) r e
    go false r e = absurd cc
group_parts (whole t ∷ rest) r e = absurd cc
group_parts (broken t ∷ rest) r e = absurd cc

digits_parts : (pieces : List Piece) → pieces ≡ (split_digits pieces).0 ++ (split_digits pieces).1
digits_parts [] = refl
digits_parts (plain c ∷ rest) = go (is_digit c) (digits_parts rest)
  where
    split : Bool → List Piece × List Piece
    split b = if b then (plain c ∷ (split_digits rest).0, (split_digits rest).1) else ([], plain c ∷ rest)

    go : (b : Bool) → rest ≡ (split_digits rest).0 ++ (split_digits rest).1 → plain c ∷ rest ≡ (split b).0 ++ (split b).1
    go true are = ap (λ (x : List Piece). plain c ∷ x) are
    go false are = refl
digits_parts (whole t ∷ rest) = refl
digits_parts (broken t ∷ rest) = refl

digits_or_group_parts : (pieces : List Piece) → AreParts pieces (digits_or_group (split_digits pieces) pieces)
digits_or_group_parts pieces = go (split_digits pieces) (digits_parts pieces)
  where
    go : (d : List Piece × List Piece) → pieces ≡ d.0 ++ d.1 → AreParts pieces (digits_or_group d pieces)
    go ([], rest) are = group_parts pieces
    go (p ∷ ps, rest) are = λ r e. are ∙ these_parts (p ∷ ps) rest r e

pub size_parts : (pieces : List Piece) → AreParts pieces (split_size pieces)
size_parts [] r e = these_parts [] [] r e
size_parts (plain c ∷ rest) r e = go (c == 42) r e
  where
    go : (b : Bool) → AreParts (plain c ∷ rest) (if b then with_piece (plain c) (digits_or_group (split_digits rest) rest) else Some ([], plain c ∷ rest))
    go true = more_parts (plain c) rest (digits_or_group (split_digits rest) rest) (digits_or_group_parts rest)
    go false = these_parts [] (plain c ∷ rest)
size_parts (whole t ∷ rest) r e = these_parts [] (whole t ∷ rest) r e
size_parts (broken t ∷ rest) r e = these_parts [] (broken t ∷ rest) r e

-- ---- what is left behind

abbrev pub behind_split : Option (List Piece × List Piece) → Option (List Piece)
behind_split o = option_map (λ r. r.1) o

pub behind_piece : (p : Piece) (o : Option (List Piece × List Piece)) → behind_split (with_piece p o) ≡ behind_split o
behind_piece p None = refl
behind_piece p (Some r) = refl

-- where the rest is what is left behind, the part before it is the first one
pub parted : (pieces first rest : List Piece) (o : Option (List Piece × List Piece)) → AreParts pieces o → Some rest ≡ behind_split o → ((ps : List Piece) → pieces ≡ ps ++ rest → first ≡ ps) → Some (first, rest) ≡ o
parted pieces first rest o are e is = go o are e
  where
    go : (o : Option (List Piece × List Piece)) → AreParts pieces o → Some rest ≡ behind_split o → Some (first, rest) ≡ o
    go None are e = absurd cc
    go (Some r) are e =
        let same : r.1 ≡ rest = cc in
        λ i. Some (is r.0 (are r refl ∙ ap (λ (x : List Piece). r.0 ++ x) same) i, sym same i)

pub first_piece : (pieces rest : List Piece) (p : Piece) → Some (p, rest) ≡ uncons_piece pieces → pieces ≡ p ∷ rest
first_piece [] rest p e = absurd cc
first_piece (q ∷ ps) rest p e =
    let same : ◌≡◌ {A = Piece × List Piece} (q, ps) (p, rest) = cc in
    ap (λ (x : Piece × List Piece). x.0 ∷ x.1) same

-- behind one more piece
pub few_open : (n c : ℕ) → open_after n c ≤ n + 1
few_open n c = go (c == 40) (c == 41)
  where
    go : (a b : Bool) → (if a then n + 1 else (if b then n - 1 else n)) ≤ n + 1
    go true b = omega arith
    go false true = omega arith
    go false false = omega arith

pub partner_here : (n c : ℕ) (pieces rest : List Piece) → pieces ≡ plain c ∷ rest → (open_after n c == 0) ≡ true → Some rest ≡ behind_split (split_partner n pieces)
partner_here n c pieces rest e none =
    sym (ap (λ ps. behind_split (split_partner n ps)) e ∙ ap (λ b. behind_split (if b then Some (plain c ∷ [], rest) else with_piece (plain c) (split_partner (open_after n c) rest))) none)

pub partner_later : (n c : ℕ) (pieces rest : List Piece) → pieces ≡ plain c ∷ rest → (open_after n c == 0) ≡ false → behind_split (split_partner (open_after n c) rest) ≡ behind_split (split_partner n pieces)
partner_later n c pieces rest e some =
    sym (ap (λ ps. behind_split (split_partner n ps)) e ∙ ap (λ b. behind_split (if b then Some (plain c ∷ [], rest) else with_piece (plain c) (split_partner (open_after n c) rest))) some
    ∙ behind_piece (plain c) (split_partner (open_after n c) rest))

pub not_plain : (p : FirstPiece) → ((c : ℕ) → p ≡ v.Plain c → ⊥) → (c : ℕ) → piece_of p ≡ plain c → ⊥
not_plain (v.Plain d) off c e = off d refl
not_plain (v.Whole t) off c e = absurd cc
not_plain (v.Broken t) off c e = absurd cc

pub partner_past : (n : ℕ) (p : Piece) (pieces rest : List Piece) → pieces ≡ p ∷ rest → ((c : ℕ) → p ≡ plain c → ⊥) → behind_split (split_partner n rest) ≡ behind_split (split_partner n pieces)
partner_past n (plain c) pieces rest e off = absurd (off c refl)
partner_past n (whole t) pieces rest e off = sym (ap (λ ps. behind_split (split_partner n ps)) e ∙ behind_piece (whole t) (split_partner n rest))
partner_past n (broken t) pieces rest e off = sym (ap (λ ps. behind_split (split_partner n ps)) e ∙ behind_piece (broken t) (split_partner n rest))

-- digits that stand first
digits_left : (pieces : List Piece) → behind_passing is_digit pieces ≡ (split_digits pieces).1
digits_left [] = refl
digits_left (plain c ∷ rest) = go (is_digit c) (digits_left rest)
  where
    split : Bool → List Piece × List Piece
    split b = if b then (plain c ∷ (split_digits rest).0, (split_digits rest).1) else ([], plain c ∷ rest)

    go : (b : Bool) → behind_passing is_digit rest ≡ (split_digits rest).1 → (if b then behind_passing is_digit rest else plain c ∷ rest) ≡ (split b).1
    go true same = same
    go false same = refl
digits_left (whole t ∷ rest) = refl
digits_left (broken t ∷ rest) = refl

pub digits_behind : (pieces left : List Piece) (c : ℕ) (rest : List Piece) → Some (c, rest) ≡ uncons_plain pieces → is_digit c ≡ true → left ≡ behind_passing is_digit pieces
    → Some left ≡ behind_split (digits_or_group (split_digits pieces) pieces)
digits_behind [] left c rest e digit is = absurd cc
digits_behind (whole t ∷ ps) left c rest e digit is = absurd cc
digits_behind (broken t ∷ ps) left c rest e digit is = absurd cc
digits_behind (plain d ∷ ps) left c rest e digit is =
    let both : ◌≡◌ {A = ℕ × List Piece} (c, rest) (d, ps) = cc in
    let here : is_digit d ≡ true = ap is_digit (sym (ap (λ (x : ℕ × List Piece). x.0) both)) ∙ digit in
    ap Some (is ∙ ap (λ b. if b then behind_passing is_digit ps else plain d ∷ ps) here ∙ digits_left ps)
    ∙ sym (ap (λ b. behind_split (digits_or_group (if b then (plain d ∷ (split_digits ps).0, (split_digits ps).1) else ([], plain d ∷ ps)) (plain d ∷ ps))) here)
