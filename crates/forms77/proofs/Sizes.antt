-- The length of a type is parted from FUNCTION behind it.
use Rattle.std.proofs.Common.{◌≡◌, inl, inr, ℕ, Bool, true, false, ◌==◌, List, [], ◌∷◌, ◌++◌, map, Option, Some, None, refl, sym, ap, ◌∙◌, subst}
use Rattle.std.specs.Prelude.{codes, if◌then◌else◌}
use Rattle.std.specs.List.{list_all}
use Rattle.std.specs.Str.{bytes_eq}
use Rattle.std.proofs.lemmas.Bool.{and_parts}
use Rattle.std.proofs.lemmas.Option.{same_Some}
use Rattle.text_base.specs.Chars.{is_digit}
use Rattle.text_base.specs.Pieces.{Piece, plain, whole, broken}
use Rattle.text_base.proofs.Optional.{mapped}
use Rattle.tree77.specs.FormTable as sort
use Rattle.tree77.specs.FormTable.{Sort}
use Rattle.tree77.specs.Forms.{Matches, perhaps, refused, stays}
use Rattle.tree77.specs.FormWords.{unsupported}
use Rattle.tree77.specs.Kinds.{is_number}
use Rattle.tree77.specs.Lexemes.{Part}
use Rattle.tree77.specs.SpecificationForms.{function_length, function_inside}
use Rattle.tree77.specs.Spelling.{HasForm, sort_in, size_sorts}
use Rattle.tree77.specs.Statements.{Statement, Length}
use Rattle.scan77.specs.PieceSlice.{with_piece, split_digits, digits_or_group, split_size}
use Rattle.forms77.proofs.Groups.{Both, in_group, group_parted}

-- ---- what a length is

digits_apart : (w : List ℕ) (r : List Piece) → list_all is_digit w ≡ true → split_digits r ≡ ([], r) → split_digits (map plain w ++ r) ≡ (map plain w, r)
digits_apart [] r all stop = stop
digits_apart (c ∷ w) r all stop =
    let p = and_parts (is_digit c) (list_all is_digit w) all in
    ap (λ b. if b then (plain c ∷ (split_digits (map plain w ++ r)).0, (split_digits (map plain w ++ r)).1) else ([], plain c ∷ (map plain w ++ r))) p.0
    ∙ ap (λ (q : Both). (plain c ∷ q.0, q.1)) (digits_apart w r p.1 stop)

inside_stays : (v : List Piece) (x : Length) (ps : List Part) → Matches function_inside 1 v x ps → stays (codes "),=:") 0 v ≡ true
inside_stays v x ps (inl m) = ap (stays (codes "),=:") 0) m.1.1.0
inside_stays v x ps (inr m) = m.1.2

module _ (rest : List Piece) where
  abbrev function : List Piece
  function = map plain (codes "FUNCTION") ++ rest

  abbrev IsApart : List Piece → Type 0
  IsApart v = digits_or_group (split_digits (v ++ function)) (v ++ function) ≡ Some (v, function)

  number_apart : (w : List ℕ) → is_number w ≡ true → IsApart (map plain w)
  number_apart [] is = absurd cc
  number_apart (c ∷ w) is = ap (λ q. digits_or_group q (map plain (c ∷ w) ++ function)) (digits_apart (c ∷ w) function is refl)

  length_apart : (v : List Piece) (x : Length) (ps : List Part) → Matches function_length 0 v x ps → IsApart v
  length_apart v x ps (inl m) =
      ap (λ z. digits_or_group (split_digits (z ++ function)) (z ++ function)) m.2
      ∙ in_group (plain 40 ∷ (m.0 ++ plain 41 ∷ [])) m.0 function refl (inside_stays m.0 x m.1 m.3)
      ∙ ap (λ (z : List Piece). Some (z, function)) (sym m.2)
  length_apart v x ps (inr m) = subst IsApart (sym m.1.1) (number_apart m.1.0 m.1.2)

  abbrev IsSplit : List Piece → Type 0
  IsSplit size = split_size (size ++ function) ≡ Some (size, function)

  none_split : (size : List Piece) → size ≡ [] → IsSplit size
  none_split size none = subst IsSplit (sym none) refl

  some_split : (size v : List Piece) → size ≡ plain 42 ∷ v → IsApart v → IsSplit size
  some_split size v is apart = subst IsSplit (sym is) (ap (with_piece (plain 42)) apart)

  refused_split : (size : List Piece) (x : Option Length) (ps : List Part) → Matches (perhaps 42 (refused (unsupported (codes "LENGTH")) function_length)) 0 size x ps → IsSplit size
  refused_split size x ps (inl none) = none_split size none.0
  refused_split size x ps (inr some) = some_split size some.0 some.2 (length_apart some.0 some.1 some.3.0 some.3.1)

  accepted_split : (size : List Piece) (x : Option Length) (ps : List Part) → Matches (perhaps 42 function_length) 0 size x ps → IsSplit size
  accepted_split size x ps (inl none) = none_split size none.0
  accepted_split size x ps (inr some) = some_split size some.0 some.2 (length_apart some.0 some.1 ps some.3)

  abbrev Splits : Sort → Type 0
  Splits k = (size : List Piece) (s : Statement) (ps : List Part) → HasForm k size s ps → IsSplit size

  sort_split : (k : Sort) (a b c : Bool) → (if a then Some sort.integer_size_sort else (if b then Some sort.logical_size_sort else (if c then Some sort.character_size_sort else None))) ≡ Some k → Splits k
  sort_split k true b c e = subst Splits (same_Some sort.integer_size_sort k e) (λ size s ps m. refused_split size m.1.0 ps m.1.1)
  sort_split k false true c e = subst Splits (same_Some sort.logical_size_sort k e) (λ size s ps m. refused_split size m.1.0 ps m.1.1)
  sort_split k false false true e = subst Splits (same_Some sort.character_size_sort k e) (λ size s ps m. accepted_split size m.1.0 ps m.1.1)
  sort_split k false false false e = absurd cc

pub size_apart : (k : Sort) (word : List ℕ) (size rest : List Piece) (s : Statement) (ps : List Part) → sort_in size_sorts word ≡ Some k → HasForm k size s ps
    → split_size (size ++ (map plain (codes "FUNCTION") ++ rest)) ≡ Some (size, map plain (codes "FUNCTION") ++ rest)
size_apart k word size rest s ps e m = sort_split rest k (bytes_eq (codes "INTEGER") word) (bytes_eq (codes "LOGICAL") word) (bytes_eq (codes "CHARACTER") word) e size s ps m

-- ---- what is parted

abbrev digits_by : Bool → ℕ → List Piece → Both → Both
digits_by b c r behind = if b then (plain c ∷ behind.0, behind.1) else ([], plain c ∷ r)

digits_parted : (r : List Piece) → r ≡ (split_digits r).0 ++ (split_digits r).1
digits_parted [] = refl
digits_parted (whole t ∷ r) = refl
digits_parted (broken t ∷ r) = refl
digits_parted (plain c ∷ r) = go (is_digit c) (digits_parted r)
  where
    go : (b : Bool) → r ≡ (split_digits r).0 ++ (split_digits r).1 → plain c ∷ r ≡ (digits_by b c r (split_digits r)).0 ++ (digits_by b c r (split_digits r)).1
    go true more = ap (λ (x : List Piece). plain c ∷ x) more
    go false more = refl

length_parted : (digits : Both) (r : List Piece) (p : Both) → r ≡ digits.0 ++ digits.1 → digits_or_group digits r ≡ Some p → r ≡ p.0 ++ p.1
length_parted ([], behind) r p is e = (group_parted r p.0 p.1 e).0
length_parted (d ∷ ds, behind) r p is e = is ∙ ap (λ (q : Both). q.0 ++ q.1) (same_Some (d ∷ ds, behind) p e)

pub size_parted : (pieces size rest : List Piece) → split_size pieces ≡ Some (size, rest) → pieces ≡ size ++ rest
size_parted [] size rest e = ap (λ (q : Both). q.0 ++ q.1) (same_Some ([], []) (size, rest) e)
size_parted (whole t ∷ r) size rest e = ap (λ (q : Both). q.0 ++ q.1) (same_Some ([], whole t ∷ r) (size, rest) e)
size_parted (broken t ∷ r) size rest e = ap (λ (q : Both). q.0 ++ q.1) (same_Some ([], broken t ∷ r) (size, rest) e)
size_parted (plain c ∷ r) size rest e = go (c == 42) e
  where
    go : (b : Bool) → (if b then with_piece (plain c) (digits_or_group (split_digits r) r) else Some ([], plain c ∷ r)) ≡ Some (size, rest) → plain c ∷ r ≡ size ++ rest
    go true e =
        let m = mapped (digits_or_group (split_digits r) r) (λ (q : Both). (plain c ∷ q.0, q.1)) (size, rest) e in
        ap (λ (x : List Piece). plain c ∷ x) (length_parted (split_digits r) r m.from (digits_parted r) m.was) ∙ ap (λ (q : Both). q.0 ++ q.1) m.is
    go false e = ap (λ (q : Both). q.0 ++ q.1) (same_Some ([], plain c ∷ r) (size, rest) e)
