-- Parentheses that stand first are parted from what stands behind them.
use Rattle.std.proofs.Common.{◌≡◌, ℕ, suc, ◌+◌, Bool, true, false, ◌&&◌, ◌==◌, List, [], ◌∷◌, ◌++◌, Option, Some, None, refl, sym, ap, ◌∙◌, subst, append_assoc, arith}
use Rattle.std.specs.Prelude.{codes, if◌then◌else◌}
use Rattle.std.specs.Option.{option_map}
use Rattle.std.proofs.lemmas.Bool.{eqb-true}
use Rattle.std.proofs.lemmas.Bool.Decides.{nat_tests}
use Rattle.std.proofs.lemmas.Option.{same_Some}
use Rattle.text_base.specs.Pieces.{Piece, plain, whole, broken}
use Rattle.text_base.proofs.Optional.{mapped}
use Rattle.tree77.specs.FormTable as sort
use Rattle.tree77.specs.Forms.{is_in, stays, behind_group}
use Rattle.tree77.specs.Kinds.{open_after}
use Rattle.tree77.specs.Lexemes.{Part}
use Rattle.tree77.specs.Spelling.{HasForm}
use Rattle.tree77.specs.Statements.{Statement}
use Rattle.scan77.specs.PieceSlice.{with_piece, split_partner, split_group}
use Rattle.forms77.proofs.Balance.{shifted}

-- ---- what is parted

abbrev pub Both : Type 0
Both = List Piece × List Piece

record IsParted (pieces : List Piece) (n : ℕ) (p : Both) : Type 0 where
  whole : pieces ≡ p.0 ++ p.1
  behind : behind_group n pieces ≡ p.1

partner_found : (n : ℕ) (pieces : List Piece) (p : Both) → split_partner n pieces ≡ Some p → IsParted pieces n p
partner_found n [] p e = absurd cc
partner_found n (whole t ∷ rest) p e =
    let m = mapped (split_partner n rest) (λ (r : Both). (whole t ∷ r.0, r.1)) p e in
    let q = partner_found n rest m.from m.was in
    subst (IsParted (whole t ∷ rest) n) m.is (record { whole = ap (λ (x : List Piece). whole t ∷ x) q.whole; behind = q.behind })
partner_found n (broken t ∷ rest) p e =
    let m = mapped (split_partner n rest) (λ (r : Both). (broken t ∷ r.0, r.1)) p e in
    let q = partner_found n rest m.from m.was in
    subst (IsParted (broken t ∷ rest) n) m.is (record { whole = ap (λ (x : List Piece). broken t ∷ x) q.whole; behind = q.behind })
partner_found n (plain c ∷ rest) p e = go (open_after n c == 0) refl (λ q. partner_found (open_after n c) rest q) e
  where
    go : (b : Bool) → (open_after n c == 0) ≡ b → ((q : Both) → split_partner (open_after n c) rest ≡ Some q → IsParted rest (open_after n c) q)
        → (if b then Some (plain c ∷ [], rest) else with_piece (plain c) (split_partner (open_after n c) rest)) ≡ Some p → IsParted (plain c ∷ rest) n p
    go true is more e = subst (IsParted (plain c ∷ rest) n) (same_Some (plain c ∷ [], rest) p e) (record { whole = refl; behind = ap (λ b. if b then rest else behind_group (open_after n c) rest) is })
    go false is more e =
        let m = mapped (split_partner (open_after n c) rest) (λ (r : Both). (plain c ∷ r.0, r.1)) p e in
        let q = more m.from m.was in
        subst (IsParted (plain c ∷ rest) n) m.is (record { whole = ap (λ (x : List Piece). plain c ∷ x) q.whole; behind = ap (λ b. if b then rest else behind_group (open_after n c) rest) is ∙ q.behind })

pub group_parted : (pieces front under : List Piece) → split_group pieces ≡ Some (front, under) → (pieces ≡ front ++ under) × (behind_group 0 pieces ≡ under)
group_parted [] front under e = absurd cc
group_parted (whole t ∷ rest) front under e = absurd cc
group_parted (broken t ∷ rest) front under e = absurd cc
group_parted (plain c ∷ rest) front under e = go (c == 40) e
  where
    go : (b : Bool) → (if b then split_partner 0 (plain c ∷ rest) else None) ≡ Some (front, under) → (plain c ∷ rest ≡ front ++ under) × (behind_group 0 (plain c ∷ rest) ≡ under)
    go true e = let q = partner_found 0 (plain c ∷ rest) (front, under) e in (q.whole, q.behind)
    go false e = absurd cc

-- ---- what closes is found

abbrev with_pieces : List Piece → Option Both → Option Both
with_pieces u found = option_map (λ r. (u ++ r.0, r.1)) found

none_before : (o : Option Both) → o ≡ with_pieces [] o
none_before None = refl
none_before (Some p) = refl

one_before : (p : Piece) (u : List Piece) (o : Option Both) → with_piece p (with_pieces u o) ≡ with_pieces (p ∷ u) o
one_before p u None = refl
one_before p u (Some q) = refl

stays_apart : (marks : List ℕ) → is_in marks 41 ≡ true → (n m : ℕ) (u r : List Piece) → stays marks n u ≡ true → split_partner (n + suc m) (u ++ r) ≡ with_pieces u (split_partner (suc m) r)
stays_apart marks closing n m [] r s =
    let none : n ≡ 0 = eqb-true n 0 s in
    let same : n + suc m ≡ suc m = omega (arith, none) in
    ap (λ k. split_partner k r) same ∙ none_before (split_partner (suc m) r)
stays_apart marks closing n m (whole t ∷ u) r s = ap (with_piece (whole t)) (stays_apart marks closing n m u r s) ∙ one_before (whole t) u (split_partner (suc m) r)
stays_apart marks closing n m (broken t ∷ u) r s = ap (with_piece (broken t)) (stays_apart marks closing n m u r s) ∙ one_before (broken t) u (split_partner (suc m) r)
stays_apart marks closing n m (plain c ∷ u) r s = go (n == 0 && is_in marks c) refl (stays_apart marks closing (open_after n c) m u r) s
  where
    never : (k : ℕ) → (k + suc m == 0) ≡ false
    never k = grind (arith, nat_tests)

    go : (b : Bool) → (n == 0 && is_in marks c) ≡ b → (stays marks (open_after n c) u ≡ true → split_partner (open_after n c + suc m) (u ++ r) ≡ with_pieces u (split_partner (suc m) r)) → (if b then false else stays marks (open_after n c) u) ≡ true
        → split_partner (n + suc m) (plain c ∷ (u ++ r)) ≡ with_pieces (plain c ∷ u) (split_partner (suc m) r)
    go true on more s = absurd cc
    go false off more s =
        ap (λ k. if k == 0 then Some (plain c ∷ [], u ++ r) else with_piece (plain c) (split_partner k (u ++ r))) (shifted n m c marks closing off)
        ∙ ap (λ b. if b then Some (plain c ∷ [], u ++ r) else with_piece (plain c) (split_partner (open_after n c + suc m) (u ++ r))) (never (open_after n c))
        ∙ ap (with_piece (plain c)) (more s)
        ∙ one_before (plain c) u (split_partner (suc m) r)

-- an expression in parentheses
pub group_is : (v under : List Piece) → stays (codes "),=:") 0 v ≡ true → split_group (plain 40 ∷ (v ++ plain 41 ∷ under)) ≡ Some (plain 40 ∷ (v ++ plain 41 ∷ []), under)
group_is v under s = ap (with_piece (plain 40)) (stays_apart (codes "),=:") refl 0 0 v (plain 41 ∷ under) s)

pub in_group : (front v under : List Piece) → front ≡ plain 40 ∷ (v ++ plain 41 ∷ []) → stays (codes "),=:") 0 v ≡ true → split_group (front ++ under) ≡ Some (front, under)
in_group front v under is s =
    ap split_group (ap (λ x. x ++ under) is ∙ ap (λ (x : List Piece). plain 40 ∷ x) (append_assoc v (plain 41 ∷ []) under)) ∙ group_is v under s ∙ ap (λ (x : List Piece). Some (x, under)) (sym is)

pub condition_apart : (front under : List Piece) (s : Statement) (ps : List Part) → HasForm sort.condition_sort front s ps → split_group (front ++ under) ≡ Some (front, under)
condition_apart front under s ps m = in_group front m.1.0 under m.1.2 m.1.3.2

-- behind parentheses stands what they are parted from
abbrev IsApart : List Piece → Type 0
IsApart rest = (front : List Piece) × (under : List Piece) × (split_group rest ≡ Some (front, under)) × (behind_group 0 rest ≡ under)

is_apart : (rest front v under : List Piece) → rest ≡ front ++ under → front ≡ plain 40 ∷ (v ++ plain 41 ∷ []) → stays (codes "),=:") 0 v ≡ true → IsApart rest
is_apart rest front v under all is s =
    let e = ap split_group all ∙ in_group front v under is s in
    (front, under, e, (group_parted rest front under e).1)

pub labels_apart : (rest : List Piece) (s : Statement) (ps : List Part) → HasForm sort.arithmetic_sort rest s ps → IsApart rest
labels_apart rest s ps m = let p = m.1.1 in is_apart rest p.0 p.5.0 p.1 p.4 p.5.2 p.5.3.2

pub block_apart : (rest : List Piece) (s : Statement) (ps : List Part) → HasForm sort.then_sort rest s ps → IsApart rest
block_apart rest s ps m = let p = m.1.1 in is_apart rest p.0 p.5.0 p.1 p.4 p.5.2 p.5.3.2
