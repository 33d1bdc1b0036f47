-- What is read of a statement as an outcome: that it is accepted, or why it is refused.
use Rattle.std.proofs.Common.{◌≡◌, ℕ, List, [], Option, Some, None, refl, sym, ap, ◌∙◌, subst}
use Rattle.text_base.specs.Pieces.{Piece}
use Rattle.tree77.specs.Lexemes.{Part, first_lowest}
use Rattle.tree77.specs.Spelling.{IsWideStatement, SpellsStatement, IsRefusedStatement, refused_whole, refused_part}
use Rattle.tree77.specs.Statements.{Statement}
use Rattle.parse77.specs.Reading.{Read, read_statement, accepted, rejected, unless_part, outcome_from, outcome_of}
use Rattle.parse77.proofs.LowestParts.{no_lowest}

-- what the reading of statements gives is what is spelled, and all that is spelled
pub record Reads : Type 0 where
  pub found : (label : ℕ) (pieces : List Piece) (x : Statement) (lowest : Option Part) → read_statement label pieces ≡ Some (x, lowest) → (ps : List Part) × IsWideStatement label pieces x ps × (lowest ≡ first_lowest ps)
  pub only : (label : ℕ) (pieces : List Piece) (x : Statement) (ps : List Part) → IsWideStatement label pieces x ps → read_statement label pieces ≡ Some (x, first_lowest ps)

same_rejected : {p q : Part} → rejected p ≡ rejected q → p ≡ q
same_rejected e = cc

nothing_read : (r : Statement × Option Part) → ◌≡◌ {A = Read} None (Some r) → ⊥
nothing_read r e = cc

module _ (reads : Reads) (label : ℕ) (pieces : List Piece) where
  pub spelled : (x : Statement) → outcome_of label pieces ≡ accepted x → SpellsStatement label pieces x
  spelled x = go (read_statement label pieces) refl
    where
      go : (r : Read) → read_statement label pieces ≡ r → outcome_from pieces r ≡ accepted x → SpellsStatement label pieces x
      go None is e = absurd cc
      go (Some (y, Some p)) is e = absurd cc
      go (Some (y, None)) is e =
          let f = reads.found label pieces y None is in
          let same : y ≡ x = cc in
          subst (IsWideStatement label pieces x) (no_lowest f.0 (sym f.2)) (subst (λ z. IsWideStatement label pieces z f.0) same f.1)

  pub read : (x : Statement) → SpellsStatement label pieces x → outcome_of label pieces ≡ accepted x
  read x s = ap (outcome_from pieces) (reads.only label pieces x [] s)

  pub refused : (p : Part) → outcome_of label pieces ≡ rejected p → IsRefusedStatement label pieces p
  refused p = go (read_statement label pieces) refl
    where
      go : (r : Read) → read_statement label pieces ≡ r → outcome_from pieces r ≡ rejected p → IsRefusedStatement label pieces p
      go None is e =
          refused_whole (λ x ps wide. nothing_read (x, first_lowest ps) (sym is ∙ reads.only label pieces x ps wide)) (sym (same_rejected e))
      go (Some (y, None)) is e = absurd cc
      go (Some (y, Some q)) is e =
          let f = reads.found label pieces y (Some q) is in
          refused_part y f.0 f.1 (sym f.2 ∙ ap Some (same_rejected e))

  pub found_refused : (p : Part) → IsRefusedStatement label pieces p → outcome_of label pieces ≡ rejected p
  found_refused p (refused_whole none is) = go (read_statement label pieces) refl
    where
      go : (r : Read) → read_statement label pieces ≡ r → outcome_from pieces r ≡ rejected p
      go None e = ap rejected (sym is)
      go (Some (y, lowest)) e = let f = reads.found label pieces y lowest e in absurd (none y f.0 f.1)
  found_refused p (refused_part x ps wide least) = ap (outcome_from pieces) (reads.only label pieces x ps wide) ∙ ap (unless_part x) least
