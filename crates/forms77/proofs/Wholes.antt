-- What is read of all tokens is what all pieces have, and the other way round.
use Rattle.std.proofs.Common.{◌≡◌, true, List, [], ◌∷◌, ◌++◌, Option, Some, None, refl, sym, ap, ◌∙◌, subst, append-nil}
use Rattle.std.specs.Option.{option_and_then}
use Rattle.std.proofs.lemmas.Option.{same_Some}
use Rattle.text_base.specs.Pieces.{Piece}
use Rattle.text_base.proofs.Optional.{went}
use Rattle.tree77.specs.Forms.{Form, Matches, first_sort}
use Rattle.tree77.specs.Lexemes.{Part, first_lowest}
use Rattle.tree77.specs.Tokens.{Token, IsCut, cut_nothing}
use Rattle.scan77.specs.TokenReading.{no_token, read_tokens}
use Rattle.expr77.specs.Gathering.{keep}
use Rattle.forms77.specs.Goodness.{stops, is_good}
use Rattle.forms77.specs.Reading.{State, read}
use Rattle.forms77.specs.Whole.{start, ended, read_to_end, whole_by}
use Rattle.forms77.proofs.Complete.{complete}
use Rattle.forms77.proofs.Cuttable.{cuttable}
use Rattle.forms77.proofs.Keeping.{keeps_lowest}
use Rattle.forms77.proofs.Lower.{Lower}
use Rattle.forms77.proofs.Sound.{sound}

record IsLast {A : Type 0} (x : A) (lowest : Option Part) (ts : List Token) (p : A × Option Part) : Type 0 where
  none : ts ≡ []
  is : (x, lowest) ≡ p

last : {A : Type 0} (x : A) (lowest : Option Part) (ts : List Token) (p : A × Option Part) → ended x lowest ts ≡ Some p → IsLast x lowest ts p
last x lowest [] p e = record { none = refl; is = same_Some (x, lowest) p e }
last x lowest (t ∷ ts) p e = absurd cc

-- the pieces have the form, and this is the lowest refused part of them
pub record IsFormed {A : Type 0} (f : Form A) (pieces : List Piece) (p : A × Option Part) : Type 0 where
  pub parts : List Part
  pub formed : Matches f 0 pieces p.0 parts
  pub lowest : p.1 ≡ first_lowest parts

-- each part of the form ends where the next begins, and its pieces may end
abbrev pub IsWhole : {A : Type 0} → Form A → Type 0
IsWhole f = (is_good f ≡ true) × (stops f 0 ≡ true)

module _ (low : Lower) {A : Type 0} (f : Form A) (good : IsWhole f) (pieces : List Piece) where
  tokens_found : (ts : List Token) (p : A × Option Part) → IsCut pieces ts → read_to_end (read f) ts ≡ Some p → IsFormed f pieces p
  tokens_found ts p cut e =
      let a = went (read f (start ts)) (λ a. ended a.0 a.1.lowest a.1.tokens) p e in
      let l = last a.from.0 a.from.1.lowest a.from.1.tokens p a.is in
      let t = sound low f good.0 (start ts) a.from pieces cut a.was in
      let none = low.cut_pieces t.rest [] (subst (IsCut t.rest) l.none t.cut) in
      let all : t.front ≡ pieces = sym (append-nil t.front) ∙ ap (λ x. t.front ++ x) (sym none) ∙ sym t.whole in
      let formed = t.formed (ap (λ r. stops f (first_sort r)) none ∙ good.1) in
      subst (IsFormed f pieces) l.is (record { parts = t.parts; formed = subst (λ u. Matches f 0 u a.from.0 t.parts) all formed; lowest = t.lowest ∙ keeps_lowest t.parts })

  tokens_only : (ts : List Token) (x : A) (ps : List Part) → IsCut pieces ts → Matches f 0 pieces x ps → read_to_end (read f) ts ≡ Some (x, first_lowest ps)
  tokens_only ts x ps cut m =
      let r = complete low f good.0 0 None pieces [] x ps ts m good.1 (subst (λ u. IsCut u ts) (sym (append-nil pieces)) cut) in
      ap (option_and_then (λ (a : A × State). ended a.0 a.1.lowest a.1.tokens)) r.is
      ∙ ap (ended x (keep None ps)) (same_Some r.left [] (sym (low.cut_only [] r.left r.cut)))
      ∙ ap (λ k. Some (x, k)) (keeps_lowest ps)

  pub whole_found : (x : A) (lowest : Option Part) → whole_by (read f) pieces ≡ Some (x, lowest) → (ps : List Part) × Matches f 0 pieces x ps × (lowest ≡ first_lowest ps)
  whole_found x lowest e =
      let r = went (read_tokens pieces no_token) (read_to_end (read f)) (x, lowest) e in
      let w = tokens_found r.from (x, lowest) (low.cut_found pieces r.from r.was) r.is in
      (w.parts, w.formed, w.lowest)

  pub whole_only : (x : A) (ps : List Part) → Matches f 0 pieces x ps → whole_by (read f) pieces ≡ Some (x, first_lowest ps)
  whole_only x ps m =
      let c = cuttable low f good.0 0 pieces [] x ps m good.1 ([], cut_nothing refl refl) in
      let cut = subst (λ u. IsCut u c.0) (append-nil pieces) c.1 in
      ap (option_and_then (read_to_end (read f))) (low.cut_only pieces c.0 cut) ∙ tokens_only c.0 x ps cut m
