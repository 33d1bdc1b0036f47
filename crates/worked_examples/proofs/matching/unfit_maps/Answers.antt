use Rattle.std.proofs.Common.{◌≡◌, zero, suc, Contains, sym, ap, ◌∙◌, ℕ, List, [], ◌∷◌, codes, None, Some, refl, arith}
use Rattle.std.specs.Prelude.{slice_index}
use Rattle.std.proofs.lemmas.List.Elements.{Contains-get_or}
use Rattle.text_base.specs.Values.{integers}
use Rattle.program77.specs.Layout.{layout_of}
use Rattle.project_set.specs.MapText.{MapLine}
use Rattle.tree90.specs.Tree.{Declared, integer_object}
use Rattle.tree90.specs.Proper.{declared_name}
use Rattle.tree90.specs.Meaning.{declared_in}
use Rattle.project_set.specs.Match.{Covers, IsMap, HasPlace, IsObjectPlace, object_place}
use Rattle.worked_examples.specs.Read.{short_program}
use Rattle.worked_examples.specs.Wrong.{other_value, line_at, line_to, IsNoMap}
use Rattle.worked_examples.proofs.Carried.{line_of_i}
use Rattle.worked_examples.proofs.matching.unfit_maps.Goals as goal

covers : Covers (layout_of short_program) (line_at 1) 0 0 integers
covers = record { named = refl; from = omega arith; to = omega arith; with_kind = refl }

nothing : IsNoMap []
nothing map = let one = line_of_i other_value [] map in let e : None ≡ Some one.line = one.at in cc

twice : IsNoMap (line_at 1 ∷ line_at 1 ∷ [])
twice map =
    let one = line_of_i other_value (line_at 1 ∷ line_at 1 ∷ []) map in
    let first : 0 ≡ one.index = one.only 0 (line_at 1) refl covers in
    let second : 1 ≡ one.index = one.only 1 (line_at 1) refl covers in
    absurd (omega arith)

-- what a line says of its first place
place_of : (line : MapLine) → IsMap (layout_of short_program) other_value (line ∷ []) → line.first ≡ 0 → line.count ≡ 1 → IsObjectPlace other_value line.home line.object line.kind (object_place line 0)
place_of line map first count = (map.no_other line (Contains-get_or (line ∷ []) 0 line (omega arith))).objects 0 (omega (arith, first)) (omega (arith, first, count))

-- the one declared object is I, with its one place
one_object : (object : List ℕ) (place : ℕ) → IsObjectPlace other_value (codes "T") object integers place → (object ≡ codes "I") × (place ≡ 1)
one_object object place is = go is.declared (only (codes "T", is.declared) is.in_program) is.named is.has
  where
    only : (d : List ℕ × Declared) → Contains (declared_in other_value) d → integer_object (codes "I") ≡ d.1
    only d (zero, within, same) = ap (λ (e : List ℕ × Declared). e.1) same
    only d (suc i, within, same) = absurd (omega (arith, within))

    go : (d : Declared) → integer_object (codes "I") ≡ d → declared_name d ≡ object → HasPlace d integers place → (object ≡ codes "I") × (place ≡ 1)
    go (integer_object x) same named has = (sym named ∙ sym (ap declared_name same), has)

place_0 : IsNoMap (line_at 0 ∷ [])
place_0 map = let h : 0 ≡ 1 = (one_object _ _ (place_of (line_at 0) map refl refl)).1 in absurd (omega (arith, h))

place_2 : IsNoMap (line_at 2 ∷ [])
place_2 map = let h : 2 ≡ 1 = (one_object _ _ (place_of (line_at 2) map refl refl)).1 in absurd (omega (arith, h))

undeclared : IsNoMap (line_to (codes "J") ∷ [])
undeclared map = let h : codes "J" ≡ codes "I" = (one_object _ _ (place_of (line_to (codes "J")) map refl refl)).0 in let first : 74 ≡ 73 = ap (λ name. slice_index name 0) h in absurd (omega (arith, first))

pub returns : goal.returns
returns c = record { nothing = nothing; twice = twice; place_0 = place_0; place_2 = place_2; undeclared = undeclared }
