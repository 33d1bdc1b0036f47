-- Two integers or more.
use Rattle.std.proofs.Common.{◌≡◌, refl, subst, sym, ap, ◌∙◌, ℕ, ◌≤◌, ℤ, Bool, true, false, List, [], ◌∷◌, map, length, drop, fold, Some, None}
use Rattle.std.proofs.lemmas.Bool.{false≢true}
use Rattle.std.proofs.lemmas.List.{drop_all}
use Rattle.std.specs.Prelude.{nat_le, if◌then◌else◌}
use Rattle.std.specs.Cmp.{second_so}
use Rattle.std.specs.List.{list_all}
use Rattle.std.specs.Option.{is_some, option_map}
use Rattle.text_base.specs.declared.operation.Value.{Value as Declared}
use Rattle.text_base.specs.declared.operation.Value.TheVariants as declared
use Rattle.text_base.specs.Values.{integer, value_of, kind_of, Kind, integers}
use Rattle.text_base.specs.Operations.{computes, is_kind, all_integers, outermost, from_two_or_more}

-- the integers among some values
abbrev pub integers_among : List Declared → List ℤ
integers_among [] = []
integers_among (declared.Integer z ∷ vs) = z ∷ integers_among vs
integers_among (declared.Logical b ∷ vs) = integers_among vs
integers_among (declared.Text t ∷ vs) = integers_among vs

-- where a type is given under a test, the test holds
tested : (b : Bool) (k : Kind) → is_some (if b then Some k else None) ≡ true → b ≡ true
tested true k h = refl
tested false k h = absurd (false≢true h)

all_among : (vs : List Declared) → list_all (is_kind integers) (map kind_of (map value_of vs)) ≡ true → all_integers (map value_of vs) ≡ Some (integers_among vs)
all_among [] h = refl
all_among (declared.Integer z ∷ vs) h = ap (option_map (λ others. z ∷ others)) (all_among vs h)
all_among (declared.Logical b ∷ vs) h = absurd (false≢true h)
all_among (declared.Text t ∷ vs) h = absurd (false≢true h)

from_first : (choice : ℤ → ℤ → ℤ) (z : ℤ) (rest : List Declared) → is_some (from_two_or_more (map kind_of (map value_of (declared.Integer z ∷ rest)))) ≡ true
    → outermost choice (all_integers (map value_of (declared.Integer z ∷ rest))) ≡ computes (integer (fold choice z (integers_among rest)))
from_first choice z [] h = absurd (false≢true h)
from_first choice z (declared.Integer y ∷ rest) h =
    ap (λ zs. outermost choice (option_map (λ others. z ∷ others) (option_map (λ others. y ∷ others) zs)))
    (all_among rest (second_so (nat_le 2 _) _ (tested _ integers h)))
from_first choice z (declared.Logical b ∷ rest) h = absurd (false≢true (second_so (nat_le 2 _) _ (tested _ integers h)))
from_first choice z (declared.Text t ∷ rest) h = absurd (false≢true (second_so (nat_le 2 _) _ (tested _ integers h)))

-- what a loop over the values after the first ends with is what is given
pub outermost_is : (choice : ℤ → ℤ → ℤ) (values : List Declared) (z : ℤ) (rest : List Declared) (i : ℕ) (last : ℤ) → values ≡ declared.Integer z ∷ rest
    → is_some (from_two_or_more (map kind_of (map value_of values))) ≡ true → length rest ≤ i → fold choice last (integers_among (drop i rest)) ≡ fold choice z (integers_among rest)
    → outermost choice (all_integers (map value_of values)) ≡ computes (integer last)
outermost_is choice values z rest i last is h l e =
    ap (λ vs. outermost choice (all_integers (map value_of vs))) is
    ∙ from_first choice z rest (subst (λ vs. is_some (from_two_or_more (map kind_of (map value_of vs))) ≡ true) is h)
    ∙ ap (λ z. computes (integer z)) (sym e ∙ ap (λ vs. fold choice last (integers_among vs)) (drop_all i rest l))
