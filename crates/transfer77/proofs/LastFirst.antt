-- Specifiers are taken from the last on.
use Rattle.std.proofs.Common.{◌≡◌, List, [], ◌∷◌, ◌++◌, map, Option, Some, None, refl, ap, ◌∙◌}
use Rattle.std.specs.Option.{option_and_then}
use Rattle.tree77.specs.TransferForms.{Settings, add, settings_from}
use Rattle.transfer77.specs.Views.{specifier_of}
use Rattle.transfer77.specs.declared.specifiers.Specifier.{Specifier}

swapped : {A : Type 0} (o : Option A) (f g : A → Option A) → option_and_then g (option_and_then f o) ≡ option_and_then (λ d. option_and_then g (f d)) o
swapped None f g = refl
swapped (Some x) f g = refl

alone : (o : Option Settings) → o ≡ option_and_then (λ d. Some d) o
alone None = refl
alone (Some c) = refl

pub from_last : (c : Settings) (xs : List Specifier) (x : Specifier) → settings_from c (map specifier_of (xs ++ x ∷ [])) ≡ option_and_then (λ d. settings_from d (map specifier_of xs)) (add c (specifier_of x))
from_last c [] x = alone (add c (specifier_of x))
from_last c (y ∷ xs) x =
    ap (option_and_then (λ d. add d (specifier_of y))) (from_last c xs x)
    ∙ swapped (add c (specifier_of x)) (λ d. settings_from d (map specifier_of xs)) (λ d. add d (specifier_of y))
