-- The name of a unit behind one more statement, and behind all.
use Rattle.std.proofs.Common.{◌≡◌, ℕ, ◌+◌, ◌<◌, ◌≤◌, Bool, true, false, List, [], ◌∷◌, length, drop, get_or, if◌then◌else◌, refl, sym, ap, ◌∙◌}
use Rattle.order77.specs.declared.mark.Counts.{Counts}
use Rattle.order77.specs.declared.mark.Counts.TheVariants as counts
use Rattle.order77.specs.declared.read.ReadStatement.{ReadStatement}
use Rattle.order77.specs.Counts.{Reading, counts_as, counts_nothing, is_end}
use Rattle.order77.specs.Naming.{own_names, name_behind, name_or_main, last_name}
use Rattle.order77.specs.ReadViews.{reading_at, readings_from, readings_of}
use Rattle.order77.specs.Names.{within}
use Rattle.order77.proofs.Readings.{readings_more, readings_done}

not_end : (k : Counts) → (k ≡ counts.End → ⊥) → is_end k ≡ false
not_end counts.End h = absurd (h refl)
not_end _ h = refl

not_nothing : (k : Counts) → (k ≡ counts.Nothing → ⊥) → counts_nothing k ≡ false
not_nothing counts.Nothing h = absurd (h refl)
not_nothing _ h = refl

-- behind a statement that counts as this
pub name_step : (is_first : Bool) (xs : List (List ℕ)) (r : Reading) (rs : List Reading) (k : Counts) → k ≡ counts_as r
    → name_behind is_first xs (r ∷ rs) ≡ (if is_end k then name_behind true [] rs else (if counts_nothing k then name_behind is_first xs rs else name_behind false (if is_first then within own_names r else xs) rs))
name_step is_first xs r rs k is =
    ap (λ k. if is_end k then name_behind true [] rs else (if counts_nothing k then name_behind is_first xs rs else name_behind false (if is_first then within own_names r else xs) rs)) (sym is)

-- behind another one than END
pub name_other : (is_first : Bool) (xs ys : List (List ℕ)) (r : Reading) (rs : List Reading) (k : Counts) → k ≡ counts_as r → (k ≡ counts.End → ⊥) → (k ≡ counts.Nothing → ⊥)
    → ys ≡ (if is_first then within own_names r else xs) → name_behind is_first xs (r ∷ rs) ≡ name_behind false ys rs
name_other is_first xs ys r rs k is end nothing same =
    name_step is_first xs r rs k is
    ∙ ap (λ b. if b then name_behind true [] rs else (if counts_nothing k then name_behind is_first xs rs else name_behind false (if is_first then within own_names r else xs) rs)) (not_end k end)
    ∙ ap (λ b. if b then name_behind is_first xs rs else name_behind false (if is_first then within own_names r else xs) rs) (not_nothing k nothing) ∙ ap (λ l. name_behind false l rs) (sym same)

-- with one fewer left
pub naming_more : (all : List (List ℕ)) (rs : List ReadStatement) (i : ℕ) (r : ReadStatement) (old new : Bool) (xs ys : List (List ℕ)) → i < length rs → r ≡ get_or rs i r
    → ((n : ℕ) (rest : List Reading) → name_behind old xs (reading_at n r ∷ rest) ≡ name_behind new ys rest) → name_behind old xs (readings_from i (drop i rs)) ≡ all
    → name_behind new ys (readings_from (i + 1) (drop (i + 1) rs)) ≡ all
naming_more all rs i r old new xs ys lt at step so = sym (step i (readings_from (i + 1) (drop (i + 1) rs))) ∙ ap (name_behind old xs) (sym (readings_more rs i r lt at)) ∙ so

-- with none left
pub naming_done : (rs : List ReadStatement) (i : ℕ) (is_first : Bool) (xs : List (List ℕ)) → length rs ≤ i
    → name_behind is_first xs (readings_from i (drop i rs)) ≡ name_behind true [] (readings_of rs) → name_or_main xs ≡ last_name (readings_of rs)
naming_done rs i is_first xs le so = ap name_or_main (ap (name_behind is_first xs) (sym (readings_done rs i le)) ∙ so)
