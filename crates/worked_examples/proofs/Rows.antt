-- What holds of each row of a table.
use Rattle.std.proofs.Common.{◌≡◌, List, [], ◌∷◌, map, All}
use Rattle.std.proofs.lemmas.List.Elements.{All-nil, All-cons}
use Rattle.worked_examples.specs.Tables.{Holds}

-- what holds wherever a function gives the second of the first holds of each row
pub each_row : {A B C : Type 0} (related : A → B → Type 0) (f : A → C) (seen : B → C) → ((a : A) (b : B) → f a ≡ seen b → related a b) → (rows : List (A × B)) → map (λ row. f row.0) rows ≡ map (λ row. seen row.1) rows → Holds related rows
each_row related f seen law [] e = All-nil _
each_row related f seen law (row ∷ rows) e =
    let first : f row.0 ≡ seen row.1 = cc in
    let rest : map (λ r. f r.0) rows ≡ map (λ r. seen r.1) rows = cc in
    All-cons (λ r. related r.0 r.1) row rows (law row.0 row.1 first) (each_row related f seen law rows rest)

-- what holds wherever a function gives one value holds of each element for which it does
pub each_given : {A C : Type 0} (P : A → Type 0) (f : A → C) (value : C) → ((a : A) → f a ≡ value → P a) → (xs : List A) → map f xs ≡ map (λ x. value) xs → All P xs
each_given P f value law [] e = All-nil _
each_given P f value law (x ∷ xs) e =
    let first : f x ≡ value = cc in
    let rest : map f xs ≡ map (λ y. value) xs = cc in
    All-cons P x xs (law x first) (each_given P f value law xs rest)
