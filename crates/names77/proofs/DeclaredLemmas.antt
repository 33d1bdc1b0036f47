-- Lists of notes that grow, by the parts that say them.
use Rattle.std.proofs.Common.{◌≡◌, ℕ, List, [], ◌∷◌, ◌++◌, ◌||◌, ◌≤◌, ◌<◌, ◌+◌, map, length, get_or, take, ap, ◌∙◌, sym, arith, append_assoc, append-nil}
use Rattle.std.specs.Prelude.{flat_map}
use Rattle.std.specs.Str.{bytes_eq}
use Rattle.std.proofs.lemmas.List.{map-append, take_more}
use Rattle.std.proofs.lemmas.List.Folds.{flat_map-map}
use Rattle.order77.specs.Names.{is_among}
use Rattle.order77.proofs.UseLemmas.{mapped_more}
use Rattle.tree77.specs.StatementPlain.{dimension_of}
use Rattle.tree77.specs.declared.statement.Dimension77.{Dimension77}
use Rattle.names77.specs.Notes.{note, shaped, dimension_notes, shape_notes, parameter, parameter_notes}
use Rattle.names77.specs.Views.{shown_note, shown_notes}
use Rattle.names77.specs.declared.notes.Note.{Note}

pub shown_append : (xs ys : List Note) → shown_notes (xs ++ ys) ≡ shown_notes xs ++ shown_notes ys
shown_append xs ys = map-append shown_note xs ys

pub ruleset note_steps = (mapped_more, map-append, take_more, append_assoc, append-nil)

pub ruleset of_parts = (flat_map-map, append_assoc, append-nil)

-- one more dummy
pub parameters_more : (g : List ℕ) (before xs : List (List ℕ)) (d : List ℕ)
    → parameter_notes g before (xs ++ d ∷ []) ≡ parameter_notes g before xs ++ note d (parameter (bytes_eq g d || is_among (before ++ xs) d)) ∷ []
parameters_more g before [] d = ap (λ l. note d (parameter (bytes_eq g d || is_among l d)) ∷ []) (sym (append-nil before))
parameters_more g before (x ∷ xs) d =
    ap (λ l. note x (parameter (bytes_eq g x || is_among before x)) ∷ l)
    (parameters_more g (before ++ x ∷ []) xs d ∙ ap (λ l. parameter_notes g (before ++ x ∷ []) xs ++ note d (parameter (bytes_eq g d || is_among l d)) ∷ []) (append_assoc before (x ∷ []) xs))

pub parameter_more : (g : List ℕ) (xs : List (List ℕ)) (i : ℕ) (x : List ℕ) → i < length xs
    → parameter_notes g [] (take (i + 1) xs) ≡ parameter_notes g [] (take i xs) ++ note (get_or xs i x) (parameter (bytes_eq g (get_or xs i x) || is_among (take i xs) (get_or xs i x))) ∷ []
parameter_more g xs i x lt = ap (parameter_notes g []) (take_more xs i x lt) ∙ parameters_more g [] (take i xs) (get_or xs i x)

pub ruleset parameter_step = (parameter_more, append_assoc)

-- what is said of a name with dimensions
pub shaped_notes : (x : List ℕ) (ds : List Dimension77) → 1 ≤ length ds
    → shape_notes x (map dimension_of ds) ≡ note x (shaped (map dimension_of ds)) ∷ flat_map (λ d. dimension_notes (dimension_of d)) ds
shaped_notes x [] lt = absurd (omega (arith, lt))
shaped_notes x (d ∷ ds) lt = ap (λ l. note x (shaped (map dimension_of (d ∷ ds))) ∷ l) (flat_map-map dimension_notes dimension_of (d ∷ ds))

pub ruleset shape_steps = (shaped_notes, append_assoc)
