-- Readers made of others, as the code has them.
use Rattle.std.specs.Prelude.{ℕ, Bool, List, [], ◌∷◌, Some}
use Rattle.std.specs.Option.{is_some, option_map, option_and_then}
use Rattle.forms77.specs.Reading.{Reader, read_mark, read_all, read_perhaps}

-- what it stands for, made of what the parts stand for
abbrev pub read_made : {A B : Type 0} → (A → B) → Reader A → Reader B
read_made view one s = option_and_then (λ a. option_map (λ y. (y, a.1)) (Some (view a.0))) (one s)

abbrev pub read_both : {A B : Type 0} → Reader A → Reader B → Reader (A × B)
read_both one other s = option_and_then (λ a. option_map (λ b. ((a.0, b.0), b.1)) (other a.1)) (one s)

-- a form behind a mark
abbrev pub read_behind : {A : Type 0} → ℕ → Reader A → Reader A
read_behind c one = read_made (λ p. p.1) (read_both (read_mark c) one)

-- one or more, with commas between them
abbrev pub read_list : {A : Type 0} → Reader A → Reader (List A)
read_list one = read_made (λ p. p.0 ∷ p.1) (read_both one (read_all (44 ∷ []) (read_behind 44 one)))

-- a mark that may stand here, and whether it does
abbrev pub read_flag : ℕ → Reader Bool
read_flag c = read_made is_some (read_perhaps c (λ s. Some (tt {0}, s)))
