-- The layout of a program of one unit: each variable is the sequence of its own number.
use Rattle.std.proofs.Common.{◌≡◌, ℕ, zero, suc, ◌+◌, ◌≤◌, Bool, true, false, List, [], ◌∷◌, length, map, take, fold, sum_by, Option, Some, None, refl, ap, ◌∙◌, arith}
use Rattle.std.specs.Prelude.{if◌then◌else◌}
use Rattle.std.specs.List.{enumerate_from}
use Rattle.std.specs.Option.{option_map}
use Rattle.std.specs.Str.{bytes_eq}
use Rattle.std.proofs.lemmas.List.{append-nil}
use Rattle.text_base.proofs.CharTests.{same_bytes}
use Rattle.program77.specs.Tree.{SourceUnit, SourceProgram}
use Rattle.program77.specs.Typing.{variables}
use Rattle.program77.specs.Layout.{Layout, Sequence, Entity, variables_from, sequence_of, entity_of, layout_of, numeric_count, numeric_place, entity_named}
use Rattle.project_set.proofs.Names.{place_of}

-- a variable of the first unit
abbrev pub in_first : List ℕ → ℕ × List ℕ
in_first x = (0, x)

-- the layout of one unit with these variables
abbrev pub layout_at : List ℕ → List (List ℕ) → Layout
layout_at unit names = record {
  units = unit ∷ [];
  sequences = map sequence_of (map in_first names);
  entities = map entity_of (enumerate_from 0 (map in_first names));
}

abbrev pub one_unit : SourceUnit → SourceProgram
one_unit u = record { units = u ∷ [] }

pub variables_of_one : (u : SourceUnit) → variables_from 0 (u ∷ []) ≡ map in_first (variables u)
variables_of_one u = append-nil (map in_first (variables u))

pub layout_of_one : (u : SourceUnit) → layout_of (one_unit u) ≡ layout_at u.name (variables u)
layout_of_one u = ap (λ (all : List (ℕ × List ℕ)). record { units = u.name ∷ []; sequences = map sequence_of all; entities = map entity_of (enumerate_from 0 all) }) (variables_of_one u)

-- ---- numbers of places

fold_ones : (names : List (List ℕ)) (k a : ℕ) → k ≤ length names → fold (λ n (s : Sequence). n + numeric_count s) a (take k (map sequence_of (map in_first names))) ≡ a + k
fold_ones names zero a le = omega arith
fold_ones [] (suc k) a le = absurd (omega arith)
fold_ones (x ∷ names) (suc k) a le = let rest = fold_ones names k (a + 1) (omega arith) in omega (arith, rest)

pub numeric_place_is : (unit : List ℕ) (names : List (List ℕ)) (k : ℕ) → k ≤ length names → numeric_place (layout_at unit names) k 0 ≡ k
numeric_place_is unit names k le = let ones = fold_ones names k 0 le in omega (arith, ones)

fold_all : (names : List (List ℕ)) (a : ℕ) → fold (λ n (s : Sequence). n + numeric_count s) a (map sequence_of (map in_first names)) ≡ a + length names
fold_all [] a = omega arith
fold_all (x ∷ names) a = let rest = fold_all names (a + 1) in omega (arith, rest)

pub numeric_places : (unit : List ℕ) (names : List (List ℕ)) → sum_by numeric_count (layout_at unit names).sequences ≡ length names
numeric_places unit names = let all = fold_all names 0 in omega (arith, all)

-- ---- entities

entity_here : (b : ℕ) (y x : List ℕ) → bytes_eq y x ≡ true → ◌≡◌ {A = Entity} (entity_of (b, in_first y)) (entity_of (b + 0, in_first x))
entity_here b y x is = let same : y ≡ x = same_bytes y x is in let number : b ≡ b + 0 = omega arith in λ i. entity_of (number i, in_first (same i))

-- the entity of a name has the number of the name's place
pub entity_named_is : (names : List (List ℕ)) (b : ℕ) (x : List ℕ)
    → entity_named (map entity_of (enumerate_from b (map in_first names))) 0 x ≡ option_map (λ i. entity_of (b + i, in_first x)) (place_of names x)
entity_named_is [] b x = refl
entity_named_is (y ∷ ys) b x = go (bytes_eq y x) refl (entity_named_is ys (b + 1) x)
  where
    later : (o : Option ℕ) → ◌≡◌ {A = Option Entity} (option_map (λ i. entity_of (b + 1 + i, in_first x)) o) (option_map (λ i. entity_of (b + i, in_first x)) (option_map suc o))
    later None = refl
    later (Some i) = let e : b + 1 + i ≡ b + suc i = omega arith in ap (λ n. Some (entity_of (n, in_first x))) e

    go : (c : Bool) → bytes_eq y x ≡ c
        → entity_named (map entity_of (enumerate_from (b + 1) (map in_first ys))) 0 x ≡ option_map (λ i. entity_of (b + 1 + i, in_first x)) (place_of ys x)
        → (if c then Some (entity_of (b, in_first y)) else entity_named (map entity_of (enumerate_from (b + 1) (map in_first ys))) 0 x)
        ≡ option_map (λ i. entity_of (b + i, in_first x)) (if c then Some 0 else option_map suc (place_of ys x))
    go true is rest = ap Some (entity_here b y x is)
    go false is rest = rest ∙ later (place_of ys x)
