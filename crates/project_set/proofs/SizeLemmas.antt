-- A unit has as many statements as it was read from.
use Rattle.std.proofs.Common.{◌≡◌, ℕ, suc, ◌+◌, List, [], ◌∷◌, length, Option, Some, None, IfSome, refl, ap, subst, arith}
use Rattle.std.specs.Option.{option_and_then}
use Rattle.text_base.specs.declared.refusal.Place.{Place}
use Rattle.program77.specs.Plain.{code_of}
use Rattle.program77.specs.Built.{Built, program, action, continue, end_of_unit}
use Rattle.program77.specs.Tree.{SourceUnit}
use Rattle.unit77.specs.declared.tree.Item77.{Item77}
use Rattle.unit77.specs.Views.{items_of}
use Rattle.unit77.specs.Tree.{Line}
use Rattle.program77.specs.SourceReading.{ReadCard, Ended, join_code, read_code, text_from, unit_with, read_unit}
use Rattle.project_set.specs.Rewrite.{count_of, size_of}
use Rattle.project_set.proofs.ItemLemmas.{first_of_items}

-- a list that is read has a statement for each that it is read from, but END
abbrev HasCount : ℕ → Option Ended → Type 0
HasCount n ended = IfSome ended (λ r. count_of r.0 + 1 ≡ n)

joined : (here : Place) (s : Built) (rest : List ReadCard) (more : Option Ended) → HasCount (length rest) more → HasCount (suc (length rest)) (join_code here s rest more)
joined here (program x) rest more counted = tt
joined here (action a) rest None counted = tt
joined here (action a) rest (Some r) counted = omega (arith, counted)
joined here continue rest None counted = tt
joined here continue rest (Some r) counted = omega (arith, counted)
joined here end_of_unit [] more counted = refl
joined here end_of_unit (next ∷ rest) more counted = tt

list_count : (reads : List ReadCard) → HasCount (length reads) (read_code reads)
list_count [] = tt
list_count (read ∷ rest) = go read.spelled (list_count rest)
  where
    go : (o : Option Built) → HasCount (length rest) (read_code rest) → HasCount (suc (length rest)) (option_and_then (λ s. join_code read.place s rest (read_code rest)) o)
    go None counted = tt
    go (Some s) counted = joined read.place s rest (read_code rest) counted

headed : (text : List Line) (here : Place) (s : Built) (n : ℕ) (ended : Option Ended) → HasCount n ended → IfSome (unit_with text here s ended) (λ u. size_of u ≡ suc n)
headed text here (program x) n None counted = tt
headed text here (program x) n (Some r) counted = omega (arith, counted)
headed text here (action a) n ended counted = tt
headed text here continue n ended counted = tt
headed text here end_of_unit n ended counted = tt

-- a unit that is read has a statement for each that it is read from
pub unit_size : (reads : List ReadCard) (u : SourceUnit) → read_unit reads ≡ Some u → size_of u ≡ length reads
unit_size [] u e = absurd cc
unit_size (read ∷ rest) u e = subst (λ o. IfSome o (λ v. size_of v ≡ suc (length rest))) e (go read.spelled)
  where
    go : (o : Option Built) → IfSome (option_and_then (λ s. unit_with (text_from 0 (read ∷ rest)) read.place s (read_code rest)) o) (λ v. size_of v ≡ suc (length rest))
    go None = tt
    go (Some s) = headed (text_from 0 (read ∷ rest)) read.place s (length rest) (read_code rest) (list_count rest)

-- how many statements a list has
pub items_count : (is : List Item77) → count_of (code_of (items_of is)) ≡ length is
items_count [] = refl
items_count (i ∷ is) = let same = items_count is in let more = ap count_of (first_of_items i is) in omega (arith, same, more)
