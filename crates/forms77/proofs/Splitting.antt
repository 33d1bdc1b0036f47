-- The tokens before a mark are counted.
use Rattle.std.proofs.Common.{◌≡◌, ℕ, suc, ◌≤◌, arith, Bool, true, false, ◌&&◌, ◌==◌, List, [], ◌∷◌, length, take, drop, Option, Some, None, refl, ap, ◌∙◌}
use Rattle.std.specs.Prelude.{if◌then◌else◌}
use Rattle.std.specs.Option.{option_map}
use Rattle.std.proofs.lemmas.Option.{same_Some}
use Rattle.text_base.proofs.Optional.{mapped}
use Rattle.tree77.specs.Kinds.{open_after}
use Rattle.tree77.specs.Tokens.{Token}
use Rattle.expr77.specs.LexemeReading.{character_of}
use Rattle.tree77.specs.Forms.{is_in}
use Rattle.forms77.specs.Reading.{split, count_before}

abbrev pub parted_at : List Token → ℕ → List Token × List Token
parted_at ts k = (take k ts, drop k ts)

one_more : (t : Token) (ts : List Token) (o : Option ℕ) → option_map (λ (p : List Token × List Token). (t ∷ p.0, p.1)) (option_map (parted_at ts) o) ≡ option_map (parted_at (t ∷ ts)) (option_map suc o)
one_more t ts None = refl
one_more t ts (Some k) = refl

pub counted : (marks : List ℕ) (n : ℕ) (ts : List Token) → split marks n ts ≡ option_map (parted_at ts) (count_before marks n ts)
counted marks n [] = go (n == 0)
  where
    go : (b : Bool) → ◌≡◌ {A = Option (List Token × List Token)} (if b then Some ([], []) else None) (option_map (parted_at []) (if b then Some 0 else None))
    go true = refl
    go false = refl
counted marks n (t ∷ ts) = go (n == 0 && is_in marks (character_of t.kind t.text)) (open_after n (character_of t.kind t.text)) (counted marks (open_after n (character_of t.kind t.text)) ts)
  where
    go : (b : Bool) (m : ℕ) → split marks m ts ≡ option_map (parted_at ts) (count_before marks m ts)
        → (if b then Some ([], t ∷ ts) else option_map (λ (p : List Token × List Token). (t ∷ p.0, p.1)) (split marks m ts)) ≡ option_map (parted_at (t ∷ ts)) (if b then Some 0 else option_map suc (count_before marks m ts))
    go true m e = refl
    go false m e = ap (option_map (λ (p : List Token × List Token). (t ∷ p.0, p.1))) e ∙ one_more t ts (count_before marks m ts)

pub within : (marks : List ℕ) (n : ℕ) (ts : List Token) (k : ℕ) → count_before marks n ts ≡ Some k → k ≤ length ts
within marks n [] k e = go (n == 0) e
  where
    go : (b : Bool) → (if b then Some 0 else None) ≡ Some k → k ≤ 0
    go true e = let same : 0 ≡ k = same_Some 0 k e in omega (arith, same)
    go false e = absurd cc
within marks n (t ∷ ts) k e = go (n == 0 && is_in marks (character_of t.kind t.text)) (open_after n (character_of t.kind t.text)) (within marks (open_after n (character_of t.kind t.text)) ts) e
  where
    go : (b : Bool) (m : ℕ) → ((j : ℕ) → count_before marks m ts ≡ Some j → j ≤ length ts) → (if b then Some 0 else option_map suc (count_before marks m ts)) ≡ Some k → k ≤ length (t ∷ ts)
    go true m le e = let same : 0 ≡ k = same_Some 0 k e in omega (arith, same)
    go false m le e = let f = mapped (count_before marks m ts) suc k e in let l = le f.from f.was in omega (arith, l, f.is)
