-- What operations give of integers alone.
use Rattle.std.proofs.Common.{◌≡◌, ℕ, zero, suc, Bool, true, false, ◌&&◌, List, [], ◌∷◌, length, replicate, refl, sym, ap, ◌∙◌, arith, le-leb}
use Rattle.std.specs.Prelude.{nat_eq, nat_le, ◌==◌, Some, None, if◌then◌else◌}
use Rattle.std.specs.List.{list_all}
use Rattle.text_base.specs.ExpressionKinds.{are_same}
use Rattle.text_base.specs.Operations.{is_kind, from_integer, from_integers, from_logicals, from_texts, from_kinds, from_related, from_two_or_more, outcome_kind}
use Rattle.text_base.specs.declared.operation.Op.{Op}
use Rattle.text_base.specs.declared.operation.Op.TheVariants as op
use Rattle.text_base.specs.Values.{Kind, integers, logicals, characters}

of_one : (n : ℕ) → are_same (from_integer (replicate n integers)) (Some integers) ≡ (n == 1)
of_one zero = refl
of_one (suc zero) = refl
of_one (suc (suc n)) = grind arith

of_two : (n : ℕ) → are_same (from_integers (replicate n integers)) (Some integers) ≡ (n == 2)
of_two zero = refl
of_two (suc zero) = refl
of_two (suc (suc zero)) = refl
of_two (suc (suc (suc n))) = grind arith

all_integers : (n : ℕ) → list_all (is_kind integers) (replicate n integers) ≡ true
all_integers zero = refl
all_integers (suc n) = all_integers n

of_more : (n : ℕ) → are_same (from_two_or_more (replicate n integers)) (Some integers) ≡ nat_le 2 n
of_more zero = refl
of_more (suc zero) = refl
of_more (suc (suc n)) =
    ap (λ b. are_same (if nat_le 2 (suc (suc (length (replicate n integers)))) && b then Some integers else None) (Some integers)) (all_integers n)
    ∙ ap (λ b. are_same (if b && true then Some integers else None) (Some integers)) (le-leb 2 (suc (suc (length (replicate n integers)))) (omega arith))
    ∙ sym (le-leb 2 (suc (suc n)) (omega arith))

of_logicals : (n : ℕ) → are_same (from_logicals (replicate n integers)) (Some integers) ≡ false
of_logicals zero = refl
of_logicals (suc n) = refl

of_logical : (n : ℕ) → are_same (from_kinds (logicals ∷ []) logicals (replicate n integers)) (Some integers) ≡ false
of_logical zero = refl
of_logical (suc n) = refl

of_text : (n : ℕ) → are_same (from_kinds (characters ∷ []) integers (replicate n integers)) (Some integers) ≡ false
of_text zero = refl
of_text (suc n) = refl

of_texts : (k : Kind) (n : ℕ) → are_same (from_texts k (replicate n integers)) (Some integers) ≡ false
of_texts k zero = refl
of_texts k (suc n) = refl

of_related : (n : ℕ) → are_same (from_related (replicate n integers)) (Some integers) ≡ false
of_related zero = refl
of_related (suc zero) = refl
of_related (suc (suc zero)) = refl
of_related (suc (suc (suc n))) = refl

to_character : (n : ℕ) → are_same (from_kinds (integers ∷ []) characters (replicate n integers)) (Some integers) ≡ false
to_character zero = refl
to_character (suc zero) = refl
to_character (suc (suc n)) = refl

-- so many integers fit an operation that gives an integer
abbrev pub fits : Op → ℕ → Bool
fits op.Positive n = nat_eq n 1
fits op.Negative n = nat_eq n 1
fits op.Abs n = nat_eq n 1
fits op.Iabs n = nat_eq n 1
fits op.Power n = nat_eq n 2
fits op.Times n = nat_eq n 2
fits op.Over n = nat_eq n 2
fits op.Plus n = nat_eq n 2
fits op.Minus n = nat_eq n 2
fits op.Mod n = nat_eq n 2
fits op.Sign n = nat_eq n 2
fits op.Isign n = nat_eq n 2
fits op.Dim n = nat_eq n 2
fits op.Idim n = nat_eq n 2
fits op.Max n = nat_le 2 n
fits op.Max0 n = nat_le 2 n
fits op.Min n = nat_le 2 n
fits op.Min0 n = nat_le 2 n
fits _ n = false

pub gives : (o : Op) (n : ℕ) → are_same (outcome_kind o (replicate n integers)) (Some integers) ≡ fits o n
gives op.Power n = of_two n
gives op.Times n = of_two n
gives op.Over n = of_two n
gives op.Positive n = of_one n
gives op.Negative n = of_one n
gives op.Plus n = of_two n
gives op.Minus n = of_two n
gives op.Concat n = of_texts characters n
gives op.Lt n = of_related n
gives op.Le n = of_related n
gives op.Eq n = of_related n
gives op.Ne n = of_related n
gives op.Gt n = of_related n
gives op.Ge n = of_related n
gives op.Not n = of_logical n
gives op.And n = of_logicals n
gives op.Or n = of_logicals n
gives op.Eqv n = of_logicals n
gives op.Neqv n = of_logicals n
gives op.Abs n = of_one n
gives op.Iabs n = of_one n
gives op.Mod n = of_two n
gives op.Sign n = of_two n
gives op.Isign n = of_two n
gives op.Dim n = of_two n
gives op.Idim n = of_two n
gives op.Max n = of_more n
gives op.Max0 n = of_more n
gives op.Min n = of_more n
gives op.Min0 n = of_more n
gives op.Len n = of_text n
gives op.Index n = of_texts integers n
gives op.Char n = to_character n
gives op.Ichar n = of_text n
gives op.Lge n = of_texts logicals n
gives op.Lgt n = of_texts logicals n
gives op.Lle n = of_texts logicals n
gives op.Llt n = of_texts logicals n
