-- The operations that both languages share, and the intrinsic functions: one table (X3.9 sections 6 and 15.10;
-- ISO/IEC 1539:1991 sections 7.2 and 13).
use Rattle.std.specs.Prelude.{ℕ, ◌-◌, ℤ, pos, negsuc, ◌+ℤ◌, ◌-ℤ◌, ◌*ℤ◌, neg_ℤ, nat_abs, int_lt, int_le, int_div, nat_le, nat_lt, nat_eq, Bool, true, false, not, ◌&&◌, ◌||◌, if◌then◌else◌, List, [], ◌∷◌, ◌++◌, length, replicate, fold, Option, Some, None, suc, zero, ◌==◌}
use Rattle.std.specs.Int.{int_pow, int_min, int_max}
use Rattle.std.specs.List.{list_all, starts_with}
use Rattle.std.specs.Option.{option_map, option_or}
use Rattle.std.specs.declared.cmp.Ordering.{Ordering}
use Rattle.std.specs.Ordering.{nat_cmp, int_cmp, is_lt, is_le, is_eq, is_ne, is_gt, is_ge}
use Rattle.std.specs.Cmp.Lexicographic.{slice_cmp, pointwise}
use Rattle.text_base.specs.declared.limits.TheConstants.{GREATEST_INTEGER}
use Rattle.text_base.specs.declared.operation.Op.{Op}
use Rattle.text_base.specs.declared.operation.Op.TheVariants as op
use Rattle.text_base.specs.declared.operation.RunFault.{RunFault}
use Rattle.text_base.specs.declared.operation.RunFault.TheVariants.{Overflow, ZeroDivide, CharRange}
use Rattle.text_base.specs.Values.{Value, integer, logical, string, Kind, integers, logicals, characters}

-- what an operation gives: a value, a fault, or nothing, since the number or the types of the values don't fit it
pub data Computed : Type 0 where
  computes : Value → Computed
  faults : RunFault → Computed
  unfit : Computed

-- ---- integers

-- integers go from one below the negative of the greatest to the greatest
abbrev pub is_integer : ℤ → Bool
is_integer z = int_le (negsuc GREATEST_INTEGER) z && int_le z (pos GREATEST_INTEGER)

-- an exact result, or the fault where it is out of the range
abbrev pub in_range : ℤ → Computed
in_range z = if is_integer z then computes (integer z) else faults Overflow

abbrev pub is_zero : ℤ → Bool
is_zero (pos n) = n == 0
is_zero (negsuc n) = false

abbrev pub unless_zero : ℤ → Computed → Computed
unless_zero divisor quotient = if is_zero divisor then faults ZeroDivide else quotient

-- the quotient, truncated toward zero (X3.9 section 6.1.5)
abbrev pub divided : ℤ → ℤ → Computed
divided a b = unless_zero b (in_range (int_div a b))

-- a power; a negative one is the truncated reciprocal (X3.9 section 6.1.5)
abbrev pub raised : ℤ → ℤ → Computed
raised a (pos n) = in_range (int_pow a n)
raised a (negsuc n) = divided (pos 1) (int_pow a (suc n))

-- what is left of a division, with the sign of the dividend (X3.9 section 15.10)
abbrev pub remainder : ℤ → ℤ → Computed
remainder a b = unless_zero b (in_range (a -ℤ (int_div a b *ℤ b)))

-- without its sign, with the sign of another number, and how far a number is above another
abbrev pub magnitude : ℤ → ℤ
magnitude a = pos (nat_abs a)

abbrev pub with_sign : ℤ → ℤ → ℤ
with_sign a b = if int_lt b (pos 0) then neg_ℤ (magnitude a) else magnitude a

abbrev pub excess : ℤ → ℤ → ℤ
excess a b = int_max (a -ℤ b) (pos 0)

-- ---- characters

-- followed by blanks, up to a length
abbrev pub padded : ℕ → List ℕ → List ℕ
padded count t = t ++ replicate (count - length t) 32

-- the shorter of two is padded with blanks, and the first characters that differ decide (X3.9 section 6.3.5)
abbrev pub text_cmp : List ℕ → List ℕ → Ordering
text_cmp a b = slice_cmp nat_cmp (padded (length b) a) (padded (length a) b)

-- one place further, where there is one
abbrev pub further : ℕ → ℕ
further zero = zero
further (suc place) = suc (suc place)

-- the least place, counted from 1, where the second text begins in the first, or 0 (X3.9 section 15.10)
abbrev pub place_in : List ℕ → List ℕ → ℕ
place_in [] b = if starts_with nat_eq [] b then 1 else 0
place_in (c ∷ t) b = if starts_with nat_eq (c ∷ t) b then 1 else further (place_in t b)

-- the character that has the number, and the number of a character
abbrev pub character : ℤ → Computed
character (pos n) = if nat_lt n 256 then computes (string (n ∷ [])) else faults CharRange
character (negsuc n) = faults CharRange

abbrev pub number_of : List ℕ → Computed
number_of (c ∷ []) = computes (integer (pos c))
number_of _ = faults CharRange

-- ---- operands

abbrev pub of_integer : (ℤ → Computed) → List Value → Computed
of_integer f (integer a ∷ []) = f a
of_integer f _ = unfit

abbrev pub of_integers : (ℤ → ℤ → Computed) → List Value → Computed
of_integers f (integer a ∷ integer b ∷ []) = f a b
of_integers f _ = unfit

abbrev pub of_logicals : (Bool → Bool → Bool) → List Value → Computed
of_logicals f (logical a ∷ logical b ∷ []) = computes (logical (f a b))
of_logicals f _ = unfit

abbrev pub of_text : (List ℕ → Computed) → List Value → Computed
of_text f (string a ∷ []) = f a
of_text f _ = unfit

abbrev pub of_texts : (List ℕ → List ℕ → Computed) → List Value → Computed
of_texts f (string a ∷ string b ∷ []) = f a b
of_texts f _ = unfit

-- two integers, or two character values
abbrev pub related : (Ordering → Bool) → List Value → Computed
related test (integer a ∷ integer b ∷ []) = computes (logical (test (int_cmp a b)))
related test (string a ∷ string b ∷ []) = computes (logical (test (text_cmp a b)))
related test _ = unfit

-- two character values
abbrev pub texts_related : (Ordering → Bool) → List Value → Computed
texts_related test = of_texts (λ a b. computes (logical (test (text_cmp a b))))

-- integers alone
abbrev pub with_integer : Value → Option (List ℤ) → Option (List ℤ)
with_integer (integer a) others = option_map (λ others. a ∷ others) others
with_integer _ others = None

abbrev pub all_integers : List Value → Option (List ℤ)
all_integers [] = Some []
all_integers (v ∷ vs) = with_integer v (all_integers vs)

-- the greatest or the least of two integers or more
abbrev pub outermost : (ℤ → ℤ → ℤ) → Option (List ℤ) → Computed
outermost choice (Some (a ∷ b ∷ rest)) = computes (integer (fold choice a (b ∷ rest)))
outermost choice _ = unfit

abbrev pub negated : List Value → Computed
negated (logical a ∷ []) = computes (logical (not a))
negated _ = unfit

abbrev pub is_same : Bool → Bool → Bool
is_same a b = if a then b else not b

-- ---- the table

-- what an operation gives of some values, all of which have been evaluated
abbrev pub outcome : Op → List Value → Computed
outcome op.Power = of_integers raised
outcome op.Times = of_integers (λ a b. in_range (a *ℤ b))
outcome op.Over = of_integers divided
outcome op.Positive = of_integer in_range
outcome op.Negative = of_integer (λ a. in_range (neg_ℤ a))
outcome op.Plus = of_integers (λ a b. in_range (a +ℤ b))
outcome op.Minus = of_integers (λ a b. in_range (a -ℤ b))
outcome op.Concat = of_texts (λ a b. computes (string (a ++ b)))
outcome op.Lt = related is_lt
outcome op.Le = related is_le
outcome op.Eq = related is_eq
outcome op.Ne = related is_ne
outcome op.Gt = related is_gt
outcome op.Ge = related is_ge
outcome op.Not = negated
outcome op.And = of_logicals (λ a b. a && b)
outcome op.Or = of_logicals (λ a b. a || b)
outcome op.Eqv = of_logicals is_same
outcome op.Neqv = of_logicals (λ a b. not (is_same a b))
outcome op.Abs = of_integer (λ a. in_range (magnitude a))
outcome op.Iabs = of_integer (λ a. in_range (magnitude a))
outcome op.Mod = of_integers remainder
outcome op.Sign = of_integers (λ a b. in_range (with_sign a b))
outcome op.Isign = of_integers (λ a b. in_range (with_sign a b))
outcome op.Dim = of_integers (λ a b. in_range (excess a b))
outcome op.Idim = of_integers (λ a b. in_range (excess a b))
outcome op.Max = λ values. outermost int_max (all_integers values)
outcome op.Max0 = λ values. outermost int_max (all_integers values)
outcome op.Min = λ values. outermost int_min (all_integers values)
outcome op.Min0 = λ values. outermost int_min (all_integers values)
outcome op.Len = of_text (λ a. in_range (pos (length a)))
outcome op.Index = of_texts (λ a b. in_range (pos (place_in a b)))
outcome op.Char = of_integer character
outcome op.Ichar = of_text number_of
outcome op.Lge = texts_related is_ge
outcome op.Lgt = texts_related is_gt
outcome op.Lle = texts_related is_le
outcome op.Llt = texts_related is_lt

-- ---- types

abbrev pub is_kind : Kind → Kind → Bool
is_kind integers integers = true
is_kind logicals logicals = true
is_kind characters characters = true
is_kind _ _ = false

-- the type of what is given, where the operands have these types
abbrev pub from_kinds : List Kind → Kind → List Kind → Option Kind
from_kinds wanted given kinds = if pointwise is_kind wanted kinds then Some given else None

abbrev pub from_integer : List Kind → Option Kind
from_integer = from_kinds (integers ∷ []) integers

abbrev pub from_integers : List Kind → Option Kind
from_integers = from_kinds (integers ∷ integers ∷ []) integers

abbrev pub from_logicals : List Kind → Option Kind
from_logicals = from_kinds (logicals ∷ logicals ∷ []) logicals

abbrev pub from_texts : Kind → List Kind → Option Kind
from_texts = from_kinds (characters ∷ characters ∷ [])

abbrev pub from_related : List Kind → Option Kind
from_related kinds = option_or (from_kinds (integers ∷ integers ∷ []) logicals kinds) (from_texts logicals kinds)

abbrev pub from_two_or_more : List Kind → Option Kind
from_two_or_more kinds = if nat_le 2 (length kinds) && list_all (is_kind integers) kinds then Some integers else None

-- the type of what an operation gives of values of some types, where it gives a value or a fault
abbrev pub outcome_kind : Op → List Kind → Option Kind
outcome_kind op.Power = from_integers
outcome_kind op.Times = from_integers
outcome_kind op.Over = from_integers
outcome_kind op.Positive = from_integer
outcome_kind op.Negative = from_integer
outcome_kind op.Plus = from_integers
outcome_kind op.Minus = from_integers
outcome_kind op.Concat = from_texts characters
outcome_kind op.Lt = from_related
outcome_kind op.Le = from_related
outcome_kind op.Eq = from_related
outcome_kind op.Ne = from_related
outcome_kind op.Gt = from_related
outcome_kind op.Ge = from_related
outcome_kind op.Not = from_kinds (logicals ∷ []) logicals
outcome_kind op.And = from_logicals
outcome_kind op.Or = from_logicals
outcome_kind op.Eqv = from_logicals
outcome_kind op.Neqv = from_logicals
outcome_kind op.Abs = from_integer
outcome_kind op.Iabs = from_integer
outcome_kind op.Mod = from_integers
outcome_kind op.Sign = from_integers
outcome_kind op.Isign = from_integers
outcome_kind op.Dim = from_integers
outcome_kind op.Idim = from_integers
outcome_kind op.Max = from_two_or_more
outcome_kind op.Max0 = from_two_or_more
outcome_kind op.Min = from_two_or_more
outcome_kind op.Min0 = from_two_or_more
outcome_kind op.Len = from_kinds (characters ∷ []) integers
outcome_kind op.Index = from_texts integers
outcome_kind op.Char = from_kinds (integers ∷ []) characters
outcome_kind op.Ichar = from_kinds (characters ∷ []) integers
outcome_kind op.Lge = from_texts logicals
outcome_kind op.Lgt = from_texts logicals
outcome_kind op.Lle = from_texts logicals
outcome_kind op.Llt = from_texts logicals
