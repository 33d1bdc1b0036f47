-- What a step had to go on from, where it gave something.
use Rattle.std.proofs.Common.{◌≡◌, ◌⊎◌, inl, inr, Option, Some, None, refl}
use Rattle.std.specs.Option.{option_map, option_and_then, option_or}

-- a step that gives something had something to go on from
pub record Went {A B : Type 0} (o : Option A) (f : A → Option B) (y : B) : Type 0 where
  pub from : A
  pub was : o ≡ Some from
  pub is : f from ≡ Some y

pub went : {A B : Type 0} (o : Option A) (f : A → Option B) (y : B) → option_and_then f o ≡ Some y → Went o f y
went None f y e = absurd cc
went (Some x) f y e = record { from = x; was = refl; is = e }

pub record Mapped {A B : Type 0} (o : Option A) (f : A → B) (y : B) : Type 0 where
  pub from : A
  pub was : o ≡ Some from
  pub is : f from ≡ y

pub mapped : {A B : Type 0} (o : Option A) (f : A → B) (y : B) → option_map f o ≡ Some y → Mapped o f y
mapped None f y e = absurd cc
mapped (Some x) f y e = record { from = x; was = refl; is = cc }

pub either : {A : Type 0} (o p : Option A) (y : A) → option_or o p ≡ Some y → (o ≡ Some y) ⊎ (p ≡ Some y)
either None p y e = inr e
either (Some x) p y e = inl e
