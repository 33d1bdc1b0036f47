-- What stands or passes, where a test of it holds.
use Rattle.std.proofs.Common.{◌≡◌, ℕ, Bool, true, List, Option, Some, None, refl}
use Rattle.scan77.specs.KindReading.{stands, passes}

pub record Passed (o : Option (List ℕ)) (test : List ℕ → Bool) : Type 0 where
  pub from : List ℕ
  pub was : o ≡ Some from
  pub is : test from ≡ true

pub passed : (o : Option (List ℕ)) (test : List ℕ → Bool) → passes o test ≡ true → Passed o test
passed None test e = absurd cc
passed (Some x) test e = record { from = x; was = refl; is = e }

pub record Stood (o : Option (List ℕ)) : Type 0 where
  pub from : List ℕ
  pub was : o ≡ Some from

pub stood : (o : Option (List ℕ)) → stands o ≡ true → Stood o
stood None e = absurd cc
stood (Some x) e = record { from = x; was = refl }
