-- What is left of some room.
use Rattle.std.proofs.Common.{◌≡◌, ℕ, ◌+◌, ◌-◌, ◌<◌, ◌≤◌, List, length, get_or, take, Bool, true, false, Some, None, refl, sym, ap, ◌∙◌, arith}
use Rattle.std.specs.Prelude.{nat_le, if◌then◌else◌}
use Rattle.std.proofs.lemmas.Bool.{leb-true, lt-leb, le-leb}
use Rattle.std.proofs.lemmas.List.Folds.{length-flat_map-take}
use Rattle.tree90.specs.Printed.{doubled}
use Rattle.free_printer.specs.Expression.{quoted}
use Rattle.free_printer.specs.Room.{room_left}

-- a text that is longer than the room leaves nothing
pub no_room : (size room : ℕ) → room < size → room_left size room ≡ None
no_room size room lt = ap (λ b. if b then Some (room - size) else None) (lt-leb size room lt)

-- what is left, with the text, is the room
pub room_kept : (size room left : ℕ) → Some left ≡ room_left size room → left + size ≡ room
room_kept size room left e = go (nat_le size room) refl e
  where
    go : (b : Bool) → nat_le size room ≡ b → Some left ≡ (if b then Some (room - size) else None) → left + size ≡ room
    go true is e = let same : left ≡ room - size = cc in omega (arith, same, leb-true size room is)
    go false is e = absurd cc

-- where nothing is left, the text is longer than the room
pub room_passed : (size room : ℕ) → None ≡ room_left size room → room < size
room_passed size room e = go (nat_le size room) refl e
  where
    go : (b : Bool) → nat_le size room ≡ b → None ≡ (if b then Some (room - size) else None) → room < size
    go true is e = absurd cc
    go false is e = grind (arith, is)

-- the last of some parts leaves what all of them leave
pub room_last : (before size room left : ℕ) → left + before ≡ room → room_left size left ≡ room_left (before + size) room
room_last before size room left e = go (nat_le size left) refl
  where
    go : (b : Bool) → nat_le size left ≡ b → room_left size left ≡ room_left (before + size) room
    go true is =
        let le = leb-true size left is in
        ap (λ (t : Bool). if t then Some (left - size) else None) is
        ∙ ap Some (omega (arith, e, le))
        ∙ sym (ap (λ (t : Bool). if t then Some (room - (before + size)) else None) (le-leb (before + size) room (omega (arith, e, le))))
    go false is =
        let lt : left < size = grind (arith, is) in
        ap (λ (t : Bool). if t then Some (left - size) else None) is ∙ sym (no_room (before + size) room (omega (arith, e, lt)))

-- what is not within the room is longer
pub longer : (size room : ℕ) → (size ≤ room → ⊥) → room < size
longer size room over = grind (arith, over)

-- the characters so far and one more take no more than all
pub doubled_grow : (cs : List ℕ) (i : ℕ) → i < length cs → length (doubled (take i cs)) + length (quoted (get_or cs i 0)) ≤ length (doubled cs)
doubled_grow cs i lt = length-flat_map-take quoted cs i 0 lt
