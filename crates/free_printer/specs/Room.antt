-- The room that a text takes.
use Rattle.std.specs.Prelude.{ℕ, ◌-◌, nat_le, Option, Some, None, if◌then◌else◌}

-- what is left of some room behind so many characters, if there is room for them
abbrev pub room_left : ℕ → ℕ → Option ℕ
room_left size room = if nat_le size room then Some (room - size) else None
