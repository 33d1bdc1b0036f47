-- What is printed where the sink failed once.
use Rattle.std.specs.Prelude.{◌≡◌, ℕ, ◌+◌, ◌-◌, ◌^◌, ◌<◌, List, ◌++◌}
use Rattle.command.specs.Print.{SinkCounts, HasFailed, WasDenied, IsPrefix, PrintsCut}

-- a first part of the main text, and the whole line behind it
abbrev pub HasWholeLine : (main line text : List ℕ) → Type 0
HasWholeLine main line text = (part : List ℕ) × IsPrefix part main × (text ≡ part ++ line)

-- Where one call of the sink failed, and none wanted memory, the line that is owed is whole.
abbrev pub FaultLineIsWhole : Type 0
FaultLineIsWhole = (before now : SinkCounts) (main line text : List ℕ) → now.faults ≡ before.faults + 1 → now.denials ≡ before.denials → now.faults < 2 ^ 64 - 1 → now.denials < 2 ^ 64 - 1
    → PrintsCut HasFailed before now main line text → HasWholeLine main line text

-- So it is where one call wanted memory, and none failed.
abbrev pub MemoryLineIsWhole : Type 0
MemoryLineIsWhole = (before now : SinkCounts) (main line text : List ℕ) → now.faults ≡ before.faults → now.denials ≡ before.denials + 1 → now.faults < 2 ^ 64 - 1 → now.denials < 2 ^ 64 - 1
    → PrintsCut WasDenied before now main line text → HasWholeLine main line text
