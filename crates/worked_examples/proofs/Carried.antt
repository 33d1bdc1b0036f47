-- What a match of the program that assigns 1 to I says of the object that stands for I.
use Rattle.std.proofs.Common.{◌≡◌, ℕ, zero, suc, ◌-◌, ℤ, pos, Bool, true, false, List, [], ◌∷◌, codes, Contains, Some, None, slice_get, refl, arith, if◌then◌else◌}
use Rattle.std.proofs.lemmas.List.Elements.{Contains-get_or}
use Rattle.std.proofs.lemmas.Option.{slice_get_within, get_or_from_slice_get}
use Rattle.std.specs.Option.{option_and_then}
use Rattle.text_base.specs.Values.{integers}
use Rattle.program77.specs.Layout.{Layout, layout_of}
use Rattle.tree90.specs.Tree.{FreeProgram}
use Rattle.tree90.specs.Meaning.{integer_at}
use Rattle.tree90.specs.Meaning as free
use Rattle.project_set.specs.MapText.{MapLine}
use Rattle.project_set.specs.Match.{IsSeen, OneLine, IsMap, IsCarried, object_place}
use Rattle.worked_examples.specs.Read.{short_program}
use Rattle.worked_examples.specs.Runs.{store, value, object}

abbrev layout : Layout
layout = layout_of short_program

i_is_seen : IsSeen layout 0 0 integers
i_is_seen = record {
  entity = record { unit = 0; name = codes "I"; sequence = 0; offset = 0; kind = integers; count = 1 };
  placed = Contains-get_or layout.entities 0 (record { unit = 0; name = codes "I"; sequence = 0; offset = 0; kind = integers; count = 1 }) (omega arith);
  in_sequence = refl;
  from = omega arith;
  to = omega arith;
  with_kind = refl;
}

pub line_of_i : (written : FreeProgram) (lines : List MapLine) → IsMap layout written lines → OneLine layout lines 0 0 integers
line_of_i written lines map = map.one_line 0 0 integers i_is_seen

in_list : (lines : List MapLine) (k : ℕ) (line : MapLine) → slice_get lines k ≡ Some line → Contains lines line
in_list lines k line e = rw (get_or_from_slice_get lines k line line e) at (Contains-get_or lines k line (slice_get_within lines k line e))

-- one value stands at one place alone
value_at : (n : ℤ) (k : ℕ) (v : ℤ) → slice_get (n ∷ []) k ≡ Some v → n ≡ v
value_at n zero v e = cc
value_at n (suc k) v e = cc

in_object : (n : ℤ) (place : ℕ) (is_it : Bool) (v : ℤ) → option_and_then (integer_at place) (if is_it then Some (free.integers (n ∷ [])) else None) ≡ Some v → n ≡ v
in_object n place true v e = value_at n (place - 1) v e
in_object n place false v e = cc

-- the object that stands for I has its value
pub carried_value : (written : FreeProgram) (lines : List MapLine) (n : ℕ) → IsMap layout written lines → IsCarried layout lines (store (value 1 ∷ [])) (object (codes "I") n ∷ []) → pos n ≡ pos 1
carried_value written lines n map carried =
    let one = line_of_i written lines map in
    in_object (pos n) (object_place one.line 0) (free.is_object one.line.home one.line.object (object (codes "I") n)) (pos 1)
    (carried.integer 0 0 (pos 1) one.line refl (in_list lines one.index one.line one.at) one.covers)
