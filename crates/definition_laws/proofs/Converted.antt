-- The faults of a program that is converted, and of what is written for it.
use Rattle.std.proofs.Common.{◌≡◌, ◌⊎◌, inl, inr, ℕ, zero, suc, ◌+◌, Bool, true, false, List, [], ◌∷◌, Option, Some, None, refl, sym, ap, ◌∙◌, subst, ⊎_elim}
use Rattle.std.specs.Prelude.{slice_get, if◌then◌else◌}
use Rattle.std.specs.Str.{bytes_eq}
use Rattle.std.proofs.lemmas.Bool.{and_parts}
use Rattle.std.proofs.lemmas.Option.{same_Some}
use Rattle.text_base.specs.Cards.{Comment}
use Rattle.text_base.specs.Remarks.{Remark}
use Rattle.text_base.specs.ExpressionKinds.{is_typed_action}
use Rattle.text_base.specs.Trees.{Expr, name, Action, assign, stop}
use Rattle.text_base.specs.Values.{Value, Kind, integers, kind_of, Fault, run_fault, no_meaning}
use Rattle.text_base.specs.Runs.{Final, fault, Out, gives, over, bind, close, How, normal}
use Rattle.text_base.specs.Evaluation.{Storage, Call, action}
use Rattle.text_base.specs.Evaluation as e
use Rattle.text_base.specs.declared.operation.RunFault.{RunFault}
use Rattle.text_base.specs.declared.operation.RunFault.TheVariants.{Undefined}
use Rattle.text_base.specs.declared.refusal.Place.{Place}
use Rattle.program77.specs.Tree as source
use Rattle.program77.specs.Tree.{SourceUnit, SourceProgram}
use Rattle.program77.specs.Typing.{kind_in, is_typed_code, is_typed}
use Rattle.program77.specs.Layout.{Layout, layout_of}
use Rattle.program77.specs.Meaning.{Store, Open, lines, from, proceed, tagged, start77, run_main}
use Rattle.program77.specs.Meaning as flat
use Rattle.tree90.specs.Tree as free
use Rattle.tree90.specs.Tree.{Declared, integer_object, FreeUnit}
use Rattle.tree90.specs.Proper.{IsWritableAction, writable_assign, writable_stop, IsWritableCode, IsProper}
use Rattle.tree90.specs.Proper as proper
use Rattle.tree90.specs.Meaning.{Objects, untagged, nowhere, next, body, unit_end}
use Rattle.tree90.specs.Meaning as nested
use Rattle.project_set.specs.Rewrite.{written_list, written_unit, written}
use Rattle.value_ops.specs.Laws.{IsOperationFault}
use Rattle.definition_laws.specs.Faults.{HasUndefined, HasFault, IsOfOperation}
use Rattle.definition_laws.proofs.Evaluating.{Stops, goes, fault_seen}
use Rattle.definition_laws.proofs.Acting.{IsOther, Acts, acts}
use Rattle.definition_laws.proofs.Budgets.{source_stops, written_stops}
use Rattle.definition_laws.proofs.Faulting.{integers_read, only_integers}
use Rattle.definition_laws.proofs.TypedActions.{means_something}

-- ---- statements

-- an assignment that can be written has a variable on its left side
named : (a : Action) (d x : Expr) → a ≡ assign d x → IsWritableAction a → (y : List ℕ) × (d ≡ name y)
named a d x e (writable_assign {x = y} free_name free_value) = let left : d ≡ name y = cc in (y, left)
named a d x e writable_stop = absurd cc

module _ {W : Type 0} (storage : Storage W) (function : Call W) (stops : Stops function) (kinds : List ℕ → Option Kind)
    (read_integers : (w : W) (x : List ℕ) (v : Value) → storage.read w x ≡ Some v → kind_of v ≡ integers)
    (only : (x : List ℕ) (k : Kind) → kinds x ≡ Some k → k ≡ integers) (here : Place) (w : W) where
  -- a variable without a value, or an operation that faults
  abbrev pub IsExpected : Fault → Type 0
  IsExpected kind = ((kind ≡ run_fault Undefined) × ((y : List ℕ) × (storage.read w y ≡ None))) ⊎ IsOfOperation kind

  expected : (x : Expr) (k : RunFault) → ((k ≡ Undefined) × HasUndefined (storage.read w) x) ⊎ (IsOperationFault k × HasFault (storage.read w) k x) → IsExpected (run_fault k)
  expected x k (inl h) = inl (ap run_fault h.0, (h.1.0, h.1.2))
  expected x k (inr h) = inr h.0

  -- an assignment that has types, to a variable, faults so alone
  pub acted : (d x : Expr) (at : Place) (kind : Fault) → IsWritableAction (assign d x) → is_typed_action kinds (assign d x) ≡ true
      → ((n : ℕ) → e.eval storage function here x n w ≡ over (fault at kind)) ⊎ ((here ≡ at) × IsOther d kind) → IsExpected kind
  acted d x at kind writable typed why = let n = named (assign d x) d x refl writable in go kind n.0 n.1 (subst (λ c. is_typed_action kinds (assign c x) ≡ true) n.1 typed) why
    where
      go : (kind : Fault) (y : List ℕ) → d ≡ name y → is_typed_action kinds (assign (name y) x) ≡ true
          → ((n : ℕ) → e.eval storage function here x n w ≡ over (fault at kind)) ⊎ ((here ≡ at) × IsOther d kind) → IsExpected kind
      go no_meaning y left typed (inl f) = absurd (means_something storage kinds read_integers only function here y x typed 0 w at (f 0))
      go (run_fault k) y left typed (inl f) =
          expected x k (fault_seen storage function here w (λ strange. stops) (goes storage function here w x) 0 at k (f 0)).1
      go kind y left typed (inr other) = absurd (other.1.1 y left)

-- ---- FORTRAN 77

-- each simple statement of a list can be written, and has types
abbrev AreWritable : (List ℕ → Option Kind) → source.Code → Type 0
AreWritable kinds source.done = Unit {0}
AreWritable kinds (source.item label here (source.simple a) rest) = IsWritableAction a × (is_typed_action kinds a ≡ true) × AreWritable kinds rest
AreWritable kinds (source.item label here source.continue rest) = AreWritable kinds rest

from_written : (kinds : List ℕ → Option Kind) (cs : List Comment) (k : ℕ) (left : List Remark) (c : source.Code) → IsWritableCode (written_list cs k left c).0 → is_typed_code kinds c ≡ true → AreWritable kinds c
from_written kinds cs k left source.done w typed = tt
from_written kinds cs k left (source.item label here (source.simple a) rest) w typed = let t = and_parts _ _ typed in (w.1, t.0, from_written kinds cs (k + 1) [] rest w.2 t.1)
from_written kinds cs k left (source.item label here source.continue rest) w typed = from_written kinds cs (k + 1) _ rest w typed

module _ (p : SourceProgram) (u : SourceUnit) where
  abbrev layout : Layout
  layout = layout_of p

  abbrev run : source.Code → ℕ → List Open → ℕ → Store → Final Store
  run c depth loops n w = close (from (tagged layout 0) flat.no_function (lines c depth []) 0 loops n w) flat.stop_at_end

  abbrev InTwoWays : Fault → Type 0
  InTwoWays kind = (kind ≡ run_fault Undefined) ⊎ IsOfOperation kind

  two_ways : (c : source.Code) (depth : ℕ) (loops : List Open) (n : ℕ) (w : Store) (here : Place) (kind : Fault) → AreWritable (kind_in u) c → run c depth loops n w ≡ fault here kind → InTwoWays kind
  two_ways source.done depth loops zero w here kind writable f = absurd cc
  two_ways source.done depth loops (suc n) w here kind writable f = absurd cc
  two_ways (source.item label at source.continue rest) depth loops n w here kind writable f = two_ways rest depth loops n w here kind writable f
  two_ways (source.item label at (source.simple stop) rest) depth loops zero w here kind writable f = absurd cc
  two_ways (source.item label at (source.simple stop) rest) depth loops (suc n) w here kind writable f = absurd cc
  two_ways (source.item label at (source.simple (assign d x)) rest) depth loops zero w here kind writable f = absurd cc
  two_ways (source.item label at (source.simple (assign d x)) rest) depth loops (suc n) w here kind writable f =
      go (acts (tagged layout 0) flat.no_function source_stops at d x w) (λ y v. two_ways rest depth loops n ((tagged layout 0).write w y v) here kind writable.2)
    where
      on : (r : Out Store How) → action (tagged layout 0) flat.no_function at (assign d x) (suc n) w ≡ r → close (bind r (proceed (from (tagged layout 0) flat.no_function (lines rest depth [])) loops)) flat.stop_at_end ≡ fault here kind
      on r is = sym (ap (λ o. close (bind o (proceed (from (tagged layout 0) flat.no_function (lines rest depth [])) loops)) flat.stop_at_end) is) ∙ f

      go : Acts (tagged layout 0) flat.no_function source_stops at d x w → ((y : List ℕ) (v : Value) → run rest depth loops n ((tagged layout 0).write w y v) ≡ fault here kind → InTwoWays kind) → InTwoWays kind
      go (inl s) later = later s.0 s.1 (on (gives n ((tagged layout 0).write w s.0 s.1) normal) (s.2 n))
      go (inr s) later =
          let wrong : fault s.0 s.1 ≡ fault here kind = on (over (fault s.0 s.1)) (s.2 n) in
          let same : s.1 ≡ kind = cc in
          subst InTwoWays same (⊎_elim (λ h. inl h.0) (λ h. inr h) (acted (tagged layout 0) flat.no_function source_stops (kind_in u) (integers_read p) (only_integers p u) at w d x s.0 s.1 writable.0 writable.1 s.3))

pub source_faults : (cs : List Comment) (p : SourceProgram) (u : SourceUnit) → is_typed u ≡ true → IsProper (written cs (record { units = u ∷ [] })) → (n : ℕ) (here : Place) (kind : Fault)
    → run_main (layout_of p) (Some u) n ≡ fault here kind → (kind ≡ run_fault Undefined) ⊎ IsOfOperation kind
source_faults cs p u typed is_proper n here kind f = two_ways p u u.code 0 [] n (start77 (layout_of p)) here kind (from_written (kind_in u) _ _ [] u.code is_proper.writable.units.0.code typed) f

-- ---- Fortran 90

only_declared : (ds : List Declared) (x : List ℕ) (k : Kind) → proper.kind_in ds x ≡ Some k → k ≡ integers
only_declared [] x k e = absurd cc
only_declared (integer_object y ∷ ds) x k e = go (bytes_eq x y) e (only_declared ds x k)
  where
    go : (b : Bool) → (if b then Some integers else proper.kind_in ds x) ≡ Some k → (proper.kind_in ds x ≡ Some k → k ≡ integers) → k ≡ integers
    go true e later = sym (same_Some integers k e)
    go false e later = later e

module _ (home : List ℕ) (ds : List Declared) where
  abbrev body_run : free.Code → ℕ → Objects → Final Objects
  body_run c n w = close (bind (body (untagged home) nested.no_function c n w) unit_end) nested.stop_at_end

  -- every name has an integer value
  objects_read : (w : Objects) (x : List ℕ) (v : Value) → (untagged home).read w x ≡ Some v → kind_of v ≡ integers
  objects_read w x v e = ap kind_of (sym (same_Some _ v e))

  one_way : (c : free.Code) (n : ℕ) (w : Objects) (here : Place) (kind : Fault) → IsWritableCode c → proper.is_typed_code (proper.kind_in ds) c ≡ true → body_run c n w ≡ fault here kind → IsOfOperation kind
  one_way free.done zero w here kind writable typed f = absurd cc
  one_way free.done (suc n) w here kind writable typed f = absurd cc
  one_way (free.item remarks (free.simple stop) rest) zero w here kind writable typed f = absurd cc
  one_way (free.item remarks (free.simple stop) rest) (suc n) w here kind writable typed f = absurd cc
  one_way (free.item remarks (free.simple (assign d x)) rest) zero w here kind writable typed f = absurd cc
  one_way (free.item remarks (free.simple (assign d x)) rest) (suc n) w here kind writable typed f =
      go (acts (untagged home) nested.no_function written_stops nowhere d x w) (λ y v. one_way rest n ((untagged home).write w y v) here kind writable.2 (and_parts _ _ typed).1)
    where
      on : (r : Out Objects How) → action (untagged home) nested.no_function nowhere (assign d x) (suc n) w ≡ r
          → close (bind (bind r (λ n w h. next h (body (untagged home) nested.no_function rest) n w)) unit_end) nested.stop_at_end ≡ fault here kind
      on r is = sym (ap (λ o. close (bind (bind o (λ n w h. next h (body (untagged home) nested.no_function rest) n w)) unit_end) nested.stop_at_end) is) ∙ f

      has_value : (kind : Fault) → IsExpected (untagged home) nested.no_function written_stops (proper.kind_in ds) objects_read (only_declared ds) nowhere w kind → IsOfOperation kind
      has_value kind (inl h) = let wrong = h.1.1 in absurd cc
      has_value kind (inr h) = h

      go : Acts (untagged home) nested.no_function written_stops nowhere d x w → ((y : List ℕ) (v : Value) → body_run rest n ((untagged home).write w y v) ≡ fault here kind → IsOfOperation kind) → IsOfOperation kind
      go (inl s) later = later s.0 s.1 (on (gives n ((untagged home).write w s.0 s.1) normal) (s.2 n))
      go (inr s) later =
          let wrong : fault s.0 s.1 ≡ fault here kind = on (over (fault s.0 s.1)) (s.2 n) in
          let same : s.1 ≡ kind = cc in
          subst IsOfOperation same (has_value s.1 (acted (untagged home) nested.no_function written_stops (proper.kind_in ds) objects_read (only_declared ds) nowhere w d x s.0 s.1 writable.1 (and_parts _ _ typed).0 s.3))

-- the unit of a proper program has types
unit_typed : (p : free.FreeProgram) (u : FreeUnit) → p.units ≡ u ∷ [] → IsProper p → proper.is_typed_code (proper.kind_in u.declared) u.code ≡ true
unit_typed p u is h =
    let whole : h.unit ∷ [] ≡ u ∷ [] = sym h.whole ∙ is in
    let same : h.unit ≡ u = cc in
    subst (λ (t : FreeUnit). proper.is_typed_code (proper.kind_in t.declared) t.code ≡ true) same h.typed

pub written_faults : (cs : List Comment) (u : SourceUnit) → IsProper (written cs (record { units = u ∷ [] })) → (start : Objects) (m : ℕ) (here : Place) (kind : Fault)
    → nested.run_main start (slice_get (written cs (record { units = u ∷ [] })).units 0) m ≡ fault here kind → IsOfOperation kind
written_faults cs u is_proper start m here kind f =
    one_way u.name (written_unit cs 0 u).declared (written_unit cs 0 u).code m start here kind is_proper.writable.units.0.code (unit_typed (written cs (record { units = u ∷ [] })) (written_unit cs 0 u) refl is_proper) f
