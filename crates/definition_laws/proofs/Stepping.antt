-- A run does the statements of its list in their order.
use Rattle.std.proofs.Common.{◌≡◌, inl, inr, ℕ, zero, suc, ◌+◌, List, [], Some, None, sym, ap, ◌∙◌, arith}
use Rattle.std.specs.Prelude.{slice_get}
use Rattle.text_base.specs.Trees.{assign, stop}
use Rattle.text_base.specs.Values.{Value}
use Rattle.text_base.specs.Runs.{Final, going, ended, fault, Out, gives, over, bind, close, How, normal}
use Rattle.text_base.specs.Evaluation.{Storage, Call, action}
use Rattle.program77.specs.Tree as source
use Rattle.program77.specs.Tree.{SourceUnit}
use Rattle.program77.specs.Layout.{Layout}
use Rattle.program77.specs.Meaning.{Store, Open, lines, from, proceed, tagged, start77, run_main}
use Rattle.program77.specs.Meaning as flat
use Rattle.tree90.specs.Tree as free
use Rattle.tree90.specs.Tree.{FreeUnit}
use Rattle.tree90.specs.Meaning.{Objects, untagged, nowhere, next, body, unit_end}
use Rattle.tree90.specs.Meaning as nested
use Rattle.definition_laws.specs.Statements.{actions_of, written_actions}
use Rattle.definition_laws.specs.Running.{with_next}
use Rattle.definition_laws.proofs.Acting.{Acts, acts}
use Rattle.definition_laws.proofs.Evaluating.{Stops}
use Rattle.definition_laws.proofs.Budgets.{source_stops, begins, written_stops, body_begins}

module _ (storage : Storage Store) (function : Call Store) (stops : Stops function) where
  abbrev run : source.Code → ℕ → List Open → ℕ → Store → Final Store
  run c depth loops n w = close (from storage function (lines c depth []) 0 loops n w) flat.stop_at_end

  pub in_order : (c : source.Code) (depth : ℕ) (loops : List Open) (n : ℕ) (w u : Store) → run c depth loops n w ≡ going u
      → run c depth loops (suc n) w ≡ with_next storage function u (slice_get (actions_of c) n)
  in_order source.done depth loops zero w u e = let same : w ≡ u = cc in ap (λ v. ended v None) same
  in_order source.done depth loops (suc n) w u e = absurd cc
  in_order (source.item label here source.continue rest) depth loops n w u e = in_order rest depth loops n w u e
  in_order (source.item label here (source.simple stop) rest) depth loops zero w u e = let same : w ≡ u = cc in ap (λ v. ended v None) same
  in_order (source.item label here (source.simple stop) rest) depth loops (suc n) w u e = absurd cc
  in_order (source.item label here (source.simple (assign d x)) rest) depth loops zero w u e =
      let same : w ≡ u = cc in
      go (acts storage function stops here d x w) ∙ ap (λ v. close (action storage function here (assign d x) 1 v) (λ n t how. going t)) same
    where
      go : Acts storage function stops here d x w → run (source.item label here (source.simple (assign d x)) rest) depth loops 1 w ≡ close (action storage function here (assign d x) 1 w) (λ n t how. going t)
      go (inl s) =
          ap (λ o. close (bind o (proceed (from storage function (lines rest depth [])) loops)) flat.stop_at_end) (s.2 0)
          ∙ ap (λ r. close r flat.stop_at_end) (begins storage function stops rest depth loops (storage.write w s.0 s.1))
          ∙ sym (ap (λ o. close o (λ n t how. going t)) (s.2 0))
      go (inr s) =
          ap (λ o. close (bind o (proceed (from storage function (lines rest depth [])) loops)) flat.stop_at_end) (s.2 0)
          ∙ sym (ap (λ o. close o (λ n t how. going t)) (s.2 0))
  in_order (source.item label here (source.simple (assign d x)) rest) depth loops (suc n) w u e =
      go (acts storage function stops here d x w) (λ y v. in_order rest depth loops n (storage.write w y v) u)
    where
      on : (b : ℕ) (r : Out Store How) → action storage function here (assign d x) (suc b) w ≡ r
          → run (source.item label here (source.simple (assign d x)) rest) depth loops (suc b) w ≡ close (bind r (proceed (from storage function (lines rest depth [])) loops)) flat.stop_at_end
      on b r is = ap (λ o. close (bind o (proceed (from storage function (lines rest depth [])) loops)) flat.stop_at_end) is

      go : Acts storage function stops here d x w
          → ((y : List ℕ) (v : Value) → run rest depth loops n (storage.write w y v) ≡ going u → run rest depth loops (suc n) (storage.write w y v) ≡ with_next storage function u (slice_get (actions_of rest) n))
          → run (source.item label here (source.simple (assign d x)) rest) depth loops (suc (suc n)) w ≡ with_next storage function u (slice_get (actions_of rest) n)
      go (inl s) later = on (suc n) (gives (suc n) (storage.write w s.0 s.1) normal) (s.2 (suc n)) ∙ later s.0 s.1 (sym (on n (gives n (storage.write w s.0 s.1) normal) (s.2 n)) ∙ e)
      go (inr s) later = let wrong : fault s.0 s.1 ≡ going u = sym (on n (over (fault s.0 s.1)) (s.2 n)) ∙ e in absurd cc

pub source_order : (layout : Layout) (main : SourceUnit) (n : ℕ) (w : Store) → run_main layout (Some main) n ≡ going w
    → run_main layout (Some main) (n + 1) ≡ with_next (tagged layout 0) flat.no_function w (slice_get (actions_of main.code) n)
source_order layout main n w e =
    let total : n + 1 ≡ suc n = omega arith in
    ap (run_main layout (Some main)) total ∙ in_order (tagged layout 0) flat.no_function source_stops main.code 0 [] n (start77 layout) w e

module _ (storage : Storage Objects) (function : Call Objects) (stops : Stops function) where
  abbrev body_run : free.Code → ℕ → Objects → Final Objects
  body_run c n w = close (bind (body storage function c n w) unit_end) nested.stop_at_end

  pub in_order90 : (c : free.Code) (n : ℕ) (w u : Objects) → body_run c n w ≡ going u → body_run c (suc n) w ≡ with_next storage function u (slice_get (written_actions c) n)
  in_order90 free.done zero w u e = let same : w ≡ u = cc in ap (λ v. ended v None) same
  in_order90 free.done (suc n) w u e = absurd cc
  in_order90 (free.item remarks (free.simple stop) rest) zero w u e = let same : w ≡ u = cc in ap (λ v. ended v None) same
  in_order90 (free.item remarks (free.simple stop) rest) (suc n) w u e = absurd cc
  in_order90 (free.item remarks (free.simple (assign d x)) rest) zero w u e =
      let same : w ≡ u = cc in
      go (acts storage function stops nowhere d x w) ∙ ap (λ v. close (action storage function nowhere (assign d x) 1 v) (λ n t how. going t)) same
    where
      go : Acts storage function stops nowhere d x w → body_run (free.item remarks (free.simple (assign d x)) rest) 1 w ≡ close (action storage function nowhere (assign d x) 1 w) (λ n t how. going t)
      go (inl s) =
          ap (λ o. close (bind (bind o (λ n w h. next h (body storage function rest) n w)) unit_end) nested.stop_at_end) (s.2 0)
          ∙ ap (λ r. close r nested.stop_at_end) (body_begins storage function stops rest (storage.write w s.0 s.1))
          ∙ sym (ap (λ o. close o (λ n t how. going t)) (s.2 0))
      go (inr s) =
          ap (λ o. close (bind (bind o (λ n w h. next h (body storage function rest) n w)) unit_end) nested.stop_at_end) (s.2 0)
          ∙ sym (ap (λ o. close o (λ n t how. going t)) (s.2 0))
  in_order90 (free.item remarks (free.simple (assign d x)) rest) (suc n) w u e =
      go (acts storage function stops nowhere d x w) (λ y v. in_order90 rest n (storage.write w y v) u)
    where
      on : (b : ℕ) (r : Out Objects How) → action storage function nowhere (assign d x) (suc b) w ≡ r
          → body_run (free.item remarks (free.simple (assign d x)) rest) (suc b) w ≡ close (bind (bind r (λ n w h. next h (body storage function rest) n w)) unit_end) nested.stop_at_end
      on b r is = ap (λ o. close (bind (bind o (λ n w h. next h (body storage function rest) n w)) unit_end) nested.stop_at_end) is

      go : Acts storage function stops nowhere d x w
          → ((y : List ℕ) (v : Value) → body_run rest n (storage.write w y v) ≡ going u → body_run rest (suc n) (storage.write w y v) ≡ with_next storage function u (slice_get (written_actions rest) n))
          → body_run (free.item remarks (free.simple (assign d x)) rest) (suc (suc n)) w ≡ with_next storage function u (slice_get (written_actions rest) n)
      go (inl s) later = on (suc n) (gives (suc n) (storage.write w s.0 s.1) normal) (s.2 (suc n)) ∙ later s.0 s.1 (sym (on n (gives n (storage.write w s.0 s.1) normal) (s.2 n)) ∙ e)
      go (inr s) later = let wrong : fault s.0 s.1 ≡ going u = sym (on n (over (fault s.0 s.1)) (s.2 n)) ∙ e in absurd cc

pub written_order : (start : Objects) (main : FreeUnit) (m : ℕ) (w : Objects) → nested.run_main start (Some main) m ≡ going w
    → nested.run_main start (Some main) (m + 1) ≡ with_next (untagged main.name) nested.no_function w (slice_get (written_actions main.code) m)
written_order start main m w e =
    let total : m + 1 ≡ suc m = omega arith in
    ap (nested.run_main start (Some main)) total ∙ in_order90 (untagged main.name) nested.no_function written_stops main.code m start w e
