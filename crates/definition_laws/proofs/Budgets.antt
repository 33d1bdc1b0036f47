-- What runs with more statements in their budget are.
use Rattle.std.proofs.Common.{◌≡◌, ℕ, zero, suc, ◌+◌, ◌-◌, ◌≤◌, true, false, List, [], ◌∷◌, Option, Some, None, refl, sym, ap, ◌∙◌, subst, ⊎_elim, arith}
use Rattle.std.proofs.lemmas.List.Sums.{sum_by-cons}
use Rattle.text_base.specs.Trees.{Action, assign, stop}
use Rattle.text_base.specs.Runs.{Final, going, ended, fault, Out, gives, over, bind, close, tick, How, normal}
use Rattle.text_base.specs.Evaluation.{Storage, Call}
use Rattle.text_base.specs.Evaluation as e
use Rattle.text_base.specs.declared.refusal.Place.{Place}
use Rattle.program77.specs.Tree as source
use Rattle.program77.specs.Tree.{SourceUnit}
use Rattle.program77.specs.Layout.{Layout}
use Rattle.program77.specs.Meaning.{Store, Line, line, act, pass, lines, Open, from, proceed, tagged, start77, run_main}
use Rattle.program77.specs.Meaning as flat
use Rattle.tree90.specs.Tree as free
use Rattle.tree90.specs.Tree.{FreeUnit}
use Rattle.tree90.specs.Meaning.{Objects, untagged, nowhere, next, body, unit_end}
use Rattle.tree90.specs.Meaning as nested
use Rattle.definition_laws.specs.CommentPlaces.{code_marks, how_many}
use Rattle.definition_laws.specs.Running.{IsOneRun, IsOver, count_of}
use Rattle.definition_laws.proofs.EntryCounts.{one}
use Rattle.definition_laws.proofs.Evaluating.{Stops}
use Rattle.definition_laws.proofs.Acting.{acts}

-- the same with k more statements, unless the budget ended
abbrev Later : {W A : Type 0} → ℕ → Out W A → Out W A → Type 0
Later k (gives n w a) r = r ≡ gives (n + k) w a
Later k (over (going w)) r = Unit {0}
Later k (over (ended w c)) r = r ≡ over (ended w c)
Later k (over (fault here kind)) r = r ≡ over (fault here kind)

-- at least j statements are left, or the run is over
abbrev Leaves : {W A : Type 0} → ℕ → Out W A → Type 0
Leaves j (gives n w a) = j ≤ n
Leaves j (over (going w)) = ⊥
Leaves j (over (ended w c)) = Unit {0}
Leaves j (over (fault here kind)) = Unit {0}

module _ {W : Type 0} where
  later_bind : {A B : Type 0} (k : ℕ) (x y : Out W A) (f : ℕ → W → A → Out W B) → Later k x y → ((n : ℕ) (w : W) (a : A) → Later k (f n w a) (f (n + k) w a)) → Later k (bind x f) (bind y f)
  later_bind k (gives n w a) y f e h = subst (λ z. Later k (f n w a) (bind z f)) (sym e) (h n w a)
  later_bind k (over (going w)) y f e h = tt
  later_bind k (over (ended w c)) y f e h = ap (λ z. bind z f) e
  later_bind k (over (fault here kind)) y f e h = ap (λ z. bind z f) e

  later_tick : {A : Type 0} (k n : ℕ) (w : W) (f : ℕ → Out W A) → ((m : ℕ) → Later k (f m) (f (m + k))) → Later k (tick n w f) (tick (n + k) w f)
  later_tick k zero w f h = tt
  later_tick k (suc n) w f h = let m : suc (n + k) ≡ suc n + k = omega arith in subst (λ i. Later k (f n) (tick i w f)) m (h n)

  leaves_bind : {A B : Type 0} (i j : ℕ) (x : Out W A) (f : ℕ → W → A → Out W B) → Leaves j x → ((n : ℕ) (w : W) (a : A) → j ≤ n → Leaves i (f n w a)) → Leaves i (bind x f)
  leaves_bind i j (gives n w a) f le h = h n w a le
  leaves_bind i j (over (going w)) f le h = absurd le
  leaves_bind i j (over (ended w c)) f le h = tt
  leaves_bind i j (over (fault here kind)) f le h = tt

  leaves_tick : {A : Type 0} (i j n : ℕ) (w : W) (f : ℕ → Out W A) → j + 1 ≤ n → ((m : ℕ) → j ≤ m → Leaves i (f m)) → Leaves i (tick n w f)
  leaves_tick i j zero w f le h = absurd (omega arith)
  leaves_tick i j (suc n) w f le h = h n (omega arith)

  module _ (storage : Storage W) (function : Call W) (stops : Stops function) (here : Place) where
    later_action : (a : Action) (k n : ℕ) (w : W) → Later k (e.action storage function here a n w) (e.action storage function here a (n + k) w)
    later_action stop k n w = later_tick k n w _ (λ m. refl)
    later_action (assign d x) k zero w = tt
    later_action (assign d x) k (suc n) w =
        let total : suc n + k ≡ suc (n + k) = omega arith in
        let more = ap (λ i. e.action storage function here (assign d x) i w) total in
        ⊎_elim (λ s. subst (λ z. Later k z (e.action storage function here (assign d x) (suc n + k) w)) (sym (s.2 n)) (more ∙ s.2 (n + k)))
        (λ s. subst (λ z. Later k z (e.action storage function here (assign d x) (suc n + k) w)) (sym (s.2 n)) (more ∙ s.2 (n + k))) (acts storage function stops here d x w)

    leaves_action : (a : Action) (j n : ℕ) (w : W) → j + 1 ≤ n → Leaves j (e.action storage function here a n w)
    leaves_action stop j n w le = leaves_tick j j n w _ le (λ m lt. tt)
    leaves_action (assign d x) j zero w le = absurd (omega arith)
    leaves_action (assign d x) j (suc n) w le =
        ⊎_elim (λ s. subst (Leaves j) (sym (s.2 n)) (omega arith)) (λ s. subst (Leaves j) (sym (s.2 n)) tt) (acts storage function stops here d x w)

  -- ---- whole runs

  -- a run that is as before
  abbrev Stays : Final W → Final W → Type 0
  Stays (going w) f = Unit {0}
  Stays (ended w c) f = f ≡ ended w c
  Stays (fault here kind) f = f ≡ fault here kind

  one_run : (run : ℕ → Final W) → ((k n : ℕ) → Stays (run n) (run (n + k))) → IsOneRun run
  one_run run stays = record {
    ended_stays = λ n m w c le e. let at = stays (m - n) n in let total : n + (m - n) ≡ m = omega (arith, le) in subst (λ f. Stays f (run m)) e (subst (λ i. Stays (run n) (run i)) total at);
    fault_stays = λ n m here kind le e. let at = stays (m - n) n in let total : n + (m - n) ≡ m = omega (arith, le) in subst (λ f. Stays f (run m)) e (subst (λ i. Stays (run n) (run i)) total at);
    went_on = λ n m w le e. let total : n + (m - n) ≡ m = omega (arith, le) in before (run n) (run m) w (subst (λ i. Stays (run n) (run i)) total (stays (m - n) n)) e;
  }
    where
      before : (f g : Final W) (w : W) → Stays f g → g ≡ going w → (v : W) × (f ≡ going v)
      before (going v) g w s e = (v, refl)
      before (ended v c) g w s e = absurd cc
      before (fault here kind) g w s e = absurd cc

  stays_close : {A : Type 0} (k : ℕ) (x y : Out W A) (f : ℕ → W → A → Final W) → Later k x y → ((n m : ℕ) (w : W) (a : A) → f n w a ≡ f m w a) → Stays (close x f) (close y f)
  stays_close k (gives n w a) y f later same = subst (λ z. Stays (f n w a) (close z f)) (sym later) (subst (Stays (f n w a)) (same n (n + k) w a) (itself (f n w a)))
    where
      itself : (g : Final W) → Stays g g
      itself (going v) = tt
      itself (ended v c) = refl
      itself (fault here kind) = refl
  stays_close k (over (going w)) y f later same = tt
  stays_close k (over (ended w c)) y f later same = ap (λ z. close z f) later
  stays_close k (over (fault here kind)) y f later same = ap (λ z. close z f) later

  over_close : {A : Type 0} (j : ℕ) (x : Out W A) (f : ℕ → W → A → Final W) → Leaves j x → ((n : ℕ) (w : W) (a : A) → IsOver (f n w a)) → IsOver (close x f)
  over_close j (gives n w a) f leaves h = h n w a
  over_close j (over (going w)) f leaves h = leaves
  over_close j (over (ended w c)) f leaves h = tt
  over_close j (over (fault here kind)) f leaves h = tt

-- ---- FORTRAN 77

-- a function that isn't an intrinsic one has no meaning
pub source_stops : Stops flat.no_function
source_stops = (record { file = 0; line = 0 }, λ f values n w. refl)

module _ (storage : Storage Store) (function : Call Store) (stops : Stops function) where
  later_proceed : (go : ℕ → List Open → ℕ → Store → Out Store (Unit {0})) (loops : List Open) (k n : ℕ) (w : Store) (how : How)
      → Later k (go 0 loops n w) (go 0 loops (n + k) w) → Later k (proceed go loops n w how) (proceed go loops (n + k) w how)
  later_proceed go loops k n w normal later = later

  later_from : (ls : List Line) (passed : ℕ) (loops : List Open) (k n : ℕ) (w : Store) → Later k (from storage function ls passed loops n w) (from storage function ls passed loops (n + k) w)
  later_from [] passed loops k n w = later_tick k n w _ (λ m. refl)
  later_from (line label depth here op ∷ rest) (suc j) loops k n w = later_from rest j loops k n w
  later_from (line label depth here (act a) ∷ rest) zero loops k n w =
      later_bind k _ _ _ (later_action storage function stops here a k n w) (λ m u how. later_proceed (from storage function rest) loops k m u how (later_from rest 0 loops k m u))
  later_from (line label depth here pass ∷ rest) zero loops k n w = later_from rest 0 loops k n w

  leaves_proceed : (go : ℕ → List Open → ℕ → Store → Out Store (Unit {0})) (loops : List Open) (n : ℕ) (w : Store) (how : How) → Leaves 0 (go 0 loops n w) → Leaves 0 (proceed go loops n w how)
  leaves_proceed go loops n w normal leaves = leaves

  leaves_from : (c : source.Code) (depth : ℕ) (loops : List Open) (n : ℕ) (w : Store) → how_many (code_marks c) ≤ n → Leaves 0 (from storage function (lines c depth []) 0 loops n w)
  leaves_from source.done depth loops n w le = leaves_tick 0 0 n w _ le (λ m lt. omega arith)
  leaves_from (source.item label here (source.simple a) rest) depth loops n w le =
      let one_more = sum_by-cons one true (code_marks rest) in
      leaves_bind 0 (how_many (code_marks rest)) _ _ (leaves_action storage function stops here a (how_many (code_marks rest)) n w (omega (arith, one_more, le)))
      (λ m u how lt. leaves_proceed (from storage function (lines rest depth [])) loops m u how (leaves_from rest depth loops m u lt))
  leaves_from (source.item label here source.continue rest) depth loops n w le =
      let no_more = sum_by-cons one false (code_marks rest) in
      leaves_from rest depth loops n w (omega (arith, no_more, le))

  -- without a budget the run goes on from where it is
  pub begins : (c : source.Code) (depth : ℕ) (loops : List Open) (w : Store) → from storage function (lines c depth []) 0 loops 0 w ≡ over (going w)
  begins source.done depth loops w = refl
  begins (source.item label here (source.simple stop) rest) depth loops w = refl
  begins (source.item label here (source.simple (assign d x)) rest) depth loops w = refl
  begins (source.item label here source.continue rest) depth loops w = begins rest depth loops w

pub source_one : (layout : Layout) (main : Option SourceUnit) → IsOneRun (run_main layout main)
source_one layout None = one_run (run_main layout None) (λ k n. refl)
source_one layout (Some u) =
    one_run (run_main layout (Some u)) (λ k n. stays_close k _ _ flat.stop_at_end (later_from (tagged layout 0) flat.no_function source_stops (lines u.code 0 []) 0 [] k n (start77 layout)) (λ i m w a. refl))

pub source_ends : (layout : Layout) (u : SourceUnit) → IsOver (run_main layout (Some u) (how_many (code_marks u.code)))
source_ends layout u =
    over_close 0 _ flat.stop_at_end (leaves_from (tagged layout 0) flat.no_function source_stops u.code 0 [] (how_many (code_marks u.code)) (start77 layout) (omega arith)) (λ n w a. tt)

pub source_begins : (layout : Layout) (u : SourceUnit) → run_main layout (Some u) 0 ≡ going (start77 layout)
source_begins layout u = ap (λ r. close r flat.stop_at_end) (begins (tagged layout 0) flat.no_function source_stops u.code 0 [] (start77 layout))

-- ---- Fortran 90

pub written_stops : Stops nested.no_function
written_stops = (nowhere, λ f values n w. refl)

module _ (storage : Storage Objects) (function : Call Objects) (stops : Stops function) where
  later_next : (go : ℕ → Objects → Out Objects How) (k n : ℕ) (w : Objects) (how : How) → Later k (go n w) (go (n + k) w) → Later k (next how go n w) (next how go (n + k) w)
  later_next go k n w normal later = later

  later_body : (c : free.Code) (k n : ℕ) (w : Objects) → Later k (body storage function c n w) (body storage function c (n + k) w)
  later_body free.done k n w = refl
  later_body (free.item remarks (free.simple a) rest) k n w =
      later_bind k _ _ _ (later_action storage function stops nowhere a k n w) (λ m u how. later_next (body storage function rest) k m u how (later_body rest k m u))

  leaves_next : (go : ℕ → Objects → Out Objects How) (j n : ℕ) (w : Objects) (how : How) → Leaves j (go n w) → Leaves j (next how go n w)
  leaves_next go j n w normal leaves = leaves

  leaves_body : (c : free.Code) (j n : ℕ) (w : Objects) → count_of c + j ≤ n → Leaves j (body storage function c n w)
  leaves_body free.done j n w le = omega (arith, le)
  leaves_body (free.item remarks (free.simple a) rest) j n w le =
      leaves_bind j (count_of rest + j) _ _ (leaves_action storage function stops nowhere a (count_of rest + j) n w (omega (arith, le)))
      (λ m u how lt. leaves_next (body storage function rest) j m u how (leaves_body rest j m u lt))

  pub body_begins : (c : free.Code) (w : Objects) → bind (body storage function c 0 w) unit_end ≡ over (going w)
  body_begins free.done w = refl
  body_begins (free.item remarks (free.simple stop) rest) w = refl
  body_begins (free.item remarks (free.simple (assign d x)) rest) w = refl

later_unit_end : (k n : ℕ) (w : Objects) (how : How) → Later k (unit_end n w how) (unit_end (n + k) w how)
later_unit_end k n w normal = later_tick k n w _ (λ m. refl)

leaves_unit_end : (n : ℕ) (w : Objects) (how : How) → 1 ≤ n → Leaves 0 (unit_end n w how)
leaves_unit_end n w normal le = leaves_tick 0 0 n w _ le (λ m lt. omega arith)

pub written_one : (start : Objects) (main : Option FreeUnit) → IsOneRun (nested.run_main start main)
written_one start None = one_run (nested.run_main start None) (λ k n. refl)
written_one start (Some u) =
    one_run (nested.run_main start (Some u))
    (λ k n. stays_close k _ _ nested.stop_at_end
    (later_bind k _ _ _ (later_body (untagged u.name) nested.no_function written_stops u.code k n start) (λ m w how. later_unit_end k m w how)) (λ i m w a. refl))

pub written_ends : (start : Objects) (u : FreeUnit) → IsOver (nested.run_main start (Some u) (count_of u.code + 1))
written_ends start u =
    over_close 0 _ nested.stop_at_end (leaves_bind 0 1 _ _ (leaves_body (untagged u.name) nested.no_function written_stops u.code 1 (count_of u.code + 1) start (omega arith)) (λ n w how le. leaves_unit_end n w how le)) (λ n w a. tt)

pub written_begins : (start : Objects) (u : FreeUnit) → nested.run_main start (Some u) 0 ≡ going start
written_begins start u = ap (λ r. close r nested.stop_at_end) (body_begins (untagged u.name) nested.no_function written_stops u.code start)
