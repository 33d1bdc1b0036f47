-- The run of the nested list follows the run of the flat one.
use Rattle.std.proofs.Common.{◌≡◌, ℕ, zero, suc, ◌+◌, ◌<◌, ◌≤◌, List, [], ◌∷◌, ◌++◌, Option, Some, None, refl, sym, subst, arith}
use Rattle.text_base.specs.Cards.{Comment}
use Rattle.text_base.specs.Trees.{Expr, int, bool, text, name, call, substring, unary, binary, paren, Exprs, none, more, Action, assign, stop}
use Rattle.text_base.specs.Values.{Value, integer, logical, string, Fault, run_fault, no_meaning}
use Rattle.text_base.specs.Operations.{Computed, computes, faults, unfit, outcome}
use Rattle.text_base.specs.Operators.{unary_op, binary_op, intrinsic}
use Rattle.text_base.specs.declared.operation.Op.{Op}
use Rattle.text_base.specs.declared.operation.RunFault.TheVariants.{Undefined}
use Rattle.text_base.specs.Runs.{Final, going, ended, fault, Out, gives, over, bind, close, tick, known, computed, How, normal}
use Rattle.text_base.specs.Evaluation.{Call}
use Rattle.text_base.specs.Evaluation as e
use Rattle.text_base.specs.declared.refusal.Place.{Place}
use Rattle.program77.specs.Tree as source
use Rattle.program77.specs.Meaning.{Store, Line, lines, Open, from, proceed}
use Rattle.program77.specs.Meaning as flat
use Rattle.text_base.specs.Remarks.{Remark}
use Rattle.tree90.specs.Meaning.{Objects, untagged, nowhere, next, body, unit_end}
use Rattle.tree90.specs.Meaning as nested
use Rattle.project_set.specs.Rewrite.{remarks_at, written_list}
use Rattle.project_set.proofs.Agreeing.{Agrees, memory77, agrees_read, agrees_write}

module _ (home : List ℕ) (names : List (List ℕ)) where
  -- unless the first has faulted, both go on or have ended alike, and agree
  abbrev pub Alike : Final Store → Final Objects → Type 0
  Alike (going w) (going w') = Agrees home names w w'
  Alike (going w) (ended w' c') = ⊥
  Alike (going w) (fault here' kind') = ⊥
  Alike (ended w c) (going w') = ⊥
  Alike (ended w c) (ended w' c') = Agrees home names w w' × (c ≡ c')
  Alike (ended w c) (fault here' kind') = ⊥
  Alike (fault here kind) f = Unit {0}

  -- after some budget of n or more, the second is as the first is after n
  pub record Follows (n : ℕ) (x : Final Store) (y : ℕ → Final Objects) : Type 0 where
    pub by : (m : ℕ) × (n ≤ m) × Alike x (y m)

  -- a fault is followed by anything
  follows_fault : (n : ℕ) (here : Place) (kind : Fault) (y : ℕ → Final Objects) → Follows n (fault here kind) y
  follows_fault n here kind y = record { by = (n, omega arith, tt) }

  close_bind : {W A B : Type 0} (r : Out W A) (k : ℕ → W → A → Out W B) (l : ℕ → W → B → Final W) → close r (λ n w a. close (k n w a) l) ≡ close (bind r k) l
  close_bind (gives n w a) k l = refl
  close_bind (over f) k l = refl

  -- two chains, by their first parts
  rebind : {A B C D : Type 0} (n : ℕ) (r : Out Store A) (k : ℕ → Store → A → Out Store B) (l : ℕ → Store → B → Final Store) (s : ℕ → Out Objects C) (k' : ℕ → Objects → C → Out Objects D) (l' : ℕ → Objects → D → Final Objects)
      → Follows n (close r (λ m w a. close (k m w a) l)) (λ j. close (s j) (λ m w a. close (k' m w a) l')) → Follows n (close (bind r k) l) (λ j. close (bind (s j) k') l')
  rebind n r k l s k' l' f =
      let j = f.by.0 in
      let first : Alike (close (bind r k) l) (close (s j) (λ m w a. close (k' m w a) l')) = subst (λ z. Alike z (close (s j) (λ m w a. close (k' m w a) l'))) (close_bind r k l) f.by.2 in
      record { by = (j, f.by.1, subst (λ z. Alike (close (bind r k) l) z) (close_bind (s j) k' l') first) }

  -- only the second is a chain
  rebind_second : {C D : Type 0} (n : ℕ) (x : Final Store) (s : ℕ → Out Objects C) (k' : ℕ → Objects → C → Out Objects D) (l' : ℕ → Objects → D → Final Objects)
      → Follows n x (λ j. close (s j) (λ m w a. close (k' m w a) l')) → Follows n x (λ j. close (bind (s j) k') l')
  rebind_second n x s k' l' f = record { by = (f.by.0, f.by.1, subst (λ z. Alike x z) (close_bind (s f.by.0) k' l') f.by.2) }

  -- a statement is counted on both sides
  follows_tick : {A B : Type 0} (n : ℕ) (w : Store) (w' : Objects) (k : ℕ → Out Store A) (l : ℕ → Store → A → Final Store) (k' : ℕ → Out Objects B) (l' : ℕ → Objects → B → Final Objects)
      → Agrees home names w w' → ((m : ℕ) → m < n → Follows m (close (k m) l) (λ j. close (k' j) l')) → Follows n (close (tick n w k) l) (λ j. close (tick j w' k') l')
  follows_tick zero w w' k l k' l' agrees f = record { by = (0, omega arith, agrees) }
  follows_tick (suc n) w w' k l k' l' agrees f =
      let a = (f n (omega arith)).by in
      record { by = (suc a.0, omega (arith, a.1), a.2) }

  -- what a value is followed by
  abbrev Goes : {A : Type 0} → ℕ → (ℕ → Store → A → Final Store) → (ℕ → Objects → A → Final Objects) → Type 0
  Goes {A} n k k' = (m : ℕ) → m ≤ n → (w : Store) (w' : Objects) → Agrees home names w w' → (a : A) → Follows m (k m w a) (λ j. k' j w' a)

  follows_known : (here here' : Place) (kind kind' : Fault) (o o' : Option Value) (n : ℕ) (w : Store) (w' : Objects) (k : ℕ → Store → Value → Final Store) (k' : ℕ → Objects → Value → Final Objects)
      → ((v : Value) → o ≡ Some v → o' ≡ Some v) → ((v : Value) → Follows n (k n w v) (λ j. k' j w' v)) → Follows n (close (known here kind o n w) k) (λ j. close (known here' kind' o' j w') k')
  follows_known here here' kind kind' None o' n w w' k k' same f = follows_fault n here kind _
  follows_known here here' kind kind' (Some v) o' n w w' k k' same f =
      subst (λ z. Follows n (k n w v) (λ j. close (known here' kind' z j w') k')) (sym (same v refl)) (f v)

  follows_computed : (here here' : Place) (r : Computed) (n : ℕ) (w : Store) (w' : Objects) (k : ℕ → Store → Value → Final Store) (k' : ℕ → Objects → Value → Final Objects)
      → ((v : Value) → Follows n (k n w v) (λ j. k' j w' v)) → Follows n (close (computed here r n w) k) (λ j. close (computed here' r j w') k')
  follows_computed here here' (computes v) n w w' k k' f = f v
  follows_computed here here' (faults kind) n w w' k k' f = follows_fault n here (run_fault kind) _
  follows_computed here here' unfit n w w' k k' f = follows_fault n here no_meaning _

  -- no function has a value
  abbrev pub IsNoFunction : Call Store → Type 0
  IsNoFunction f77 = (f : List ℕ) (values : List Value) (n : ℕ) (w : Store) → f77 f values n w ≡ over (fault nowhere no_meaning)

  module _ (f77 : Call Store) (f90 : Call Objects) (no_function : IsNoFunction f77) (here : Place) where
    -- an intrinsic function of the same values
    follows_applied : (o : Option Op) (f : List ℕ) (values : List Value) (n : ℕ) (w : Store) (w' : Objects) (k : ℕ → Store → Value → Final Store) (k' : ℕ → Objects → Value → Final Objects)
        → ((v : Value) → Follows n (k n w v) (λ j. k' j w' v))
        → Follows n (close (e.applied (memory77 home names) f77 here o f values n w) k) (λ j. close (e.applied (untagged home) f90 nowhere o f values j w') k')
    follows_applied None f values n w w' k k' go = subst (λ z. Follows n (close z k) (λ j. close (f90 f values j w') k')) (sym (no_function f values n w)) (follows_fault n nowhere no_meaning _)
    follows_applied (Some op) f values n w w' k k' go = follows_computed here nowhere (outcome op values) n w w' k k' go

    mutual
      follows_eval : (x : Expr) (n : ℕ) (w : Store) (w' : Objects) (k : ℕ → Store → Value → Final Store) (k' : ℕ → Objects → Value → Final Objects)
          → Agrees home names w w' → Goes n k k' → Follows n (close (e.eval (memory77 home names) f77 here x n w) k) (λ j. close (e.eval (untagged home) f90 nowhere x j w') k')
      follows_eval (int v) n w w' k k' a go = go n (omega arith) w w' a (integer v)
      follows_eval (bool b) n w w' k k' a go = go n (omega arith) w w' a (logical b)
      follows_eval (text t) n w w' k k' a go = go n (omega arith) w w' a (string t)
      follows_eval (name x) n w w' k k' a go =
          follows_known here nowhere (run_fault Undefined) (run_fault Undefined) ((memory77 home names).read w x) ((untagged home).read w' x) n w w' k k' (λ v is. agrees_read home names w w' x v a is) (λ v. go n (omega arith) w w' a v)
      follows_eval (call f xs) n w w' k k' a go =
          rebind n (e.evals (memory77 home names) f77 here xs n w) _ k (λ j. e.evals (untagged home) f90 nowhere xs j w') _ k'
          (follows_evals xs n w w' _ _ a (λ m le v v' b values.
          follows_applied (intrinsic f) f values m v v' k k' (λ z. go m (omega arith) v v' b z)))
      follows_eval (unary op x) n w w' k k' a go =
          rebind n (e.eval (memory77 home names) f77 here x n w) _ k (λ j. e.eval (untagged home) f90 nowhere x j w') _ k'
          (follows_eval x n w w' _ _ a (λ m le v v' b value.
          follows_computed here nowhere (outcome (unary_op op) (value ∷ [])) m v v' k k' (λ z. go m (omega arith) v v' b z)))
      follows_eval (binary op x y) n w w' k k' a go =
          rebind n (e.eval (memory77 home names) f77 here x n w) _ k (λ j. e.eval (untagged home) f90 nowhere x j w') _ k'
          (follows_eval x n w w' _ _ a (λ m le v v' b left.
          rebind m (e.eval (memory77 home names) f77 here y m v) _ k (λ j. e.eval (untagged home) f90 nowhere y j v') _ k'
          (follows_eval y m v v' _ _ b (λ i le2 u u' d right.
          follows_computed here nowhere (outcome (binary_op op) (left ∷ right ∷ [])) i u u' k k' (λ z. go i (omega arith) u u' d z)))))
      follows_eval (substring x from to) n w w' k k' a go = follows_fault n here _ _
      follows_eval (paren x) n w w' k k' a go = follows_eval x n w w' k k' a go

      follows_evals : (xs : Exprs) (n : ℕ) (w : Store) (w' : Objects) (k : ℕ → Store → List Value → Final Store) (k' : ℕ → Objects → List Value → Final Objects)
          → Agrees home names w w' → Goes n k k' → Follows n (close (e.evals (memory77 home names) f77 here xs n w) k) (λ j. close (e.evals (untagged home) f90 nowhere xs j w') k')
      follows_evals none n w w' k k' a go = go n (omega arith) w w' a []
      follows_evals (more x rest) n w w' k k' a go =
          rebind n (e.eval (memory77 home names) f77 here x n w) _ k (λ j. e.eval (untagged home) f90 nowhere x j w') _ k'
          (follows_eval x n w w' _ _ a (λ m le v v' b first.
          rebind m (e.evals (memory77 home names) f77 here rest m v) _ k (λ j. e.evals (untagged home) f90 nowhere rest j v') _ k'
          (follows_evals rest m v v' _ _ b (λ i le2 u u' d others. go i (omega arith) u u' d (first ∷ others)))))

    follows_define : (d : Expr) (v : Value) (n : ℕ) (w : Store) (w' : Objects) (k : ℕ → Store → How → Final Store) (k' : ℕ → Objects → How → Final Objects)
        → Agrees home names w w' → Goes n k k' → Follows n (close (e.define (memory77 home names) f77 here d v n w) k) (λ j. close (e.define (untagged home) f90 nowhere d v j w') k')
    follows_define (int u) v n w w' k k' a go = follows_fault n here _ _
    follows_define (bool b) v n w w' k k' a go = follows_fault n here _ _
    follows_define (text t) v n w w' k k' a go = follows_fault n here _ _
    follows_define (call f xs) v n w w' k k' a go = follows_fault n here _ _
    follows_define (substring x from to) v n w w' k k' a go = follows_fault n here _ _
    follows_define (paren x) v n w w' k k' a go = follows_fault n here _ _
    follows_define (unary op x) v n w w' k k' a go = follows_fault n here _ _
    follows_define (binary op x y) v n w w' k k' a go = follows_fault n here _ _
    follows_define (name x) v n w w' k k' a go = go n (omega arith) _ _ (agrees_write home names w w' x v a) normal

    follows_action : (x : Action) (n : ℕ) (w : Store) (w' : Objects) (k : ℕ → Store → How → Final Store) (k' : ℕ → Objects → How → Final Objects)
        → Agrees home names w w' → Goes n k k' → Follows n (close (e.action (memory77 home names) f77 here x n w) k) (λ j. close (e.action (untagged home) f90 nowhere x j w') k')
    follows_action stop n w w' k k' a go =
        follows_tick n w w' _ k _ k' a (λ m lt. record { by = (m, omega arith, (a, refl)) })
    follows_action (assign d x) n w w' k k' a go =
        follows_tick n w w' _ k _ k' a (λ m lt.
        rebind m (e.eval (memory77 home names) f77 here x m w) _ k (λ j. e.eval (untagged home) f90 nowhere x j w') _ k'
        (follows_eval x m w w' _ _ a (λ i le v v' b value.
        follows_define d value i v v' k k' b (λ h le2 u u' c how. go h (omega arith) u u' c how))))

  -- the lines of a list, and what follows them, whatever the comments
  module _ (f77 : Call Store) (f90 : Call Objects) (no_function : IsNoFunction f77) (cs : List Comment) where
    follows_body : (c : source.Code) (i : ℕ) (left : List Remark) (depth n : ℕ) (rest : List Line) (loops : List Open) (w : Store) (w' : Objects) (k : ℕ → Store → Unit {0} → Final Store) (k' : ℕ → Objects → How → Final Objects)
        → Agrees home names w w'
        → ((m : ℕ) → m ≤ n → (v : Store) (v' : Objects) → Agrees home names v v' → Follows m (close (from (memory77 home names) f77 rest 0 loops m v) k) (λ j. k' j v' normal))
        → Follows n (close (from (memory77 home names) f77 (lines c depth rest) 0 loops n w) k) (λ j. close (body (untagged home) f90 (written_list cs i left c).0 j w') k')
    follows_body source.done i left depth n rest loops w w' k k' a after = after n (omega arith) w w' a
    follows_body (source.item label here source.continue behind) i left depth n rest loops w w' k k' a after =
        follows_body behind (i + 1) (left ++ remarks_at cs i) depth n rest loops w w' k k' a after
    follows_body (source.item label here (source.simple x) behind) i left depth n rest loops w w' k k' a after =
        rebind n (e.action (memory77 home names) f77 here x n w) (proceed (from (memory77 home names) f77 (lines behind depth rest)) loops) k (λ j. e.action (untagged home) f90 nowhere x j w') _ k'
        (follows_action f77 f90 no_function here x n w w' _ _ a (λ m le v v' b how. step (λ m le v v' b. follows_body behind (i + 1) [] depth m rest loops v v' k k' b (λ i le2 u u' d. after i (omega arith) u u' d)) how m le v v' b))
      where
        step : ((m : ℕ) → m ≤ n → (v : Store) (v' : Objects) → Agrees home names v v'
            → Follows m (close (from (memory77 home names) f77 (lines behind depth rest) 0 loops m v) k) (λ j. close (body (untagged home) f90 (written_list cs (i + 1) [] behind).0 j v') k'))
            → (how : How) (m : ℕ) → m ≤ n → (v : Store) (v' : Objects) → Agrees home names v v'
            → Follows m (close (proceed (from (memory77 home names) f77 (lines behind depth rest)) loops m v how) k) (λ j. close (next how (body (untagged home) f90 (written_list cs (i + 1) [] behind).0) j v') k')
        step later normal m le v v' b = later m le v v' b

    -- a whole unit, whose END is counted
    pub follows_unit : (c : source.Code) (i n : ℕ) (w : Store) (w' : Objects) → Agrees home names w w'
        → Follows n (close (from (memory77 home names) f77 (lines c 0 []) 0 [] n w) flat.stop_at_end) (λ j. close (bind (body (untagged home) f90 (written_list cs i [] c).0 j w') unit_end) nested.stop_at_end)
    follows_unit c i n w w' a =
        rebind_second n _ (λ j. body (untagged home) f90 (written_list cs i [] c).0 j w') unit_end nested.stop_at_end
        (follows_body c i [] 0 n [] [] w w' flat.stop_at_end (λ j v how. close (unit_end j v how) nested.stop_at_end) a
        (λ m le v v' b. follows_tick m v v' _ flat.stop_at_end _ nested.stop_at_end b (λ i lt. record { by = (i, omega arith, (b, refl)) })))
