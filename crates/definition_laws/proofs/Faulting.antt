-- Where a run faults, and what its stores are.
use Rattle.std.proofs.Common.{◌≡◌, ◌⊎◌, inl, inr, ℕ, zero, suc, ◌<◌, Bool, true, false, List, [], ◌∷◌, length, get_or, All, Contains, Option, Some, None, refl, sym, ap, ◌∙◌, subst, ⊎_elim, arith}
use Rattle.std.specs.Prelude.{slice_get, if◌then◌else◌}
use Rattle.std.specs.List.{list_any}
use Rattle.std.specs.Str.{bytes_eq}
use Rattle.std.proofs.lemmas.Bool.{and_parts}
use Rattle.std.proofs.lemmas.List.Elements.{All-set, All-weaker, Contains-append_left, Contains-append_right, Contains-append_cases}
use Rattle.std.proofs.lemmas.Option.{same_Some, slice_get-get_or}
use Rattle.text_base.specs.Trees.{Expr, name, Action, assign, stop}
use Rattle.text_base.specs.Names.{expr_variables, action_variables}
use Rattle.text_base.specs.ExpressionKinds.{is_typed_action}
use Rattle.text_base.specs.Values.{Value, integer, logical, string, Kind, integers, kind_of, Held, undefined, holds_integer, holds_logical, held, integer_in, Fault, run_fault}
use Rattle.text_base.specs.Runs.{Final, going, ended, fault, Out, gives, over, bind, close, normal}
use Rattle.text_base.specs.Evaluation.{Storage, Call}
use Rattle.text_base.specs.Evaluation as e
use Rattle.text_base.specs.declared.operation.RunFault.{RunFault}
use Rattle.text_base.specs.declared.operation.RunFault.TheVariants.{Undefined, ExpressionDefined}
use Rattle.text_base.specs.declared.refusal.Place.{Place}
use Rattle.program77.specs.Tree.{simple, continue, Code, done, item, SourceUnit, SourceProgram}
use Rattle.program77.specs.Typing.{code_variables, first_seen, variables, kind_in, is_typed_code, is_typed}
use Rattle.program77.specs.Layout.{Layout, Entity, layout_of, entity_named}
use Rattle.program77.specs.Meaning.{Store, lines, Open, from, proceed, tagged, read_at, write_at, start77, run_main, run77}
use Rattle.program77.specs.Meaning as flat
use Rattle.definition_laws.specs.Storage.{AreNamed, IsVariableOf, place_of}
use Rattle.definition_laws.specs.Statements.{actions_of}
use Rattle.value_ops.specs.Laws.{IsOperationFault}
use Rattle.definition_laws.specs.Faults.{HasUndefined, HasFault, FaultsBy, HoldsNoInteger, ReadsUndefined, FaultsWith, IsPlain, IsStoreOf}
use Rattle.definition_laws.proofs.Evaluating.{Stops, not_undefined, not_defined, goes, fault_seen}
use Rattle.definition_laws.proofs.Acting.{IsOther, Acts, acts}
use Rattle.definition_laws.proofs.Budgets.{source_stops}
use Rattle.definition_laws.proofs.TypedActions.{gives_integer}
use Rattle.definition_laws.proofs.Places.{in_the_list}
use Rattle.definition_laws.proofs.NameOrder.{only_of, seen}
use Rattle.definition_laws.proofs.StorageLemmas.{is_found, within, length_kept, start_undefined}

-- the names of a statement are among those of its list
named : (c : Code) (here : Place) (d x : Expr) (y : List ℕ) → Contains (actions_of c) (here, assign d x) → Contains (expr_variables x) y → Contains (code_variables c) y
named done here d x y at there = absurd (omega (arith, at.1))
named (item label place continue rest) here d x y at there = named rest here d x y at there
named (item label place (simple a) rest) here d x y at there =
    ⊎_elim (λ first. Contains-append_left (action_variables a) (code_variables rest) y (in_it (only_of (place, a) (here, assign d x) first)))
    (λ later. Contains-append_right (action_variables a) (code_variables rest) y (named rest here d x y later there))
    (Contains-append_cases ((place, a) ∷ []) (actions_of rest) (here, assign d x) at)
  where
    in_it : ◌≡◌ {A = Place × Action} (place, a) (here, assign d x) → Contains (action_variables a) y
    in_it same = subst (λ (q : Place × Action). Contains (action_variables q.1) y) (sym same) (Contains-append_right (expr_variables d) (expr_variables x) y there)

above : (n : ℕ) → 0 < suc n
above n = omega arith

-- ---- one statement

-- the stores of a run are good
abbrev pub IsGood : (Store → Type 0) → Final Store → Type 0
IsGood Good (going w) = Good w
IsGood Good (ended w code) = Good w
IsGood Good (fault here kind) = Unit {0}

abbrev AreGood : {A : Type 0} → (Store → Type 0) → Out Store A → Type 0
AreGood Good (gives n w a) = Good w
AreGood Good (over f) = IsGood Good f

module _ (storage : Storage Store) (function : Call Store) (stops : Stops function) where
  -- the run of a list, from the line after a statement on
  abbrev run : Code → ℕ → List Open → ℕ → Store → Out Store (Unit {0})
  run c depth loops n w = from storage function (lines c depth []) 0 loops n w

  -- an assignment goes on with what follows, or faults
  goes_on : (label : ℕ) (here : Place) (d x : Expr) (rest : Code) (depth : ℕ) (loops : List Open) (b : ℕ) (w u : Store) → e.action storage function here (assign d x) (suc b) w ≡ gives b u normal
      → run (item label here (simple (assign d x)) rest) depth loops (suc b) w ≡ run rest depth loops b u
  goes_on label here d x rest depth loops b w u is = ap (λ o. bind o (proceed (from storage function (lines rest depth [])) loops)) is

  breaks : (label : ℕ) (here at : Place) (d x : Expr) (rest : Code) (depth : ℕ) (loops : List Open) (b : ℕ) (w : Store) (kind : Fault) → e.action storage function here (assign d x) (suc b) w ≡ over (fault at kind)
      → run (item label here (simple (assign d x)) rest) depth loops (suc b) w ≡ over (fault at kind)
  breaks label here at d x rest depth loops b w kind is = ap (λ o. bind o (proceed (from storage function (lines rest depth [])) loops)) is

  -- ---- a list of statements

  module _ (Good : Store → Type 0) (Fine : Action → Type 0)
      (kept : (here : Place) (y : List ℕ) (x : Expr) (w : Store) (v : Value) → Fine (assign (name y) x) → e.eval storage function here x 0 w ≡ gives 0 w v → Good w → Good (storage.write w y v)) where
    -- each simple statement of a list is fine
    abbrev pub AllFine : Code → Type 0
    AllFine done = Unit {0}
    AllFine (item label here continue rest) = AllFine rest
    AllFine (item label here (simple a) rest) = Fine a × AllFine rest

    defined : (here : Place) (d x : Expr) (y : List ℕ) (w : Store) (v : Value) → Fine (assign d x) → d ≡ name y → ((n : ℕ) → e.eval storage function here x n w ≡ gives n w v) → Good w → Good (storage.write w y v)
    defined here d x y w v fine is e good = kept here y x w v (subst (λ c. Fine (assign c x)) is fine) (e 0) good

    pub good_run : (c : Code) (depth : ℕ) (loops : List Open) (n : ℕ) (w : Store) → AllFine c → Good w → AreGood Good (run c depth loops n w)
    good_run done depth loops zero w fine good = good
    good_run done depth loops (suc n) w fine good = good
    good_run (item label here continue rest) depth loops n w fine good = good_run rest depth loops n w fine good
    good_run (item label here (simple stop) rest) depth loops zero w fine good = good
    good_run (item label here (simple stop) rest) depth loops (suc n) w fine good = good
    good_run (item label here (simple (assign d x)) rest) depth loops zero w fine good = good
    good_run (item label here (simple (assign d x)) rest) depth loops (suc n) w fine good =
        ⊎_elim (λ s. subst (AreGood Good) (sym (goes_on label here d x rest depth loops n w (storage.write w s.0 s.1) (s.2 n))) (good_run rest depth loops n (storage.write w s.0 s.1) fine.1 (defined here d x s.0 w s.1 fine.0 s.3 s.4 good)))
        (λ s. subst (AreGood Good) (sym (breaks label here s.0 d x rest depth loops n w s.1 (s.2 n))) tt) (acts storage function stops here d x w)

    -- an assignment of the list that faults, the store that the run comes there with, and the cause
    pub record Found (c : Code) (depth : ℕ) (loops : List Open) (n : ℕ) (w : Store) (here : Place) (kind : RunFault) : Type 0 where
      pub variable : Expr
      pub value : Expr
      pub before : ℕ
      pub stands : slice_get (actions_of c) before ≡ Some (here, assign variable value)
      pub earlier : before < n
      pub store : Store
      pub reached : run c depth loops before w ≡ over (going store)
      pub good : Good store
      pub cause : ((kind ≡ Undefined) × HasUndefined (storage.read store) value) ⊎ (IsOperationFault kind × HasFault (storage.read store) kind value)

    pub find : (here : Place) (kind : RunFault) → (kind ≡ ExpressionDefined → ⊥) → (c : Code) (depth : ℕ) (loops : List Open) (n : ℕ) (w : Store) → AllFine c → Good w
        → run c depth loops n w ≡ over (fault here (run_fault kind)) → Found c depth loops n w here kind
    find here kind is done depth loops zero w fine good f = absurd cc
    find here kind is done depth loops (suc n) w fine good f = absurd cc
    find here kind is (item label at continue rest) depth loops n w fine good f =
        let r = find here kind is rest depth loops n w fine good f in
        record { variable = r.variable; value = r.value; stands = r.stands; before = r.before; earlier = r.earlier; store = r.store; reached = r.reached; good = r.good; cause = r.cause }
    find here kind is (item label at (simple stop) rest) depth loops zero w fine good f = absurd cc
    find here kind is (item label at (simple stop) rest) depth loops (suc n) w fine good f = absurd cc
    find here kind is (item label at (simple (assign d x)) rest) depth loops zero w fine good f = absurd cc
    find here kind is (item label at (simple (assign d x)) rest) depth loops (suc n) w fine good f =
        go (acts storage function stops at d x w) (λ y v. find here kind is rest depth loops n (storage.write w y v) fine.1)
      where
        faulted : (stands : Place) (why : Fault) → ◌≡◌ {A = Final Store} (fault stands why) (fault here (run_fault kind)) → ((n : ℕ) → e.eval storage function at x n w ≡ over (fault stands why)) ⊎ ((at ≡ stands) × IsOther d why)
            → (at ≡ here) × (((kind ≡ Undefined) × HasUndefined (storage.read w) x) ⊎ (IsOperationFault kind × HasFault (storage.read w) kind x))
        faulted stands why same (inl h) =
            fault_seen storage function at w (λ strange. stops) (goes storage function at w x) 0 here kind (h 0 ∙ ap over same)
        faulted stands why same (inr (place, (inl other, no_variable))) = absurd (is cc)
        faulted stands why same (inr (place, (inr other, no_variable))) = absurd cc

        go : Acts storage function stops at d x w
            → ((y : List ℕ) (v : Value) → Good (storage.write w y v) → run rest depth loops n (storage.write w y v) ≡ over (fault here (run_fault kind)) → Found rest depth loops n (storage.write w y v) here kind)
            → Found (item label at (simple (assign d x)) rest) depth loops (suc n) w here kind
        go (inl s) later =
            let on = λ (b : ℕ). goes_on label at d x rest depth loops b w (storage.write w s.0 s.1) (s.2 b) in
            let r = later s.0 s.1 (defined at d x s.0 w s.1 fine.0 s.3 s.4 good) (sym (on n) ∙ f) in
            record {
              variable = r.variable;
              value = r.value;
              stands = r.stands;
              before = suc r.before;
              earlier = omega (arith, r.earlier);
              store = r.store;
              reached = on r.before ∙ r.reached;
              good = r.good;
              cause = r.cause;
            }
        go (inr s) later =
            let same : over (fault s.0 s.1) ≡ over (fault here (run_fault kind)) = sym (breaks label at s.0 d x rest depth loops n w s.1 (s.2 n)) ∙ f in
            let last : fault s.0 s.1 ≡ fault here (run_fault kind) = cc in
            let h = faulted s.0 s.1 last s.3 in
            record { variable = d; value = x; stands = ap (λ p. Some (p, assign d x)) h.0; before = 0; earlier = above n; store = w; reached = refl; good = good; cause = h.1 }

-- ---- the main program

module _ (p : SourceProgram) where
  abbrev layout : Layout
  layout = layout_of p

  -- ---- stores

  pub integers_read : (w : Store) (x : List ℕ) (v : Value) → (tagged layout 0).read w x ≡ Some v → kind_of v ≡ integers
  integers_read w x v e = go (entity_named layout.entities 0 x) e
    where
      held_integer : (h : Held) → integer_in h ≡ Some v → kind_of v ≡ integers
      held_integer undefined e = absurd cc
      held_integer (holds_integer z) e = ap kind_of (sym (same_Some (integer z) v e))
      held_integer (holds_logical b) e = absurd cc

      go : (o : Option Entity) → read_at layout w o ≡ Some v → kind_of v ≡ integers
      go None e = absurd cc
      go (Some f) e = held_integer (get_or w.numbers (place_of layout f) undefined) e

  pub only_integers : (u : SourceUnit) (x : List ℕ) (k : Kind) → kind_in u x ≡ Some k → k ≡ integers
  only_integers u x k e = go (list_any (bytes_eq x) (variables u)) e
    where
      go : (b : Bool) → (if b then Some integers else None) ≡ Some k → k ≡ integers
      go true e = sym (same_Some integers k e)
      go false e = absurd cc

  plain_held : (v : Value) → kind_of v ≡ integers → IsPlain (held v)
  plain_held (integer z) is = inr (z, refl)
  plain_held (logical b) is = absurd cc
  plain_held (string t) is = absurd cc

  -- a store of the program, whose places are plain where its main program has types
  abbrev IsGoodFor : SourceUnit → Store → Type 0
  IsGoodFor u w = (length w.numbers ≡ length (start77 layout).numbers) × (is_typed u ≡ true → All IsPlain w.numbers)

  abbrev IsFine : SourceUnit → Action → Type 0
  IsFine u a = is_typed u ≡ true → is_typed_action (kind_in u) a ≡ true

  kept : (u : SourceUnit) (here : Place) (y : List ℕ) (x : Expr) (w : Store) (v : Value) → IsFine u (assign (name y) x) → e.eval (tagged layout 0) flat.no_function here x 0 w ≡ gives 0 w v
      → IsGoodFor u w → IsGoodFor u ((tagged layout 0).write w y v)
  kept u here y x w v fine e good = (
    length_kept layout 0 y w v ∙ good.0,
    λ typed. go (entity_named layout.entities 0 y) (good.1 typed) (plain_held v (gives_integer (tagged layout 0) (kind_in u) integers_read (only_integers u) flat.no_function here y x (fine typed) 0 w 0 w v e)),
  )
    where
      go : (o : Option Entity) → All IsPlain w.numbers → IsPlain (held v) → All IsPlain (write_at layout w o v).numbers
      go None plain new = plain
      go (Some f) plain new = All-set IsPlain w.numbers (place_of layout f) (held v) new plain

  all_fine : (u : SourceUnit) (c : Code) → (is_typed u ≡ true → is_typed_code (kind_in u) c ≡ true) → AllFine (tagged layout 0) flat.no_function source_stops (IsGoodFor u) (IsFine u) (kept u) c
  all_fine u done typed = tt
  all_fine u (item label here continue rest) typed = all_fine u rest typed
  all_fine u (item label here (simple a) rest) typed = (λ t. (and_parts _ _ (typed t)).0, all_fine u rest (λ t. (and_parts _ _ (typed t)).1))

  fine_unit : (u : SourceUnit) → AllFine (tagged layout 0) flat.no_function source_stops (IsGoodFor u) (IsFine u) (kept u) u.code
  fine_unit u = all_fine u u.code (λ typed. typed)

  start : (u : SourceUnit) → IsGoodFor u (start77 layout)
  start u = (refl, λ typed. All-weaker (λ (h : Held). h ≡ undefined) IsPlain (λ h is. inl is) (start77 layout).numbers (start_undefined layout))

  main_run : (u : SourceUnit) (n : ℕ) → AreGood (IsGoodFor u) (run (tagged layout 0) flat.no_function source_stops u.code 0 [] n (start77 layout))
  main_run u n = good_run (tagged layout 0) flat.no_function source_stops (IsGoodFor u) (IsFine u) (kept u) u.code 0 [] n (start77 layout) (fine_unit u) (start u)

  -- a store that is good for the main program is one of the program
  is_store : (u : SourceUnit) (w : Store) → slice_get p.units 0 ≡ Some u → IsGoodFor u w → IsStoreOf p w
  is_store u w at good = record { places = good.0; plain = λ main is typed. good.1 (subst (λ t. is_typed t ≡ true) (same_Some main u (sym is ∙ at)) typed) }

  ends_well : (u : SourceUnit) → slice_get p.units 0 ≡ Some u → (o : Out Store (Unit {0})) → AreGood (IsGoodFor u) o → IsGood (IsStoreOf p) (close o flat.stop_at_end)
  ends_well u at (gives n w a) good = is_store u w at good
  ends_well u at (over (going w)) good = is_store u w at good
  ends_well u at (over (ended w c)) good = is_store u w at good
  ends_well u at (over (fault here kind)) good = tt

  -- the store as a run goes on, or has ended
  good_main : (o : Option SourceUnit) (n : ℕ) → slice_get p.units 0 ≡ o → IsGood (IsStoreOf p) (run_main layout o n)
  good_main None n at = record { places = refl; plain = λ main is typed. let wrong : None ≡ Some main = sym at ∙ is in absurd cc }
  good_main (Some u) n at = ends_well u at (run (tagged layout 0) flat.no_function source_stops u.code 0 [] n (start77 layout)) (main_run u n)

  pub stores_good : (n : ℕ) (f : Final Store) → run77 p n ≡ f → IsGood (IsStoreOf p) f
  stores_good n f is = subst (IsGood (IsStoreOf p)) is (good_main (slice_get p.units 0) n refl)

  -- ---- faults

  closed : (o : Out Store (Unit {0})) (here : Place) (kind : Fault) → close o flat.stop_at_end ≡ fault here kind → o ≡ over (fault here kind)
  closed (gives n w a) here kind e = absurd cc
  closed (over f) here kind e = ap over e

  -- a fault of the main program, by what is found of it
  found : (Cause : Store → Expr → Type 0) (here : Place) (kind : RunFault) → (kind ≡ ExpressionDefined → ⊥)
      → ((main : SourceUnit) (w : Store) (d x : Expr) → slice_get p.units 0 ≡ Some main → Contains (actions_of main.code) (here, assign d x) → IsStoreOf p w
      → ((kind ≡ Undefined) × HasUndefined ((tagged layout 0).read w) x) ⊎ (IsOperationFault kind × HasFault ((tagged layout 0).read w) kind x) → Cause w x)
      → (n : ℕ) → run77 p n ≡ fault here (run_fault kind) → FaultsBy p n here Cause
  found Cause here kind is cause n f = go (slice_get p.units 0) refl f
    where
      go : (o : Option SourceUnit) → slice_get p.units 0 ≡ o → run_main layout o n ≡ fault here (run_fault kind) → FaultsBy p n here Cause
      go None at e = absurd cc
      go (Some u) at e =
          let r = find (tagged layout 0) flat.no_function source_stops (IsGoodFor u) (IsFine u) (kept u) here kind is u.code 0 [] n (start77 layout) (fine_unit u) (start u)
          (closed (run (tagged layout 0) flat.no_function source_stops u.code 0 [] n (start77 layout)) here (run_fault kind) e) in
          record {
            main = u;
            is_main = at;
            variable = r.variable;
            value = r.value;
            stands = r.stands;
            before = r.before;
            earlier = r.earlier;
            store = r.store;
            reached = ap (λ o. run_main layout o r.before) at ∙ ap (λ o. close o flat.stop_at_end) r.reached;
            cause = cause u r.store r.variable r.value at (in_the_list (actions_of u.code) r.before (here, assign r.variable r.value) r.stands) (is_store u r.store at r.good) r.cause;
          }

  -- what can't be read holds no integer
  holds_none : (h : Held) → integer_in h ≡ None → HoldsNoInteger h
  holds_none h e z is = let wrong : Some (integer z) ≡ None = sym (ap integer_in is) ∙ e in absurd cc

  in_variables : (u : SourceUnit) → variables u ≡ first_seen (code_variables u.code) → (x : List ℕ) → Contains (code_variables u.code) x → Contains (variables u) x
  in_variables u is x there = subst (λ xs. Contains xs x) (sym is) (seen (code_variables u.code) x there)

  pub undefined_read : (n : ℕ) (here : Place) → AreNamed p → run77 p n ≡ fault here (run_fault Undefined) → FaultsBy p n here (ReadsUndefined p)
  undefined_read n here names f =
      found (ReadsUndefined p) here Undefined (λ wrong. absurd cc)
      (λ main w d x at stands is cause.
      let h = ⊎_elim (λ c. c.1) (λ c. absurd (not_undefined c.0)) cause in
      let v : IsVariableOf p 0 h.0 = record { unit = main; at = at; named = in_variables main (names main (in_the_list p.units 0 main at)) h.0 (named main.code here d x h.0 stands h.1) } in
      let e = is_found p 0 h.0 v in
      let held_there = get_or w.numbers (place_of layout e.entity) undefined in
      (h.0, h.1, (e.entity, e.found, held_there, slice_get-get_or w.numbers (place_of layout e.entity) undefined (omega (arith, is.places, within p e.index e.entity e.at)), holds_none held_there (ap (read_at layout w) (sym e.found) ∙ h.2))))
      n f

  pub fault_reached : (n : ℕ) (here : Place) (kind : RunFault) → IsOperationFault kind → run77 p n ≡ fault here (run_fault kind) → FaultsBy p n here (FaultsWith p kind)
  fault_reached n here kind is f =
      found (FaultsWith p kind) here kind (λ e. not_defined (subst IsOperationFault e is))
      (λ main w d x at stands good cause. ⊎_elim (λ c. absurd (not_undefined (subst IsOperationFault c.0 is))) (λ c. c.1) cause)
      n f
