-- Statements are those of at most one list of units.
use Rattle.std.proofs.Common.{◌≡◌, ℕ, List, [], ◌∷◌, ◌++◌, refl, sym, ap, ◌∙◌, subst}
use Rattle.text_base.specs.declared.refusal.Place.{Place}
use Rattle.tree77.specs.Statements.{end}
use Rattle.unit77.specs.Tree.{Line, Items}
use Rattle.unit77.specs.Programs.{ProgramUnit, first_of, IsUnit, AreUnits}
use Rattle.unit77.specs.Laws.{OneProgram}
use Rattle.unit77.proofs.Complete.{one_nesting}

-- no END stands in these statements
abbrev pub HasNoEnd : List Line → Type 0
HasNoEnd own = (before rest : List Line) (l : Line) → own ≡ before ++ l ∷ rest → l.statement ≡ end → ⊥

pub no_end_behind : (x : Line) (own : List Line) → HasNoEnd (x ∷ own) → HasNoEnd own
no_end_behind x own inside before rest l parted = inside (x ∷ before) rest l (ap (λ ls. x ∷ ls) parted)

pub head_is : {A : Type 0} (x y : A) (xs ys : List A) → x ∷ xs ≡ y ∷ ys → x ≡ y
head_is x y xs ys e = cc

pub tail_is : {A : Type 0} (x y : A) (xs ys : List A) → x ∷ xs ≡ y ∷ ys → xs ≡ ys
tail_is x y xs ys e = cc

pub record SameCut (own others : List Line) (e f : Line) (rest more : List Line) : Type 0 where
  pub own_same : own ≡ others
  pub end_same : e ≡ f
  pub rest_same : rest ≡ more

-- statements have one cut at their first END
one_cut : (own others : List Line) (e f : Line) (rest more : List Line) → HasNoEnd own → HasNoEnd others → e.statement ≡ end → f.statement ≡ end → own ++ e ∷ rest ≡ others ++ f ∷ more → SameCut own others e f rest more
one_cut [] [] e f rest more a b ends_e ends_f same = record { own_same = refl; end_same = head_is e f rest more same; rest_same = tail_is e f rest more same }
one_cut [] (y ∷ others) e f rest more a b ends_e ends_f same = absurd (b [] others y refl (ap (λ (l : Line). l.statement) (sym (head_is e y rest (others ++ f ∷ more) same)) ∙ ends_e))
one_cut (x ∷ own) [] e f rest more a b ends_e ends_f same = absurd (a [] own x refl (ap (λ (l : Line). l.statement) (head_is x f (own ++ e ∷ rest) more same) ∙ ends_f))
one_cut (x ∷ own) (y ∷ others) e f rest more a b ends_e ends_f same =
    let further = one_cut own others e f rest more (no_end_behind x own a) (no_end_behind y others b) ends_e ends_f (tail_is x y (own ++ e ∷ rest) (others ++ f ∷ more) same) in
    let first : x ≡ y = head_is x y (own ++ e ∷ rest) (others ++ f ∷ more) same in
    record { own_same = ap (λ z. z ∷ own) first ∙ ap (λ ls. y ∷ ls) further.own_same; end_same = further.end_same; rest_same = further.rest_same }

abbrev unit_with : ℕ → Place → List Line → List Line → List Line → Items → Line → ProgramUnit
unit_with n p h d f is e = record { number = n; place = p; headers = h; declared = d; functions = f; items = is; last = e }

same_unit : (n m : ℕ) (p q : Place) (h i d g f k : List Line) (is js : Items) (e l : Line) → n ≡ m → p ≡ q → h ≡ i → d ≡ g → f ≡ k → is ≡ js → e ≡ l → unit_with n p h d f is e ≡ unit_with m q i g k js l
same_unit n m p q h i d g f k is js e l number place headers declared functions items last = cc

one_unit : (own : List Line) (u v : ProgramUnit) → IsUnit own u → IsUnit own v → u.last ≡ v.last → u ≡ v
one_unit own u v p q last =
    same_unit u.number v.number u.place v.place u.headers v.headers u.declared v.declared u.functions v.functions u.items v.items u.last v.last
    (p.number ∙ ap (λ e. (first_of own e).number) last ∙ sym q.number) (p.place ∙ ap (λ e. (first_of own e).place) last ∙ sym q.place)
    (p.headers ∙ sym q.headers) (p.declared ∙ sym q.declared) (p.functions ∙ sym q.functions) (one_nesting _ u.items v.items p.nested q.nested) last

pub not_empty : (own : List Line) (e : Line) (rest : List Line) → [] ≡ own ++ e ∷ rest → ⊥
not_empty [] e rest same = cc
not_empty (x ∷ own) e rest same = cc

pub one_program : OneProgram
one_program ls [] [] p q = refl
one_program ls [] (v ∷ vs) p (others, more, parted, unit, units) = absurd (not_empty others v.last more (sym p ∙ parted))
one_program ls (u ∷ us) [] (own, rest, parted, unit, units) q = absurd (not_empty own u.last rest (sym q ∙ parted))
one_program ls (u ∷ us) (v ∷ vs) (own, rest, cut, p, units) (others, more, parted, q, further) =
    let same = one_cut own others u.last v.last rest more p.inside q.inside p.ends q.ends (sym cut ∙ parted) in
    ap (λ w. w ∷ us) (one_unit own u v p (subst (λ x. IsUnit x v) (sym same.own_same) q) same.end_same)
    ∙ ap (λ ws. v ∷ ws) (one_program rest us vs units (subst (λ x. AreUnits x vs) (sym same.rest_same) further))
