-- Two parts of a statement are one where each is what it has to be.
use Rattle.std.proofs.Common.{◌≡◌, [], ◌∷◌, Option, Some, None, refl, sym, ap, ◌∙◌}
use Rattle.std.specs.Option.{option_map, option_and_then}
use Rattle.tree77.specs.Statements as s
use Rattle.tree77.specs.Statements.{Statement, header, declared, statement_function, simple, guarded, if_then, else_if, else_, end_if, do_, end}
use Rattle.parse77.specs.Reading.{Read, joined, lower_of, guards, with_type}
use Rattle.parse77.specs.Views.{only, as_test, as_simple, as_type, as_untyped}

module _ (join : Statement → Statement → Option Statement) where
  -- the first part
  first_joined : (view : Statement → Option Statement) → ((a b : Statement) → join a b ≡ option_and_then (λ x. join x b) (view a)) → (f r : Read) → joined join (only view f) r ≡ joined join f r
  first_joined view h None r = refl
  first_joined view h (Some a) None = go (view a.0)
    where
      go : (v : Option Statement) → joined join (option_map (λ x. (x, a.1)) v) None ≡ None
      go None = refl
      go (Some x) = refl
  first_joined view h (Some a) (Some b) = go (view a.0) ∙ ap (option_map (λ x. (x, lower_of a.1 b.1))) (sym (h a.0 b.0))
    where
      go : (v : Option Statement) → joined join (option_map (λ x. (x, a.1)) v) (Some b) ≡ option_map (λ x. (x, lower_of a.1 b.1)) (option_and_then (λ x. join x b.0) v)
      go None = refl
      go (Some x) = refl

  -- the second part
  second_joined : (view : Statement → Option Statement) → ((a b : Statement) → join a b ≡ option_and_then (join a) (view b)) → (f r : Read) → joined join f (only view r) ≡ joined join f r
  second_joined view h None r = refl
  second_joined view h (Some a) None = refl
  second_joined view h (Some a) (Some b) = go (view b.0) ∙ ap (option_map (λ x. (x, lower_of a.1 b.1))) (sym (h a.0 b.0))
    where
      go : (v : Option Statement) → joined join (Some a) (option_map (λ x. (x, b.1)) v) ≡ option_map (λ x. (x, lower_of a.1 b.1)) (option_and_then (join a.0) v)
      go None = refl
      go (Some x) = refl

-- nothing is joined to anything
pub no_second : (join : Statement → Statement → Option Statement) (f : Read) → joined join f None ≡ None
no_second join None = refl
no_second join (Some a) = refl

nothing_then : (f : Statement → Option Statement) → ((x : Statement) → f x ≡ None) → (v : Option Statement) → None ≡ option_and_then f v
nothing_then f never None = refl
nothing_then f never (Some x) = sym (never x)

-- ---- a condition, and a simple statement under it

test_guards : (a b : Statement) → guards a b ≡ option_and_then (λ x. guards x b) (as_test a)
test_guards (if_then e) b = refl
test_guards (header h) b = refl
test_guards (declared d) b = refl
test_guards (statement_function f ds x) b = refl
test_guards (simple a) b = refl
test_guards (guarded e a) b = refl
test_guards (else_if e) b = refl
test_guards else_ b = refl
test_guards end_if b = refl
test_guards (do_ t r) b = refl
test_guards end b = refl

simple_guards : (a b : Statement) → guards a b ≡ option_and_then (guards a) (as_simple b)
simple_guards (if_then e) (simple a) = refl
simple_guards (if_then e) (header h) = refl
simple_guards (if_then e) (declared d) = refl
simple_guards (if_then e) (statement_function f ds x) = refl
simple_guards (if_then e) (guarded y a) = refl
simple_guards (if_then e) (if_then y) = refl
simple_guards (if_then e) (else_if y) = refl
simple_guards (if_then e) else_ = refl
simple_guards (if_then e) end_if = refl
simple_guards (if_then e) (do_ t r) = refl
simple_guards (if_then e) end = refl
simple_guards (header h) b = nothing_then (guards (header h)) (λ x. refl) (as_simple b)
simple_guards (declared d) b = nothing_then (guards (declared d)) (λ x. refl) (as_simple b)
simple_guards (statement_function f ds y) b = nothing_then (guards (statement_function f ds y)) (λ x. refl) (as_simple b)
simple_guards (simple a) b = nothing_then (guards (simple a)) (λ x. refl) (as_simple b)
simple_guards (guarded e a) b = nothing_then (guards (guarded e a)) (λ x. refl) (as_simple b)
simple_guards (else_if e) b = nothing_then (guards (else_if e)) (λ x. refl) (as_simple b)
simple_guards else_ b = nothing_then (guards else_) (λ x. refl) (as_simple b)
simple_guards end_if b = nothing_then (guards end_if) (λ x. refl) (as_simple b)
simple_guards (do_ t r) b = nothing_then (guards (do_ t r)) (λ x. refl) (as_simple b)
simple_guards end b = nothing_then (guards end) (λ x. refl) (as_simple b)

pub tested : (f g r : Read) → g ≡ only as_test f → joined guards g r ≡ joined guards f r
tested f g r is = ap (λ x. joined guards x r) is ∙ first_joined guards as_test test_guards f r

pub guarded_by : (f r q : Read) → q ≡ only as_simple r → joined guards f q ≡ joined guards f r
guarded_by f r q is = ap (joined guards f) is ∙ second_joined guards as_simple simple_guards f r

-- ---- a type, and a FUNCTION statement behind it

type_first : (a b : Statement) → with_type a b ≡ option_and_then (λ x. with_type x b) (as_type a)
type_first (declared (s.typed t [])) b = refl
type_first (declared (s.typed t (n ∷ ns))) b = refl
type_first (declared (s.implicit x)) b = refl
type_first (declared (s.parameter x)) b = refl
type_first (declared (s.dimension x)) b = refl
type_first (declared (s.common x)) b = refl
type_first (declared (s.equivalence x)) b = refl
type_first (declared (s.external x)) b = refl
type_first (declared (s.intrinsic x)) b = refl
type_first (declared (s.save x)) b = refl
type_first (declared (s.data_ x)) b = refl
type_first (declared (s.format x)) b = refl
type_first (header h) b = refl
type_first (statement_function f ds y) b = refl
type_first (simple a) b = refl
type_first (guarded e a) b = refl
type_first (if_then e) b = refl
type_first (else_if e) b = refl
type_first else_ b = refl
type_first end_if b = refl
type_first (do_ t r) b = refl
type_first end b = refl

untyped_second : (a b : Statement) → with_type a b ≡ option_and_then (with_type a) (as_untyped b)
untyped_second (declared (s.typed t [])) (header (s.function None x ds)) = refl
untyped_second (declared (s.typed t [])) (header (s.function (Some u) x ds)) = refl
untyped_second (declared (s.typed t [])) (header (s.program x)) = refl
untyped_second (declared (s.typed t [])) (header (s.subroutine x ds)) = refl
untyped_second (declared (s.typed t [])) (header (s.block_data x)) = refl
untyped_second (declared (s.typed t [])) (declared d) = refl
untyped_second (declared (s.typed t [])) (statement_function f ds y) = refl
untyped_second (declared (s.typed t [])) (simple a) = refl
untyped_second (declared (s.typed t [])) (guarded e a) = refl
untyped_second (declared (s.typed t [])) (if_then e) = refl
untyped_second (declared (s.typed t [])) (else_if e) = refl
untyped_second (declared (s.typed t [])) else_ = refl
untyped_second (declared (s.typed t [])) end_if = refl
untyped_second (declared (s.typed t [])) (do_ k r) = refl
untyped_second (declared (s.typed t [])) end = refl
untyped_second (declared (s.typed t (n ∷ ns))) b = nothing_then (with_type (declared (s.typed t (n ∷ ns)))) (λ x. refl) (as_untyped b)
untyped_second (declared (s.implicit x)) b = nothing_then (with_type (declared (s.implicit x))) (λ x. refl) (as_untyped b)
untyped_second (declared (s.parameter x)) b = nothing_then (with_type (declared (s.parameter x))) (λ x. refl) (as_untyped b)
untyped_second (declared (s.dimension x)) b = nothing_then (with_type (declared (s.dimension x))) (λ x. refl) (as_untyped b)
untyped_second (declared (s.common x)) b = nothing_then (with_type (declared (s.common x))) (λ x. refl) (as_untyped b)
untyped_second (declared (s.equivalence x)) b = nothing_then (with_type (declared (s.equivalence x))) (λ x. refl) (as_untyped b)
untyped_second (declared (s.external x)) b = nothing_then (with_type (declared (s.external x))) (λ x. refl) (as_untyped b)
untyped_second (declared (s.intrinsic x)) b = nothing_then (with_type (declared (s.intrinsic x))) (λ x. refl) (as_untyped b)
untyped_second (declared (s.save x)) b = nothing_then (with_type (declared (s.save x))) (λ x. refl) (as_untyped b)
untyped_second (declared (s.data_ x)) b = nothing_then (with_type (declared (s.data_ x))) (λ x. refl) (as_untyped b)
untyped_second (declared (s.format x)) b = nothing_then (with_type (declared (s.format x))) (λ x. refl) (as_untyped b)
untyped_second (header h) b = nothing_then (with_type (header h)) (λ x. refl) (as_untyped b)
untyped_second (statement_function f ds y) b = nothing_then (with_type (statement_function f ds y)) (λ x. refl) (as_untyped b)
untyped_second (simple a) b = nothing_then (with_type (simple a)) (λ x. refl) (as_untyped b)
untyped_second (guarded e a) b = nothing_then (with_type (guarded e a)) (λ x. refl) (as_untyped b)
untyped_second (if_then e) b = nothing_then (with_type (if_then e)) (λ x. refl) (as_untyped b)
untyped_second (else_if e) b = nothing_then (with_type (else_if e)) (λ x. refl) (as_untyped b)
untyped_second else_ b = nothing_then (with_type else_) (λ x. refl) (as_untyped b)
untyped_second end_if b = nothing_then (with_type end_if) (λ x. refl) (as_untyped b)
untyped_second (do_ t r) b = nothing_then (with_type (do_ t r)) (λ x. refl) (as_untyped b)
untyped_second end b = nothing_then (with_type end) (λ x. refl) (as_untyped b)

pub sized : (f g r : Read) → g ≡ only as_type f → joined with_type g r ≡ joined with_type f r
sized f g r is = ap (λ x. joined with_type x r) is ∙ first_joined with_type as_type type_first f r

pub headed : (f r q : Read) → q ≡ only as_untyped r → joined with_type f q ≡ joined with_type f r
headed f r q is = ap (joined with_type f) is ∙ second_joined with_type as_untyped untyped_second f r
