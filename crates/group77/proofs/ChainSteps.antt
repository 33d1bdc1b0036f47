-- The reading of a chain of operands, turn by turn.
use Rattle.std.proofs.Common.{◌≡◌, ◌∙◌, ℕ, zero, suc, ◌+◌, ◌-◌, ◌<◌, Bool, List, Some, None, refl, ap, arith}
use Rattle.std.specs.Option.{option_and_then}
use Rattle.text_base.specs.Trees.{BinaryOp, Expr, binary}
use Rattle.tree77.specs.Expressions.{Symbol}
use Rattle.group77.specs.Grouping.{Reader, behind_operator, more_at, read_more}

-- without an operator the chain ends
pub chain_ends : (joins : BinaryOp → Bool) (next : Reader) (n : ℕ) (x : Expr) (ts : List Symbol) → behind_operator joins ts ≡ None → read_more joins next n x ts ≡ Some (x, ts)
chain_ends joins next zero x ts h = refl
chain_ends joins next (suc n) x ts h = ap (more_at next (read_more joins next n) x ts) h

-- with an operator and an operand the chain goes on
pub chain_goes_on : (joins : BinaryOp → Bool) (next : Reader) (end at : ℕ) (x y : Expr) (ts us rest : List Symbol) (o : BinaryOp) → at < end
    → behind_operator joins ts ≡ Some (o, us) → next us ≡ Some (y, rest)
    → read_more joins next (end - at) x ts ≡ read_more joins next (end - (at + 1)) (binary o x y) rest
chain_goes_on joins next end at x y ts us rest o lt found is =
    let turn : end - at ≡ suc (end - (at + 1)) = omega arith in
    let go_on : Expr → Reader = read_more joins next (end - (at + 1)) in
    ap (λ n. read_more joins next n x ts) turn ∙ ap (more_at next go_on x ts) found ∙ ap (option_and_then (λ (p : Expr × List Symbol). go_on (binary o x p.0) p.1)) is

-- without an operand behind an operator there is no chain
pub chain_fails : (joins : BinaryOp → Bool) (next : Reader) (end at : ℕ) (x : Expr) (ts us : List Symbol) (o : BinaryOp) → at < end
    → behind_operator joins ts ≡ Some (o, us) → next us ≡ None → read_more joins next (end - at) x ts ≡ None
chain_fails joins next end at x ts us o lt found is =
    let turn : end - at ≡ suc (end - (at + 1)) = omega arith in
    let go_on : Expr → Reader = read_more joins next (end - (at + 1)) in
    ap (λ n. read_more joins next n x ts) turn ∙ ap (more_at next go_on x ts) found ∙ ap (option_and_then (λ (p : Expr × List Symbol). go_on (binary o x p.0) p.1)) is
