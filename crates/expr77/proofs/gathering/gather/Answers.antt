use Rattle.std.proofs.Common.{◌≡◌, ◌∙◌, ◌+◌, ◌-◌, None, length, sym, ap, arith}
use Rattle.std.specs.Prelude.{if◌then◌else◌}
use Rattle.std.specs.Option.{option_map}
use Rattle.std.proofs.lemmas.List.{length-map}
use Rattle.scan77.specs.Token.{token_of, tokens_of}
use Rattle.expr77.specs.Gathering.{nothing_gathered}
use Rattle.expr77.specs.Views.{plain_part, gathered_in}
use Rattle.expr77.proofs.GatherLaw.{all_left, turn}
use Rattle.expr77.proofs.gathering.gather.Goals as goal

pub loop-init : goal.loop-init
loop-init c =
    let turns : length c.args.tokens.now - 0 ≡ length (tokens_of c.args.tokens.now) = omega (arith, length-map c.args.tokens.now token_of) in
    let all = all_left (nothing_gathered (option_map plain_part c.args.lowest)) c.args.depth (length c.args.tokens.now - 0) (tokens_of c.args.tokens.now) turns in
    (rw (c.from_vec-symbols.ensures ∙ c.in_ok-with_capacity.ensures.items) all, omega arith)

pub returns-then-not-branch : goal.returns-then-not-branch
returns-then-not-branch c =
    let n = length c.args.tokens.now - (c.loop.counter + 1) in
    let none : gathered_in (length c.args.tokens.now - c.loop.counter) c.loop.reading ≡ None =
    ap (λ n. gathered_in n c.loop.reading) (turn (length c.args.tokens.now) c.loop.counter c.loop-test.true)
    ∙ c.in_ok-next.ensures.read n
    ∙ ap (λ b. if b then gathered_in n c.next.new.self else None) c.if-not-branch.true in
    sym none ∙ c.loop.invariant.0
